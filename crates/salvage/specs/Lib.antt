-- Definitions that mirror the functions of salvage; laws tie them to those of `routes`.
pub mod Salvaging
