-- Definitions that mirror the functions that find and change places; laws tie them to those of `routes`.
pub mod Changing
