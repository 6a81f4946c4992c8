-- Definitions that mirror the functions on places; laws tie them to those of `routes`.
pub mod Readable
pub mod Writing
pub mod Passing
