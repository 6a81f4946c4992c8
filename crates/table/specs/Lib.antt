-- Definitions that mirror the inner functions; laws tie them to those of `routes`.
pub mod Following
pub mod Renewing
