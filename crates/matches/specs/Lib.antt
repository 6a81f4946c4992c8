-- Definitions that mirror the functions of the scan; laws tie them to those of `routes`.
pub mod Scanning
