-- Laws of the listing.
pub mod Decimals
pub mod DecimalRule
pub mod Texts
pub mod Steps
pub mod Bounds
pub mod Lines
pub mod RunLines
pub mod ListingRule
