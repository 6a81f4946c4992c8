-- Laws of document 01's definitions.
pub mod Apart
pub mod Families
pub mod FieldRecords
pub mod Fecs
pub mod Sizes
pub mod ReadNumbers
pub mod Table
pub mod Lengths
pub mod Judged
pub mod Starts
pub mod Whole
pub mod Keys
pub mod Discards
pub mod Writes
