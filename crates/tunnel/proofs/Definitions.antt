-- Laws of document 01's definitions.
pub mod Identifiers
pub mod Attributes
