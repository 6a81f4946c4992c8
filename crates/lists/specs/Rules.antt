-- What is stated of the definitions.
pub mod ListRule
