-- What is stated of the definitions.
pub mod BierRule
pub mod BierExamples
