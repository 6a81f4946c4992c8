-- What is stated of the definitions.
pub mod BitRule
pub mod ClassRule
pub mod ClassExamples
