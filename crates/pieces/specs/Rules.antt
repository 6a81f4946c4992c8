-- What is stated of the definitions.
pub mod PiecesExamples
pub mod PiecesRule
