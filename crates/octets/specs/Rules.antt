-- What is stated of the definitions.
pub mod NumbersRule
pub mod RefusalsRule
pub mod Answering
pub mod OrderRule
