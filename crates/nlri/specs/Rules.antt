-- What is stated of the definitions.
pub mod NlriRules
pub mod AnswerRules
pub mod DiscardRule
pub mod DiscardExamples
pub mod NlriExamples
