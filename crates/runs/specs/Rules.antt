-- What is stated of the definitions.
pub mod WalkRules
pub mod ModeRule
pub mod DiscardWalkRule
