-- The proofs of the statements.
pub mod ReadRule
pub mod WriteRule
pub mod AnswerRule
pub mod BierRule
