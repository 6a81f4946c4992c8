-- Laws by which the functions' proofs use the definitions.
pub mod Rows
pub mod Answers
pub mod Writes
