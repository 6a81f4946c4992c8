-- Laws that the functions' proofs use.
pub mod Moves
pub mod Ranks
pub mod Finds
pub mod Gaps
pub mod Changes
pub mod Keeps
