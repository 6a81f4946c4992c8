-- Laws that the functions' proofs use, and what the tree of a call's arguments is.
pub mod Sized
pub mod States
pub mod SourceActives
pub mod Endings
mod Early
pub mod Judging
pub mod TreeRule
