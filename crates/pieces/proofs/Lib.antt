-- Laws of the size of an NLRI and of what a feed comes to, and how the functions' proofs use them; what a reader's state means for a run, at
-- every moment; then the proofs of what specs/Rules/ states.
pub mod Sizes
pub mod Feeds
pub mod Functions
pub mod Means
pub mod Moments
pub mod PiecesExamples
pub mod PiecesRule
