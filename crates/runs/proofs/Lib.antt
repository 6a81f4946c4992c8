-- Laws of steps and of walks, and how the functions' proofs use them; then the proofs of what specs/Rules/WalkRules.antt states.
pub mod Refusals
pub mod Steps
pub mod Nlris
pub mod Turns
pub mod Going
pub mod StepRule
pub mod WalkRule
pub mod TurnRule
pub mod ModeRule
pub mod DiscardWalkRule
pub mod Theorems
