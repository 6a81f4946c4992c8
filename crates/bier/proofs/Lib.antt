-- Laws of strings and of Leaf routes, how the functions' proofs use them, and what is proved of the definitions.
pub mod SetBits
pub mod Strings
pub mod Counted
pub mod OfType
pub mod Leaves
pub mod Arguments
pub mod Functions
pub mod Calls
pub mod BierRule
pub mod BierExamples
pub mod Theorems
