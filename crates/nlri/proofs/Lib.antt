-- Laws of the definitions, and how the functions' proofs use them.
pub mod Definitions
pub mod Functions
pub mod Statements
pub mod Theorems
