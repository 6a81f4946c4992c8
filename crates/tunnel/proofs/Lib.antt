-- Laws of the definitions, how the functions' proofs use them, and the theorems.
pub mod Definitions
pub mod Functions
pub mod Statements
pub mod Theorems
