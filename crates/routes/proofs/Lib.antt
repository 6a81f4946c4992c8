-- Laws of the definitions, and the theorems.
pub mod Definitions
pub mod Statements
pub mod Theorems
