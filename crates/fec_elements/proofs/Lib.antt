-- Laws of the definitions, how the functions' proofs use them, and the theorems.
pub mod Fecs
pub mod FecTypes
pub mod Headers
pub mod Wholes
pub mod Holders
pub mod Nesting
pub mod Shorts
pub mod Theorems
