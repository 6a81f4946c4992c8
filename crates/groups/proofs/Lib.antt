-- Laws of bits, of prefixes and of classes, how the functions' proofs use them, and the theorems.
pub mod Bits
pub mod Functions
pub mod Prefixes
pub mod Classes
pub mod ClassFirst
pub mod BitRule
pub mod ClassRule
pub mod ClassExamples
pub mod Theorems
