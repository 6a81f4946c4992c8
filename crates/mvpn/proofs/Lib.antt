-- What is proved of the answers to C.
pub mod Theorems
