-- What a daemon tells of a shared tree, as the functions take it.
pub mod Tree
pub mod Told
pub mod Rules
