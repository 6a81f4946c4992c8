-- Laws that tie the inner functions' definitions to document 01's, and that the functions' proofs use.
pub mod KeyTests
pub mod Puts
pub mod Sizes
pub mod Families
