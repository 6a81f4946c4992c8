-- Laws that tie the inner functions' definitions to document 01's, and that the functions' proofs use.
pub mod Via
pub mod Fronts
pub mod Ends
pub mod Leaves
pub mod Standing
pub mod Shapes
pub mod Copies
pub mod Singles
pub mod FieldStarts
pub mod Discards
pub mod Sure
pub mod SPmsis
