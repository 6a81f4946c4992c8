-- Laws that the functions' proofs use.
pub mod FieldStarts
pub mod Neighbours
pub mod Sounds
pub mod Indexes
pub mod Judgements
pub mod Places
pub mod Taken
pub mod RouteWrites
