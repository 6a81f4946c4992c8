-- Laws that the functions' proofs use.
pub mod TierOrders
pub mod Tiers
pub mod FlowClasses
pub mod Scans
pub mod BestRoutes
pub mod Matches
pub mod SharedMatches
pub mod Explanations
