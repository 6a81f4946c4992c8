-- Which route a match takes, of a flow and for a shared tree.
pub mod Lowest
pub mod Conditions
pub mod First
pub mod OpenTiers
pub mod MatchSame
pub mod MatchMarks
pub mod Without
pub mod OnePass
pub mod Flows
pub mod SharedTrees
pub mod Eligible
