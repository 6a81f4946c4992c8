-- Route tables. Definitions, in document 01's order: routes, arguments, the table memory, which route a flow takes, the calls on octets, why
-- a tier was taken or not, by which a table is looked into, and salvage of a damaged one; then mixed calls, each router's book, and runs.
pub mod Route
pub mod Query
pub mod Arguments
pub mod SharedTree
pub mod Asked
pub mod Place
pub mod Table
pub mod Matching
pub mod Restart
pub mod OnePass
pub mod Answers
pub mod Calls
pub mod Reasons
pub mod Next
pub mod Info
pub mod Salvage
pub mod Call
pub mod Book
pub mod Run
-- What is stated of them, in document 01's notions.
pub mod Rules
