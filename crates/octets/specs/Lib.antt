-- Definitions that the crates above share: the numbers, choices by a test, lists, outcomes, lists of octets, what writers leave, what a caller sees of an
-- answer, and the order of octets; and what is stated of that order.
pub mod Numbers
pub mod Choice
pub mod Lists
pub mod Outcome
pub mod Octets
pub mod Outputs
pub mod Order
pub mod Rules
pub mod Refusals
