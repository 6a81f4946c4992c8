-- The class of a group with the prefixes that a caller gives: definitions, what inner functions cite, and what is stated of the definitions.
pub mod Prefixes
pub mod Classes
pub mod Inner
pub mod Rules
