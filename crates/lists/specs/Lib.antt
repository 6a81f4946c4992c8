-- Lists that a caller lends: definitions, their encoding, and the rule by which they are accepted or SHORT.
pub mod LentLists
pub mod Encoding
pub mod Rules
