-- Laws of lent lists, of walks over their fields and of loops over their items, and the rule by which they are accepted or SHORT.
pub mod Fields
pub mod Walks
pub mod Going
pub mod Along
pub mod Items
pub mod Accepting
pub mod ListRule
