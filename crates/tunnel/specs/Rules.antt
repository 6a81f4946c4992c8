-- What is stated of the definitions.
pub mod AttributeRules
pub mod BierIdentifierRule
