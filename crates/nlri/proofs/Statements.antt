-- Proofs of what specs/Rules/NlriRules.antt states.
pub mod Bodies
pub mod Acceptance
pub mod RoundTrips
pub mod Faults
pub mod ReadRefusals
pub mod WriteRefusals
pub mod Layouts
pub mod Classes
pub mod AnswerRules
pub mod Discards
pub mod DiscardExamples
pub mod NlriExamples
