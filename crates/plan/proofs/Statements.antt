-- What is stated of the calls.
pub mod ProposedTables
pub mod JudgeRule
pub mod OtherFlows
pub mod ProposedPlaces
pub mod PlanRule
pub mod PlanExamples
