-- What is stated of the definitions.
pub mod FlowsRule
pub mod JudgeRule
pub mod PlanRule
pub mod PlanExamples
