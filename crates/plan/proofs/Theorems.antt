-- What is proved of the definitions as a whole; the files of specs/ of the same names say what each states.
pub use Rattle.plan.proofs.Statements.JudgeRule.{judge_rule}
pub use Rattle.plan.proofs.Statements.PlanRule.{plan_rule}
pub use Rattle.plan.proofs.Statements.PlanExamples.{plan_examples}
