-- What is proved of steps and walks as a whole; specs/Rules/WalkRules.antt, specs/Rules/ModeRule.antt and specs/Rules/DiscardWalkRule.antt say what each states.
pub use Rattle.runs.proofs.StepRule.{step_rule}
pub use Rattle.runs.proofs.WalkRule.{walk_rule}
pub use Rattle.runs.proofs.TurnRule.{turn_rule}
pub use Rattle.runs.proofs.ModeRule.{mode_rule}
pub use Rattle.runs.proofs.DiscardWalkRule.{discard_walk_rule, discard_walk_examples}
