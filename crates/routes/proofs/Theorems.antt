-- What is proved of the definitions as a whole; the file of specs/ named above each says what it states.
-- SoundRule
pub use Rattle.routes.proofs.Statements.SoundRule.{sound_rule, sound_examples}
-- Images
pub use Rattle.routes.proofs.Statements.Images.{images}
-- LastInstalled, CallRules
pub use Rattle.routes.proofs.Statements.LastInstalled.{last_installed}
-- MatchRule
pub use Rattle.routes.proofs.Statements.MatchRule.{match_rule}
-- SharedTreeRule
pub use Rattle.routes.proofs.Statements.SharedTreeRule.{shared_tree_rule}
-- ReasonRule
pub use Rattle.routes.proofs.Statements.ReasonRule.{reason_rule}
-- NextRule
pub use Rattle.routes.proofs.Statements.NextRule.{next_rule}
pub use Rattle.routes.proofs.Statements.InTurn.{in_turn_rule}
-- InfoRule
pub use Rattle.routes.proofs.Statements.InfoRule.{info_rule}
-- SalvageRule
pub use Rattle.routes.proofs.Statements.SalvageRule.{salvage_rule, salvage_examples}
-- DisturbanceRule
pub use Rattle.routes.proofs.Statements.DisturbanceRule.{disturbance_rule}
-- SplitRule
pub use Rattle.routes.proofs.Statements.SplitRule.{split_rule}
-- MixedCalls
pub use Rattle.routes.proofs.Statements.Mixed.MixedCalls.{mixed_calls}
pub use Rattle.routes.proofs.Statements.Mixed.Premise.{premise}
-- Examples, DisturbanceRule, ReasonExamples, SharedTreeExamples
pub use Rattle.routes.proofs.Statements.Marked.{marked_examples, disturbance_examples, reason_examples, shared_tree_examples}
