-- What is proved of the definitions as a whole; specs/Rules/NlriRules.antt, specs/Rules/DiscardRule.antt, specs/Rules/DiscardExamples.antt, specs/Rules/NlriExamples.antt and specs/Rules/AnswerRules.antt say what each states.
pub use Rattle.nlri.proofs.Definitions.Lengths.{lengths}
pub use Rattle.nlri.proofs.Statements.Bodies.{body_rule}
pub use Rattle.nlri.proofs.Statements.Acceptance.{acceptance}
pub use Rattle.nlri.proofs.Statements.RoundTrips.{round_trips}
pub use Rattle.nlri.proofs.Statements.ReadRefusals.{read_refusals}
pub use Rattle.nlri.proofs.Statements.WriteRefusals.{write_refusals}
pub use Rattle.nlri.proofs.Statements.Layouts.{layout_rule}
pub use Rattle.nlri.proofs.Statements.Classes.{group_rule}
pub use Rattle.nlri.proofs.Statements.AnswerRules.{nlri_answers}
pub use Rattle.nlri.proofs.Statements.Discards.{discard_rule}
pub use Rattle.nlri.proofs.Statements.DiscardExamples.{discard_examples}
pub use Rattle.nlri.proofs.Statements.NlriExamples.{nlri_examples}
