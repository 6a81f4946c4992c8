-- What is proved of the definitions as a whole; specs/Rules/AttributeRules.antt says what each states.
pub use Rattle.tunnel.proofs.Statements.ReadRule.{attribute_read_rule}
pub use Rattle.tunnel.proofs.Statements.WriteRule.{attribute_write_rule}
pub use Rattle.tunnel.proofs.Statements.AnswerRule.{attribute_round_trips, attribute_answer_rule}
pub use Rattle.tunnel.proofs.Statements.BierRule.{bier_identifier_rule}
