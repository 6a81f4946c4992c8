-- What is proved of the definitions as a whole; the files of specs/ of the same names say what each states.
pub use Rattle.bier.proofs.BierRule.{bier_rule}
pub use Rattle.bier.proofs.BierExamples.{bier_examples}
