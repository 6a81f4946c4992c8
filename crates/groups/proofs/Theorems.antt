-- What is proved of the definitions as a whole; the files of specs/ of the same names say what each states.
pub use Rattle.groups.proofs.BitRule.{bit_rule}
pub use Rattle.groups.proofs.ClassRule.{class_rule}
pub use Rattle.groups.proofs.ClassExamples.{class_examples}
