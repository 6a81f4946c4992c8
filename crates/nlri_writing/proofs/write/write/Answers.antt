-- `nlri_writing::write::write` meets its contract.
use Rattle.std.proofs.Common.{◌∙◌, sym, refl, length}
use Rattle.octets.proofs.Outcome.{and-goes-on, and-stops}
use Rattle.octets.proofs.Outputs.{wrote_as}
use Rattle.nlri.specs.Answers.{struct_fields}
use Rattle.nlri.proofs.Definitions.Families.{family-is}
use Rattle.nlri_writing.proofs.Families.{write-by}
use Rattle.nlri_writing.proofs.Puts.{wrote_passed_on}
use Rattle.nlri_writing.proofs.write.write.Goals as goal

pub returns-in_err-kind : goal.returns-in_err-kind
returns-in_err-kind c =
    let a = c.args in
    wrote_passed_on _ _ _ _ c.from_residual.ensures.1 (and-stops _ _ _ (sym c.in_err-kind.ensures) ∙ write-by a.afi (struct_fields a.nlri a.key.now a.fec.now) (length a.output.now))

pub write_under-requires : goal.write_under-requires
write_under-requires c = family-is _ _ (sym c.in_ok-kind.ensures)

pub returns : goal.returns
returns c =
    let a = c.args in
    wrote_as _ _ _ _ _ (and-goes-on _ _ _ _ (sym c.in_ok-kind.ensures) refl ∙ write-by a.afi (struct_fields a.nlri a.key.now a.fec.now) (length a.output.now)) c.write_under.ensures
