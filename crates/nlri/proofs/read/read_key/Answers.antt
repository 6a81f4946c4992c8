-- `nlri::read::read_key` meets its contract.
use Rattle.std.proofs.Common.{◌∙◌, sym, refl}
use Rattle.octets.proofs.Refusals.{refusal_number-not_done}
use Rattle.nlri.proofs.Definitions.Keys.{leaf-takes, leaf-refuses}
use Rattle.nlri.proofs.Definitions.Sizes.{header-within}
use Rattle.nlri.proofs.Functions.Fronts.{key-unread, key-other-type, key-refused, key-typed}
use Rattle.nlri.proofs.Functions.Via.{key_passed_on}
use Rattle.nlri.proofs.read.read_key.Goals as goal

pub returns-in_err-header : goal.returns-in_err-header
returns-in_err-header c = key_passed_on _ _ c.from_residual.ensures.1 ∙ key-unread _ 4 _ _ (sym c.in_err-header.ensures)

pub returns-then-header-gt-S_PMSI : goal.returns-then-header-gt-S_PMSI
returns-then-header-gt-S_PMSI c = key-other-type _ 4 _ _ _ (sym c.in_ok-header.ensures) (leaf-refuses _ c.if-header-gt-S_PMSI.true)

pub between-body-requires : goal.between-body-requires
between-body-requires c = header-within _ _ _ (sym c.in_ok-header.ensures)

pub returns-in_err-check_keyable_body : goal.returns-in_err-check_keyable_body
returns-in_err-check_keyable_body c = key_passed_on _ _ c.from_residual-in_err-check_keyable_body.ensures.1 ∙ key-refused _ 4 _ _ _ (sym c.in_ok-header.ensures) (leaf-takes _ c.if-header-gt-S_PMSI.false) _ _ c.between-body.ensures c.in_err-check_keyable_body.ensures (refusal_number-not_done _)

pub returns : goal.returns
returns c = key-typed _ 4 _ _ _ (sym c.in_ok-header.ensures) (leaf-takes _ c.if-header-gt-S_PMSI.false) _ _ c.between-body.ensures c.in_ok-check_keyable_body.ensures refl
