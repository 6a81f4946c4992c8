-- `bier::leaf::gather` meets its contract.
use mathlib.Core.Path.{◌∙◌}
use borrow.Author.Rules.{rules}
use Rattle.octets.specs.Order.{zeros}
use Rattle.octets.proofs.Refusals.{refusal_number-not_done, passed_on-outcome}
use Rattle.bier.proofs.Functions.{gather-stands, gather-next, gather-stop, gather-last, with-none}
use Rattle.bier.proofs.leaf.gather.Goals as goal

pub loop-leaf-init : goal.loop-leaf-init
unfolding zeros
loop-leaf-init c = search rules

pub returns-in_err-check_leaf : goal.returns-in_err-check_leaf
returns-in_err-check_leaf c =
    passed_on-outcome _ _ c.from_residual.ensures.1 ∙ gather-stop _ _ _ _ _ c.loop-leaf.invariant c.in-Some.ensures.steps _ c.in_err-check_leaf.ensures (refusal_number-not_done _)

pub id_of-requires : goal.id_of-requires
id_of-requires c = gather-stands _ _ c.in_ok-check_leaf.ensures

pub loop-leaf-preserved-in-Some-id_of : goal.loop-leaf-preserved-in-Some-id_of
loop-leaf-preserved-in-Some-id_of c =
    gather-next _ _ _ _ _ c.loop-leaf.invariant c.in-Some.ensures.steps c.in_ok-check_leaf.ensures _ c.in-Some-id_of.ensures _ c.add.ensures

pub loop-leaf-preserved : goal.loop-leaf-preserved
loop-leaf-preserved c =
    gather-next _ _ _ _ _ c.loop-leaf.invariant c.in-Some.ensures.steps c.in_ok-check_leaf.ensures _ c.in_default.ensures _ (with-none _ _)

pub returns : goal.returns
returns c = gather-last _ _ _ _ _ c.loop-leaf.invariant c.in-None.ensures.steps.0
