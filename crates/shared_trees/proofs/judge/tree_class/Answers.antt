-- `shared_trees::judge::tree_class` meets its contract.
use mathlib.Core.Path.{sym, ◌∙◌}
use Rattle.octets.proofs.Refusals.{refusal_number-not_done}
use Rattle.nlri.proofs.Functions.Via.{class_passed_on}
use Rattle.shared_trees.proofs.Judging.{lists-whole, late-class, tree-early, tree_lists, tree-group, tree-fault, tree-done}
use Rattle.shared_trees.proofs.judge.tree_class.Goals as goal

pub returns-then-is_early : goal.returns-then-is_early
returns-then-is_early c = tree-early _ _ _ _ _ _ _ c.class_by_prefixes-class.ensures _ c.is_early.ensures c.if-is_early.true

pub returns-in_err-check_lists : goal.returns-in_err-check_lists
returns-in_err-check_lists c = λ facts.
    class_passed_on _ _ c.from_residual.ensures.1
    ∙ tree_lists _ _ _ _ _ _ (late-class _ _ c.is_early.ensures c.if-is_early.false _ c.class_by_prefixes-class.ensures) _ c.in_err-check_lists.ensures (refusal_number-not_done _) facts

pub returns-in_err-class : goal.returns-in_err-class
returns-in_err-class c = λ facts.
    class_passed_on _ _ c.from_residual-in_err-class.ensures.1
    ∙ tree-group _ _ _ _ _ _ (late-class _ _ c.is_early.ensures c.if-is_early.false _ c.class_by_prefixes-class.ensures) c.in_ok-check_lists.ensures _ c.in_err-class.ensures facts

pub check_whole-requires : goal.check_whole-requires
check_whole-requires c = lists-whole _ _ (sym c.in_ok-check_lists.ensures)

pub returns-in_err-check_whole : goal.returns-in_err-check_whole
returns-in_err-check_whole c = λ facts.
    class_passed_on _ _ c.from_residual-in_err-check_whole.ensures.1
    ∙ tree-fault _ _ _ _ _ _ c.in_ok-check_lists.ensures _ c.in_ok-class.ensures _ c.in_err-check_whole.ensures (refusal_number-not_done _) facts

pub returns : goal.returns
returns c = tree-done _ _ _ _ _ _ c.in_ok-check_lists.ensures _ c.in_ok-class.ensures c.in_ok-check_whole.ensures
