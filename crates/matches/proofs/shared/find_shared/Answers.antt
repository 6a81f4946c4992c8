-- `matches::shared::find_shared` meets its contract.
use Rattle.std.proofs.Common.{refl}
use Rattle.octets.proofs.Refusals.{refusal_number-not_done}
use Rattle.shared_trees.specs.declared.TreeFacts.{TreeFacts}
use Rattle.shared_trees.specs.Tree.{tree_of}
use Rattle.places.proofs.Indexes.{header-within}
use Rattle.matches.proofs.Matches.{told-refused, told-sound, told-unsound}
use Rattle.matches.proofs.SharedMatches.{shared-refused, shared-space, shared-search, shared-accepted}
use Rattle.matches.proofs.shared.find_shared.Goals as goal

-- the lists are judged whatever else is told
no-facts : TreeFacts
no-facts = record { upstream = 0; bidirectional = 0; source_active_unused = 0 }

pub returns-in_err-check : goal.returns-in_err-check
returns-in_err-check c = told-unsound _ _ c.in_err-check.ensures (refusal_number-not_done _) _ _ _ (told-refused _ _ c.from_residual.ensures.1)

pub afi_of-requires : goal.afi_of-requires
afi_of-requires c = header-within _ (told-sound _ _ c.in_ok-check.ensures refl)

pub returns-in_err-class : goal.returns-in_err-class
returns-in_err-class c = shared-refused _ _ _ (told-sound _ _ c.in_ok-check.ensures refl) _ c.afi_of.ensures.0 _ (c.in_err-class.ensures c.args.facts) _ (told-refused _ _ c.from_residual-in_err-class.ensures.1)

pub returns-then-output-lt-LEAST_OUTPUT : goal.returns-then-output-lt-LEAST_OUTPUT
returns-then-output-lt-LEAST_OUTPUT c = shared-space _ _ _ (told-sound _ _ c.in_ok-check.ensures refl) _ c.afi_of.ensures.0 _ (c.in_ok-class.ensures c.args.facts) c.if-output-lt-LEAST_OUTPUT.true _ refl

pub open_tiers-requires : goal.open_tiers-requires
unfolding tree_of
open_tiers-requires c = (shared-accepted _ _ c.args.output.now (told-sound _ _ c.in_ok-check.ensures refl) _ c.afi_of.ensures.0 _ (c.in_ok-class.ensures no-facts)).judged

pub search-requires : goal.search-requires
unfolding tree_of
search-requires c =
    let accepted = shared-accepted _ _ c.args.output.now (told-sound _ _ c.in_ok-check.ensures refl) _ c.afi_of.ensures.0 _ (c.in_ok-class.ensures no-facts) in
    (told-sound _ _ c.in_ok-check.ensures refl, c.if-output-lt-LEAST_OUTPUT.false, accepted.grouped, accepted.grouped, accepted.routed)

pub returns : goal.returns
unfolding tree_of
returns c =
    shared-search _ _ _ (told-sound _ _ c.in_ok-check.ensures refl) _ c.afi_of.ensures.0 _ (c.in_ok-class.ensures c.args.facts) c.if-output-lt-LEAST_OUTPUT.false _
    (c.open_tiers.ensures _ _ (shared-accepted _ _ c.args.output.now (told-sound _ _ c.in_ok-check.ensures refl) _ c.afi_of.ensures.0 _ (c.in_ok-class.ensures no-facts)).read) _ _ c.search.ensures
