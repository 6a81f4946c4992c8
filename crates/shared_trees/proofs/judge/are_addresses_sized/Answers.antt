-- `shared_trees::judge::are_addresses_sized` meets its contract.
use mathlib.Core.Path.{◌≡◌, ◌∙◌}
use Rattle.std.proofs.Common.{rules, tests, ◌*◌}
use Rattle.std.proofs.lemmas.Iterator.Search.{all_from_yields_List}
use Rattle.std.proofs.lemmas.Iterator.Consumers.{YieldsList-from_first}
use Rattle.octets.proofs.Tests.{refusals}
use Rattle.lists.specs.LentLists.{every_item, list_items}
use Rattle.routes.specs.SharedTree.{originator_sized, state_sized}
use Rattle.shared_trees.specs.Told.{tree_addresses_sized}
use Rattle.shared_trees.proofs.Sized.{all-every}
use Rattle.shared_trees.proofs.judge.are_addresses_sized.Goals as goal

pub returns-then-not-is_originator_size : goal.returns-then-not-is_originator_size
unfolding tree_addresses_sized
returns-then-not-is_originator_size c = search refusals

pub returns-then-not-all : goal.returns-then-not-all
unfolding tree_addresses_sized
returns-then-not-all c =
    let sized : c.all.result ≡ every_item originator_sized (list_items 2 c.args.source_actives.now) =
    all_from_yields_List originator_sized _ _ _ c.all.ensures.ran (YieldsList-from_first (λ x. x) (λ items. items) _ c.items_of-source_actives.ensures.value) (λ x b q k. search (rules, tests)) ∙ all-every _ _ in
    search refusals

pub returns : goal.returns
unfolding tree_addresses_sized
returns c =
    let sized : c.all.result ≡ every_item originator_sized (list_items 2 c.args.source_actives.now) =
    all_from_yields_List originator_sized _ _ _ c.all.ensures.ran (YieldsList-from_first (λ x. x) (λ items. items) _ c.items_of-source_actives.ensures.value) (λ x b q k. search (rules, tests)) ∙ all-every _ _ in
    let held : c.all-2.result ≡ every_item (state_sized (8 * c.args.size)) (list_items 2 c.args.states.now) =
    all_from_yields_List (state_sized (8 * c.args.size)) _ _ _ c.all-2.ensures.ran (YieldsList-from_first (λ x. x) (λ items. items) _ c.items_of-states.ensures.value) (λ x b q k. search (rules, tests)) ∙ all-every _ _ in
    search refusals
