-- The last states of a list: where they start, the first of them, those after it, and those that are passed by the end of a source.
use Prim.Native.Nat.{ℕ, ◌+◌, ◌*◌, ◌-◌, ◌≤◌, ◌<◌}
use mathlib.Core.Path.{◌≡◌, refl, sym, ◌∙◌, ap}
use mathlib.Core.Bool.{true, false, not}
use mathlib.Core.List.{List}
use native.Mathlib.Nat.{add-mul}
use native.Mathlib.Omega.{arith}
use lib.ListN.{length, drop}
use Rattle.octets.specs.Octets.{part, low_first}
use Rattle.octets.proofs.Choice.{both-true-right}
use Rattle.lists.specs.LentLists.{Item, after_item, front_items, list_count, whole_list, list_items, first_item, every_item, some_item}
use Rattle.lists.proofs.Going.{Going, going-first, going-from, going-here, going_next}
use Rattle.routes.specs.SharedTree.{state_sized, is_state}
use Rattle.shared_trees.specs.Told.{Ending, start_of_last, StatesLeft, Passed, StatesSized}
use Rattle.shared_trees.proofs.States.{StateStands, state-within, state-next, state-otherwise}
use Rattle.shared_trees.proofs.SourceActives.{going-every, going-every-next}

-- all of them start behind the count
start-of-all : (size count : ℕ) → start_of_last size count count ≡ 2
unfolding start_of_last
start-of-all size count =
    let none : count - count ≡ 0 = omega arith in
    let product : (count - count) * (4 + 2 * size) ≡ 0 * (4 + 2 * size) = ap (λ (n : ℕ). n * (4 + 2 * size)) none in
    omega arith

-- one less starts behind one state more
pub start-next : (size count left : ℕ) → 0 < left → left ≤ count → start_of_last size count left + (4 + 2 * size) ≡ start_of_last size count (left - 1)
unfolding start_of_last
start-next size count left more among =
    let one : count - (left - 1) ≡ count - left + 1 = omega arith in
    let turn = ap (λ (n : ℕ). n * (4 + 2 * size)) one ∙ add-mul (count - left) 1 (4 + 2 * size) in
    omega arith

pub all_left : {size : ℕ} {states : List ℕ} (count : ℕ) → StatesSized size states → count ≡ list_count states → StatesLeft size count count states
unfolding whole_list list_items
all_left {size} count h e = record {
  among = omega arith;
  whole = rw (start-of-all size count, e) (both-true-right _ _ h.whole);
  sized = rw (start-of-all size count, e) h.sized;
  least = h.least;
}

pub all-going : {A : Type 0} {size : ℕ} {states : List ℕ} (count : ℕ) (all : List Item → A) → StatesSized size states → count ≡ list_count states
    → Going 2 (list_items 2 states) all all count (drop (start_of_last size count count) states)
all-going {size = size} {states = states} count all h e = rw (start-of-all size count) (going-first 2 states all count h.whole e)

module _ {size count left : ℕ} {states : List ℕ} (last : StatesLeft size count left states) (more : 0 < left) where
  -- every one of them has the size, from the first on
  every-left : Going 2 (front_items 2 left (drop (start_of_last size count left) states)) (first_item (λ x. not (state_sized (8 * size) x)) (λ x. false) true)
      (first_item (λ x. not (state_sized (8 * size) x)) (λ x. false) true) left (drop (start_of_last size count left) states)
  every-left = going-from 2 _ left _ last.whole

  pub left_here : StateStands size (drop (start_of_last size count left) states)
  left_here = record { whole = going-here every-left more; sized = going-every (state_sized (8 * size)) every-left last.sized more; least = last.least }

  pub left_within : start_of_last size count left + 4 + 2 * size ≤ length states
  left_within = state-within size states _ left_here

  pub next_start : drop (start_of_last size count (left - 1)) states ≡ after_item 2 (drop (start_of_last size count left) states)
  next_start =
      let sum : start_of_last size count left + 4 + 2 * size ≡ start_of_last size count (left - 1) = omega (arith, start-next size count left more last.among) in
      ap (λ (n : ℕ). drop n states) (sym sum) ∙ state-next size states _ left_here

  pub left-next : StatesLeft size count (left - 1) states
  unfolding every_item
  left-next =
      let among = last.among in
      let next = going-every-next (state_sized (8 * size)) every-left last.sized more _ next_start in
      record { among = omega arith; whole = next.whole; sized = sym next.same ∙ last.sized; least = last.least }

pub passed_none : {size count left : ℕ} {states : List ℕ} (ending : ℕ) → StatesLeft size count left states → Passed size count ending left left states
passed_none ending last = record { fewer = omega arith; stand = last; alike = λ source group ends. refl }

-- a loop for a source and a group goes on behind what was passed
pub passed-going : {size count ending left left' : ℕ} {states : List ℕ} {items : List Item} {source : List ℕ} (group : List ℕ) → Ending source ending → Passed size count ending left left' states
    → Going 2 items (first_item (is_state source group) (λ x. true) false) (first_item (is_state source group) (λ x. true) false) left (drop (start_of_last size count left) states)
    → Going 2 items (first_item (is_state source group) (λ x. true) false) (first_item (is_state source group) (λ x. true) false) left' (drop (start_of_last size count left') states)
unfolding some_item
passed-going group ends passed before = record { whole = passed.stand.whole; same = before.same ∙ passed.alike _ group ends }

-- one more is passed: its source ends otherwise
pub passed-more : {size count ending left left' : ℕ} {states : List ℕ} (at x : ℕ) → Passed size count ending left left' states → 0 < left' → at ≡ start_of_last size count left'
    → x ≡ low_first (part states (at + 2 + size - 4) 4) → (x ≡ ending → ⊥) → Passed size count ending left (left' - 1) states
unfolding some_item
passed-more {size} {count} {ending} {left} {left'} {states} at x passed more start is differ =
    let fewer = passed.fewer in
    record {
      fewer = omega arith;
      stand = left-next passed.stand more;
      alike = λ source group ends.
          (going_next (is_state source group) (λ y. true) false {items = front_items 2 left (drop (start_of_last size count left) states)} (record { whole = passed.stand.whole; same = passed.alike source group ends }) more
          (sym (state-otherwise size states _ (left_here passed.stand more) source group ending x ends (is ∙ ap (λ (n : ℕ). low_first (part states (n + 2 + size - 4) 4)) start) differ)) _
          (next_start passed.stand more)).same;
    }
