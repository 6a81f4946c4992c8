-- The counts of lists, and the sizes of the addresses in their items.
use Prim.Native.Nat.{ℕ, ◌*◌, ◌≤◌, ◌<◌}
use mathlib.Core.Path.{◌≡◌, refl, sym, ◌∙◌, ap}
use mathlib.Core.Bool.{Bool, true, false}
use mathlib.Core.List.{List, [], ◌∷◌}
use native.Mathlib.Omega.{arith}
use borrow.Author.Tests.{eqb-true, eqb-false, eq-eqb, ne_eqb, le-leb, lt-leb}
use lib.ListN.{length}
use lib.Dec.{leb, eqb}
use Rattle.octets.proofs.Choice.{tested, both_left, both-last}
use Rattle.std.specs.List.{list_all}
use Rattle.octets.specs.Choice.{pick}
use Rattle.lists.specs.LentLists.{Item, item_field, first_item, every_item}
use Rattle.nlri.specs.Family.{is_originator_size}
use Rattle.routes.specs.SharedTree.{MOST_ITEMS, originator_sized, state_sized}

-- a count by what the function answers
module _ (count r : ℕ) (is : r ≡ count) where
  pub count_over : MOST_ITEMS < r → leb count MOST_ITEMS ≡ false
  count_over h = lt-leb count MOST_ITEMS (omega arith)

  pub count_within : r ≤ MOST_ITEMS → leb count MOST_ITEMS ≡ true
  count_within h = le-leb count MOST_ITEMS (omega arith)

-- the originator that comes with a Source Active route
pub originator-of : (x : Item) (field : List ℕ) (r : Bool) → r ≡ is_originator_size (length field) → field ≡ item_field 0 x → r ≡ originator_sized x
unfolding originator_sized
originator-of x field r e q = e ∙ ap (λ (f : List ℕ). is_originator_size (length f)) q

-- so many bits are so many octets
pub in-octets : (n size : ℕ) → eqb (8 * n) (8 * size) ≡ eqb n size
in-octets n size =
    tested (eqb n size)
    (λ t. let e : n ≡ size = eqb-true _ _ t in eq-eqb (8 * n) (8 * size) (omega arith) ∙ sym t)
    (λ f. let other : n ≡ size → ⊥ = eqb-false _ _ f in ne_eqb (8 * n) (8 * size) (λ e. other (omega arith)) ∙ sym f)

-- source and group of a state
module _ (size : ℕ) (x : Item) (source : List ℕ) (is : source ≡ item_field 0 x) where
  pub state-other : (length source ≡ size → ⊥) → false ≡ state_sized (8 * size) x
  unfolding state_sized
  state-other h = sym (both_left _ _ (in-octets _ size ∙ ne_eqb _ _ (λ q. h (ap length is ∙ q))))

  pub state-second : (group : List ℕ) → length source ≡ size → group ≡ item_field 1 x → eqb (length group) size ≡ state_sized (8 * size) x
  unfolding state_sized
  state-second group h g =
      both-last _ _ _ (in-octets _ size ∙ eq-eqb _ _ (ap length (sym is) ∙ h)) (ap (λ (l : List ℕ). eqb (length l) size) g ∙ sym (in-octets _ size))

-- every item, as `all` tells
pub all-every : (test : Item → Bool) (items : List Item) → list_all test items ≡ every_item test items
unfolding every_item first_item pick
all-every test [] = refl
all-every test (x ∷ xs) = tested (test x) (λ t. rw t (all-every test xs)) (λ f. rw f refl)
