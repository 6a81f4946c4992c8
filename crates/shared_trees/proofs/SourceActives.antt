-- Source Active routes: the number of each, and where source and group stand in those that are read.
use Prim.Native.Nat.{ℕ, ◌-◌, ◌≤◌, ◌<◌}
use mathlib.Core.Path.{◌≡◌, refl, sym, ◌∙◌, ap}
use mathlib.Core.Bool.{Bool, true, false, not}
use mathlib.Core.Logic.{inr}
use mathlib.Core.List.{List, [], ◌∷◌}
use native.Mathlib.Omega.{arith}
use borrow.Author.Tests.{eqb-true, eqb-false, eq-eqb, ne_eqb, leb-true, le-leb}
use lib.ListN.{length}
use lib.Dec.{eqb}
use Rattle.octets.specs.Numbers.{DONE}
use Rattle.octets.specs.Choice.{pick, either}
use Rattle.octets.specs.Outcome.{given, number_of}
use Rattle.octets.specs.Order.{same}
use Rattle.octets.proofs.Choice.{pick_true, pick-false, opposite, is_true, both_left, both-last, either_left, either_second, either-false, either-last, flag_off, flag-on}
use Rattle.octets.proofs.Outcome.{value, number, Refuses, refuses-also, refuses-pick, refuses-then, refuses-by, done-given, on-given}
use Rattle.lists.specs.LentLists.{Item, item_field, front_item, after_item, list_items, first_item, every_item, some_item}
use Rattle.lists.proofs.Going.{Going, going_next, going-stop}
use Rattle.lists.proofs.Along.{every-stop}
use Rattle.nlri.specs.Fields.{Fields}
use Rattle.nlri.specs.Standing.{group_end, standing}
use Rattle.nlri.proofs.Definitions.ReadNumbers.{refuses-nlri}
use Rattle.nlri.proofs.Functions.FieldStarts.{fields_within_lem, fields-stand}
use Rattle.nlri.specs.Reading.{read_of_type}
use Rattle.routes.specs.SharedTree.{SharedTree, read_source_active, source_active_fault, is_state, lacks_state, condition_holds}
use Rattle.shared_trees.specs.Told.{FieldsWithin, fields_within, without_state, without_state_at}

-- the number of an item's NLRI
pub number-of : (afi n : ℕ) (nlri : List ℕ) (x : Item) → n ≡ number_of (read_of_type 5 afi nlri) → nlri ≡ item_field 1 x → n ≡ number_of (read_of_type 5 afi (item_field 1 x))
number-of afi n nlri x e q = e ∙ ap (λ (s : List ℕ). number_of (read_of_type 5 afi s)) q

-- the fields of a Source Active NLRI that is read are those that stand in it
module _ (afi : ℕ) (s : List ℕ) (f : Fields) (e : read_of_type 5 afi s ≡ given f) where
  pub source-read : f.source ≡ (standing s).source
  source-read = ap (λ (x : Fields). x.source) (fields-stand 5 (inr refl) afi s f e)

  pub group-read : f.group ≡ (standing s).group
  group-read = ap (λ (x : Fields). x.group) (fields-stand 5 (inr refl) afi s f e)

  pub stands-within : group_end s ≤ length s
  stands-within = fields_within_lem 5 (inr refl) afi s f e

-- no refusal of a Source Active route is DONE
active-refuses : (afi : ℕ) (x : Item) → Refuses (λ n. n ≡ DONE → ⊥) (read_source_active afi x)
unfolding read_source_active
active-refuses afi x = refuses-then _ _ (refuses-also (λ n p e. omega arith) (refuses-nlri afi (item_field 1 x))) (λ f. refuses-pick _ _ _ value (number (λ e. omega arith)))

-- where no route of a list is refused, its first is read, and none of those after it is refused
module _ (afi : ℕ) (x : Item) (xs : List Item) (none : source_active_fault afi (x ∷ xs) ≡ DONE) where
  turn : pick (not (eqb (number_of (read_source_active afi x)) DONE)) (number_of (read_source_active afi x)) (source_active_fault afi xs) ≡ DONE
  unfolding source_active_fault first_item
  turn = none

  first-number : eqb (number_of (read_source_active afi x)) DONE ≡ true
  first-number = is_true _ (λ other. eqb-false _ _ other (sym (pick_true _ _ _ (ap not other)) ∙ turn))

  pub first_read : (f : Fields) × (read_source_active afi x ≡ given f)
  first_read = done-given _ (λ n q. refuses-by _ n (active-refuses afi x) q) (eqb-true _ _ first-number)

  pub later-none : source_active_fault afi xs ≡ DONE
  later-none = sym (pick-false _ _ _ (ap not first-number)) ∙ turn

-- then source and group stand in each
pub all-bounded : (afi : ℕ) (xs : List Item) → source_active_fault afi xs ≡ DONE → every_item fields_within xs ≡ true
unfolding every_item first_item fields_within read_source_active
all-bounded afi [] none = refl
all-bounded afi (x ∷ xs) none =
    let f = first_read afi x xs none in
    pick-false _ _ _ (ap not (le-leb _ _ (stands-within afi (item_field 1 x) f.0 f.1))) ∙ all-bounded afi xs (later-none afi x xs none)

-- a route to which no state corresponds, by where its source and group stand
lacking-stands : (afi : ℕ) (tree : SharedTree) (x : Item) (f : Fields) → read_source_active afi x ≡ given f → lacks_state afi tree x ≡ without_state_at tree.router tree.group tree.states x
unfolding lacks_state without_state_at without_state read_source_active
lacking-stands afi tree x f e =
    sym (on-given _ _ f _ _ e (rw (source-read afi (item_field 1 x) f e, group-read afi (item_field 1 x) f e)))

-- where no route is refused, those are the routes that the functions find
pub lacking-found : (afi : ℕ) (tree : SharedTree) (xs : List Item) → source_active_fault afi xs ≡ DONE
    → some_item (lacks_state afi tree) xs ≡ some_item (without_state_at tree.router tree.group tree.states) xs
unfolding some_item first_item
lacking-found afi tree [] none = refl
lacking-found afi tree (x ∷ xs) none =
    let f = first_read afi x xs none in
    let here : lacks_state afi tree x ≡ without_state_at tree.router tree.group tree.states x = lacking-stands afi tree x f.0 f.1 in
    rw (here, lacking-found afi tree xs (later-none afi x xs none))

-- every item of a list meets a test, and so does the one at the cursor
module _ (test : Item → Bool) {fields : ℕ} {items : List Item} {left : ℕ} {t : List ℕ}
    (going : Going fields items (first_item (λ x. not (test x)) (λ x. false) true) (first_item (λ x. not (test x)) (λ x. false) true) left t)
    (all : every_item test items ≡ true) (more : 0 < left) where
  pub going-every : test (front_item fields t) ≡ true
  unfolding every_item
  going-every = is_true _ (λ off. opposite all (sym (going-stop (λ x. not (test x)) (λ x. false) true going false more (ap not off) refl)))

  pub going-every-next : (t' : List ℕ) → t' ≡ after_item fields t
      → Going fields items (first_item (λ x. not (test x)) (λ x. false) true) (first_item (λ x. not (test x)) (λ x. false) true) (left - 1) t'
  going-every-next t' e = going_next (λ x. not (test x)) (λ x. false) true going more (ap not going-every) t' e

-- every item that is left meets a test, and so does the next of them
pub every-first : (test : Item → Bool) {x : Item} {items rest : List Item} → true ≡ every_item test items → items ≡ x ∷ rest → test x ≡ true
every-first test e s = is_true _ (λ off. opposite refl (sym (every-stop test e s off)))

-- an item's source and group stand in its NLRI
pub item-bounded : (x : Item) (nlri : List ℕ) → nlri ≡ item_field 1 x → fields_within x ≡ true → FieldsWithin nlri
unfolding fields_within
item-bounded x nlri e b = rw e (record { within = leb-true _ _ b })

-- what the branches show
module _ (group states nlri field : List ℕ) (is : field ≡ (standing nlri).group) (flag : Bool) (told : flag ≡ same field group) where
  pub without_other : not flag ≡ true → false ≡ without_state group states nlri
  unfolding without_state
  without_other h = sym (both_left _ _ (ap (λ (x : List ℕ). same x group) (sym is) ∙ flag_off _ _ told h))

  pub without-none : not flag ≡ false → (source : List ℕ) → source ≡ (standing nlri).source → (has : Bool) → has ≡ some_item (is_state source group) (list_items 2 states) → not has ≡ without_state group states nlri
  unfolding without_state
  without-none h source e has q =
      both-last _ _ _ (ap (λ (x : List ℕ). same x group) (sym is) ∙ flag-on _ _ told h) (ap not (q ∙ ap (λ (x : List ℕ). some_item (is_state x group) (list_items 2 states)) e))

module _ (router group states : List ℕ) (x : Item) (field : List ℕ) (is : field ≡ item_field 0 x) (flag : Bool) (told : flag ≡ same field router) where
  originator-is : same (item_field 0 x) router ≡ flag
  originator-is = ap (λ (f : List ℕ). same f router) (sym is) ∙ sym told

  pub lacks-other : not flag ≡ true → false ≡ without_state_at router group states x
  unfolding without_state_at
  lacks-other h = sym (both_left _ _ (originator-is ∙ flag_off _ _ refl h))

  pub lacks-here : not flag ≡ false → (nlri : List ℕ) → nlri ≡ item_field 1 x → (r : Bool) → r ≡ without_state group states nlri → r ≡ without_state_at router group states x
  unfolding without_state_at
  lacks-here h nlri e r q = both-last _ _ _ (originator-is ∙ flag-on _ _ refl h) (q ∙ ap (without_state group states) e)

-- the first of two tests where the second fails
either-none : (a b : Bool) → b ≡ false → either a b ≡ a
unfolding either
either-none true b e = refl
either-none false b e = e

-- what the daemon tells, as a test
pub fact-some : (x : ℕ) → (x ≡ 0 → ⊥) → not (eqb x 0) ≡ true
fact-some x h = ap not (ne_eqb x 0 h)

pub fact-none : (x : ℕ) → x ≡ 0 → not (eqb x 0) ≡ false
fact-none x h = ap not (eq-eqb x 0 h)

-- the conditions, one by one
module _ (afi : ℕ) (tree : SharedTree) where
  pub condition-upstream : tree.upstream ≡ true → true ≡ condition_holds afi tree
  unfolding condition_holds
  condition-upstream h = sym (either_left _ _ h)

  pub condition-bidirectional : tree.bidirectional ≡ true → true ≡ condition_holds afi tree
  unfolding condition_holds
  condition-bidirectional h = sym (either_second _ _ (either_second _ _ (either_left _ _ h)))

  pub condition-unused : tree.unused ≡ true → true ≡ condition_holds afi tree
  unfolding condition_holds
  condition-unused h = sym (either_second _ _ (either_second _ _ (either_second _ _ h)))

  pub condition-found : tree.upstream ≡ false → tree.bidirectional ≡ false → tree.unused ≡ false → source_active_fault afi (list_items 2 tree.source_actives) ≡ DONE
      → (r : Bool) → r ≡ some_item (without_state_at tree.router tree.group tree.states) (list_items 2 tree.source_actives) → r ≡ condition_holds afi tree
  unfolding condition_holds
  condition-found u b n none r e =
      either-last _ _ _ u (e ∙ sym (lacking-found afi tree (list_items 2 tree.source_actives) none) ∙ sym (either-none _ _ (either-false _ _ b n)))
