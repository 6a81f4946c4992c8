-- Loops over the items of a list, as
--     for item in lists::items_of::<FIELDS>(list) {
--         if is_asked(&item) {
--             return true;
--         }
--     }
--     false
-- whose invariant says that all the items come to what those that are left come to:
--     some_item asked (list_items FIELDS l.list) ≡ some_item asked l.item-iterator
-- A turn and each answer are `search along`. Where a loop carries a value along, what the items come to from that value on is a function of the
-- crate's own, and a turn is `turn`.
use Prim.Native.Nat.{ℕ}
use Rattle.std.specs.Prelude.{◌≢◌, Result}
use Rattle.std.specs.Result.{IsErrAnd}
use mathlib.Core.Path.{◌≡◌, refl, sym, ◌∙◌, ap}
use mathlib.Core.Bool.{Bool, true, false, not}
use mathlib.Core.List.{List, [], ◌∷◌}
use lib.Dec.{eqb}
use borrow.Author.Tests.{eq-eqb, ne_eqb}
use Rattle.octets.specs.Numbers.{DONE}
use Rattle.octets.specs.declared.refusal.Refusal.{Refusal}
use Rattle.octets.specs.Refusals.{refusal_number, result_number}
use Rattle.octets.proofs.Refusals.{refusal_number-not_done, passed_on}
use Rattle.octets.proofs.Choice.{pick_true, pick-false}
use Rattle.octets.proofs.Tests.{refusals}
use Rattle.lists.specs.LentLists.{Item, first_item, every_item, some_item}

-- the items that are left, by the next of them and by none
module _ {A : Type 0} {all : A} (f : List Item → A) {items : List Item} where
  pub turn : {rest : List Item} {x : Item} → all ≡ f items → items ≡ x ∷ rest → all ≡ f (x ∷ rest)
  turn e s = e ∙ ap f s

  pub turned : {rest : List Item} {x : Item} → all ≡ f items → items ≡ x ∷ rest → (b : A) → f (x ∷ rest) ≡ b → all ≡ b
  turned e s b h = e ∙ ap f s ∙ h

  pub ended : all ≡ f items → items ≡ [] → all ≡ f []
  ended e s = e ∙ ap f s

module _ {A : Type 0} (test : Item → Bool) (found : Item → A) (none : A) {all : A} {items : List Item} where
  pub first-next : {rest : List Item} {x : Item} → all ≡ first_item test found none items → items ≡ x ∷ rest → test x ≡ false → all ≡ first_item test found none rest
  unfolding first_item
  first-next e s f = e ∙ ap (first_item test found none) s ∙ pick-false _ _ _ f

  pub first-found : {rest : List Item} {x : Item} → (r : A) → all ≡ first_item test found none items → items ≡ x ∷ rest → test x ≡ true → r ≡ found x → r ≡ all
  unfolding first_item
  first-found r e s t h = h ∙ sym (e ∙ ap (first_item test found none) s ∙ pick_true _ _ _ t)

  pub first-end : all ≡ first_item test found none items → items ≡ [] → none ≡ all
  unfolding first_item
  first-end e s = sym (e ∙ ap (first_item test found none) s)

module _ (test : Item → Bool) {all : Bool} {items : List Item} where
  pub every-next : {rest : List Item} {x : Item} → all ≡ every_item test items → items ≡ x ∷ rest → test x ≡ true → all ≡ every_item test rest
  unfolding every_item
  every-next e s t = first-next (λ y. not (test y)) (λ y. false) true e s (ap not t)

  pub every-stop : {rest : List Item} {x : Item} → all ≡ every_item test items → items ≡ x ∷ rest → test x ≡ false → false ≡ all
  unfolding every_item
  every-stop e s f = first-found (λ y. not (test y)) (λ y. false) true false e s (ap not f) refl

  pub every-end : all ≡ every_item test items → items ≡ [] → true ≡ all
  unfolding every_item
  every-end e s = first-end (λ y. not (test y)) (λ y. false) true e s

  pub some-next : {rest : List Item} {x : Item} → all ≡ some_item test items → items ≡ x ∷ rest → test x ≡ false → all ≡ some_item test rest
  unfolding some_item
  some-next e s f = first-next test (λ y. true) false e s f

  pub some-found : {rest : List Item} {x : Item} → all ≡ some_item test items → items ≡ x ∷ rest → test x ≡ true → true ≡ all
  unfolding some_item
  some-found e s t = first-found test (λ y. true) false true e s t refl

  pub some-end : all ≡ some_item test items → items ≡ [] → false ≡ all
  unfolding some_item
  some-end e s = first-end test (λ y. true) false e s

-- the first number of an item that is not DONE
module _ (fault : Item → ℕ) {all : ℕ} {items : List Item} where
  pub fault-next : {rest : List Item} {x : Item} → all ≡ first_item (λ y. not (eqb (fault y) DONE)) fault DONE items → items ≡ x ∷ rest → DONE ≡ fault x
      → all ≡ first_item (λ y. not (eqb (fault y) DONE)) fault DONE rest
  fault-next e s d = first-next (λ y. not (eqb (fault y) DONE)) fault DONE e s (ap not (eq-eqb _ DONE (sym d)))

  pub fault-stop : {rest : List Item} {x : Item} → (n : ℕ) → all ≡ first_item (λ y. not (eqb (fault y) DONE)) fault DONE items → items ≡ x ∷ rest → n ≡ fault x → n ≢ DONE → n ≡ all
  fault-stop n e s h d = first-found (λ y. not (eqb (fault y) DONE)) fault DONE n e s (ap not (ne_eqb _ DONE (λ z. d (h ∙ z)))) h

  pub fault-end : all ≡ first_item (λ y. not (eqb (fault y) DONE)) fault DONE items → items ≡ [] → DONE ≡ all
  fault-end e s = first-end (λ y. not (eqb (fault y) DONE)) fault DONE e s

  -- passed on by `?`
  pub fault-passed : {A : Type 0} {rest : List Item} {x : Item} → (result : Result A Refusal) (refusal : Refusal) → IsErrAnd result (λ y. y ≡ refusal)
      → all ≡ first_item (λ y. not (eqb (fault y) DONE)) fault DONE items → items ≡ x ∷ rest → refusal_number refusal ≡ fault x → result_number result ≡ all
  fault-passed result refusal is e s h = passed_on result refusal is ∙ fault-stop (refusal_number refusal) e s h (refusal_number-not_done refusal)

pub ruleset along = (refusals, first-next, first-found, first-end, every-next, every-stop, every-end, some-next, some-found, some-end, fault-next, fault-stop, fault-passed, fault-end)
