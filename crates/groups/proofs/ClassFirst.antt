-- The class of a group, asked before what stands between its prefixes and FLOW.
use Prim.Native.Nat.{ℕ, ◌*◌, ◌/◌, ◌≤◌}
use mathlib.Core.Path.{◌≡◌, refl, sym, ◌∙◌, subst}
use mathlib.Core.List.{List}
use mathlib.Core.Logic.{◌⊎◌, inl, inr, ⊎_elim}
use native.Mathlib.Omega.{arith}
use borrow.Author.Tests.{eqb-true}
use lib.ListN.{length}
use Rattle.octets.specs.Numbers.{DONE, FLOW}
use Rattle.octets.specs.Outcome.{Outcome, given, refused, and_then}
use Rattle.octets.proofs.Outcome.{Refuses, value, number, refuses-pick, refuses-then, refuses-by, and-goes-on, and-stops, outcome, never, refused-same, given-unless, passed}
use Rattle.lists.specs.LentLists.{Item, read_list}
use Rattle.nlri.specs.Family.{family_bits}
use Rattle.nlri.specs.Groups.{class_under}
use Rattle.nlri.proofs.Definitions.Lengths.{family-octets}
use Rattle.nlri.proofs.Definitions.Families.{family-least}
use Rattle.groups.specs.Prefixes.{read_prefixes}
use Rattle.groups.specs.Classes.{class_in, class_by}

-- the family, or the prefixes under it, are refused
pub data Early (afi : ℕ) (prefixes : List ℕ) (n : ℕ) : Type 0 where
  by_family : family_bits afi ≡ refused n → Early afi prefixes n
  by_prefixes : (bits : ℕ) → family_bits afi ≡ given bits → read_prefixes bits prefixes ≡ refused n → Early afi prefixes n

-- or they are read
pub record Read (afi : ℕ) (prefixes : List ℕ) : Type 0 where
  pub bits : ℕ
  pub of_family : family_bits afi ≡ given bits
  pub items : List Item
  pub read : read_prefixes bits prefixes ≡ given items

-- whatever begins with them
module _ {A : Type 0} (afi : ℕ) (prefixes : List ℕ) (next : ℕ → List Item → Outcome A) where
  pub early-stops : {n : ℕ} → Early afi prefixes n → refused n ≡ and_then (family_bits afi) (λ bits. and_then (read_prefixes bits prefixes) (next bits))
  early-stops (by_family e) = and-stops _ _ _ e
  early-stops (by_prefixes bits f e) = and-goes-on _ _ _ _ f (and-stops _ _ _ e)

  pub read_goes : (r : Read afi prefixes) → next r.bits r.items ≡ and_then (family_bits afi) (λ bits. and_then (read_prefixes bits prefixes) (next bits))
  read_goes r = and-goes-on _ _ _ _ r.of_family (and-goes-on _ _ _ _ r.read refl)

early-or-read : (afi : ℕ) (prefixes : List ℕ) → ((n : ℕ) × Early afi prefixes n) ⊎ Read afi prefixes
early-or-read afi prefixes =
    ⊎_elim
    (λ f. ⊎_elim
    (λ r. inr (record { bits = f.0; of_family = f.1; items = r.0; read = r.1 }))
    (λ r. inl (r.0, by_prefixes f.0 f.1 r.1))
    (outcome (read_prefixes f.0 prefixes)))
    (λ f. inl (f.0, by_family f.1))
    (outcome (family_bits afi))

-- neither refuses with DONE or with FLOW
family-refuses : (afi : ℕ) → Refuses (λ n. (n ≡ DONE → ⊥) × (n ≡ FLOW → ⊥)) (family_bits afi)
unfolding family_bits
family-refuses afi = refuses-pick _ _ _ value (refuses-pick _ _ _ value (number ((λ e. omega arith), (λ e. omega arith))))

prefixes-refuse : (bits : ℕ) (prefixes : List ℕ) → Refuses (λ n. (n ≡ DONE → ⊥) × (n ≡ FLOW → ⊥)) (read_prefixes bits prefixes)
unfolding read_prefixes read_list
prefixes-refuse bits prefixes =
    refuses-pick _ _ _
    (refuses-then _ _ (refuses-pick _ _ _ value (number ((λ e. omega arith), (λ e. omega arith)))) (λ items. refuses-pick _ _ _ value (number ((λ e. omega arith), (λ e. omega arith)))))
    (number ((λ e. omega arith), (λ e. omega arith)))

early-number : {afi : ℕ} {prefixes : List ℕ} {n : ℕ} → Early afi prefixes n → (n ≡ DONE → ⊥) × (n ≡ FLOW → ⊥)
early-number (by_family e) = refuses-by _ _ (family-refuses _) e
early-number (by_prefixes bits f e) = refuses-by _ _ (prefixes-refuse bits _) e

-- the class under prefixes that are read is refused with FLOW
pub class-refuses : (bits : ℕ) (items : List Item) (group : List ℕ) → Refuses (λ n. n ≡ FLOW) (class_in bits items group)
unfolding class_in class_under
class-refuses bits items group = refuses-then _ _ (refuses-pick _ _ _ (refuses-pick _ _ _ (refuses-pick _ _ _ value value) (number refl)) (number refl)) (λ standard. value)

pub class-flow : (bits : ℕ) (items : List Item) (group : List ℕ) (n : ℕ) → class_in bits items group ≡ refused n → n ≡ FLOW
class-flow bits items group n e = refuses-by _ n (class-refuses bits items group) e

-- and only for a group of the family's size is it given
pub class-sized : (afi bits : ℕ) → family_bits afi ≡ given bits → (items : List Item) (group : List ℕ) (class : ℕ) → class_in bits items group ≡ given class → 8 * length group ≡ bits
unfolding class_in class_under
class-sized afi bits f items group class e =
    let sized : length group ≡ bits / 8 = eqb-true _ _ (given-unless _ _ _ _ (passed _ _ _ e).first).0 in
    omega (arith, (family-octets afi bits f).0)

-- what the class call comes to tells which it was
module _ (afi : ℕ) (prefixes group : List ℕ) where
  early-is : {n : ℕ} → Early afi prefixes n → class_by afi prefixes group ≡ refused n
  unfolding class_by
  early-is e = sym (early-stops afi prefixes (λ bits items. class_in bits items group) e)

  read-is : (r : Read afi prefixes) → class_by afi prefixes group ≡ class_in r.bits r.items group
  unfolding class_by
  read-is r = sym (read_goes afi prefixes (λ bits items. class_in bits items group) r)

  -- a refusal but FLOW: an early one
  pub refused-early : (n : ℕ) → class_by afi prefixes group ≡ refused n → (n ≡ FLOW → ⊥) → Early afi prefixes n
  refused-early n e other =
      ⊎_elim (λ x. subst (Early afi prefixes) (refused-same (sym (early-is x.1) ∙ e)) x.1)
      (λ r. absurd (other (class-flow r.bits r.items group n (sym (read-is r) ∙ e))))
      (early-or-read afi prefixes)

  -- FLOW: they were read, and the group is refused
  pub refused-flow : class_by afi prefixes group ≡ refused FLOW → (r : Read afi prefixes) × (class_in r.bits r.items group ≡ refused FLOW)
  refused-flow e =
      ⊎_elim (λ x. absurd ((early-number x.1).1 (refused-same (sym (early-is x.1) ∙ e))))
      (λ r. (r, sym (read-is r) ∙ e))
      (early-or-read afi prefixes)

  -- a class: they were read, and it is the one under them
  pub given-read : (class : ℕ) → class_by afi prefixes group ≡ given class → (r : Read afi prefixes) × (class_in r.bits r.items group ≡ given class)
  given-read class e =
      ⊎_elim (λ x. absurd (never e (early-is x.1)))
      (λ r. (r, sym (read-is r) ∙ e))
      (early-or-read afi prefixes)

  -- a group that has one has four octets or more
  pub given-least : (class : ℕ) → class_by afi prefixes group ≡ given class → 4 ≤ length group
  given-least class e =
      let under = given-read class e in
      let r = under.0 in
      let all = class-sized afi r.bits r.of_family r.items group class under.1 in
      omega (arith, family-least afi r.bits r.of_family)
