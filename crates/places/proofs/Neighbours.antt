-- Neighbours in a table: the order of the NLRIs of two sound places, one straight after the other. The one before is looked at as far
-- as the other goes: where their sizes differ, so do their Length octets.
use Prim.Native.Nat.{ℕ, ◌+◌, ◌-◌, ◌<◌, ◌≤◌}
use mathlib.Core.Path.{◌≡◌, refl, sym, ◌∙◌, ap, ap₂}
use mathlib.Core.Bool.{true}
use mathlib.Core.List.{List, []}
use native.Mathlib.Omega.{arith}
use borrow.Author.Tests.{eqb-true, eqb-false, leb-true, lt-ltb, le-ltb}
use lib.Dec.{ltb, eqb}
use lib.ListN.{length, get_or}
use Rattle.octets.specs.Choice.{pick}
use Rattle.octets.specs.Octets.{part}
use Rattle.octets.specs.Order.{before}
use Rattle.octets.proofs.Choice.{tested, pick_true, pick-false, both-true-left, either_left, either-last}
use Rattle.octets.proofs.Lists.{length_part, part-octet, part-within}
use Rattle.octets.proofs.Orders.{octet-alike, octet-decides, before-none}
use Rattle.routes.specs.Route.{nlri_of}
use Rattle.routes.specs.Place.{end_in, route_in, place_sound}
use Rattle.routes.proofs.Definitions.Bounds.{accepted}
use Rattle.routes.proofs.Definitions.Places.{sound-acceptable}
use Rattle.nlri.specs.Standing.{group_end}
use Rattle.places.specs.Passing.{rises_at}
use Rattle.places.proofs.FieldStarts.{fields-bounded, length-told}

-- lists that differ in their second octet: the first two decide
first_two : (a b : List ℕ) → 2 ≤ length a → 2 ≤ length b → (get_or a 1 0 ≡ get_or b 1 0 → ⊥)
    → pick (eqb (get_or a 0 0) (get_or b 0 0)) (ltb (get_or a 1 0) (get_or b 1 0)) (ltb (get_or a 0 0) (get_or b 0 0)) ≡ before a b
first_two a b la lb n =
    tested (eqb (get_or a 0 0) (get_or b 0 0))
    (λ t. pick_true _ _ _ t ∙ octet-decides a b 1 (octet-alike a b 0 refl (omega arith) (omega arith) (eqb-true _ _ t)) (omega arith) (omega arith) n)
    (λ f. pick-false _ _ _ f ∙ octet-decides a b 0 refl (omega arith) (omega arith) (eqb-false _ _ f))

-- m octets and n octets from one start on, against n others, where each Length octet tells how many there are
before-as-far : (t b : List ℕ) (start m n : ℕ) → start + m ≤ length t → start + n ≤ length t → length b ≡ n → 2 ≤ m → 2 ≤ n
    → get_or (part t start m) 1 0 ≡ m - 2 → get_or b 1 0 ≡ n - 2 → before (part t start m) b ≡ before (part t start n) b
before-as-far t b start m n hm hn lb m2 n2 em en =
    tested (eqb m n)
    (λ t'. ap (λ (k : ℕ). before (part t start k) b) (eqb-true m n t'))
    (λ f.
    let p : List ℕ = part t start m in
    let q : List ℕ = part t start n in
    let lp : length p ≡ m = length_part t start m hm in
    let lq : length q ≡ n = length_part t start n hn in
    let first : get_or p 0 0 ≡ get_or q 0 0 = part-octet t start m 0 (omega arith) ∙ sym (part-octet t start n 0 (omega arith)) in
    let second : get_or p 1 0 ≡ get_or q 1 0 = part-octet t start m 1 (omega arith) ∙ sym (part-octet t start n 1 (omega arith)) in
    let differ : get_or p 1 0 ≡ get_or b 1 0 → ⊥ = λ e. eqb-false m n f (back m n m2 n2 (sym em ∙ e ∙ en)) in
    sym (first_two p b (omega arith) (omega arith) differ)
    ∙ ap₂ (λ (x y : ℕ). pick (eqb x (get_or b 0 0)) (ltb y (get_or b 1 0)) (ltb x (get_or b 0 0))) first second
    ∙ first_two q b (omega arith) (omega arith) (λ e. differ (second ∙ e)))
  where
    back : (m n : ℕ) → 2 ≤ m → 2 ≤ n → m - 2 ≡ n - 2 → m ≡ n
    back m n p q e = omega arith

-- the NLRI of a sound place from `at` on: where it lies, and that its Length octet tells its size
pub record NlriAt (t : List ℕ) (at : ℕ) : Type 0 where
  pub within : at + 128 ≤ length t
  pub least : 16 ≤ get_or t at 0
  pub most : get_or t at 0 ≤ 126
  pub is : nlri_of (route_in (part t at 128)) ≡ part t (at + 2) (get_or t at 0)
  pub told : get_or (part t (at + 2) (get_or t at 0)) 1 0 ≡ get_or t at 0 - 2

pub nlri-at : (afi : ℕ) (t : List ℕ) (at : ℕ) → at + 128 ≤ length t → place_sound afi (part t at 128) ≡ true → NlriAt t at
unfolding place_sound end_in route_in nlri_of group_end
nlri-at afi t at h sound =
    let place : List ℕ = part t at 128 in
    let size : ℕ = get_or t at 0 in
    let at₀ : at + 0 ≡ at = omega arith in
    let first : get_or place 0 0 ≡ size = part-octet t at 128 0 (omega arith) ∙ ap (λ (i : ℕ). get_or t i 0) at₀ in
    let most : size ≤ 126 = omega (arith, leb-true (end_in place) 127 (both-true-left _ _ sound)) in
    let is : nlri_of (route_in place) ≡ part t (at + 2) size = ap (part place 2) first ∙ part-within t at 128 2 size (omega arith) in
    let long : length (part t (at + 2) size) ≡ size = length_part t (at + 2) size (omega arith) in
    let a = accepted afi (route_in place) (sound-acceptable afi place sound) in
    let nlri : List ℕ = nlri_of (route_in place) in
    let sized : length nlri ≡ size = ap length is ∙ long in
    let told : get_or nlri 1 0 ≡ length nlri - 2 = length-told afi nlri a.fields a.read in
    record {
      within = h;
      least = omega (arith, (fields-bounded afi nlri a.fields a.read).within);
      most = most;
      is = is;
      told = ap (λ (s : List ℕ). get_or s 1 0) (sym is) ∙ told ∙ ap (λ (k : ℕ). k - 2) sized;
    }

-- the order of neighbours
pub rises-first : (t : List ℕ) (at : ℕ) → at < 128 → NlriAt t at → before [] (nlri_of (route_in (part t at 128))) ≡ rises_at at t
unfolding rises_at
rises-first t at h n =
    let long : length (part t (at + 2) (get_or t at 0)) ≡ get_or t at 0 = length_part t (at + 2) (get_or t at 0) (omega (arith, n.most, n.within)) in
    ap (before []) n.is ∙ before-none _ (omega (arith, n.least)) ∙ sym (either_left _ _ (lt-ltb at 128 h))

pub rises_next : (t : List ℕ) (from at : ℕ) → at ≡ from + 128 → NlriAt t from → NlriAt t at
    → before (nlri_of (route_in (part t from 128))) (nlri_of (route_in (part t at 128))) ≡ rises_at at t
unfolding rises_at
rises_next t from at h p n =
    let start : from + 2 ≡ at - 128 + 2 = omega arith in
    let size : ℕ = get_or t at 0 in
    let b : List ℕ = part t (at + 2) size in
    let long : length b ≡ size = length_part t (at + 2) size (omega (arith, n.most, n.within)) in
    either-last _ _ _ (le-ltb at 128 (omega arith))
    (ap₂ before p.is n.is
    ∙ before-as-far t b (from + 2) (get_or t from 0) size (omega (arith, p.most, p.within)) (omega (arith, n.most, n.within)) long (omega (arith, p.least)) (omega (arith, n.least)) p.told n.told
    ∙ ap (λ (k : ℕ). before (part t k size) b) start)
