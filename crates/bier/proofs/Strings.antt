-- The string of BFR-ids: its bits are those of the BFR-ids of its set, and no other octets have these bits.
use Prim.Native.Nat.{ℕ, ◌+◌, ◌-◌, ◌*◌, ◌/◌, ◌%◌, ◌^◌, ◌≤◌, ◌<◌}
use mathlib.Core.Path.{◌≡◌, refl, sym, ap, ap₂, subst, ◌∙◌}
use mathlib.Core.Bool.{true}
use mathlib.Core.List.{List, [], ◌∷◌}
use mathlib.Core.Logic.{◌↔◌, ◌≢◌, ◌⊎◌, inl, inr, ⊎_elim}
use native.Mathlib.Omega.{arith}
use borrow.Author.Tests.{eqb-true, eqb-false, eq-eqb, ne_eqb}
use lib.ListN.{length, get_or}
use lib.Seq.{ext_get_or}
use lib.Dec.{eqb}
use lib.Pow.{shr_le}
use Rattle.octets.specs.Octets.{AllOctets}
use Rattle.octets.specs.Order.{zeros}
use Rattle.octets.specs.Lists.{Among, first, later}
use Rattle.octets.proofs.Choice.{tested, opposite, pick_true, pick-false, pick-passed}
use Rattle.octets.proofs.Zeros.{zero-at, zeros-all}
use Rattle.octets.proofs.AllOctets.{octets-zeros}
use Rattle.octets.proofs.Among.{among_none, among_cases}
use Rattle.groups.specs.Prefixes.{bit_at}
use Rattle.groups.proofs.BitRule.{bit_rule}
use Rattle.bier.specs.BitStrings.{set_of, position_of, is_of_set, with_bit, with_id, with_ids, string_of}
use Rattle.bier.specs.Rules.BierRule.{bit_at_position, StringFor}
use Rattle.bier.proofs.SetBits.{with-length, with-bit, with-octets}

-- a BFR-id of a set
pub of-set : (set_number id : ℕ) → (is_of_set set_number id ≡ true) ↔ ((id ≢ 0) × ((id - 1) / 256 ≡ set_number))
unfolding is_of_set set_of
of-set set_number id = (
  λ h. let p = pick-passed _ _ h in (eqb-false _ _ p.0, eqb-true _ _ p.1),
  λ h. pick-false _ _ _ (ne_eqb id 0 h.0) ∙ eq-eqb _ _ h.1,
)

position-least : (id : ℕ) → 1 ≤ position_of id
unfolding position_of
position-least id = omega arith

position-most : (id : ℕ) → position_of id ≤ 256
unfolding position_of
position-most id = omega arith

-- one BFR-id
module _ (set_number : ℕ) (s : List ℕ) (id : ℕ) where
  id-length : length (with_id set_number s id) ≡ length s
  unfolding with_id
  id-length = tested (is_of_set set_number id) (λ t. ap length (pick_true _ _ _ t) ∙ with-length s (position_of id)) (λ f. ap length (pick-false _ _ _ f))

  id-octets : AllOctets s → AllOctets (with_id set_number s id)
  unfolding with_id
  id-octets o =
      tested (is_of_set set_number id)
      (λ t. subst AllOctets (sym (pick_true _ _ _ t)) (with-octets s (position_of id) o))
      (λ f. subst AllOctets (sym (pick-false _ _ _ f)) o)

  id-bit : length s ≡ 32 → (i : ℕ) → i < 256 → (bit_at (with_id set_number s id) i ≡ 1) ↔ (((is_of_set set_number id ≡ true) × (i ≡ 256 - position_of id)) ⊎ (bit_at s i ≡ 1))
  unfolding with_id
  id-bit sized i low =
      tested (is_of_set set_number id)
      (λ t.
      let w = with-bit s (position_of id) sized (position-least id) (position-most id) i low in
      let is : with_id set_number s id ≡ with_bit s (position_of id) = pick_true _ _ _ t in (
        λ e. ⊎_elim (λ q. inl (t, q)) (λ q. inr q) (w.0 (ap (λ (l : List ℕ). bit_at l i) (sym is) ∙ e)),
        λ x. ap (λ (l : List ℕ). bit_at l i) is ∙ w.1 (⊎_elim (λ q. inl q.1) (λ q. inr q) x),
      ))
      (λ f.
      let is : with_id set_number s id ≡ s = pick-false _ _ _ f in (
        λ e. inr (ap (λ (l : List ℕ). bit_at l i) (sym is) ∙ e),
        λ x. ap (λ (l : List ℕ). bit_at l i) is ∙ ⊎_elim (λ q. absurd (opposite q.0 f)) (λ q. q) x,
      ))

-- all of them
ids-length : (set_number : ℕ) (s ids : List ℕ) → length (with_ids set_number s ids) ≡ length s
unfolding with_ids
ids-length set_number s [] = refl
ids-length set_number s (id ∷ ids) = ids-length set_number (with_id set_number s id) ids ∙ id-length set_number s id

ids-octets : (set_number : ℕ) (s ids : List ℕ) → AllOctets s → AllOctets (with_ids set_number s ids)
unfolding with_ids
ids-octets set_number s [] o = o
ids-octets set_number s (id ∷ ids) o = ids-octets set_number (with_id set_number s id) ids (id-octets set_number s id o)

-- some BFR-id of the set among these has this bit
abbrev Has : (set_number : ℕ) (ids : List ℕ) (i : ℕ) → Type 0
Has set_number ids i = (id : ℕ) × Among id ids × (is_of_set set_number id ≡ true) × (i ≡ 256 - position_of id)

ids-there : (set_number : ℕ) (s ids : List ℕ) (i : ℕ) → length s ≡ 32 → i < 256 → bit_at (with_ids set_number s ids) i ≡ 1 → (bit_at s i ≡ 1) ⊎ Has set_number ids i
unfolding with_ids
ids-there set_number s [] i sized low e = inl e
ids-there set_number s (id ∷ ids) i sized low e =
    ⊎_elim
    (λ b. ⊎_elim (λ x. inr (id, first refl, x.0, x.1)) (λ x. inl x) ((id-bit set_number s id sized i low).0 b))
    (λ h. inr (h.0, later h.1, h.2, h.3))
    (ids-there set_number (with_id set_number s id) ids i (id-length set_number s id ∙ sized) low e)

ids-back : (set_number : ℕ) (s ids : List ℕ) (i : ℕ) → length s ≡ 32 → i < 256 → (bit_at s i ≡ 1) ⊎ Has set_number ids i → bit_at (with_ids set_number s ids) i ≡ 1
unfolding with_ids
ids-back set_number s [] i sized low x = ⊎_elim (λ b. b) (λ h. absurd (among_none h.1)) x
ids-back set_number s (id ∷ ids) i sized low x =
    ids-back set_number (with_id set_number s id) ids i (id-length set_number s id ∙ sized) low
    (⊎_elim
    (λ b. inl ((id-bit set_number s id sized i low).1 (inr b)))
    (λ h. ⊎_elim
    (λ e. inl ((id-bit set_number s id sized i low).1 (inl (subst (λ (y : ℕ). (is_of_set set_number y ≡ true) × (i ≡ 256 - position_of y)) e (h.2, h.3)))))
    (λ m. inr (h.0, m, h.2, h.3))
    (among_cases h.1))
    x)

zeros-length : length (zeros 32) ≡ 32
unfolding zeros
zeros-length = refl

zeros-octets : AllOctets (zeros 32)
unfolding zeros
zeros-octets = octets-zeros 32

zeros-clear : (i : ℕ) → bit_at (zeros 32) i ≡ 1 → ⊥
unfolding bit_at
zeros-clear i e =
    let z : get_or (zeros 32) (i / 8) 0 ≡ 0 = zero-at (zeros 32) (zeros-all 32) (i / 8) in
    let none : 0 / 2 ^ (7 - i % 8) ≡ 0 = omega (arith, shr_le 0 (7 - i % 8)) in
    let clear : (get_or (zeros 32) (i / 8) 0 / 2 ^ (7 - i % 8)) % 2 ≡ 0 = ap (λ (x : ℕ). (x / 2 ^ (7 - i % 8)) % 2) z ∙ ap (λ (x : ℕ). x % 2) none in
    omega arith

pub string-length : (set_number : ℕ) (ids : List ℕ) → length (string_of set_number ids) ≡ 32
unfolding string_of
string-length set_number ids = ids-length set_number (zeros 32) ids ∙ zeros-length

-- BFR-ids of which those that are not 0 are those that count
pub string-for : (Counting : ℕ → Type 0) (set_number : ℕ) (ids : List ℕ) → ((id : ℕ) → (Among id ids × (id ≢ 0)) ↔ Counting id) → StringFor Counting set_number (string_of set_number ids)
unfolding string_of position_of
string-for Counting set_number ids counts =
    record {
      size = string-length set_number ids;
      octets = ids-octets set_number (zeros 32) ids zeros-octets;
      bits = λ position least most.
          let low : 256 - position < 256 = omega arith in (
            λ e. ⊎_elim (λ b. absurd (zeros-clear (256 - position) b))
                (λ h.
                let o = (of-set set_number h.0).0 h.2 in
                let is : 256 - position ≡ 256 - ((h.0 - 1) % 256 + 1) = h.3 in
                (h.0, (counts h.0).0 (h.1, o.0), o.1, omega arith))
                (ids-there set_number (zeros 32) ids (256 - position) zeros-length low e),
            λ x.
                let c = (counts x.0).1 x.1 in
                let is : (x.0 - 1) % 256 + 1 ≡ position = x.3 in
                ids-back set_number (zeros 32) ids (256 - position) zeros-length low (inr (x.0, c.0, (of-set set_number x.0).1 (c.1, x.2), omega arith)),
          );
    }

-- octets with the same bits are the same
bit-alike : (a b : ℕ) → a ≤ 1 → b ≤ 1 → (a ≡ 1 → b ≡ 1) → (b ≡ 1 → a ≡ 1) → a ≡ b
bit-alike a b la lb f g = tested (eqb a 1) (λ t. eqb-true a 1 t ∙ sym (f (eqb-true a 1 t))) (λ n. let o : a ≡ 1 → ⊥ = eqb-false a 1 n in let p : b ≡ 1 → ⊥ = λ e. o (g e) in omega arith)

module _ (s t : List ℕ) (os : AllOctets s) (ot : AllOctets t) (same : (i : ℕ) → i < 256 → bit_at s i ≡ bit_at t i) where
  octet-alike : (k : ℕ) → k < 32 → get_or s k 0 ≡ get_or t k 0
  octet-alike k low =
      bit_rule.octet s k os
      ∙ rw (
        same (8 * k) (omega arith),
        same (8 * k + 1) (omega arith),
        same (8 * k + 2) (omega arith),
        same (8 * k + 3) (omega arith),
        same (8 * k + 4) (omega arith),
        same (8 * k + 5) (omega arith),
        same (8 * k + 6) (omega arith),
        same (8 * k + 7) (omega arith),
      )
      (sym (bit_rule.octet t k ot))

pub only : (Counting : ℕ → Type 0) (set_number : ℕ) (s t : List ℕ) → StringFor Counting set_number s → StringFor Counting set_number t → s ≡ t
only Counting set_number s t a b =
    ext_get_or 0 s t (a.size ∙ sym b.size) (λ k low. octet-alike s t a.octets b.octets same k (omega (arith, a.size)))
  where
    same : (i : ℕ) → i < 256 → bit_at s i ≡ bit_at t i
    same i low =
        let is : 256 - (256 - i) ≡ i = omega arith in
        let x = a.bits (256 - i) (omega arith) (omega arith) in
        let y = b.bits (256 - i) (omega arith) (omega arith) in
        rw is at (bit-alike (bit_at_position s (256 - i)) (bit_at_position t (256 - i)) (bit_rule.bit s _) (bit_rule.bit t _) (λ e. y.1 (x.0 e)) (λ e. x.1 (y.0 e)))

pub positions : (string : List ℕ) (k : ℕ) → AllOctets string → k ≤ 31
    → get_or string (31 - k) 0
    ≡ 128 * bit_at_position string (8 * k + 8) + 64 * bit_at_position string (8 * k + 7) + 32 * bit_at_position string (8 * k + 6) + 16 * bit_at_position string (8 * k + 5)
    + 8 * bit_at_position string (8 * k + 4) + 4 * bit_at_position string (8 * k + 3) + 2 * bit_at_position string (8 * k + 2) + bit_at_position string (8 * k + 1)
positions string k o h =
    let first : 8 * (31 - k) ≡ 256 - (8 * k + 8) = omega arith in
    bit_rule.octet string (31 - k) o
    ∙ ap₂ ◌+◌ (ap₂ ◌+◌ (ap₂ ◌+◌ (ap₂ ◌+◌ (ap₂ ◌+◌ (ap₂ ◌+◌ (ap₂ ◌+◌ (bit 128 first) (bit 64 (stands 1 7 refl))) (bit 32 (stands 2 6 refl))) (bit 16 (stands 3 5 refl))) (bit 8 (stands 4 4 refl))) (bit 4 (stands 5 3 refl))) (bit 2 (stands 6 2 refl))) (ap (bit_at string) (stands 7 1 refl))
  where
    stands : (j m : ℕ) → j + m ≡ 8 → 8 * (31 - k) + j ≡ 256 - (8 * k + m)
    stands j m e = omega arith

    bit : (n : ℕ) {x y : ℕ} → x ≡ y → n * bit_at string x ≡ n * bit_at string y
    bit n p = ap (λ (z : ℕ). n * bit_at string z) p
