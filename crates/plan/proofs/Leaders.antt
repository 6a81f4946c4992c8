-- The functions that find the commonest attribute.
use Prim.Native.Nat.{ℕ, ◌+◌, ◌≤◌, ◌<◌}
use mathlib.Core.Path.{◌≡◌, refl, sym, ◌∙◌, ap, ap₂}
use mathlib.Core.Bool.{Bool, true, false}
use mathlib.Core.List.{List, [], ◌∷◌}
use native.Mathlib.Omega.{arith}
use lib.ListN.{length}
use borrow.Author.Tests.{lt-ltb, le-ltb}
use Rattle.octets.specs.Choice.{pick}
use Rattle.octets.specs.Order.{same}
use Rattle.octets.proofs.Choice.{tested, pick_true, pick-false}
use Rattle.plan.specs.Flows.{ListedFlow, is_listed, different}
use Rattle.plan.specs.Commonest.{wanting, is_wanted, leading, commonest}

-- so many flows are counted, and those left are few
pub record Counting (a : List ℕ) (all : List ListedFlow) (count : ℕ) (rest : List ListedFlow) : Type 0 where
  pub counted : wanting a (different all) ≡ count + wanting a (different rest)
  pub few : count + length rest ≤ 64

pub counting-first : (a : List ℕ) (all : List ListedFlow) → length all ≤ 64 → Counting a all 0 all
counting-first a all few = record { counted = omega arith; few = omega arith }

module _ {a : List ℕ} {all rest behind : List ListedFlow} {count : ℕ} {f : ListedFlow} (c : Counting a all count rest) (step : rest ≡ f ∷ behind) (wants : Bool) (told : wants ≡ same f.wanted a) where
  pub counting-other : wants ≡ false → Counting a all count behind
  unfolding different wanting pick
  counting-other h =
      let off : same f.wanted a ≡ false = sym told ∙ h in
      let same_count : wanting a (different (f ∷ behind)) ≡ wanting a (different behind) = tested (is_listed f behind) (λ t. rw t refl) (λ n. rw (n, off) refl) in
      record { counted = c.counted ∙ ap (λ (xs : List ListedFlow). count + wanting a (different xs)) step ∙ ap (λ (n : ℕ). count + n) same_count; few = omega (arith, c.few, ap length step) }

  module _ (has : Bool) (again : List ListedFlow) (told_again : has ≡ is_listed f again) (same_ones : again ≡ behind) where
    is : has ≡ is_listed f behind
    is = told_again ∙ ap (is_listed f) same_ones

    pub counting-again : has ≡ true → Counting a all count behind
    unfolding different
    counting-again h =
        record {
          counted = c.counted ∙ ap (λ (xs : List ListedFlow). count + wanting a (different xs)) step ∙ ap (λ (xs : List ListedFlow). count + wanting a xs) (pick_true _ _ _ (sym is ∙ h));
          few = omega (arith, c.few, ap length step);
        }

    pub counting-one : wants ≡ true → has ≡ false → Counting a all (count + 1) behind
    unfolding different wanting pick
    counting-one h n =
        let on : same f.wanted a ≡ true = sym told ∙ h in
        let more : wanting a (different (f ∷ behind)) ≡ 1 + wanting a (different behind) = rw (sym is ∙ n, on) (omega arith) in
        record {
          counted = omega (arith, c.counted, ap (λ (xs : List ListedFlow). wanting a (different xs)) step, more);
          few = omega (arith, c.few, ap length step);
        }

pub counting-last : {a : List ℕ} {all rest : List ListedFlow} {count : ℕ} → Counting a all count rest → rest ≡ [] → count ≡ wanting a (different all)
unfolding different wanting
counting-last {a} c end = omega (arith, c.counted, ap (λ (xs : List ListedFlow). wanting a (different xs)) end)

-- the leader, by the next flow
module _ (all behind : List ListedFlow) (w : List ℕ) (n : ℕ) (f : ListedFlow) (x : List ℕ) (of : x ≡ f.wanted) (wanted : Bool) (again : List ListedFlow) (told : wanted ≡ is_wanted x again) (same_ones : again ≡ behind) where
  seen : wanted ≡ is_wanted f.wanted behind
  seen = told ∙ ap₂ is_wanted of same_ones

  pub led-later : wanted ≡ true → leading all w n (f ∷ behind) ≡ leading all w n behind
  unfolding leading
  led-later h = pick_true _ _ _ (sym seen ∙ h)

  module _ (off : wanted ≡ false) (count : ℕ) (is : count ≡ wanting x all) where
    counts : count ≡ wanting f.wanted all
    counts = is ∙ ap (λ (s : List ℕ). wanting s all) of

    pub led-now : n < count → leading all w n (f ∷ behind) ≡ leading all x count behind
    unfolding leading
    led-now h =
        let l : n < wanting f.wanted all = omega (arith, h, counts) in
        rw (of, counts) (pick-false _ _ _ (sym seen ∙ off) ∙ pick_true _ _ _ (lt-ltb _ _ l))

    pub led-still : count ≤ n → leading all w n (f ∷ behind) ≡ leading all w n behind
    unfolding leading
    led-still h =
        let l : wanting f.wanted all ≤ n = omega (arith, h, counts) in
        pick-false _ _ _ (sym seen ∙ off) ∙ pick-false _ _ _ (le-ltb _ _ l)

-- the leader of all flows
pub leading-first : (flows rest behind : List ListedFlow) (f : ListedFlow) (w : List ℕ) → flows ≡ f ∷ behind → w ≡ f.wanted → rest ≡ flows → commonest flows ≡ leading (different flows) w 0 rest
unfolding commonest
leading-first flows rest behind f w is of again = rw (again, of, is) refl

pub leading-none : (flows : List ListedFlow) → flows ≡ [] → [] ≡ commonest flows
unfolding commonest
leading-none flows is = rw is refl

pub leading-next : {most : List ℕ} (all rest behind : List ListedFlow) (w x : List ℕ) (n m : ℕ) (f : ListedFlow) → most ≡ leading all w n rest → rest ≡ f ∷ behind → leading all w n (f ∷ behind) ≡ leading all x m behind → most ≡ leading all x m behind
leading-next all rest behind w x n m f e is step = e ∙ ap (leading all w n) is ∙ step

pub leading-last : {most : List ℕ} (all rest : List ListedFlow) (w : List ℕ) (n : ℕ) → most ≡ leading all w n rest → rest ≡ [] → w ≡ most
unfolding leading
leading-last all rest w n e is = sym (e ∙ ap (leading all w n) is)
