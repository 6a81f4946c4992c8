-- Loops over proposed places.
use Prim.Native.Nat.{ℕ, zero, suc, ◌/◌, ◌≤◌, ◌<◌}
use mathlib.Core.Path.{◌≡◌, refl, sym, ◌∙◌, ap, ap₂, subst}
use mathlib.Core.Bool.{Bool, true, false}
use mathlib.Core.List.{List, [], ◌∷◌, ◌++◌}
use native.Mathlib.Omega.{arith}
use lib.ListN.{length, length-append, take, drop}
use Rattle.std.proofs.Math.Seq.{take-append_seam, drop-append_seam}
use Rattle.std.proofs.lemmas.List.{take-append-drop}
use Rattle.octets.specs.Choice.{pick, both}
use Rattle.octets.specs.Order.{same}
use Rattle.octets.proofs.Choice.{pick_true, pick-false, both_left, both-last}
use Rattle.routes.specs.Route.{Route, nlri_of, is_held, lookup, holds}
use Rattle.routes.specs.Place.{end_in, route_in}
use Rattle.routes.specs.Table.{routes_from}
use Rattle.plan.specs.Judging.{no_repeat}
use Rattle.plan.specs.Inner.{own_good_place, good_places, EachEnds}

front : (x t : List ℕ) → length x ≡ 128 → take 128 (x ++ t) ≡ x
front x t sized = ap (λ (n : ℕ). take n (x ++ t)) (sym sized) ∙ take-append_seam x t

behind : (x t : List ℕ) → length x ≡ 128 → drop 128 (x ++ t) ≡ t
behind x t sized = ap (λ (n : ℕ). drop n (x ++ t)) (sym sized) ∙ drop-append_seam x t

pub split-is : (s x t : List ℕ) → x ≡ take 128 s → t ≡ drop 128 s → s ≡ x ++ t
split-is s x t e f = rw (e, f) (sym (take-append-drop 128 s))

-- the routes of all whole places, and that each ends within its place
abbrev pub routes_of : List ℕ → List Route
routes_of s = routes_from (length s / 128) s

abbrev pub Ends : List ℕ → Type 0
Ends s = EachEnds (length s / 128) s

-- a whole place off the front
module _ (s x t : List ℕ) (is : s ≡ x ++ t) (sized : length x ≡ 128) where
  more : length s / 128 ≡ suc (length t / 128)
  more = omega (arith, ap length is, length-append x t, sized)

  routes-more : routes_of s ≡ route_in x ∷ routes_of t
  unfolding routes_from
  routes-more = ap₂ routes_from more is ∙ ap₂ (λ (u v : List ℕ). route_in u ∷ routes_from (length t / 128) v) (front x t sized) (behind x t sized)

  ends-more : Ends s → (end_in x ≤ 128) × Ends t
  unfolding EachEnds
  ends-more e =
      let h : EachEnds (suc (length t / 128)) (x ++ t) = subst (λ (u : List ℕ). EachEnds (suc (length t / 128)) u) is (subst (λ (n : ℕ). EachEnds n s) more e) in
      (subst (λ (u : List ℕ). end_in u ≤ 128) (front x t sized) h.0, subst (EachEnds (length t / 128)) (behind x t sized) h.1)

  good-more : (afi : ℕ) (o d : List ℕ) → good_places afi o d (length s / 128) s ≡ both (own_good_place afi o d x) (good_places afi o d (length t / 128) t)
  unfolding good_places
  good-more afi o d =
      ap₂ (good_places afi o d) more is ∙ ap₂ (λ (u v : List ℕ). both (own_good_place afi o d u) (good_places afi o d (length t / 128) v)) (front x t sized) (behind x t sized)

  pub place-ends : Ends s → end_in x ≤ length x
  place-ends e = omega (arith, (ends-more e).0, sized)

  pub ends-next : Ends s → Ends t
  ends-next e = (ends-more e).1

  -- each place is good
  module _ {all : Bool} (afi : ℕ) (o d : List ℕ) (so_far : all ≡ good_places afi o d (length s / 128) s) (good : Bool) (told : good ≡ own_good_place afi o d x) where
    pub good-stop : good ≡ false → false ≡ all
    good-stop h = sym (so_far ∙ good-more afi o d ∙ both_left _ _ (sym told ∙ h))

    pub good-next : good ≡ true → all ≡ good_places afi o d (length t / 128) t
    good-next h = so_far ∙ good-more afi o d ∙ sym (both-last _ _ _ (sym told ∙ h) refl)

  -- an NLRI is that of one of the routes
  module _ {all : Bool} (nlri : List ℕ) (so_far : all ≡ holds nlri (routes_of s)) (flag : Bool) (y : List ℕ) (told : flag ≡ same nlri y) (of : y ≡ nlri_of (route_in x)) where
    here : flag ≡ same nlri (nlri_of (route_in x))
    here = told ∙ ap (same nlri) of

    pub held-found : flag ≡ true → true ≡ all
    unfolding holds lookup is_held pick
    held-found h =
        let on : same nlri (nlri_of (route_in x)) ≡ true = sym here ∙ h in
        let found : holds nlri (route_in x ∷ routes_of t) ≡ true = rw on refl in
        sym (so_far ∙ ap (holds nlri) routes-more ∙ found)

    pub held-next : flag ≡ false → all ≡ holds nlri (routes_of t)
    unfolding holds lookup pick
    held-next h =
        let off : same nlri (nlri_of (route_in x)) ≡ false = sym here ∙ h in
        let later_ones : holds nlri (route_in x ∷ routes_of t) ≡ holds nlri (routes_of t) = rw off refl in
        so_far ∙ ap (holds nlri) routes-more ∙ later_ones

  -- no NLRI repeats
  module _ {all : Bool} (so_far : all ≡ no_repeat (routes_of s)) (held : Bool) (nlri : List ℕ) (told : held ≡ holds nlri (routes_of t)) (of : nlri ≡ nlri_of (route_in x)) where
    once_more : all ≡ pick held false (no_repeat (routes_of t))
    unfolding no_repeat
    once_more = so_far ∙ ap no_repeat routes-more ∙ ap (λ (b : Bool). pick b false (no_repeat (routes_of t))) (sym (told ∙ ap (λ (n : List ℕ). holds n (routes_of t)) of))

    pub once-stop : held ≡ true → false ≡ all
    once-stop h = sym (once_more ∙ pick_true _ _ _ h)

    pub once-next : held ≡ false → all ≡ no_repeat (routes_of t)
    once-next h = once_more ∙ pick-false _ _ _ h

pub below : {n most size : ℕ} → size ≡ most → n < size → n < most
below e h = omega (arith, e, h)

-- less than a place
module _ (s : List ℕ) (few : length s < 128) where
  none : length s / 128 ≡ zero
  none = omega arith

  routes-none : routes_of s ≡ []
  unfolding routes_from
  routes-none = ap (λ (n : ℕ). routes_from n s) none

  pub good-end : {all : Bool} (afi : ℕ) (o d : List ℕ) → all ≡ good_places afi o d (length s / 128) s → true ≡ all
  unfolding good_places
  good-end afi o d e = sym (e ∙ ap (λ (n : ℕ). good_places afi o d n s) none)

  pub held-end : {all : Bool} (nlri : List ℕ) → all ≡ holds nlri (routes_of s) → false ≡ all
  unfolding holds lookup is_held
  held-end nlri e = sym (e ∙ ap (holds nlri) routes-none)

  pub once-end : {all : Bool} → all ≡ no_repeat (routes_of s) → true ≡ all
  unfolding no_repeat
  once-end e = sym (e ∙ ap no_repeat routes-none)
