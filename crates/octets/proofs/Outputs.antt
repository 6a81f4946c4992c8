-- Laws of `Put` and `Wrote`.
use Prim.Native.Nat.{ℕ, ◌+◌, ◌≤◌}
use mathlib.Core.Path.{◌≡◌, refl, sym, ap, subst, ◌∙◌}
use mathlib.Core.Bool.{Bool, true, false}
use mathlib.Core.List.{List, [], ◌++◌}
use native.Mathlib.Nat.{add-zero, add_assoc}
use native.Mathlib.Omega.{arith}
use lib.ListN.{length, take, drop, length-append, take-append-drop}
use Rattle.octets.specs.declared.Written.{Written}
use Rattle.octets.specs.Numbers.{DONE}
use Rattle.octets.specs.Choice.{pick}
use Rattle.octets.specs.Outcome.{Outcome, given, refused, on_outcome, number_of}
use Rattle.octets.specs.Octets.{placed}
use Rattle.octets.specs.Outputs.{written_of, output_of, Put, Wrote}
use Rattle.octets.proofs.Choice.{pick_true, pick-false}
use Rattle.octets.proofs.Lists.{length-placed, placed-then, front-is-placed}

pub put-none : (at : ℕ) (d : List ℕ) → Put at [] d at d
unfolding placed
put-none at d = (sym (add-zero at), sym (ap (λ (n : ℕ). take at d ++ drop n d) (add-zero at) ∙ take-append-drop at d))

pub put_as : (at : ℕ) (e e' d : List ℕ) (next : ℕ) (y : List ℕ) → e ≡ e' → Put at e d next y → Put at e' d next y
put_as at e e' d next y q p = subst (λ (x : List ℕ). Put at x d next y) q p

pub length-put : (at : ℕ) (e d : List ℕ) (next : ℕ) (y : List ℕ) → at + length e ≤ length d → Put at e d next y → length y ≡ length d
length-put at e d next y h p = ap length p.1 ∙ length-placed at e d h

-- two puts, one straight after the other: the room for each, and that they are one
module _ (at : ℕ) (e f d : List ℕ) (fits : at + length (e ++ f) ≤ length d) where
  pub room-first : at + length e ≤ length d
  room-first = omega (arith, length-append e f)

  module _ (next : ℕ) (y : List ℕ) (p : Put at e d next y) where
    pub room_next : next + length f ≤ length y
    room_next = omega (arith, length-append e f, length-put at e d next y room-first p)

    pub put_then : (last : ℕ) (z : List ℕ) → Put next f y last z → Put at (e ++ f) d last z
    put_then last z q = (
      q.0 ∙ ap (λ (n : ℕ). n + length f) p.0 ∙ add_assoc at (length e) (length f) ∙ ap (λ (n : ℕ). at + n) (sym (length-append e f)),
      placed-then at next e f d y z (omega (arith, length-append e f)) p.0 p.1 q.1,
    )

-- the same for three
module _ (at : ℕ) (e f g d : List ℕ) (fits : at + length (e ++ (f ++ g)) ≤ length d) (next : ℕ) (y : List ℕ) (p : Put at e d next y) where
  rest-fits : next + length (f ++ g) ≤ length y
  rest-fits = room_next at e (f ++ g) d fits next y p

  pub room-second : next + length f ≤ length y
  room-second = room-first next f g y rest-fits

  module _ (third : ℕ) (z : List ℕ) (q : Put next f y third z) where
    pub room-third : third + length g ≤ length z
    room-third = room_next next f g y rest-fits third z q

    pub put_three : (last : ℕ) (x : List ℕ) → Put third g z last x → Put at (e ++ (f ++ g)) d last x
    put_three last x r = put_then at e (f ++ g) d fits next y p last x (put_then next f g y rest-fits third z q last x r)

-- a put of one of two, by the test that tells which
module _ (at : ℕ) (b : Bool) (e f d : List ℕ) where
  pub room-picks : b ≡ true → at + length (pick b e f) ≤ length d → at + length e ≤ length d
  room-picks h fits = rw (pick_true b e f h) at fits

  pub room-skips : b ≡ false → at + length (pick b e f) ≤ length d → at + length f ≤ length d
  room-skips h fits = rw (pick-false b e f h) at fits

  pub put-picks : (next : ℕ) (y : List ℕ) → b ≡ true → Put at e d next y → Put at (pick b e f) d next y
  put-picks next y h p = put_as at e (pick b e f) d next y (sym (pick_true b e f h)) p

  pub put-skips : (next : ℕ) (y : List ℕ) → b ≡ false → Put at f d next y → Put at (pick b e f) d next y
  put-skips next y h p = put_as at f (pick b e f) d next y (sym (pick-false b e f h)) p

-- an outcome that is another's
pub wrote_as : (o o' : Outcome (List ℕ)) (d : List ℕ) (r : Written) (y : List ℕ) → o ≡ o' → Wrote o d r y → Wrote o' d r y
wrote_as o o' d r y e w = subst (λ (x : Outcome (List ℕ)). Wrote x d r y) e w

-- a refusal leaves the output
pub wrote-refused : (n : ℕ) (o : Outcome (List ℕ)) (d : List ℕ) (r : Written) → refused n ≡ o → r ≡ written_of (refused n) → Wrote o d r d
unfolding output_of on_outcome
wrote-refused n o d r e p = wrote_as (refused n) o d r d e (p, refl)

-- a put at the front
pub wrote-put : (e d : List ℕ) (size next : ℕ) (y : List ℕ) → size ≡ length e → Put 0 e d next y → Wrote (given e) d (record { number = DONE; size = size }) y
unfolding written_of output_of number_of on_outcome
wrote-put e d size next y s p = ((λ i. record { number = DONE; size = s i }), p.1 ∙ sym (front-is-placed e d))
