-- How a walk, and the NLRIs that it reads, go on by a step.
use mathlib.Core.Path.{◌≡◌, sym, ◌∙◌, ap}
use mathlib.Core.List.{List, [], ◌∷◌}
use Prim.Native.Nat.{ℕ, zero, suc, ◌+◌, ◌-◌, ◌≤◌}
use native.Mathlib.Omega.{arith}
use lib.ListN.{length, get_or, drop}
use lib.Seq.{get_or-take}
use Rattle.octets.specs.Choice.{pick}
use Rattle.octets.specs.Octets.{part}
use Rattle.octets.proofs.Choice.{pick_true, pick-false, tested}
use Rattle.nlri.specs.declared.layout.Layout.{Layout}
use Rattle.nlri.proofs.Functions.Fronts.{layout-octets}
use Rattle.runs.specs.Walking.{StepTaken, read_to, step_from, walked_to, walk_from, nlris_from}
use Rattle.runs.proofs.Steps.{Stops, reads-step_from}

module _ (left afi : ℕ) (run : List ℕ) (at : ℕ) where
  pub walk_from-stops : (count n : ℕ) → Stops (step_from afi run at) n → walk_from (suc left) afi run at count ≡ walked_to n count at
  unfolding walk_from
  walk_from-stops count n s = pick-false _ _ _ s.unread ∙ ap (λ (m : ℕ). walked_to m count at) s.numbered

  pub nlris_from-reads : (l : Layout) (c : ℕ) → step_from afi run at ≡ read_to l c → nlris_from (suc left) afi run at ≡ record { offset = at; octets = part run at (c - at) } ∷ nlris_from left afi run c
  unfolding nlris_from read_to
  nlris_from-reads l c e =
      pick_true _ _ _ (ap (λ (s : StepTaken). s.read) e)
      ∙ ap (λ (s : StepTaken). record { offset = at; octets = part run at (s.cursor - at) } ∷ nlris_from left afi run s.cursor) e

  pub nlris_from-stops : (n : ℕ) → Stops (step_from afi run at) n → nlris_from (suc left) afi run at ≡ []
  unfolding nlris_from
  nlris_from-stops n s = pick-false _ _ _ s.unread

-- the walk counts what it reads
pub length-nlris_from : (left afi : ℕ) (run : List ℕ) (at count : ℕ) → (walk_from left afi run at count).count ≡ count + length (nlris_from left afi run at)
unfolding walk_from nlris_from pick
length-nlris_from zero afi run at count = omega arith
length-nlris_from (suc left) afi run at count =
    let later = length-nlris_from left afi run (step_from afi run at).cursor (count + 1) in
    tested (step_from afi run at).read (λ t. rw t (omega arith)) (λ f. rw f (omega arith))

-- an NLRI that is read begins with its type and Length
pub read-header : (afi : ℕ) (run : List ℕ) (at : ℕ) (l : Layout) (c : ℕ) → step_from afi run at ≡ read_to l c → (get_or (part run at (c - at)) 0 0 ≡ l.route_type) × (get_or (part run at (c - at)) 1 0 ≡ l.length)
unfolding part read_to
read-header afi run at l c e =
    let r = reads-step_from afi run at (ap (λ (s : StepTaken). s.read) e) in
    let same : (step_from afi run at).layout ≡ l = ap (λ (s : StepTaken). s.layout) e in
    let past : (step_from afi run at).cursor ≡ c = ap (λ (s : StepTaken). s.cursor) e in
    let o = layout-octets r.bits (drop at run) (step_from afi run at).layout r.is in
    let two : 2 ≤ c - at = omega (arith, r.cursor) in (
      get_or-take (c - at) (drop at run) 0 0 (omega arith) ∙ sym o.2 ∙ ap (λ (x : Layout). x.route_type) same,
      get_or-take (c - at) (drop at run) 1 0 (omega arith) ∙ sym o.3 ∙ ap (λ (x : Layout). x.length) same,
    )
