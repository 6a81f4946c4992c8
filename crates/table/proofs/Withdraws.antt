-- What withdraw answers and leaves, case by case.
use Prim.Native.Nat.{ℕ}
use mathlib.Core.Path.{◌≡◌, sym, ap, ap₂, ◌∙◌}
use mathlib.Core.Bool.{true, false}
use mathlib.Core.List.{List}
use lib.ListN.{drop}
use Rattle.octets.specs.Numbers.{DONE, TABLE, ABSENT}
use Rattle.octets.specs.Outcome.{given, refused, on_outcome, and_then, number_of}
use Rattle.octets.specs.Octets.{AllOctets}
use Rattle.octets.proofs.Choice.{pick_true, pick-false}
use Rattle.octets.proofs.Outcome.{refused-of}
use Rattle.routes.specs.Route.{removed}
use Rattle.routes.specs.Arguments.{read_s_pmsi}
use Rattle.routes.specs.Table.{afi_in, count_in, places_in, routes_of, image_of, sound_of}
use Rattle.routes.specs.Calls.{leaving, withdraw_outcome, withdraw_of}
use Rattle.routes.proofs.Statements.Images.{length-routes, sound-holdable, sound-image}
use Rattle.octets.specs.Outputs.{Leaves}
use Rattle.changes.specs.Changing.{rank, first_is, taken_at}
use Rattle.places.proofs.Sounds.{s-pmsi-fault-none}
use Rattle.changes.proofs.Finds.{held_by}
use Rattle.changes.proofs.Changes.{image-left}

refuses : (t n : List ℕ) (m : ℕ) → withdraw_outcome t n ≡ refused m → Leaves (withdraw_of t n) m t
unfolding withdraw_of on_outcome number_of
refuses t n m e = (rw e, rw e)

pub withdraw-unsound : (t n : List ℕ) → sound_of t ≡ false → Leaves (withdraw_of t n) TABLE t
unfolding withdraw_outcome
withdraw-unsound t n h = refuses t n TABLE (pick-false _ _ _ h)

pub withdraw-faulty : (t n : List ℕ) (m : ℕ) → sound_of t ≡ true → m ≡ number_of (read_s_pmsi (afi_in t) n) → (m ≡ DONE → ⊥) → Leaves (withdraw_of t n) m t
unfolding withdraw_outcome and_then
withdraw-faulty t n m h e d = refuses t n m (pick_true _ _ _ h ∙ rw (refused-of (read_s_pmsi (afi_in t) n) m e d))

outcome-leaves : (t n : List ℕ) → sound_of t ≡ true → number_of (read_s_pmsi (afi_in t) n) ≡ DONE → withdraw_outcome t n ≡ leaving (routes_of t) n
unfolding withdraw_outcome and_then
outcome-leaves t n h e = pick_true _ _ _ h ∙ rw (s-pmsi-fault-none (afi_in t) n e).1

pub withdraw-absent : (t n : List ℕ) (k : ℕ) → sound_of t ≡ true → number_of (read_s_pmsi (afi_in t) n) ≡ DONE → k ≡ rank n (routes_of t)
    → first_is n (drop k (routes_of t)) ≡ false → Leaves (withdraw_of t n) ABSENT t
unfolding leaving
withdraw-absent t n k h e r f = refuses t n ABSENT (outcome-leaves t n h e ∙ pick-false _ _ _ (held_by t n k false h r f))

pub withdraw-takes : (t n u : List ℕ) (k : ℕ) → AllOctets t → sound_of t ≡ true → number_of (read_s_pmsi (afi_in t) n) ≡ DONE → k ≡ rank n (routes_of t)
    → first_is n (drop k (routes_of t)) ≡ true → u ≡ taken_at k (count_in t) t → Leaves (withdraw_of t n) DONE u
unfolding leaving withdraw_of on_outcome number_of
withdraw-takes t n u k o h e r f q =
    let here : first_is n (drop (rank n (routes_of t)) (routes_of t)) ≡ true = ap (λ (i : ℕ). first_is n (drop i (routes_of t))) (sym r) ∙ f in
    let out : withdraw_outcome t n ≡ given n = outcome-leaves t n h e ∙ pick_true _ _ _ (held_by t n k true h r f) in
    let image : u ≡ image_of (afi_in t) (places_in t) (removed n (routes_of t)) =
    q ∙ ap (λ (i : ℕ). taken_at i (count_in t) t) r
    ∙ ap₂ (λ (c : ℕ) (l : List ℕ). taken_at (rank n (routes_of t)) c l) (sym (length-routes t)) (sound-image t o h)
    ∙ image-left (afi_in t) (places_in t) (routes_of t) n (sound-holdable t h) here in
    (rw out, rw out image)
