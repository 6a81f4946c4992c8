-- What install answers and leaves, case by case.
use Prim.Native.Nat.{ℕ, ◌+◌, ◌≤◌, ◌<◌}
use mathlib.Core.Path.{◌≡◌, sym, ap, ap₂, ◌∙◌}
use mathlib.Core.Bool.{true, false}
use mathlib.Core.List.{List}
use native.Mathlib.Omega.{arith}
use borrow.Author.Tests.{lt-ltb, le-ltb}
use lib.ListN.{length, drop}
use Rattle.octets.specs.Numbers.{DONE, TABLE, ROOM}
use Rattle.octets.specs.Outcome.{given, refused, on_outcome, and_then, number_of}
use Rattle.octets.specs.Octets.{AllOctets}
use Rattle.octets.proofs.Choice.{pick_true, pick-false}
use Rattle.octets.proofs.Outcome.{refused-of}
use Rattle.routes.specs.Route.{route, nlri_of, attribute_of, inserted}
use Rattle.routes.specs.Arguments.{read_route}
use Rattle.routes.specs.Place.{place_of}
use Rattle.routes.specs.Table.{afi_in, count_in, places_in, routes_of, image_of, sound_of}
use Rattle.octets.specs.Outputs.{Changed, Leaves}
use Rattle.std.specs.Prelude.{Result, Ok, Err, IsErrAnd}
use Rattle.octets.specs.declared.refusal.Refusal.{Refusal}
use Rattle.octets.specs.Refusals.{refusal_number}
use Rattle.routes.specs.declared.Installation.{Installation}
use Rattle.routes.specs.Answers.{NEW, REPLACED, refused_install, done_install, installed_of, installed_by}
use Rattle.routes.specs.Calls.{entering, install_outcome, install_of}
use Rattle.routes.proofs.Definitions.Bounds.{read-acceptable, sizes-of}
use Rattle.routes.proofs.Statements.Images.{length-routes, sound-holdable, sound-image}
use Rattle.routes.proofs.Definitions.Places.{length-place}
use Rattle.changes.specs.Changing.{rank, first_is, replaced_at, added_at}
use Rattle.places.proofs.Sounds.{route-fault-none}
use Rattle.changes.proofs.Finds.{held_by}
use Rattle.changes.proofs.Changes.{image-entered-held, entered-new}

-- an answer that is the one that a call is known to leave
pub leaves-as : {A : Type 0} {due : Changed A} {r s : A} {u : List ℕ} → r ≡ s → Leaves due s u → Leaves due r u
leaves-as e l = (e ∙ l.0, l.1)

-- an install's result by `?`
pub passed_on-install : (done : Result Installation Refusal) (r : Refusal) → IsErrAnd done (λ x. x ≡ r) → installed_by done ≡ refused_install (refusal_number r)
passed_on-install (Ok a) r h = absurd h
passed_on-install (Err x) r h = ap (λ (y : Refusal). refused_install (refusal_number y)) h

refuses : (t n a : List ℕ) (m : ℕ) → install_outcome t n a ≡ refused m → Leaves (install_of t n a) (refused_install m) t
unfolding install_of installed_of on_outcome
refuses t n a m e = (rw e, rw e)

does : (t n a u : List ℕ) (o : ℕ) → install_outcome t n a ≡ given o → u ≡ image_of (afi_in t) (places_in t) (inserted (route n a) (routes_of t))
    → Leaves (install_of t n a) (done_install o) u
unfolding install_of installed_of on_outcome
does t n a u o e f = (rw e, rw e f)

pub install-unsound : (t n a : List ℕ) → sound_of t ≡ false → Leaves (install_of t n a) (refused_install TABLE) t
unfolding install_outcome
install-unsound t n a h = refuses t n a TABLE (pick-false _ _ _ h)

pub install-faulty : (t n a : List ℕ) (m : ℕ) → sound_of t ≡ true → m ≡ number_of (read_route (afi_in t) n a) → (m ≡ DONE → ⊥) → Leaves (install_of t n a) (refused_install m) t
unfolding install_outcome and_then
install-faulty t n a m h e d = refuses t n a m (pick_true _ _ _ h ∙ rw (refused-of (read_route (afi_in t) n a) m e d))

-- a route that is acceptable fits a place
pub route-fits : (afi : ℕ) (n a : List ℕ) → number_of (read_route afi n a) ≡ DONE → length n + length a ≤ 125
unfolding nlri_of attribute_of
route-fits afi n a e =
    let s = sizes-of afi (route n a) (read-acceptable afi (route n a) (route n a) (route-fault-none afi n a e)) in
    omega (arith, s.nlri, s.attribute)

fits-place : (afi : ℕ) (n a : List ℕ) → number_of (read_route afi n a) ≡ DONE → length (place_of (route n a)) ≡ 128
unfolding nlri_of attribute_of
fits-place afi n a e = length-place (route n a) (route-fits afi n a e)

outcome-enters : (t n a : List ℕ) → sound_of t ≡ true → number_of (read_route (afi_in t) n a) ≡ DONE → install_outcome t n a ≡ entering (places_in t) (routes_of t) (route n a)
unfolding install_outcome and_then
outcome-enters t n a h e = pick_true _ _ _ h ∙ rw (route-fault-none (afi_in t) n a e)

pub install-replaces : (t n a u : List ℕ) (k : ℕ) → AllOctets t → sound_of t ≡ true → number_of (read_route (afi_in t) n a) ≡ DONE → k ≡ rank n (routes_of t)
    → first_is n (drop k (routes_of t)) ≡ true → u ≡ replaced_at k (place_of (route n a)) t → Leaves (install_of t n a) (done_install REPLACED) u
unfolding entering nlri_of
install-replaces t n a u k o h e r f q =
    let here : first_is n (drop (rank n (routes_of t)) (routes_of t)) ≡ true = ap (λ (i : ℕ). first_is n (drop i (routes_of t))) (sym r) ∙ f in
    does t n a u REPLACED (outcome-enters t n a h e ∙ pick_true _ _ _ (held_by t n k true h r f))
    (q ∙ ap₂ (λ (i : ℕ) (l : List ℕ). replaced_at i (place_of (route n a)) l) r (sound-image t o h)
    ∙ image-entered-held (afi_in t) (places_in t) (routes_of t) (route n a) (sound-holdable t h) (fits-place (afi_in t) n a e) here)

pub install-full : (t n a : List ℕ) (k : ℕ) → sound_of t ≡ true → number_of (read_route (afi_in t) n a) ≡ DONE → k ≡ rank n (routes_of t)
    → first_is n (drop k (routes_of t)) ≡ false → places_in t ≤ count_in t → Leaves (install_of t n a) (refused_install ROOM) t
unfolding entering nlri_of
install-full t n a k h e r f full =
    refuses t n a ROOM
    (outcome-enters t n a h e ∙ pick-false _ _ _ (held_by t n k false h r f) ∙ pick-false _ _ _ (le-ltb (length (routes_of t)) (places_in t) (rw (length-routes t) full)))

pub install-adds : (t n a u : List ℕ) (k : ℕ) → AllOctets t → sound_of t ≡ true → number_of (read_route (afi_in t) n a) ≡ DONE → k ≡ rank n (routes_of t)
    → first_is n (drop k (routes_of t)) ≡ false → count_in t < places_in t → u ≡ added_at k (count_in t) (place_of (route n a)) t → Leaves (install_of t n a) (done_install NEW) u
unfolding entering nlri_of
install-adds t n a u k o h e r f room q =
    let free : length (routes_of t) < places_in t = rw (length-routes t) room in
    does t n a u NEW (outcome-enters t n a h e ∙ pick-false _ _ _ (held_by t n k false h r f) ∙ pick_true _ _ _ (lt-ltb (length (routes_of t)) (places_in t) free))
    (entered-new t u k (route n a) o h (fits-place (afi_in t) n a e) r f room q)
