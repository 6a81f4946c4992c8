-- What mark and sweep answer and leave; the branches of a step, and the loop over the places.
use Prim.Native.Nat.{ℕ, ◌+◌, ◌-◌, ◌*◌, ◌/◌, ◌≤◌, ◌<◌}
use mathlib.Core.Path.{◌≡◌, refl, sym, ◌∙◌, ap, ap₂}
use mathlib.Core.Bool.{Bool, true, false}
use mathlib.Core.List.{List, ◌++◌}
use native.Mathlib.Omega.{arith}
use borrow.Author.Tests.{eq-eqb, ne_eqb}
use lib.ListN.{length, get_or, take, drop}
use Rattle.octets.specs.Numbers.{DONE, TABLE, FLOW}
use Rattle.octets.specs.Outcome.{given, refused, on_outcome, and_then}
use Rattle.octets.specs.Choice.{pick}
use Rattle.octets.specs.Octets.{AllOctets, part, placed}
use Rattle.octets.specs.Order.{same, zeros}
use Rattle.octets.proofs.Choice.{pick_true, pick-false}
use Rattle.nlri.specs.Family.{is_originator_size}
use Rattle.nlri.specs.Standing.{standing}
use Rattle.routes.specs.Answers.{refused_restart, restarted_of}
use Rattle.routes.specs.Calls.{restart_outcome, restart_of}
use Rattle.routes.specs.Place.{mark_octet}
use Rattle.routes.specs.Table.{header_of, image_of, afi_in, count_in, places_in, routes_of, sound_of}
use Rattle.routes.specs.Restart.{RestartCall, marking, mark_left, renewed, gone_of, read_router}
use Rattle.routes.proofs.Definitions.Restarts.{length-renewed}
use Rattle.routes.proofs.Statements.Images.{sound, length-routes}
use Rattle.octets.specs.Outputs.{Leaves}
use Rattle.places.specs.Readable.{nlri_at, Readable}
use Rattle.changes.specs.declared.change.RouteMark.{RouteMark}
use Rattle.changes.specs.declared.change.RouteMark.TheVariants.{Fresh, Stale}
use Rattle.changes.specs.Changing.{mark_number, remarked}
use Rattle.table.specs.Renewing.{own_at, stale_at, settled_end, settled, Renewing, restart_by}
use Rattle.places.proofs.Indexes.{places-within}
use Rattle.table.proofs.Renews.{renewed-image, renewed-gone, renewing-readable, renewing-next, kept, renewing-first}

-- what mark and sweep answer and leave, case by case
module _ (which : RestartCall) (t router : List ℕ) where
  -- a refusal
  refuses : (m : ℕ) → restart_outcome t router ≡ refused m → Leaves (restart_of which t router) (refused_restart m) t
  unfolding restart_of restarted_of on_outcome
  refuses m e = (rw e, rw e)

  -- TABLE
  pub restart-unsound : sound_of t ≡ false → Leaves (restart_of which t router) (refused_restart TABLE) t
  unfolding restart_outcome
  restart-unsound h = refuses TABLE (pick-false _ _ _ h)

  -- FLOW
  pub restart-missized : (flag : Bool) → sound_of t ≡ true → flag ≡ is_originator_size (length router) → flag ≡ false → Leaves (restart_of which t router) (refused_restart FLOW) t
  unfolding restart_outcome read_router and_then
  restart-missized flag h f n =
      let no : read_router router ≡ refused FLOW = pick-false _ _ _ (sym f ∙ n) in
      refuses FLOW (pick_true _ _ _ h ∙ rw no)

  -- a call that is done
  pub restart-does : (flag : Bool) (u : List ℕ) (gone : ℕ) → sound_of t ≡ true → flag ≡ is_originator_size (length router) → flag ≡ true
      → gone ≡ gone_of (afi_in t) router (routes_of t) → u ≡ image_of (afi_in t) (places_in t) (renewed (afi_in t) which router (routes_of t)) → Leaves (restart_of which t router) (record { number = DONE; gone = gone }) u
  unfolding restart_outcome read_router and_then restart_of restarted_of on_outcome
  restart-does flag u gone h f y e i =
      let yes : read_router router ≡ given router = pick_true _ _ _ (sym f ∙ y) in
      let out : restart_outcome t router ≡ given (gone_of (afi_in t) router (routes_of t)) = pick_true _ _ _ h ∙ rw yes in
      (rw (out, e), rw out i)

-- a call by the mark that it leaves
pub mark-by : (mark : RouteMark) → mark_octet (mark_left (restart_by mark)) ≡ mark_number mark
unfolding mark_octet mark_left pick
mark-by Fresh = refl
mark-by Stale = refl

-- the branches of one step
module _ (mark : ℕ) (router t nlri : List ℕ) (at to : ℕ) (flag : Bool) (n : nlri ≡ nlri_at t at) (f : flag ≡ same (standing nlri).originator router) where
  -- the test of the router
  own-flag : flag ≡ own_at router t at
  unfolding own_at
  own-flag = f ∙ ap (λ (x : List ℕ). same (standing x).originator router) n

  -- another router's is kept
  pub settled-other : flag ≡ false → (u : List ℕ) → u ≡ placed to (part t at 128) t → (to + 128 ≡ settled_end router t at to) × (u ≡ settled mark router t at to)
  unfolding settled_end settled
  settled-other o u e = (sym (pick-false _ _ _ (sym own-flag ∙ o)), e ∙ sym (pick-false _ _ _ (sym own-flag ∙ o)))

  -- a marked one goes
  pub settled-gone : flag ≡ true → get_or t (at + 127) 0 ≡ 1 → (to ≡ settled_end router t at to) × (t ≡ settled mark router t at to)
  unfolding settled_end settled stale_at
  settled-gone o m =
      let own = sym own-flag ∙ o in
      let stale = eq-eqb (get_or t (at + 127) 0) 1 m in
      (sym (pick_true _ _ _ own ∙ pick_true _ _ _ stale), sym (pick_true _ _ _ own ∙ pick_true _ _ _ stale))

  -- one not marked is kept with the mark
  pub settled-marked : flag ≡ true → (get_or t (at + 127) 0 ≡ 1 → ⊥) → (u : List ℕ) → u ≡ placed to (remarked mark (part t at 128)) t → (to + 128 ≡ settled_end router t at to) × (u ≡ settled mark router t at to)
  unfolding settled_end settled stale_at
  settled-marked o m u e =
      let own = sym own-flag ∙ o in
      let fresh = ne_eqb (get_or t (at + 127) 0) 1 m in
      (sym (pick_true _ _ _ own ∙ pick-false _ _ _ fresh), e ∙ sym (pick_true _ _ _ own ∙ pick-false _ _ _ fresh))

-- the loop over the places
module _ (mark : RouteMark) (router t : List ℕ) (h : sound_of t ≡ true) (count : ℕ) (n : count ≡ count_in t) where
  -- the state of the loop
  abbrev Turn : (i to : ℕ) (s : List ℕ) → Type 0
  Turn i to s = Renewing (restart_by mark) router t i to s

  -- at first
  pub turn-first : Turn 0 8 t
  turn-first = renewing-first (restart_by mark) router t h

  -- a place that is not passed lies in the table
  pub turn-room : (i : ℕ) → i < count → (8 + 128 * i + 128 ≤ length t) × (i < 500)
  turn-room i some =
      let s = sound t h in
      let within = places-within t (count_in t) h s.within in
      (omega (arith, n, within), omega (arith, n, s.within, s.size.most))

  -- the next place
  pub turn-here : (i to : ℕ) (s : List ℕ) → Turn i to s → i < count → (to ≤ 8 + 128 * i) × Readable s (8 + 128 * i)
  turn-here i to s p some = (p.most, renewing-readable (restart_by mark) router t h i to s p (omega (arith, n)))

  -- one turn
  pub turn-next : (i to : ℕ) (s : List ℕ) → Turn i to s → i < count → (u : List ℕ) (end : ℕ) → end ≡ settled_end router s (8 + 128 * i) to → u ≡ settled (mark_number mark) router s (8 + 128 * i) to → Turn (i + 1) end u
  turn-next i to s p some u end e f =
      renewing-next (restart_by mark) router t h i to s p (omega (arith, n)) u end e (f ∙ ap (λ (m : ℕ). settled m router s (8 + 128 * i) to) (sym (mark-by mark)))

  -- after the last turn
  pub turn_last : (i to : ℕ) (s : List ℕ) → Turn i to s → i ≤ count → count ≤ i → Renewing (restart_by mark) router t count to s
  turn_last i to s p m k = let e : i ≡ count = omega arith in rw (← e) p

  -- how many went, and the table then
  pub turned : AllOctets t → (to : ℕ) (s u : List ℕ) (afi kept : ℕ) → afi ≡ afi_in t → Renewing (restart_by mark) router t count to s → kept ≡ (to - 8) / 128
      → u ≡ header_of afi kept ++ drop 8 (take to s ++ (zeros (8 + 128 * count - to) ++ drop (8 + 128 * count) s))
      → (count - kept ≡ gone_of (afi_in t) router (routes_of t)) × (u ≡ image_of (afi_in t) (places_in t) (renewed (afi_in t) (restart_by mark) router (routes_of t)))
  turned o to s u afi kept a p k e =
      let q : Renewing (restart_by mark) router t (count_in t) to s = rw n at p in (
        ap (λ (c : ℕ). c - kept) n ∙ renewed-gone (restart_by mark) router t h to s q kept k,
        e ∙ ap₂ (λ (i c : ℕ). header_of i kept ++ drop 8 (take to s ++ (zeros (8 + 128 * c - to) ++ drop (8 + 128 * c) s))) a n ∙ renewed-image (restart_by mark) router t h to s q o kept k,
      )

  -- what closing the table needs
  pub turn-close : (to : ℕ) (s : List ℕ) → Renewing (restart_by mark) router t count to s → (8 ≤ to) × (to ≤ 8 + 128 * count) × (8 + 128 * count ≤ length s) × (count ≤ 500)
  turn-close to s p =
      let k = sound t h in
      (p.least, p.most, omega (arith, n, p.size, places-within t (count_in t) h k.within), omega (arith, n, k.within, k.size.most))

-- no more went than a table holds
pub gone-most : (t router : List ℕ) (gone : ℕ) → sound_of t ≡ true → gone ≡ gone_of (afi_in t) router (routes_of t) → gone ≤ 500
gone-most t router gone h e =
    let k = sound t h in
    omega (arith, length-renewed (afi_in t) marking router (routes_of t), length-routes t, k.within, k.size.most)
