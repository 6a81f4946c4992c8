-- Laws of salvage, function by function.
use Prim.Native.Nat.{ℕ, suc, ◌+◌, ◌*◌, ◌-◌, ◌/◌, ◌≤◌, ◌<◌}
use mathlib.Core.Path.{◌≡◌, refl, sym, ap, ap₂, subst, ◌∙◌}
use mathlib.Core.Bool.{Bool, true, false}
use mathlib.Core.Logic.{◌≢◌, inl, inr, ⊎_elim}
use mathlib.Core.List.{List, [], ◌∷◌, ◌++◌}
use native.Mathlib.Omega.{arith}
use native.Mathlib.Numerals.{add-one}
use native.Mathlib.Nat.{zero-add}
use borrow.Author.Tests.{eqb-true, eqb-false}
use lib.Dec.{eqb}
use lib.ListN.{length, drop, length-append}
use Rattle.octets.specs.Numbers.{DONE, FAMILY, TABLE, SPACE}
use Rattle.octets.specs.Choice.{pick, either}
use Rattle.octets.specs.Octets.{AllOctets, part, placed, front}
use Rattle.octets.specs.Order.{all_zero}
use Rattle.octets.proofs.Choice.{pick_true, pick-false, tested, opposite, either_true, either-false-left, either-false-right}
use Rattle.octets.proofs.Lists.{length-placed, front-is-placed, placed-placed}
use Rattle.routes.specs.Route.{Route, nlri_of, holds, inserted, arranged}
use Rattle.routes.specs.Place.{end_in, route_in, place_sound}
use Rattle.routes.specs.Table.{afi_in, count_in, places_in, routes_of, image_of, table_size, sound_of}
use Rattle.routes.specs.Calls.{make_of}
use Rattle.routes.specs.declared.DropReason.{DropReason}
use Rattle.routes.specs.declared.DropReason.TheVariants.{Bad, Repeated}
use Rattle.routes.specs.Salvage.{drop_octet, place_at, good_of, kept_routes, reason_of, reason_at, Dropped, dropped, dropped_of, dropped_octets, list_of, Salvage, empty_salvage, salvage_of, LeavesBoth}
use Rattle.routes.specs.Rules.ArgumentRules.{KnownFamily}
use Rattle.routes.specs.Rules.Images.{TableOf}
use Rattle.routes.specs.Rules.SoundRule.{TableSize}
use Rattle.routes.specs.Rules.SalvageRule.{SalvageRefusal, no_family, bad_size, other_size, short_list}
use Rattle.routes.proofs.Definitions.Headers.{sound-size}
use Rattle.routes.proofs.Definitions.Places.{length-acceptable-place, sound-acceptable, sound-place}
use Rattle.routes.proofs.Definitions.Salvages.{kept-most, kept-holdable, reason_kept, kept-not, kept-repeated, kept_new, dropped-none, dropped-one, dropped-most, length-dropped, length-list, list-last}
use Rattle.routes.proofs.Statements.Images.{images, sound, length-routes}
use Rattle.routes.proofs.Statements.MakeRules.{make_rule, size_is, size-tested}
use Rattle.routes.proofs.Statements.Salvaging.Refusals.{done_salvage, size-places, refuses, due, due-refused}
use Rattle.changes.specs.Changing.{rank, first_is, added_at}
use Rattle.salvage.specs.Salvaging.{with_good, with_place, Upto, Ready}
use Rattle.places.proofs.Sounds.{sound-end}
use Rattle.changes.proofs.Finds.{held_by}
use Rattle.changes.proofs.Changes.{entered-new}

-- a good place's route lies within it
pub good-end : (afi : ℕ) (place : List ℕ) → length place ≡ 128 → place_sound afi place ≡ true → end_in place ≤ length place
good-end afi place l s = rw l (sound-end afi place s)

-- by what the search answers
module _ (t place n : List ℕ) (k : ℕ) (h : sound_of t ≡ true) (is : n ≡ nlri_of (route_in place)) (e : k ≡ rank n (routes_of t)) where
  held-flag : (flag : Bool) → first_is n (drop k (routes_of t)) ≡ flag → holds (nlri_of (route_in place)) (routes_of t) ≡ flag
  held-flag flag f = ap (λ (x : List ℕ). holds x (routes_of t)) (sym is) ∙ held_by t n k flag h e f

  pub place-repeats : first_is n (drop k (routes_of t)) ≡ true → (◌≡◌ {A = ℕ} 2 (pick (holds (nlri_of (route_in place)) (routes_of t)) 2 0)) × (t ≡ with_good place t)
  unfolding with_good
  place-repeats y = (sym (pick_true _ _ _ (held-flag true y)), sym (pick_true _ _ _ (held-flag true y)))

  pub place-enters : (u : List ℕ) (c : ℕ) → AllOctets t → length place ≡ 128 → place_sound (afi_in t) place ≡ true → c ≡ count_in t → count_in t < places_in t → first_is n (drop k (routes_of t)) ≡ false
      → u ≡ added_at k c place t → (◌≡◌ {A = ℕ} 0 (pick (holds (nlri_of (route_in place)) (routes_of t)) 2 0)) × (u ≡ with_good place t)
  unfolding with_good
  place-enters u c o l s d room y q =
      let i : u ≡ image_of (afi_in t) (places_in t) (inserted (route_in place) (routes_of t)) =
      entered-new t u k (route_in place) o h (length-acceptable-place (afi_in t) (route_in place) (sound-acceptable (afi_in t) place s)) (e ∙ ap (λ (x : List ℕ). rank x (routes_of t)) is)
      (ap (λ (x : List ℕ). first_is x (drop k (routes_of t))) (sym is) ∙ y) room (q ∙ ap₂ (λ (j : ℕ) (x : List ℕ). added_at k j x t) d (sound-place (afi_in t) place l s)) in
      (sym (pick-false _ _ _ (held-flag false y)), i ∙ sym (pick-false _ _ _ (held-flag false y)))

-- a place looked at
module _ (afi : ℕ) (place t : List ℕ) (flag : Bool) (f : flag ≡ place_sound afi place) where
  pub good-here : afi ≡ afi_in t → flag ≡ true → place_sound (afi_in t) place ≡ true
  good-here e y = ap (λ (i : ℕ). place_sound i place) (sym e) ∙ sym f ∙ y

  pub looked-good : flag ≡ true → (r : ℕ) (u : List ℕ) → r ≡ pick (holds (nlri_of (route_in place)) (routes_of t)) 2 0 → u ≡ with_good place t → (r ≡ reason_of afi place (routes_of t)) × (u ≡ with_place afi place t)
  unfolding reason_of with_place
  looked-good y r u p q = (p ∙ sym (pick_true _ _ _ (sym f ∙ y)), q ∙ sym (pick_true _ _ _ (sym f ∙ y)))

  module _ (n : flag ≡ false) (zero : Bool) (z : zero ≡ all_zero place) where
    pub looked-empty : zero ≡ true → (0 ≡ reason_of afi place (routes_of t)) × (t ≡ with_place afi place t)
    unfolding reason_of with_place
    looked-empty y = (sym (pick-false _ _ _ (sym f ∙ n) ∙ pick_true _ _ _ (sym z ∙ y)), sym (pick-false _ _ _ (sym f ∙ n)))

    pub looked-bad : zero ≡ false → (1 ≡ reason_of afi place (routes_of t)) × (t ≡ with_place afi place t)
    unfolding reason_of with_place
    looked-bad y = (sym (pick-false _ _ _ (sym f ∙ n) ∙ pick-false _ _ _ (sym z ∙ y)), sym (pick-false _ _ _ (sym f ∙ n)))

-- the octet of a reason is never that of none
pub drop_octet-not_0 : (reason : DropReason) → drop_octet reason ≢ 0
drop_octet-not_0 Bad e = cc
drop_octet-not_0 Repeated e = cc

-- place by place

pub upto-first : (afi : ℕ) (damaged list table : List ℕ) → table ≡ image_of afi (places_in damaged) (kept_routes afi damaged 0) → Upto afi damaged list 0 table list 0
unfolding dropped_of list_of front
upto-first afi damaged list table e = record { kept = e; listed = refl; counted = refl }

module _ (afi : ℕ) (damaged list₀ : List ℕ) (n : ℕ) (t list : List ℕ) (count : ℕ) (ready : Ready afi damaged list₀) (u : Upto afi damaged list₀ n t list count) (h : n ≤ places_in damaged) where
  pub table-upto : TableOf afi (places_in damaged) (kept_routes afi damaged n) t
  table-upto =
      subst (TableOf afi (places_in damaged) (kept_routes afi damaged n)) (sym u.kept)
      (images.imaged afi (places_in damaged) (kept_routes afi damaged n) (kept-holdable afi damaged n (places_in damaged) ready.family (sound-size damaged ready.size).most h))

  pub table-size : length t ≡ 8 + 128 * places_in damaged
  table-size = let z = table-upto.size in (sound t table-upto.sound).size.is ∙ ap (λ (k : ℕ). 8 + 128 * k) z

  pub list-size : length list ≡ length list₀
  list-size =
      let a = length-list (dropped_of afi damaged n) in
      let b = dropped-most afi damaged n in
      let c = ready.room in
      ap length (u.listed ∙ front-is-placed (list_of (dropped_of afi damaged n)) list₀) ∙ length-placed 0 (list_of (dropped_of afi damaged n)) list₀ (omega arith)

  pub count_small : count ≤ 500
  count_small = let b = dropped-most afi damaged n in let d = u.counted in let m = (sound-size damaged ready.size).most in omega arith

module _ (afi : ℕ) (damaged list₀ : List ℕ) (n : ℕ) (t list : List ℕ) (count : ℕ) (ready : Ready afi damaged list₀) (u : Upto afi damaged list₀ n t list count) (h : n < places_in damaged) where
  upto : TableOf afi (places_in damaged) (kept_routes afi damaged n) t
  upto = table-upto afi damaged list₀ n t list count ready u (omega arith)

  pub upto-table : (sound_of t ≡ true) × (count_in t < places_in t) × (afi ≡ afi_in t)
  upto-table = let z = upto.size in let k = kept-most afi damaged n in (upto.sound, omega (arith, ap length upto.routes, length-routes t), sym upto.family)

  pub upto-within : 8 + 128 * n + 128 ≤ length damaged
  upto-within = let z = (sound-size damaged ready.size).is in omega arith

  pub upto-enlists : (count < 500) × (n < 65536) × (3 * count + 3 ≤ length list)
  upto-enlists =
      let b = dropped-most afi damaged n in
      let c = ready.room in
      let d = u.counted in
      let m = (sound-size damaged ready.size).most in
      let l = list-size afi damaged list₀ n t list count ready u (omega arith) in
      (omega arith, omega arith, omega arith)

  -- the table with the next place
  next-table : with_place afi (place_at damaged n) t ≡ image_of afi (places_in damaged) (kept_routes afi damaged (suc n))
  unfolding with_place with_good
  next-table =
      let r : Route = route_in (place_at damaged n) in
      let e : routes_of t ≡ kept_routes afi damaged n = upto.routes in
      tested (place_sound afi (place_at damaged n))
      (λ y.
      tested (holds (nlri_of r) (routes_of t))
      (λ z.
      pick_true _ _ _ y ∙ pick_true _ _ _ z ∙ u.kept
      ∙ ap (image_of afi (places_in damaged)) (sym (kept-repeated afi damaged n y (ap (holds (nlri_of r)) (sym e) ∙ z))))
      (λ z.
      pick_true _ _ _ y ∙ pick-false _ _ _ z ∙ ap₂ (λ (i p : ℕ). image_of i p (inserted r (routes_of t))) upto.family upto.size
      ∙ ap (λ (rs : List Route). image_of afi (places_in damaged) (inserted r rs)) e
      ∙ ap (image_of afi (places_in damaged)) (sym (kept_new afi damaged n y (ap (holds (nlri_of r)) (sym e) ∙ z)))))
      (λ y. pick-false _ _ _ y ∙ u.kept ∙ ap (image_of afi (places_in damaged)) (sym (kept-not afi damaged n y)))

  next-reason : reason_of afi (place_at damaged n) (routes_of t) ≡ reason_at afi damaged n
  next-reason = ap (reason_of afi (place_at damaged n)) upto.routes ∙ reason_kept afi damaged n

  -- the reason of the next place, and the table with it
  module _ (place : List ℕ) (w : ℕ) (t' : List ℕ) (e : place ≡ part damaged (8 + 128 * n) 128) (p : w ≡ reason_of afi place (routes_of t)) (q : t' ≡ with_place afi place t) where
    reason-next : w ≡ reason_at afi damaged n
    unfolding place_at
    reason-next = p ∙ ap (λ (x : List ℕ). reason_of afi x (routes_of t)) e ∙ next-reason

    table-next : t' ≡ image_of afi (places_in damaged) (kept_routes afi damaged (suc n))
    unfolding place_at
    table-next = q ∙ ap (λ (x : List ℕ). with_place afi x t) e ∙ next-table

    -- with no reason to drop it
    pub upto-keeps : w ≡ 0 → Upto afi damaged list₀ (n + 1) t' list count
    upto-keeps z =
        let same : dropped_of afi damaged n ≡ dropped_of afi damaged (suc n) = sym (dropped-none afi damaged n (sym reason-next ∙ z)) in
        subst (λ (m : ℕ). Upto afi damaged list₀ m t' list count) (sym (add-one n))
        (record { kept = table-next; listed = u.listed ∙ ap (λ (ds : List Dropped). front (list_of ds) list₀) same; counted = u.counted ∙ ap length same })

    -- dropped
    pub upto-drops : w ≢ 0 → (list' : List ℕ) → list' ≡ placed (3 * count) (dropped_octets (dropped n w)) list → Upto afi damaged list₀ (n + 1) t' list' (count + 1)
    upto-drops y list' j =
        let ds : List Dropped = dropped_of afi damaged n in
        let d : Dropped = dropped n w in
        let a : length (list_of ds) ≡ 3 * count = length-list ds ∙ ap (λ (i : ℕ). 3 * i) (sym u.counted) in
        let room : 0 + length (list_of ds) + length (dropped_octets d) ≤ length list₀ = (let b = dropped-most afi damaged n in let c = ready.room in omega (arith, length-list ds, length-dropped d)) in
        let more : dropped_of afi damaged (suc n) ≡ ds ++ (d ∷ []) = dropped-one afi damaged n (λ z. y (reason-next ∙ z)) ∙ ap (λ (i : ℕ). ds ++ (dropped n i ∷ [])) (sym reason-next) in
        let listed : list' ≡ front (list_of (dropped_of afi damaged (suc n))) list₀ =
        j ∙ ap₂ (λ (i : ℕ) (l : List ℕ). placed i (dropped_octets d) l) (sym a ∙ sym (zero-add (length (list_of ds)))) (u.listed ∙ front-is-placed (list_of ds) list₀)
        ∙ placed-placed 0 (list_of ds) (dropped_octets d) list₀ room ∙ sym (front-is-placed (list_of ds ++ dropped_octets d) list₀)
        ∙ ap (λ (l : List ℕ). front l list₀) (sym (list-last ds d)) ∙ ap (λ (es : List Dropped). front (list_of es) list₀) (sym more) in
        subst (λ (m : ℕ). Upto afi damaged list₀ m t' list' (count + 1)) (sym (add-one n))
        (record { kept = table-next; listed = listed; counted = ap (λ (i : ℕ). i + 1) u.counted ∙ sym (length-append ds (d ∷ [])) ∙ ap length (sym more) })

-- the table just made, and all that is left when every place was looked at
pub made-first : (afi : ℕ) (damaged list table u : List ℕ) → Ready afi damaged list → length table ≡ length damaged → u ≡ (make_of afi table).octets → u ≡ image_of afi (places_in damaged) (kept_routes afi damaged 0)
unfolding places_in kept_routes good_of arranged
made-first afi damaged list table u ready e q =
    q ∙ images.made afi table ((make_rule.done afi table).1 (ready.family, subst TableSize (sym e) (size_is damaged ready.size))) ∙ ap (λ (n : ℕ). image_of afi ((n - 8) / 128) []) e

due_all : (afi : ℕ) (damaged table list : List ℕ) → Ready afi damaged list → length table ≡ length damaged → salvage_of afi damaged table list ≡ done_salvage afi damaged list (places_in damaged)
due_all afi damaged table list ready e =
    let size = size_is damaged ready.size in
    let places = size-places damaged size in
    due afi damaged table list (record { family = ready.family; size = size; same = e; room = omega (arith, ready.room) }) ∙ ap (done_salvage afi damaged list) (sym places)

pub salvaged-all : (afi : ℕ) (damaged table list t l : List ℕ) (k d : ℕ) → Ready afi damaged list → length table ≡ length damaged → Upto afi damaged list (places_in damaged) t l d → k ≡ count_in t
    → LeavesBoth (salvage_of afi damaged table list) (record { number = DONE; kept = k; dropped = d }) t l
salvaged-all afi damaged table list t l k d ready e u c =
    let o = table-upto afi damaged list (places_in damaged) t l d ready u (omega arith) in
    let kept : k ≡ length (kept_routes afi damaged (places_in damaged)) = c ∙ sym (length-routes t) ∙ ap length o.routes in
    let dropped : d ≡ length (dropped_of afi damaged (places_in damaged)) = u.counted in
    let is = due_all afi damaged table list ready e in (
      (λ i. record { number = DONE; kept = kept i; dropped = dropped i }) ∙ sym (ap (λ (s : Salvage). s.answer) is),
      u.kept ∙ sym (ap (λ (s : Salvage). s.table) is),
      u.listed ∙ sym (ap (λ (s : Salvage). s.list) is),
    )

-- the refusals, in order
module _ (afi : ℕ) (damaged table list : List ℕ) (flag : Bool) (f : flag ≡ either (eqb afi 1) (eqb afi 2)) where
  left : (n : ℕ) → SalvageRefusal afi damaged table list n → LeavesBoth (salvage_of afi damaged table list) (empty_salvage n) table list
  left n x =
      let is = due-refused afi damaged table list n (refuses afi damaged table list x) in
      (sym (ap (λ (s : Salvage). s.answer) is), sym (ap (λ (s : Salvage). s.table) is), sym (ap (λ (s : Salvage). s.list) is))

  pub no-family : flag ≡ false → LeavesBoth (salvage_of afi damaged table list) (empty_salvage FAMILY) table list
  no-family n = left FAMILY (no_family (eqb-false _ _ (either-false-left _ _ (sym f ∙ n))) (eqb-false _ _ (either-false-right _ _ (sym f ∙ n))))

  known : flag ≡ true → KnownFamily afi
  known y = ⊎_elim (λ a. inl (eqb-true _ _ a)) (λ a. inr (eqb-true _ _ a)) (either_true _ _ (sym f ∙ y))

  module _ (y : flag ≡ true) (sized : Bool) (g : sized ≡ table_size (length damaged)) where
    pub no_size : sized ≡ false → LeavesBoth (salvage_of afi damaged table list) (empty_salvage TABLE) table list
    no_size n = left TABLE (bad_size (known y) (λ s. opposite (size-tested (length damaged) s) (sym g ∙ n)))

    module _ (z : sized ≡ true) where
      pub other-size : length table ≢ length damaged → LeavesBoth (salvage_of afi damaged table list) (empty_salvage SPACE) table list
      other-size d = left SPACE (other_size (known y) (size_is damaged (sym g ∙ z)) d)

      pub places-few : places_in damaged ≤ 500
      places-few = (sound-size damaged (sym g ∙ z)).most

      pub short-list : (p : ℕ) → length table ≡ length damaged → p ≡ places_in damaged → length list < 3 * p → LeavesBoth (salvage_of afi damaged table list) (empty_salvage SPACE) table list
      short-list p q i h =
          let size = size_is damaged (sym g ∙ z) in
          let places = size-places damaged size in
          left SPACE (short_list (known y) size q (omega arith))

      pub is-ready : (p : ℕ) → p ≡ places_in damaged → 3 * p ≤ length list → Ready afi damaged list
      is-ready p i h = record { family = known y; size = sym g ∙ z; room = omega arith }
