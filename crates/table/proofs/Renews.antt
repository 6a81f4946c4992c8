-- The pass of mark and sweep over a table's places: a place kept, and the places kept so far.
use Prim.Native.Nat.{ℕ, suc, ◌+◌, ◌-◌, ◌*◌, ◌/◌, ◌≤◌, ◌<◌}
use mathlib.Core.Path.{◌≡◌, refl, sym, ◌∙◌, ap, ap₂}
use mathlib.Core.Bool.{Bool, true}
use mathlib.Core.List.{List, [], ◌∷◌, ◌++◌, append_assoc, append-nil}
use native.Mathlib.Omega.{arith}
use lib.Dec.{eqb}
use lib.ListN.{length, get_or, take, drop, length-append, length-drop, drop_of_length-le}
use lib.Seq.{drop_at, drop-drop, length-take-le, get_or-take, get_or-drop}
use Rattle.octets.specs.Octets.{AllOctets, part, placed}
use Rattle.octets.specs.Order.{same, zeros}
use Rattle.octets.proofs.Choice.{tested, pick_true, pick-false}
use Rattle.octets.proofs.Lists.{length-placed, take-placed, drop-placed}
use Rattle.nlri.specs.Fields.{Fields}
use Rattle.nlri.specs.Standing.{standing}
use Rattle.routes.specs.Route.{Route, nlri_of, stale_of, with_mark}
use Rattle.routes.specs.Place.{mark_octet, place_of, route_in, place_sound}
use Rattle.routes.specs.Table.{header_of, places_of, image_of, afi_in, count_in, places_in, routes_of, sound_of}
use Rattle.routes.specs.Matching.{of_router}
use Rattle.routes.specs.Restart.{RestartCall, mark_left, renewed, gone_of}
use Rattle.routes.proofs.Definitions.Matching.Conditions.{fields-of}
use Rattle.routes.proofs.Definitions.Headers.{length-header}
use Rattle.routes.proofs.Definitions.Places.{length-places, sound-place, remarked-place}
use Rattle.routes.proofs.Definitions.Restarts.{acceptable-renewed, length-renewed}
use Rattle.routes.proofs.Statements.Images.{sound, sound-holdable, sound-image, length-routes}
use Rattle.places.specs.Readable.{route_at, nlri_at, Readable}
use Rattle.changes.specs.Changing.{remarked}
use Rattle.table.specs.Renewing.{own_at, stale_at, settled_end, settled, Renewing}
use Rattle.places.proofs.FieldStarts.{fields-stand}
use Rattle.places.proofs.Indexes.{routes-from-index, places-within}
use Rattle.places.proofs.Taken.{Taken, route-accepted, taken-readable, table_taken}
use Rattle.places.proofs.Places.{zeros-split}
use Rattle.changes.proofs.Keeps.{length-remarked}

-- the places behind the routes of a sound table are free
image-free : (t : List ℕ) → AllOctets t → sound_of t ≡ true → drop (8 + 128 * count_in t) t ≡ zeros (128 * (places_in t - count_in t))
unfolding image_of
image-free t o h =
    let a = (sound-holdable t h).acceptable in
    let n = length-routes t in
    let front : List ℕ = header_of (afi_in t) (length (routes_of t)) ++ places_of (routes_of t) in
    let size : length front ≡ 8 + 128 * count_in t =
    length-append (header_of (afi_in t) (length (routes_of t))) (places_of (routes_of t))
    ∙ ap₂ (λ (i j : ℕ). i + j) (length-header (afi_in t) (length (routes_of t))) (length-places (afi_in t) (routes_of t) a) ∙ ap (λ (k : ℕ). 8 + 128 * k) n in
    ap (drop (8 + 128 * count_in t)) (sound-image t o h ∙ sym (append_assoc (header_of (afi_in t) (length (routes_of t))) (places_of (routes_of t)) (zeros (128 * (places_in t - length (routes_of t))))))
    ∙ drop_at front (zeros (128 * (places_in t - length (routes_of t)))) (8 + 128 * count_in t) size
    ∙ ap (λ (k : ℕ). zeros (128 * (places_in t - k))) n

module _ (which : RestartCall) (router t : List ℕ) (is-sound : sound_of t ≡ true) where
  -- the routes left of some
  abbrev pub kept : List Route → List Route
  kept rs = renewed (afi_in t) which router rs

  -- so many places of the table are passed
  abbrev So : (i to : ℕ) (s : List ℕ) → Type 0
  So i to s = Renewing which router t i to s

  -- none is passed
  pub renewing-first : So 0 8 t
  renewing-first = record { least = omega arith; most = omega arith; size = refl; rest = refl; is = refl }

  module _ (i to : ℕ) (s : List ℕ) (p : So i to s) (some : i < count_in t) where
    -- its route
    r : Route
    r = route_at i t

    -- the routes behind it
    later : List Route
    later = drop (suc i) (routes_of t)

    -- the place is taken
    taken : Taken (afi_in t) t (8 + 128 * i)
    taken = table_taken t is-sound i some

    -- it stands as it stood
    same_place : part s (8 + 128 * i) 128 ≡ part t (8 + 128 * i) 128
    unfolding part
    same_place = ap (take 128) p.rest

    -- so it is still taken
    here-taken : Taken (afi_in t) s (8 + 128 * i)
    here-taken = record { within = omega (arith, taken.within, p.size); sound = ap (place_sound (afi_in t)) same_place ∙ taken.sound }

    -- and can be read
    pub renewing-readable : Readable s (8 + 128 * i)
    renewing-readable = taken-readable (afi_in t) s (8 + 128 * i) here-taken

    -- the tests of the place are those of its route
    own_is : own_at router s (8 + 128 * i) ≡ of_router (afi_in t) router r
    unfolding own_at nlri_at r route_at
    own_is =
        let a = route-accepted (afi_in t) t (8 + 128 * i) taken in
        ap (λ (x : List ℕ). same (standing (nlri_of (route_in x))).originator router) same_place
        ∙ ap (λ (f : Fields). same f.originator router) (sym (fields-stand (afi_in t) _ a.fields a.read))
        ∙ sym (fields-of (afi_in t) (route_in (part t (8 + 128 * i) 128)) (λ f. same f.originator router) a.fields a.read)

    -- its mark
    stale-is : stale_at s (8 + 128 * i) ≡ stale_of r
    unfolding stale_at r route_at route_in stale_of part
    stale-is =
        ap (λ (k : ℕ). eqb k 1) (sym (get_or-drop (8 + 128 * i) s 127 0) ∙ sym (get_or-take 128 (drop (8 + 128 * i) s) 127 0 (omega arith)) ∙ ap (λ (x : List ℕ). get_or (take 128 x) 127 0) p.rest)

    -- its octets
    place_is : part s (8 + 128 * i) 128 ≡ place_of r
    unfolding r route_at part
    place_is = same_place ∙ sound-place (afi_in t) (part t (8 + 128 * i) 128) (length-take-le 128 (drop (8 + 128 * i) t) (simp length-drop (omega (arith, taken.within)))) taken.sound

    -- its size
    place-size : length (part s (8 + 128 * i) 128) ≡ 128
    unfolding part
    place-size = length-take-le 128 (drop (8 + 128 * i) s) (simp length-drop (omega (arith, here-taken.within)))

    -- the routes from it on
    left : drop i (routes_of t) ≡ r ∷ later
    unfolding r later
    left = routes-from-index t i some

    -- the route goes
    goes_on : (u : List ℕ) (end : ℕ) → kept (r ∷ later) ≡ kept later → u ≡ s → end ≡ to → So (i + 1) end u
    unfolding later
    goes_on u end e a b =
        let next : i + 1 ≡ suc i = omega arith in
        let on : 8 + 128 * (i + 1) ≡ 8 + 128 * i + 128 = omega arith in
        rw (a, b)
        (record {
          least = p.least;
          most = omega (arith, p.most);
          size = p.size;
          rest = ap (λ (n : ℕ). drop n s) on ∙ sym (drop-drop 128 (8 + 128 * i) s) ∙ ap (drop 128) p.rest ∙ drop-drop 128 (8 + 128 * i) t ∙ ap (λ (n : ℕ). drop n t) (sym on);
          is = p.is ∙ ap (λ (l : List Route). take to s ++ places_of (kept l)) left ∙ ap (λ (l : List Route). take to s ++ places_of l) e ∙ ap (λ (n : ℕ). take to s ++ places_of (kept (drop n (routes_of t)))) (sym next);
        })

    -- it is kept, as q
    stays_on : (u q : List ℕ) (w : Route) (end : ℕ) → kept (r ∷ later) ≡ w ∷ kept later → q ≡ place_of w → length q ≡ 128 → u ≡ placed to q s → end ≡ to + 128 → So (i + 1) end u
    unfolding later places_of
    stays_on u q w end e f l a b =
        let next : i + 1 ≡ suc i = omega arith in
        let on : 8 + 128 * (i + 1) ≡ 8 + 128 * i + 128 = omega arith in
        let room : to + 128 ≤ length s = omega (arith, p.most, here-taken.within) in
        rw (a, b)
        (record {
          least = omega (arith, p.least);
          most = omega (arith, p.most);
          size = length-placed to q s (omega arith) ∙ p.size;
          rest =
              drop-placed to q s (omega arith) (8 + 128 * (i + 1)) (omega (arith, p.most))
              ∙ ap (λ (n : ℕ). drop n s) on ∙ sym (drop-drop 128 (8 + 128 * i) s) ∙ ap (drop 128) p.rest ∙ drop-drop 128 (8 + 128 * i) t ∙ ap (λ (n : ℕ). drop n t) (sym on);
          is =
              p.is ∙ ap (λ (m : List Route). take to s ++ places_of (kept m)) left ∙ ap (λ (m : List Route). take to s ++ places_of m) e
              ∙ sym (append_assoc (take to s) (place_of w) (places_of (kept (drop (suc i) (routes_of t)))))
              ∙ ap (λ (x : List ℕ). (take to s ++ x) ++ places_of (kept (drop (suc i) (routes_of t)))) (sym f)
              ∙ ap₂ (λ (x : List ℕ) (n : ℕ). x ++ places_of (kept (drop n (routes_of t)))) (sym (ap (λ (n : ℕ). take (to + n) (placed to q s)) (sym l) ∙ take-placed to q s (omega arith))) (sym next);
        })

    -- one place more is passed
    pub renewing-next : (u : List ℕ) (end : ℕ) → end ≡ settled_end router s (8 + 128 * i) to → u ≡ settled (mark_octet (mark_left which)) router s (8 + 128 * i) to → So (i + 1) end u
    unfolding settled_end settled renewed remarked
    renewing-next u end e f =
        tested (own_at router s (8 + 128 * i))
        (λ own.
        let mine = sym own_is ∙ own in
        tested (stale_at s (8 + 128 * i))
        (λ stale. goes_on u end (pick_true _ _ _ mine ∙ pick_true _ _ _ (sym stale-is ∙ stale)) (f ∙ pick_true _ _ _ own ∙ pick_true _ _ _ stale) (e ∙ pick_true _ _ _ own ∙ pick_true _ _ _ stale))
        (λ fresh.
        stays_on u (remarked (mark_octet (mark_left which)) (part s (8 + 128 * i) 128)) (with_mark (mark_left which) r) end (pick_true _ _ _ mine ∙ pick-false _ _ _ (sym stale-is ∙ fresh))
        (marked-place (mark_left which)) (length-remarked _ (part s (8 + 128 * i) 128) place-size) (f ∙ pick_true _ _ _ own ∙ pick-false _ _ _ fresh) (e ∙ pick_true _ _ _ own ∙ pick-false _ _ _ fresh)))
        (λ other. stays_on u (part s (8 + 128 * i) 128) r end (pick-false _ _ _ (sym own_is ∙ other)) place_is place-size (f ∙ pick-false _ _ _ other) (e ∙ pick-false _ _ _ other))
      where
        marked-place : (m : Bool) → remarked (mark_octet m) (part s (8 + 128 * i) 128) ≡ place_of (with_mark m r)
        marked-place m = ap (λ (x : List ℕ). take 127 x ++ (mark_octet m ∷ [])) place_is ∙ remarked-place r m (ap length (sym place_is) ∙ place-size)

  -- all places are passed
  module _ (to : ℕ) (s : List ℕ) (p : So (count_in t) to s) where
    -- those kept are all that are left
    passed : take 8 t ++ places_of (kept (routes_of t)) ≡ take to s
    unfolding places_of renewed
    passed = p.is ∙ ap (λ (l : List Route). take to s ++ places_of (kept l)) (drop_of_length-le (routes_of t) {i = count_in t} (omega (arith, length-routes t))) ∙ append-nil (take to s)

    -- where they end
    pub renewed-end : to ≡ 8 + 128 * length (kept (routes_of t))
    renewed-end =
        let within = places-within t (count_in t) is-sound (sound t is-sound).within in
        sym (length-take-le to s (omega (arith, p.most, p.size, within)))
        ∙ sym (ap length passed)
        ∙ length-append (take 8 t) (places_of (kept (routes_of t)))
        ∙ ap₂ (λ (i j : ℕ). i + j) (length-take-le 8 t (omega (arith, within))) (length-places (afi_in t) (kept (routes_of t)) (acceptable-renewed (afi_in t) which router (sound-holdable t is-sound).acceptable))

    -- the places behind those kept cleared, and the header written
    pub renewed-image : AllOctets t → (n : ℕ) → n ≡ (to - 8) / 128
        → header_of (afi_in t) n ++ drop 8 (take to s ++ (zeros (8 + 128 * count_in t - to) ++ drop (8 + 128 * count_in t) s)) ≡ image_of (afi_in t) (places_in t) (kept (routes_of t))
    unfolding image_of
    renewed-image o n e =
        let within = places-within t (count_in t) is-sound (sound t is-sound).within in
        let size : n ≡ length (kept (routes_of t)) = omega (arith, e, renewed-end) in
        let fewer = length-renewed (afi_in t) which router (routes_of t) in
        let free : 8 + 128 * count_in t - to + 128 * (places_in t - count_in t) ≡ 128 * (places_in t - length (kept (routes_of t))) =
        omega (arith, renewed-end, fewer, length-routes t, (sound t is-sound).within) in
        let tail : drop (8 + 128 * count_in t) s ≡ zeros (128 * (places_in t - count_in t)) = p.rest ∙ image-free t o is-sound in
        let eight : length (take 8 t) ≡ 8 = length-take-le 8 t (omega (arith, within)) in
        ap (λ (x : List ℕ). header_of (afi_in t) n ++ drop 8 (x ++ (zeros (8 + 128 * count_in t - to) ++ drop (8 + 128 * count_in t) s))) (sym passed)
        ∙ ap (λ (x : List ℕ). header_of (afi_in t) n ++ drop 8 x) (append_assoc (take 8 t) (places_of (kept (routes_of t))) (zeros (8 + 128 * count_in t - to) ++ drop (8 + 128 * count_in t) s))
        ∙ ap (λ (x : List ℕ). header_of (afi_in t) n ++ x) (drop_at (take 8 t) (places_of (kept (routes_of t)) ++ (zeros (8 + 128 * count_in t - to) ++ drop (8 + 128 * count_in t) s)) 8 eight)
        ∙ ap₂ (λ (k : ℕ) (x : List ℕ). header_of (afi_in t) k ++ (places_of (kept (routes_of t)) ++ x)) size
        (ap (λ (x : List ℕ). zeros (8 + 128 * count_in t - to) ++ x) tail ∙ sym (zeros-split (8 + 128 * count_in t - to) (128 * (places_in t - count_in t))) ∙ ap zeros free)

    -- how many went
    pub renewed-gone : (n : ℕ) → n ≡ (to - 8) / 128 → count_in t - n ≡ gone_of (afi_in t) router (routes_of t)
    renewed-gone n e = omega (arith, e, renewed-end, length-renewed (afi_in t) which router (routes_of t), length-routes t)
