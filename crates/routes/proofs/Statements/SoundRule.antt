-- Sound tables, octet by octet (specs/Rules/SoundRule.antt).
use Prim.Native.Nat.{ℕ, zero, suc, ◌+◌, ◌*◌, ◌≤◌, ◌<◌}
use mathlib.Core.Path.{◌≡◌, refl, sym, ap, ap₂, subst, ◌∙◌}
use mathlib.Core.Bool.{Bool, true}
use mathlib.Core.Logic.{⊎_elim}
use mathlib.Core.List.{List, [], ◌∷◌, ◌++◌}
use native.Mathlib.Omega.{arith}
use borrow.Author.Tests.{leb-true, le-leb, eq-eqb}
use lib.Dec.{eqb}
use lib.ListN.{length, get_or, take, drop}
use lib.Seq.{take-suc, take-take, drop-drop}
use Rattle.octets.specs.Choice.{pick, both, either}
use Rattle.octets.specs.Outcome.{on_outcome, and_then}
use Rattle.octets.specs.Octets.{part, number_in}
use Rattle.octets.specs.Order.{same, before, zeros, all_zero}
use Rattle.octets.proofs.Choice.{both_true, both-true-left, both-true-right, either_left, either_second}
use Rattle.octets.proofs.Lists.{part-octet, part_filled, part-within}
use Rattle.octets.proofs.NetworkOrder.{number-two}
use Rattle.octets.proofs.Orders.{same-equal, same-of-equal}
use Rattle.octets.proofs.Zeros.{zero-past, zero-each-past}
use Rattle.nlri.specs.Family.{family_bits, allowed, is_originator_size}
use Rattle.nlri.specs.Bodies.{bodies, on_body, code_of, same_kind, field_in}
use Rattle.nlri.specs.Fields.{is_discarded}
use Rattle.nlri.specs.Reading.{fixed_field, address_end, address_field, originator_field, field_size, sizes_of, laid_with, laid_at, cut, fields_of, accepted, accepted_single, read_nlri}
use Rattle.tunnel.specs.Identifier.{identifier_forms, form_in, form_of, one_of, is_identifier, read_identifier}
use Rattle.tunnel.specs.Attribute.{label_of, fields_in, read_attribute}
use Rattle.routes.specs.Route.{Route, entry, nlri_of, attribute_of}
use Rattle.routes.specs.Place.{end_in, route_in, acceptable, place_sound}
use Rattle.routes.specs.Table.{header_start, afi_in, count_in, places_in, routes_from, routes_of, table_size, header_sound, places_sound, sound_of}
use Rattle.routes.specs.Arguments.{read_s_pmsi, read_labelled, read_route}
use Rattle.routes.specs.Rules.ArgumentRules.{KnownFamily, SPmsi, Labelled}
use Rattle.routes.specs.Rules.SoundRule.{count_at, nlri_in_place, attribute_in_place, route_in_place, PlaceHolds, Sound, SoundRule, small_table, SoundExamples}
use Rattle.routes.proofs.Definitions.Bounds.{accepted as route-accepted, read-acceptable}
use Rattle.routes.proofs.Definitions.Ownership.{named-after-none}
use Rattle.routes.proofs.Definitions.Headers.{sound-family, size-sound, places-in}
use Rattle.routes.proofs.Statements.ArgumentRules.{nlri-accepted, nlri-accepts, labelled, argument_rule}
use Rattle.routes.proofs.Statements.Images.{sound, length-routes}

-- acceptable is an NLRI and an attribute that install takes, whatever the mark
acceptable-taken : (afi : ℕ) (nlri attribute : List ℕ) (stale : Bool) → acceptable afi (entry nlri attribute stale) ≡ true → SPmsi afi nlri × Labelled attribute
unfolding nlri_of attribute_of
acceptable-taken afi nlri attribute stale h =
    let a = route-accepted afi (entry nlri attribute stale) h in
    (nlri-accepted afi nlri a.fields a.read, labelled attribute a.attribute_fields a.labelled)

-- and the other way
acceptable-of-taken : (afi : ℕ) (nlri attribute : List ℕ) (stale : Bool) → SPmsi afi nlri → Labelled attribute → acceptable afi (entry nlri attribute stale) ≡ true
unfolding nlri_of attribute_of
acceptable-of-taken afi nlri attribute stale n a = read-acceptable afi (entry nlri attribute stale) _ ((argument_rule.accepted_route afi nlri attribute).1 (n, a))

-- the place from `at` on
module _ (t : List ℕ) (at : ℕ) where
  -- its sizes
  nlri-sized : get_or (part t at 128) 0 0 ≡ get_or t at 0
  nlri-sized = let here : at + 0 ≡ at = omega arith in part-octet t at 128 0 (omega arith) ∙ ap (λ (i : ℕ). get_or t i 0) here

  attribute-sized : get_or (part t at 128) 1 0 ≡ get_or t (at + 1) 0
  attribute-sized = part-octet t at 128 1 (omega arith)

  -- its mark
  mark-at : get_or (part t at 128) 127 0 ≡ get_or t (at + 127) 0
  mark-at = part-octet t at 128 127 (omega arith)

  -- where its attribute ends
  end-at : end_in (part t at 128) ≡ 2 + get_or t at 0 + get_or t (at + 1) 0
  unfolding end_in
  end-at = rw (nlri-sized, attribute-sized) (omega arith)

  -- the route in it
  pub route-at : 2 + get_or t at 0 + get_or t (at + 1) 0 ≤ 127 → route_in (part t at 128) ≡ route_in_place t at
  unfolding route_in
  route-at fits =
      let behind : at + (2 + get_or t at 0) ≡ at + 2 + get_or t at 0 = omega arith in
      rw (nlri-sized, attribute-sized, mark-at)
      (ap₂ (λ (nlri attribute : List ℕ). entry nlri attribute (eqb (get_or t (at + 127) 0) 1)) (part-within t at 128 2 (get_or t at 0) (omega arith))
      (part-within t at 128 (2 + get_or t at 0) (get_or t (at + 1) 0) (omega arith) ∙ ap (λ (i : ℕ). part t i (get_or t (at + 1) 0)) behind))

  -- the octets before its mark
  unmarked-at : take 127 (part t at 128) ≡ part t at 127
  unfolding part
  unmarked-at = take-take 127 128 (drop at t) (omega arith)

  module _ (afi : ℕ) where
    -- a sound place holds a route
    pub place-held : place_sound afi (part t at 128) ≡ true → PlaceHolds afi t at
    unfolding place_sound
    place-held h =
        let end = end-at in
        let fits : 2 + get_or t at 0 + get_or t (at + 1) 0 ≤ 127 = omega (arith, leb-true (end_in (part t at 128)) 127 (both-true-left _ _ h)) in
        let others = both-true-right _ _ (both-true-right _ _ h) in
        let taken = acceptable-taken afi (nlri_in_place t at) (attribute_in_place t at) _ (rw (route-at fits) at (both-true-left _ _ others)) in
        let zeroed = zero-past (end_in (part t at 128)) (part t at 127) (rw unmarked-at at (both-true-right _ _ others)) in
        record {
          fits = fits;
          named = taken.0;
          labelled = taken.1;
          filled = λ i least less. sym (part-octet t at 127 i less) ∙ zeroed i (omega arith);
          marked = rw mark-at at (leb-true (get_or (part t at 128) 127 0) 1 (both-true-left _ _ (both-true-right _ _ h)));
        }

    -- a place that holds a route is sound
    pub place-sound : PlaceHolds afi t at → place_sound afi (part t at 128) ≡ true
    unfolding place_sound
    place-sound p =
        let end = end-at in
        let fits = p.fits in
        let mark = mark-at in
        both_true _ _ (le-leb (end_in (part t at 128)) 127 (omega arith))
        (both_true _ _ (le-leb (get_or (part t at 128) 127 0) 1 (omega (arith, p.marked)))
        (both_true _ _ (ap (acceptable afi) (route-at p.fits) ∙ acceptable-of-taken afi (nlri_in_place t at) (attribute_in_place t at) _ p.named p.labelled)
        (rw unmarked-at (zero-each-past (end_in (part t at 128)) (part t at 127) (part_filled t at 127 (end_in (part t at 128)) (λ j more less. p.filled j (omega arith) less))))))

-- so many places from `at` on hold routes, the first with an NLRI after `previous`, and everything after them is zero
record PlacesHold (afi : ℕ) (t previous : List ℕ) (count at : ℕ) : Type 0 where
  held : (i : ℕ) → i < count → PlaceHolds afi t (at + 128 * i)
  first : 0 < count → before previous (nlri_in_place t at) ≡ true
  increasing : (i : ℕ) → i + 1 < count → before (nlri_in_place t (at + 128 * i)) (nlri_in_place t (at + 128 * (i + 1))) ≡ true
  free : (i : ℕ) → at + 128 * count ≤ i → get_or t i 0 ≡ 0

-- where two NLRIs stand, told in other numbers
before_at : (t : List ℕ) (i j k l : ℕ) → i ≡ k → j ≡ l → before (nlri_in_place t i) (nlri_in_place t j) ≡ true → before (nlri_in_place t k) (nlri_in_place t l) ≡ true
before_at t i j k l p q h = sym (ap₂ (λ (x y : ℕ). before (nlri_in_place t x) (nlri_in_place t y)) p q) ∙ h

module _ (afi : ℕ) (t : List ℕ) where
  -- one place more in front
  places-more : (previous : List ℕ) (count at : ℕ) → PlaceHolds afi t at → before previous (nlri_in_place t at) ≡ true → PlacesHold afi t (nlri_in_place t at) count (at + 128) → PlacesHold afi t previous (suc count) at
  places-more previous count at here after later =
      record {
        held = held;
        first = λ some. after;
        increasing = increasing;
        free = λ i least. later.free i (omega arith);
      }
    where
      held : (i : ℕ) → i < suc count → PlaceHolds afi t (at + 128 * i)
      held zero less = let e : at ≡ at + 128 * 0 = omega arith in subst (PlaceHolds afi t) e here
      held (suc i) less = let e : at + 128 + 128 * i ≡ at + 128 * suc i = omega arith in subst (PlaceHolds afi t) e (later.held i (omega arith))

      increasing : (i : ℕ) → i + 1 < suc count → before (nlri_in_place t (at + 128 * i)) (nlri_in_place t (at + 128 * (i + 1))) ≡ true
      increasing zero less = before_at t at (at + 128) (at + 128 * 0) (at + 128 * (0 + 1)) (omega arith) (omega arith) (later.first (omega arith))
      increasing (suc i) less =
          before_at t (at + 128 + 128 * i) (at + 128 + 128 * (i + 1)) (at + 128 * suc i) (at + 128 * (suc i + 1)) (omega arith) (omega arith) (later.increasing i (omega arith))

  -- and without it
  places-less : (previous : List ℕ) (count at : ℕ) → PlacesHold afi t previous (suc count) at → PlaceHolds afi t at × PlacesHold afi t (nlri_in_place t at) count (at + 128)
  places-less previous count at p =
      let here : at + 128 * 0 ≡ at = omega arith in
      let next : (i : ℕ) → at + 128 * (i + 1) ≡ at + 128 + 128 * i = λ i. omega arith in (
        subst (PlaceHolds afi t) here (p.held 0 (omega arith)),
        record {
          held = λ i less. subst (PlaceHolds afi t) (next i) (p.held (i + 1) (omega arith));
          first = λ some. before_at t (at + 128 * 0) (at + 128 * (0 + 1)) at (at + 128) (omega arith) (omega arith) (p.increasing 0 (omega arith));
          increasing = λ i less. before_at t _ _ _ _ (next i) (next (i + 1)) (p.increasing (i + 1) (omega arith));
          free = λ i least. p.free i (omega arith);
        },
      )

  -- the test of places begins with the first
  places-next : (previous : List ℕ) (count at : ℕ) → places_sound afi previous (suc count) (drop at t)
      ≡ both (place_sound afi (part t at 128)) (both (before previous (nlri_of (route_in (part t at 128)))) (places_sound afi (nlri_of (route_in (part t at 128))) count (drop (at + 128) t)))
  unfolding places_sound part
  places-next previous count at = rw (← drop-drop 128 at t)

  -- the NLRI of the route in a place
  nlri-at : (at : ℕ) → PlaceHolds afi t at → nlri_of (route_in (part t at 128)) ≡ nlri_in_place t at
  unfolding nlri_of
  nlri-at at p = ap nlri_of (route-at t at p.fits)

  -- sound places hold routes in order
  places-held : (previous : List ℕ) (count at : ℕ) → places_sound afi previous count (drop at t) ≡ true → PlacesHold afi t previous count at
  unfolding places_sound
  places-held previous zero at h =
      record {
        held = λ i less. absurd (omega arith);
        first = λ some. absurd (omega arith);
        increasing = λ i less. absurd (omega arith);
        free = λ i least. zero-past at t h i (omega arith);
      }
  places-held previous (suc count) at h =
      let tests = sym (places-next previous count at) ∙ h in
      let here = place-held t at afi (both-true-left _ _ tests) in
      let others = rw (nlri-at at here) at (both-true-right _ _ tests) in
      places-more previous count at here (both-true-left _ _ others) (places-held (nlri_in_place t at) count (at + 128) (both-true-right _ _ others))

  -- places that hold routes in order are sound
  places-sound : (previous : List ℕ) (count at : ℕ) → PlacesHold afi t previous count at → places_sound afi previous count (drop at t) ≡ true
  unfolding places_sound
  places-sound previous zero at p = zero-each-past at t (λ i least. p.free i (omega arith))
  places-sound previous (suc count) at p =
      let q = places-less previous count at p in
      places-next previous count at
      ∙ both_true _ _ (place-sound t at afi q.0) (rw (nlri-at at q.0) (both_true _ _ (p.first (omega arith)) (places-sound (nlri_in_place t at) count (at + 128) q.1)))

-- the count, by its octets
count_at_lem : (t : List ℕ) → 8 ≤ length t → count_in t ≡ count_at t
unfolding count_in
count_at_lem t h = omega (arith, number-two t 6 (omega arith))

-- a sound header begins with the version
version-at : (t : List ℕ) → header_sound t ≡ true → take 5 t ≡ 77 ∷ (86 ∷ (84 ∷ (0 ∷ (1 ∷ []))))
unfolding header_sound header_start
version-at t h = sym (take-take 5 6 t (omega arith)) ∙ ap (take 5) (same-equal _ _ (both-true-left _ _ h))

-- a header with the version and a family is sound
header-sound : (t : List ℕ) → 8 ≤ length t → take 5 t ≡ 77 ∷ (86 ∷ (84 ∷ (0 ∷ (1 ∷ [])))) → KnownFamily (get_or t 5 0) → header_sound t ≡ true
unfolding header_sound header_start afi_in
header-sound t l start family =
    both_true _ _ (same-of-equal _ _ (take-suc t 5 0 (omega arith) ∙ ap (λ (s : List ℕ). s ++ (get_or t 5 0 ∷ [])) start))
    (⊎_elim (λ one. either_left _ _ (eq-eqb _ 1 one)) (λ two. either_second _ _ (eq-eqb _ 2 two)) family)

-- what the test of a table says
sound-is : (t : List ℕ) → sound_of t ≡ true → Sound t
unfolding afi_in
sound-is t h =
    let s = sound t h in
    let count : count_in t ≡ count_at t = count_at_lem t (omega (arith, s.size.is)) in
    let places = places-held (afi_in t) t [] (count_at t) 8 (rw count at s.places) in
    record {
      size = record { places = places_in t; most = s.size.most; is = s.size.is };
      version = version-at t s.header;
      family = sound-family t s.header;
      within = rw count at s.within;
      held = places.held;
      increasing = places.increasing;
      free = places.free;
    }

-- a sound table passes it
is-sound : (t : List ℕ) → Sound t → sound_of t ≡ true
unfolding sound_of afi_in
is-sound t s =
    let least : 8 ≤ length t = omega (arith, s.size.is) in
    let count : count_in t ≡ count_at t = count_at_lem t least in
    let places : places_in t ≡ s.size.places = places-in t s.size.places s.size.is in
    let first : 0 < count_at t → before [] (nlri_in_place t 8) ≡ true =
    λ some. let named = (s.held 0 some).named in named-after-none (get_or t 5 0) (nlri_in_place t 8) named.fields (nlri-accepts (get_or t 5 0) (nlri_in_place t 8) named) in
    both_true _ _ (size-sound (length t) s.size.places s.size.is s.size.most)
    (both_true _ _ (header-sound t least s.version s.family)
    (rw (count, places)
    (both_true _ _ (le-leb _ _ s.within)
    (places-sound (get_or t 5 0) t [] (count_at t) 8 (record { held = s.held; first = first; increasing = s.increasing; free = s.free })))))

-- the routes in places, by their numbers
routes-at : (t : List ℕ) (missing : Route) (count at i : ℕ) → i < count → get_or (routes_from count (drop at t)) i missing ≡ route_in (part t (at + 128 * i) 128)
unfolding routes_from part
routes-at t missing zero at i less = absurd (omega arith)
routes-at t missing (suc count) at zero less = let e : at ≡ at + 128 * 0 = omega arith in ap (λ (k : ℕ). route_in (part t k 128)) e
routes-at t missing (suc count) at (suc i) less =
    let e : at + 128 + 128 * i ≡ at + 128 * suc i = omega arith in
    ap (λ (s : List ℕ). get_or (routes_from count s) i missing) (drop-drop 128 at t) ∙ routes-at t missing count (at + 128) i (omega arith) ∙ ap (λ (k : ℕ). route_in (part t k 128)) e

-- what a sound table says and holds
module _ (t : List ℕ) (s : Sound t) where
  -- its family
  family-at : afi_in t ≡ get_or t 5 0
  unfolding afi_in
  family-at = refl

  -- its count
  counted : count_in t ≡ count_at t
  counted = count_at_lem t (omega (arith, s.size.is))

  -- its places
  places-at : length t ≡ 8 + 128 * places_in t
  places-at = rw (places-in t s.size.places s.size.is) s.size.is

  -- its route number i
  route-held : (missing : Route) (i : ℕ) → i < count_at t → get_or (routes_of t) i missing ≡ route_in_place t (8 + 128 * i)
  unfolding routes_of
  route-held missing i less = rw counted (routes-at t missing (count_at t) 8 i less ∙ route-at t (8 + 128 * i) (s.held i less).fits)

pub sound_rule : SoundRule
sound_rule =
    record {
      exactly = λ t. (sound-is t, is-sound t);
      family = family-at;
      places = places-at;
      count = λ t s. length-routes t ∙ counted t s;
      routes = route-held;
    }

-- the examples, by computation
pub sound_examples : SoundExamples
unfolding small_table pick both either on_outcome and_then part number_in same before zeros all_zero family_bits allowed is_originator_size bodies on_body code_of same_kind field_in fixed_field address_end address_field originator_field field_size sizes_of laid_with laid_at cut fields_of is_discarded accepted accepted_single read_nlri identifier_forms form_in form_of one_of is_identifier read_identifier label_of fields_in read_attribute nlri_of attribute_of read_s_pmsi read_labelled read_route end_in route_in acceptable place_sound header_start afi_in count_in places_in routes_from routes_of table_size header_sound places_sound sound_of
sound_examples =
    record {
      sound = refl;
      family = refl;
      places = refl;
      routes = refl;
      sound_marked = refl;
      marked = refl;
      other_version = refl;
      uncounted = refl;
      untaken = refl;
      overcounted = refl;
      unlabelled = refl;
      unfilled = refl;
      unfilled_last = refl;
      other_mark = refl;
    }
