-- The functions that judge proposed places.
use Prim.Native.Nat.{ℕ, zero, suc, ◌+◌, ◌*◌, ◌/◌, ◌%◌, ◌≤◌, ◌<◌}
use mathlib.Core.Path.{◌≡◌, refl, sym, ◌∙◌, ap, ap₂, subst}
use mathlib.Core.Bool.{Bool, true, false, not}
use mathlib.Core.List.{List, [], ◌∷◌}
use native.Mathlib.Nat.{zero-add}
use native.Mathlib.Omega.{arith}
use borrow.Author.Tests.{eq-eqb, ne_eqb}
use lib.ListN.{length, length-drop, take, drop}
use lib.Seq.{drop-drop}
use Rattle.std.proofs.Common.{Option, None, Some}
use mathlib.Core.Logic.{◌≢◌}
use Rattle.octets.specs.Numbers.{DONE}
use Rattle.octets.specs.Outcome.{given, refused}
use Rattle.octets.specs.Choice.{both}
use Rattle.octets.specs.Octets.{part}
use Rattle.octets.specs.Order.{same}
use Rattle.octets.proofs.Choice.{both-true-left, both-true-right, both_left, both-last, flag_off, flag-on, both-assoc}
use Rattle.octets.proofs.Outcome.{on-given, on-refused}
use Rattle.octets.proofs.Lists.{length_part}
use Rattle.nlri.specs.Fields.{Fields}
use Rattle.groups.specs.Classes.{class_by}
use Rattle.routes.specs.Route.{Route, nlri_of, attribute_of}
use Rattle.routes.specs.Place.{end_in, route_in, place_sound}
use Rattle.routes.specs.Table.{routes_from}
use Rattle.routes.specs.Matching.{match_in}
use Rattle.routes.proofs.Definitions.Bounds.{Accepted, accepted}
use Rattle.routes.proofs.Definitions.Matching.Conditions.{fields-of}
use Rattle.routes.proofs.Definitions.Places.{sound-acceptable}
use Rattle.nlri.specs.Standing.{standing, group_end}
use Rattle.places.specs.Readable.{Bounded, Readable}
use Rattle.places.proofs.FieldStarts.{fields-bounded, fields-stand}
use Rattle.places.proofs.Sounds.{sound-end}
use Rattle.places.proofs.Taken.{Taken, taken-readable}
use Rattle.matches.specs.declared.scan.Best.{Best}
use Rattle.matches.specs.declared.tier.Tiers.{Tiers}
use Rattle.matches.specs.Scanning.{sought_of, scan_at, open_query, best_in, Kept, open_tiers, sized_fault}
use Rattle.matches.proofs.FlowClasses.{flow-unclassed, flow-missized, flow-taken, flow-some}
use Rattle.matches.proofs.BestRoutes.{scan-matches, scan-taken}
use Rattle.plan.specs.Flows.{Vrf, vrf_of, ListedFlow, asking}
use Rattle.plan.specs.Judging.{is_own, all_own, no_repeat, gives, matched, serves, all_served, accepts, sound_places, accepts_places}
use Rattle.plan.specs.Inner.{stands_as, own_good_place, good_places, Proposed, BestFor, EachEnds}
use Rattle.plan.proofs.Judges.{repeats-not}

-- a sound place: its NLRI's fields stand in it, and are those that reading gives
module _ (afi : ℕ) (place : List ℕ) (sized : length place ≡ 128) (sound : place_sound afi place ≡ true) where
  taken-route : Accepted afi (nlri_of (route_in place)) (attribute_of (route_in place))
  taken-route = accepted afi (route_in place) (sound-acceptable afi place sound)

  place-readable : (end_in place ≤ length place) × Bounded (nlri_of (route_in place))
  place-readable = (let e = sound-end afi place sound in omega arith, fields-bounded afi (nlri_of (route_in place)) taken-route.fields taken-route.read)

own-stands : (afi : ℕ) (vrf : Vrf) (place : List ℕ) → place_sound afi place ≡ true → is_own afi vrf (route_in place) ≡ stands_as vrf.originator vrf.distinguisher (nlri_of (route_in place))
unfolding is_own stands_as
own-stands afi vrf place sound =
    let taken = accepted afi (route_in place) (sound-acceptable afi place sound) in
    fields-of afi (route_in place) _ taken.fields taken.read
    ∙ ap (λ (f : Fields). both (same f.originator vrf.originator) (same f.distinguisher vrf.distinguisher)) (fields-stand afi (nlri_of (route_in place)) taken.fields taken.read)

module _ (afi : ℕ) (o d place : List ℕ) (flag : Bool) (told : flag ≡ place_sound afi place) where
  pub good-not : not flag ≡ true → false ≡ own_good_place afi o d place
  unfolding own_good_place
  good-not h = sym (both_left _ _ (flag_off _ _ told h))

  pub good-is : not flag ≡ false → (r : Bool) → r ≡ stands_as o d (nlri_of (route_in place)) → r ≡ own_good_place afi o d place
  unfolding own_good_place
  good-is h r e = both-last _ _ _ (flag-on _ _ told h) e

pub good-readable : (afi : ℕ) (place : List ℕ) (flag : Bool) → flag ≡ place_sound afi place → not flag ≡ false → length place ≡ 128 → (end_in place ≤ length place) × Bounded (nlri_of (route_in place))
good-readable afi place flag told h sized = place-readable afi place sized (flag-on _ _ told h)

-- each of the proposed places is taken
proposed-taken : (afi count : ℕ) (s : List ℕ) (at : ℕ) → sound_places afi count (drop at s) ≡ true → at + 128 * count ≤ length s → (k : ℕ) → k < count → Taken afi s (at + 128 * k)
unfolding sound_places part
proposed-taken afi zero s at h l k some = absurd (omega arith)
proposed-taken afi (suc count) s at h l zero some =
    let e : at ≡ at + 128 * zero = omega arith in
    subst (Taken afi s) e (record { within = omega arith; sound = both-true-left _ _ h })
proposed-taken afi (suc count) s at h l (suc k) some =
    let e : at + 128 + 128 * k ≡ at + 128 * suc k = omega arith in
    subst (Taken afi s) e (proposed-taken afi count s (at + 128) (ap (sound_places afi count) (sym (drop-drop 128 at s)) ∙ both-true-right _ _ h) (omega arith) k (omega arith))

-- the place that a flow takes
module _ (afi : ℕ) (places : List ℕ) (count : ℕ) (p : Proposed afi places count) where
  all-taken : (k : ℕ) → k < count → Taken afi places (128 * k)
  all-taken k h = subst (Taken afi places) (zero-add (128 * k)) (proposed-taken afi count places 0 p.sound (let r = p.room in omega arith) k h)

  pub all-readable : (k : ℕ) → k < count → Readable places (128 * k)
  all-readable k h = taken-readable afi places (128 * k) (all-taken k h)

  scanned-kept : (best : Option Best) → Kept (Taken afi places) best → Kept (Readable places) best
  scanned-kept None k = tt
  scanned-kept (Some b) k = taken-readable afi places b.start k

  -- a flow's match over them
  module _ (vrf : Vrf) (f : ListedFlow) (group : List ℕ) (eg : group ≡ f.group) where
    pub best-unclassed : (n : ℕ) → refused n ≡ class_by afi vrf.prefixes group → BestFor afi (asking vrf f) places count None
    unfolding matched best_in
    best-unclassed n e =
        record { is = on-refused _ _ _ _ _ (flow-unclassed afi (asking vrf f) n (e ∙ ap (class_by afi vrf.prefixes) eg)) refl; stands = tt }

    module _ (class : ℕ) (classed : given class ≡ class_by afi vrf.prefixes group) (source : List ℕ) (es : source ≡ f.source) where
      by : given class ≡ class_by afi vrf.prefixes f.group
      by = classed ∙ ap (class_by afi vrf.prefixes) eg

      pub best-missized : (n : ℕ) → n ≡ sized_fault DONE (length vrf.originator) (length source) (length group) → n ≢ DONE → BestFor afi (asking vrf f) places count None
      unfolding matched best_in
      best-missized n told d =
          let is : n ≡ sized_fault DONE (length vrf.originator) (length f.source) (length f.group) = told ∙ ap₂ (λ (s g : List ℕ). sized_fault DONE (length vrf.originator) (length s) (length g)) es eg in
          record { is = on-refused _ _ _ _ _ (flow-missized afi (asking vrf f) class by n is d) refl; stands = tt }

      module _ (none : DONE ≡ sized_fault DONE (length vrf.originator) (length source) (length group)) where
        some : (0 < length source) × (0 < length group) × (4 ≤ length vrf.originator)
        some = flow-some afi vrf.prefixes group class classed (length vrf.originator) (length source) none

        pub router-least : 4 ≤ length vrf.originator
        router-least = some.2

        pub best-scanned : (tiers : Tiers) → tiers ≡ open_tiers class → (best : Option Best) → best ≡ scan_at (sought_of vrf.originator source group) tiers places count 0 None → BestFor afi (asking vrf f) places count best
        unfolding matched
        best-scanned tiers opens best scans =
            let is : best ≡ scan_at (sought_of vrf.originator source group) (open_tiers class) places count 0 None = scans ∙ ap (λ (k : Tiers). scan_at (sought_of vrf.originator source group) k places count 0 None) opens in
            record {
              is =
                  scan-matches afi (sought_of vrf.originator source group) (open_tiers class) some.0 some.1 places count all-taken best is p.distinct
                  ∙ on-given _ _ _ _ _ (flow-taken afi (asking vrf f) class by (none ∙ ap₂ (λ (s g : List ℕ). sized_fault DONE (length vrf.originator) (length s) (length g)) es eg)) (ap₂ (λ (s g : List ℕ). match_in afi (open_query (sought_of vrf.originator s g) (open_tiers class)) (routes_from count places)) es eg);
              stands = scanned-kept best (scan-taken afi (sought_of vrf.originator source group) (open_tiers class) some.0 some.1 places count all-taken best is);
            }

-- what a flow's match takes, and whether it has the wanted attribute
module _ (afi : ℕ) (vrf : Vrf) (f : ListedFlow) (places : List ℕ) (count : ℕ) where
  pub served-none : BestFor afi (asking vrf f) places count None → false ≡ serves afi vrf (routes_from count places) f
  unfolding serves gives best_in
  served-none b = sym (ap (gives f.wanted) (sym b.is))

  module _ (best : Best) (b : BestFor afi (asking vrf f) places count (Some best)) where
    pub best-within : best.start + 128 ≤ length places
    best-within = b.stands.within

    pub best-ends : (place : List ℕ) → place ≡ part places best.start 128 → end_in place ≤ length place
    best-ends place e = rw e (let r = b.stands.ends in omega (arith, length_part places best.start 128 best-within))

    pub served-some : (place a w : List ℕ) → place ≡ part places best.start 128 → a ≡ attribute_of (route_in place) → w ≡ f.wanted → (r : Bool) → r ≡ same a w → r ≡ serves afi vrf (routes_from count places) f
    unfolding serves gives best_in
    served-some place a w cut at want r told = told ∙ ap₂ same (at ∙ ap (λ (s : List ℕ). attribute_of (route_in s)) cut) want ∙ ap (gives f.wanted) b.is

-- every flow is served
module _ (afi : ℕ) (vrf : Vrf) (rs : List Route) {all : Bool} {rest behind : List ListedFlow} {f : ListedFlow} (so_far : all ≡ all_served afi vrf rs rest) (step : rest ≡ f ∷ behind) (flag : Bool) (told : flag ≡ serves afi vrf rs f) where
  pub unserved : flag ≡ false → false ≡ all
  unfolding all_served
  unserved h = sym (so_far ∙ ap (all_served afi vrf rs) step ∙ both_left _ _ (sym told ∙ h))

  pub served-next : flag ≡ true → all ≡ all_served afi vrf rs behind
  unfolding all_served
  served-next h = so_far ∙ ap (all_served afi vrf rs) step ∙ sym (both-last _ _ _ (sym told ∙ h) refl)

pub served-ends : (afi : ℕ) (vrf : Vrf) (rs : List Route) {all : Bool} {rest : List ListedFlow} → all ≡ all_served afi vrf rs rest → rest ≡ [] → true ≡ all
unfolding all_served
served-ends afi vrf rs so_far end = sym (so_far ∙ ap (all_served afi vrf rs) end)

-- good places are sound, and their routes the VRF's
turned-both : (sound own rest others : Bool) → both (both sound own) (both rest others) ≡ both (both sound rest) (both own others)
unfolding both
turned-both true true true others = refl
turned-both true true false others = refl
turned-both true false true others = refl
turned-both true false false others = refl
turned-both false own rest others = refl

own-where-sound : (sound own stands : Bool) → (sound ≡ true → own ≡ stands) → both sound stands ≡ both sound own
unfolding both
own-where-sound true own stands h = sym (h refl)
own-where-sound false own stands h = refl

good-places : (afi : ℕ) (vrf : Vrf) (count : ℕ) (s : List ℕ) → good_places afi vrf.originator vrf.distinguisher count s ≡ both (sound_places afi count s) (all_own afi vrf (routes_from count s))
unfolding good_places own_good_place sound_places all_own routes_from both
good-places afi vrf zero s = refl
good-places afi vrf (suc count) s =
    ap₂ both (own-where-sound (place_sound afi (take 128 s)) (is_own afi vrf (route_in (take 128 s))) _ (own-stands afi vrf (take 128 s))) (good-places afi vrf count (drop 128 s))
    ∙ turned-both (place_sound afi (take 128 s)) (is_own afi vrf (route_in (take 128 s))) (sound_places afi count (drop 128 s)) (all_own afi vrf (routes_from count (drop 128 s)))

-- the route of a sound place ends within it
sound-ends : (afi count : ℕ) (s : List ℕ) → sound_places afi count s ≡ true → 128 * count ≤ length s → EachEnds count s
unfolding EachEnds sound_places
sound-ends afi zero s h room = tt
sound-ends afi (suc count) s h room = (sound-end afi (take 128 s) (both-true-left _ _ h), sound-ends afi count (drop 128 s) (both-true-right _ _ h) (omega (arith, length-drop 128 s)))

-- the branches of the judge
module _ (afi : ℕ) (vrf : Vrf) (fs : List ListedFlow) (s : List ℕ) where
  pub judge-cut : (length s % 128 ≡ 0 → ⊥) → false ≡ accepts_places afi vrf fs s
  unfolding accepts_places
  judge-cut h = sym (both_left _ _ (ne_eqb _ _ h))

  module _ (whole : length s % 128 ≡ 0) (good : Bool) (told : good ≡ good_places afi vrf.originator vrf.distinguisher (length s / 128) s) where
    rest-is : accepts_places afi vrf fs s ≡ both good (both (no_repeat (routes_from (length s / 128) s)) (all_served afi vrf (routes_from (length s / 128) s) fs))
    unfolding accepts_places accepts
    rest-is =
        sym (both-last _ _ _ (eq-eqb _ _ whole) refl) ∙ sym (both-assoc _ _ _)
        ∙ ap (λ (b : Bool). both b (both (no_repeat (routes_from (length s / 128) s)) (all_served afi vrf (routes_from (length s / 128) s) fs))) (sym (told ∙ good-places afi vrf (length s / 128) s))

    pub judge-bad : not good ≡ true → false ≡ accepts_places afi vrf fs s
    judge-bad h = sym (rest-is ∙ both_left _ _ (flag_off _ _ refl h))

    sound-all : not good ≡ false → sound_places afi (length s / 128) s ≡ true
    sound-all h = both-true-left _ _ (sym (told ∙ good-places afi vrf (length s / 128) s) ∙ flag-on _ _ refl h)

    pub judge-ends : not good ≡ false → EachEnds (length s / 128) s
    judge-ends h = sound-ends afi (length s / 128) s (sound-all h) (omega arith)

    module _ (on : not good ≡ false) (once : Bool) (is : once ≡ no_repeat (routes_from (length s / 128) s)) where
      pub judge-twice : not once ≡ true → false ≡ accepts_places afi vrf fs s
      judge-twice h = sym (rest-is ∙ sym (both-last _ _ _ (flag-on _ _ refl on) refl) ∙ both_left _ _ (sym is ∙ flag_off _ _ refl h))

      pub judge-proposed : not once ≡ false → Proposed afi s (length s / 128)
      judge-proposed h = record { room = omega arith; sound = sound-all on; distinct = repeats-not _ (sym is ∙ flag-on _ _ refl h) }

      pub judge-served : not once ≡ false → (r : Bool) → r ≡ all_served afi vrf (routes_from (length s / 128) s) fs → r ≡ accepts_places afi vrf fs s
      judge-served h r e = e ∙ sym (rest-is ∙ sym (both-last _ _ _ (flag-on _ _ refl on) refl) ∙ sym (both-last _ _ _ (sym is ∙ flag-on _ _ refl h) refl))

-- what the functions' branches need
pub bounded-nlri : (place nlri : List ℕ) → nlri ≡ nlri_of (route_in place) → (end_in place ≤ length place) × Bounded (nlri_of (route_in place)) → Bounded nlri
bounded-nlri place nlri e b = subst Bounded (sym e) b.1

pub nlri-within : (place nlri : List ℕ) → nlri ≡ nlri_of (route_in place) → (end_in place ≤ length place) × Bounded (nlri_of (route_in place)) → group_end nlri ≤ length nlri
nlri-within place nlri e b = let w = (bounded-nlri place nlri e b).within in omega arith

-- fields that stand in an NLRI, compared
module _ (place nlri o d : List ℕ) (stands : nlri ≡ nlri_of (route_in place)) (flag : Bool) (told : flag ≡ same (standing nlri).originator o) where
  own-here : flag ≡ same (standing (nlri_of (route_in place))).originator o
  own-here = told ∙ ap (λ (n : List ℕ). same (standing n).originator o) stands

  pub own-not : not flag ≡ true → false ≡ stands_as o d (nlri_of (route_in place))
  unfolding stands_as
  own-not h = sym (both_left _ _ (flag_off _ _ own-here h))

  pub own_is : not flag ≡ false → (y : List ℕ) → y ≡ (standing nlri).distinguisher → (r : Bool) → r ≡ same y d → r ≡ stands_as o d (nlri_of (route_in place))
  unfolding stands_as
  own_is h y e r q = both-last _ _ _ (flag-on _ _ own-here h) (q ∙ ap (λ (s : List ℕ). same s d) (e ∙ ap (λ (n : List ℕ). (standing n).distinguisher) stands))

-- what the judge's calls need, whatever the flows
module _ (afi : ℕ) (o d s : List ℕ) (good : Bool) (told : good ≡ good_places afi o d (length s / 128) s) (whole : length s % 128 ≡ 0) (on : not good ≡ false) where
  pub ends-by : EachEnds (length s / 128) s
  ends-by = judge-ends afi (vrf_of [] o d) [] s whole good told on

  pub proposed-by : (once : Bool) → once ≡ no_repeat (routes_from (length s / 128) s) → not once ≡ false → Proposed afi s (length s / 128)
  proposed-by once is h = judge-proposed afi (vrf_of [] o d) [] s whole good told on once is h
