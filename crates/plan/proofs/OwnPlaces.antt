-- The places of the planner: loops, and what they come to.
use Prim.Native.Nat.{ℕ, ◌+◌, ◌*◌, ◌≤◌}
use mathlib.Core.Path.{◌≡◌, refl, sym, ap, ap₂, ◌∙◌, subst}
use mathlib.Core.Bool.{Bool, true, false, not}
use mathlib.Core.List.{List, [], ◌∷◌, ◌++◌}
use mathlib.Core.Logic.{⊎_elim}
use native.Mathlib.Omega.{arith}
use lib.ListN.{length, length-append}
use Rattle.octets.specs.Choice.{pick, both}
use Rattle.octets.specs.Order.{same}
use Rattle.octets.specs.Outputs.{Put}
use Rattle.octets.specs.Lists.{Among, first, later}
use Rattle.octets.proofs.Choice.{tested, pick_true, pick-false, both_left, both-last}
use Rattle.octets.proofs.Outputs.{put-none, put_then, length-put}
use Rattle.octets.proofs.Among.{among_cases}
use Rattle.routes.specs.Route.{Route}
use Rattle.routes.specs.Place.{place_of}
use Rattle.routes.specs.Table.{places_of}
use Rattle.plan.specs.Flows.{Vrf, ListedFlow, is_listed, different}
use Rattle.plan.specs.Commonest.{others, commonest}
use Rattle.plan.specs.Planning.{route_for, routes_for, wildcard_flow, planned, proposal}
use Rattle.plan.specs.Inner.{stands_out, place_for, RouteSized, VrfSized, FlowSized, AllSized, own_place, own_places, all_places, RoomFor}
use Rattle.plan.proofs.Counts.{commonest-wanted, different-among, others-among, routes-length}
use Rattle.plan.proofs.Puts.{nlri-for, length-place-for}

-- the route of a flow of those sizes
pub flow-route : (d o s g w : List ℕ) (f : ListedFlow) → VrfSized d o → FlowSized f → s ≡ f.source → g ≡ f.group → w ≡ f.wanted → RouteSized d o s g w
flow-route d o s g w f v z es eg ew =
    record {
      distinguished = v.distinguished;
      originated = v.originated;
      sourced = rw es z.sourced;
      grouped = rw eg z.grouped;
      attributed = rw ew z.attributed;
    }

-- whether a flow stands out
module _ (a : List ℕ) (f : ListedFlow) (rest : List ListedFlow) (wants : Bool) (told : wants ≡ same f.wanted a) where
  pub out-same : wants ≡ true → not wants ≡ stands_out a f rest
  unfolding stands_out
  out-same h = ap not h ∙ sym (both_left _ _ (ap not (sym told ∙ h)))

  pub out-listed : wants ≡ false → (has : Bool) → has ≡ is_listed f rest → not has ≡ stands_out a f rest
  unfolding stands_out
  out-listed h has e = both-last _ _ _ (ap not (sym told ∙ h)) (ap not e)

-- a flow's own place, put or not
module _ (d o a : List ℕ) (f : ListedFlow) (rest : List ListedFlow) (flag : Bool) (told : flag ≡ stands_out a f rest) where
  pub own-none : flag ≡ false → (at : ℕ) (output : List ℕ) → Put at (own_place d o a f rest) output at output
  unfolding own_place
  own-none h at output = rw (pick-false (stands_out a f rest) (place_for d o f.source f.group f.wanted) [] (sym told ∙ h)) (put-none at output)

  module _ (on : flag ≡ true) where
    own-some : own_place d o a f rest ≡ place_for d o f.source f.group f.wanted
    unfolding own_place
    own-some = pick_true _ _ _ (sym told ∙ on)

    pub own-requires : (s g w : List ℕ) → s ≡ f.source → g ≡ f.group → w ≡ f.wanted → (at : ℕ) (output : List ℕ) → RoomFor at (own_place d o a f rest) output → VrfSized d o → FlowSized f
        → (at + 128 ≤ length output) × RouteSized d o s g w
    own-requires s g w es eg ew at output room v z = (
      omega (arith, ap length own-some, length-place-for d o f.source f.group f.wanted (flow-route d o _ _ _ f v z refl refl refl), room),
      flow-route d o s g w f v z es eg ew,
    )

    pub own_put : (s g w : List ℕ) → s ≡ f.source → g ≡ f.group → w ≡ f.wanted → (at : ℕ) (output : List ℕ) (r : ℕ) (after : List ℕ) → Put at (place_for d o s g w) output r after → Put at (own_place d o a f rest) output r after
    own_put s g w es eg ew at output r after p = rw (own-some, ← es, ← eg, ← ew) p

-- the loop: what is put from here on completes what was put before
pub record Putting (d o a : List ℕ) (flows : List ListedFlow) (before : List ℕ) (start : ℕ) (output : List ℕ) (end : ℕ) (rest : List ListedFlow) : Type 0 where
  pub completes : (last : ℕ) (after : List ℕ) → Put end (own_places d o a rest) output last after → Put start (own_places d o a flows) before last after
  pub room : RoomFor end (own_places d o a rest) output
  pub kept : length output ≡ length before
  pub sized : AllSized rest

pub putting-first : (d o a : List ℕ) (flows rest : List ListedFlow) (output : List ℕ) (start : ℕ) → rest ≡ flows → AllSized flows → RoomFor start (own_places d o a flows) output → Putting d o a flows output start output start rest
putting-first d o a flows rest output start is sized room = rw is (record { completes = λ last after p. p; room = room; kept = refl; sized = sized })

module _ (d o a : List ℕ) (flows : List ListedFlow) (before : List ℕ) (start : ℕ) (output : List ℕ) (end : ℕ) (rest behind : List ListedFlow) (f : ListedFlow)
    (p : Putting d o a flows before start output end rest) (is : rest ≡ f ∷ behind) where
  places-are : own_places d o a rest ≡ own_place d o a f behind ++ own_places d o a behind
  unfolding own_places
  places-are = ap (own_places d o a) is

  pub putting-sized : FlowSized f
  putting-sized = subst AllSized is p.sized f (first refl)

  room-both : end + length (own_place d o a f behind ++ own_places d o a behind) ≤ length output
  room-both = subst (λ (s : List ℕ). end + length s ≤ length output) places-are p.room

  pub putting-room : RoomFor end (own_place d o a f behind) output
  putting-room = omega (arith, room-both, length-append (own_place d o a f behind) (own_places d o a behind))

  pub putting-next : (r : ℕ) (after : List ℕ) → Put end (own_place d o a f behind) output r after → Putting d o a flows before start after r behind
  putting-next r after q =
      let own : List ℕ = own_place d o a f behind in
      let others : List ℕ = own_places d o a behind in
      record {
        completes = λ last z s. p.completes last z (subst (λ (x : List ℕ). Put end x output last z) (sym places-are) (put_then end own others output room-both r after q last z s));
        room = omega (arith, room-both, length-append own others, length-put end own output r after putting-room q, q.0);
        kept = length-put end own output r after putting-room q ∙ p.kept;
        sized = λ g m. subst AllSized is p.sized g (later m);
      }

pub putting-last : (d o a : List ℕ) (flows : List ListedFlow) (before : List ℕ) (start : ℕ) (output : List ℕ) (end : ℕ) (rest : List ListedFlow) → Putting d o a flows before start output end rest → rest ≡ []
    → Put start (own_places d o a flows) before end output
unfolding own_places
putting-last d o a flows before start output end rest p is = p.completes end output (subst (λ (xs : List ListedFlow). Put end (own_places d o a xs) output end output) (sym is) (put-none end output))

-- the wildcards' place, then the others

commonest-small : (fs : List ListedFlow) → AllSized fs → length (commonest fs) ≤ 64
unfolding commonest
commonest-small [] sized = omega arith
commonest-small (f ∷ fs) sized =
    let c = commonest-wanted f fs in
    subst (λ (a : List ℕ). length a ≤ 64) c.2 (sized c.0 (different-among (f ∷ fs) c.0 c.1)).attributed

module _ (d o : List ℕ) (fs : List ListedFlow) (v : VrfSized d o) (sized : AllSized fs) (output : List ℕ) (room : RoomFor 0 (all_places d o (commonest fs) fs) output) (a : List ℕ) (leads : a ≡ commonest fs) where
  every-sized : RouteSized d o [] [] a
  every-sized =
      record {
        distinguished = v.distinguished;
        originated = v.originated;
        sourced = omega arith;
        grouped = omega arith;
        attributed = rw leads (commonest-small fs sized);
      }

  all_room : 0 + length (place_for d o [] [] a ++ own_places d o a fs) ≤ length output
  unfolding all_places
  all_room = rw leads room

  first-room : 0 + length (place_for d o [] [] a) ≤ length output
  first-room = omega (arith, all_room, length-append (place_for d o [] [] a) (own_places d o a fs))

  pub every-requires : (0 + 128 ≤ length output) × RouteSized d o [] [] a
  every-requires = (omega (arith, first-room, length-place-for d o [] [] a every-sized), every-sized)

  module _ (s : ℕ) (x : List ℕ) (p : Put 0 (place_for d o [] [] a) output s x) where
    pub others-room : RoomFor s (own_places d o a fs) x
    others-room = omega (arith, all_room, length-append (place_for d o [] [] a) (own_places d o a fs), length-put 0 (place_for d o [] [] a) output s x first-room p, p.0)

    pub all-put : (r : ℕ) (after : List ℕ) → Put s (own_places d o a fs) x r after → Put 0 (all_places d o (commonest fs) fs) output r after
    unfolding all_places
    all-put r after q =
        subst (λ (b : List ℕ). Put 0 (place_for d o [] [] b ++ own_places d o b fs) output r after) leads
        (put_then 0 (place_for d o [] [] a) (own_places d o a fs) output all_room s x p r after q)

-- these are the places of the proposal

place-route : (vrf : Vrf) (f : ListedFlow) → place_for vrf.distinguisher vrf.originator f.source f.group f.wanted ≡ place_of (route_for vrf f)
unfolding place_for route_for
place-route vrf f = ap (λ (n : List ℕ). place_of (Route.entry n f.wanted false)) (nlri-for vrf f)

own-routes : (vrf : Vrf) (a : List ℕ) (fs : List ListedFlow) → own_places vrf.distinguisher vrf.originator a fs ≡ places_of (routes_for vrf (others a (different fs)))
unfolding own_places own_place stands_out different others routes_for places_of pick both
own-routes vrf a [] = refl
own-routes vrf a (f ∷ fs) =
    let later_ones = own-routes vrf a fs in
    tested (is_listed f fs)
    (λ t. tested (same f.wanted a) (λ s. rw (t, s) later_ones) (λ s. rw (t, s) later_ones))
    (λ n. tested (same f.wanted a) (λ s. rw (n, s) later_ones) (λ s. rw (n, s) (ap₂ (λ (p q : List ℕ). p ++ q) (place-route vrf f) later_ones)))

pub all-routes : (vrf : Vrf) (fs : List ListedFlow) → (length fs ≡ 0 → ⊥) → all_places vrf.distinguisher vrf.originator (commonest fs) fs ≡ places_of (proposal vrf fs)
unfolding all_places proposal planned routes_for places_of wildcard_flow
all-routes vrf [] some = absurd (some refl)
all-routes vrf (f ∷ fs) some =
    ap₂ (λ (p q : List ℕ). p ++ q) (place-route vrf (wildcard_flow (commonest (f ∷ fs)))) (own-routes vrf (commonest (f ∷ fs)) (f ∷ fs))

-- 128 octets each

routes-places : (vrf : Vrf) (fs : List ListedFlow) → VrfSized vrf.distinguisher vrf.originator → ((f : ListedFlow) → Among f fs → FlowSized f) → length (places_of (routes_for vrf fs)) ≡ 128 * length fs
unfolding routes_for places_of
routes-places vrf [] v sized = refl
routes-places vrf (f ∷ fs) v sized =
    let one : length (place_of (route_for vrf f)) ≡ 128 = ap length (sym (place-route vrf f)) ∙ length-place-for _ _ _ _ _ (flow-route _ _ _ _ _ f v (sized f (first refl)) refl refl refl) in
    omega (arith, length-append (place_of (route_for vrf f)) (places_of (routes_for vrf fs)), routes-places vrf fs v (λ g m. sized g (later m)))

planned-sized : (a : List ℕ) (fs : List ListedFlow) → length a ≤ 64 → ((f : ListedFlow) → Among f fs → FlowSized f) → (f : ListedFlow) → Among f (planned a fs) → FlowSized f
unfolding planned wildcard_flow
planned-sized a fs small sized f m =
    ⊎_elim (λ e. subst FlowSized (sym e) (record { sourced = omega arith; grouped = omega arith; attributed = small }))
    (λ k. sized f (different-among fs f (others-among a (different fs) f k).0))
    (among_cases m)

pub proposal-places : (vrf : Vrf) (fs : List ListedFlow) → VrfSized vrf.distinguisher vrf.originator → AllSized fs → length (places_of (proposal vrf fs)) ≡ 128 * length (proposal vrf fs)
unfolding proposal places_of
proposal-places vrf [] v sized = refl
proposal-places vrf (f ∷ fs) v sized =
    routes-places vrf (planned (commonest (f ∷ fs)) (f ∷ fs)) v (planned-sized (commonest (f ∷ fs)) (f ∷ fs) (commonest-small (f ∷ fs) sized) sized)
    ∙ ap (λ (n : ℕ). 128 * n) (sym (routes-length vrf (planned (commonest (f ∷ fs)) (f ∷ fs))))
