-- Planned routes written: room and octets.
use Prim.Native.Nat.{ℕ, ◌+◌, ◌-◌, ◌*◌, ◌≤◌}
use mathlib.Core.Path.{◌≡◌, sym, ap, ◌∙◌}
use mathlib.Core.List.{List, [], ◌∷◌, ◌++◌, append-nil}
use native.Mathlib.Omega.{arith}
use lib.ListN.{length, length-append, take, drop}
use Rattle.octets.specs.Choice.{pick}
use Rattle.octets.specs.Octets.{placed}
use Rattle.octets.specs.Order.{zeros}
use Rattle.octets.specs.Outputs.{Put}
use Rattle.octets.proofs.Outputs.{put_as, length-put, put_three, room-first, room-second, room-third}
use Rattle.nlri.specs.Bodies.{bodies, on_body, body_of}
use Rattle.nlri.specs.Fields.{encode_address, encode_field, encode_body, encode_nlri}
use Rattle.plan.specs.Flows.{Vrf, ListedFlow}
use Rattle.plan.specs.Planning.{fields_for}
use Rattle.routes.specs.Route.{route, nlri_of, attribute_of}
use Rattle.routes.proofs.Definitions.Places.{length-place, length-zeros}
use Rattle.places.proofs.Places.{place-written, lent-over}
use Rattle.plan.specs.Inner.{source_to_originator, planned_nlri, place_for, RouteSized}

module _ (s g o d : List ℕ) (at : ℕ) (fits : at + length (source_to_originator s g o) ≤ length d) where
  pub flow-first : at + (1 + length s) ≤ length d
  unfolding source_to_originator encode_address
  flow-first = omega (arith, room-first at (8 * length s ∷ s) ((8 * length g ∷ g) ++ o) d fits)

  module _ (second : ℕ) (y : List ℕ) (p : Put at (encode_address s) d second y) where
    pub flow-second : second + (1 + length g) ≤ length y
    unfolding source_to_originator encode_address
    flow-second = omega (arith, room-second at (8 * length s ∷ s) (8 * length g ∷ g) o d fits second y p)

    module _ (third : ℕ) (z : List ℕ) (q : Put second (encode_address g) y third z) where
      pub flow-third : third + length o ≤ length z
      unfolding source_to_originator
      flow-third = room-third at (encode_address s) (encode_address g) o d fits second y p third z q

      pub flow-put : (last : ℕ) (x : List ℕ) → Put third o z last x → Put at (source_to_originator s g o) d last x
      unfolding source_to_originator
      flow-put last x r = put_three at (encode_address s) (encode_address g) o d fits second y p third z q last x r

length-flow : (s g o : List ℕ) → length (source_to_originator s g o) ≡ 2 + length s + length g + length o
unfolding source_to_originator encode_address
length-flow s g o = simp length-append (omega arith)

-- the NLRI of a planned route is its encoding
pub nlri-for : (vrf : Vrf) (f : ListedFlow) → planned_nlri vrf.distinguisher f.source f.group vrf.originator ≡ encode_nlri (fields_for vrf f)
unfolding planned_nlri source_to_originator fields_for encode_nlri encode_body encode_field body_of bodies on_body pick
nlri-for vrf f =
    rw (append-nil vrf.originator)
    (ap (λ (n : ℕ). 3 ∷ (n ∷ (vrf.distinguisher ++ (encode_address f.source ++ (encode_address f.group ++ vrf.originator))))) (sym (length-append vrf.distinguisher (encode_address f.source ++ (encode_address f.group ++ vrf.originator)))))

module _ (d s g o out : List ℕ) (at n : ℕ) (eight : length d ≡ 8) (is : n ≡ 10 + length s + length g + length o) (fits : at + length (planned_nlri d s g o) ≤ length out) where
  nlri-split : planned_nlri d s g o ≡ (3 ∷ (n ∷ [])) ++ (d ++ source_to_originator s g o)
  unfolding planned_nlri
  nlri-split = let e : length d + length (source_to_originator s g o) ≡ n = omega (arith, length-flow s g o) in ap (λ (k : ℕ). (3 ∷ (k ∷ [])) ++ (d ++ source_to_originator s g o)) e

  room : at + length ((3 ∷ (n ∷ [])) ++ (d ++ source_to_originator s g o)) ≤ length out
  room = rw nlri-split at fits

  pub nlri-first : at + 2 ≤ length out
  nlri-first = omega (arith, room-first at (3 ∷ (n ∷ [])) (d ++ source_to_originator s g o) out room)

  module _ (second : ℕ) (y : List ℕ) (p : Put at (3 ∷ (n ∷ [])) out second y) where
    pub nlri-second : second + length d ≤ length y
    nlri-second = room-second at (3 ∷ (n ∷ [])) d (source_to_originator s g o) out room second y p

    module _ (third : ℕ) (z : List ℕ) (q : Put second d y third z) where
      pub nlri-third : third + length (source_to_originator s g o) ≤ length z
      nlri-third = room-third at (3 ∷ (n ∷ [])) d (source_to_originator s g o) out room second y p third z q

      pub nlri-put : (last : ℕ) (x : List ℕ) → Put third (source_to_originator s g o) z last x → Put at (planned_nlri d s g o) out last x
      nlri-put last x r = put_as at _ _ out last x (sym nlri-split) (put_three at (3 ∷ (n ∷ [])) d (source_to_originator s g o) out room second y p third z q last x r)

length-nlri : (d s g o : List ℕ) → length d ≡ 8 → length (planned_nlri d s g o) ≡ 12 + length s + length g + length o
unfolding planned_nlri
length-nlri d s g o eight = simp length-append (omega (arith, length-flow s g o))

-- a place for a route, in which sizes, NLRI and attribute are put
module _ (d o s g w : List ℕ) (sized : RouteSized d o s g w) where
  pub route-room : length (planned_nlri d s g o) + length w ≤ 125
  route-room = omega (arith, length-nlri d s g o sized.distinguished, sized.originated, sized.sourced, sized.grouped, sized.attributed)

  pub length-place-for : length (place_for d o s g w) ≡ 128
  unfolding place_for nlri_of attribute_of
  length-place-for = length-place (route (planned_nlri d s g o) w) route-room

  module _ (place z : List ℕ) (whole : length place ≡ 128) (cleared : z ≡ zeros (length place)) (n : ℕ) (is : n ≡ 10 + length s + length g + length o) where
    sizes-are : (2 + n) ∷ (length w ∷ []) ≡ length (planned_nlri d s g o) ∷ (length w ∷ [])
    sizes-are = let e : 2 + n ≡ length (planned_nlri d s g o) = omega (arith, length-nlri d s g o sized.distinguished) in ap (λ (k : ℕ). k ∷ (length w ∷ [])) e

    cleared-length : length z ≡ 128
    cleared-length = ap length cleared ∙ length-zeros (length place) ∙ whole

    pub sizes-room : 0 + 2 ≤ length z
    sizes-room = omega (arith, cleared-length)

    module _ (i : ℕ) (x : List ℕ) (p : Put 0 ((2 + n) ∷ (length w ∷ [])) z i x) where
      pub nlri-room : i + length (planned_nlri d s g o) ≤ length x
      nlri-room = omega (arith, cleared-length, length-put 0 ((2 + n) ∷ (length w ∷ [])) z i x sizes-room p, p.0, route-room)

      module _ (j : ℕ) (y : List ℕ) (q : Put i (planned_nlri d s g o) x j y) where
        pub wanted_room : j + length w ≤ length y
        wanted_room = omega (arith, cleared-length, length-put 0 ((2 + n) ∷ (length w ∷ [])) z i x sizes-room p, length-put i (planned_nlri d s g o) x j y nlri-room q, p.0, q.0, route-room)

        pub place-put : (k : ℕ) (v : List ℕ) → Put j w y k v → v ≡ place_for d o s g w
        unfolding place_for
        place-put k v r = place-written (planned_nlri d s g o) w z x y v i j k route-room (cleared ∙ ap zeros whole) (put_as 0 _ _ z i x sizes-are p) q r

  pub part-written : (at : ℕ) (output part : List ℕ) → part ≡ place_for d o s g w → take at output ++ (part ++ drop (at + 128 - at) (drop at output)) ≡ placed at (place_for d o s g w) output
  part-written at output part e = rw e (lent-over 128 at output (place_for d o s g w) length-place-for)

  pub place_end : (at next : ℕ) → next ≡ at + 128 → next ≡ at + length (place_for d o s g w)
  place_end at next e = omega (arith, length-place-for)
