-- The taken places of a sound table.
use Prim.Native.Nat.{ℕ, zero, suc, ◌+◌, ◌*◌, ◌≤◌, ◌<◌}
use mathlib.Core.Path.{◌≡◌, sym, ◌∙◌, ap, subst}
use mathlib.Core.Bool.{true}
use mathlib.Core.List.{List, []}
use native.Mathlib.Omega.{arith}
use lib.ListN.{length, drop, length-drop}
use lib.Seq.{drop-drop}
use Rattle.octets.specs.Outcome.{given}
use Rattle.octets.specs.Octets.{part}
use Rattle.octets.proofs.Choice.{both-true-left, both-true-right}
use Rattle.octets.proofs.Outcome.{given-otherwise, passed, given-same}
use Rattle.octets.proofs.Lists.{length_part}
use Rattle.tunnel.specs.Attribute.{AttributeFields, fields_in, read_attribute}
use lib.ListN.{take}
use Rattle.routes.specs.Route.{nlri_of, attribute_of}
use Rattle.routes.specs.Arguments.{read_labelled}
use Rattle.routes.specs.Place.{end_in, route_in, place_sound}
use Rattle.routes.specs.Table.{places_sound, sound_of, afi_in, count_in}
use Rattle.routes.proofs.Definitions.Bounds.{Accepted, accepted, sizes-of}
use Rattle.routes.proofs.Definitions.Places.{sound-acceptable}
use Rattle.places.specs.Readable.{nlri_at, Readable}
use Rattle.places.specs.Writing.{RouteFits}
use Rattle.places.proofs.FieldStarts.{fields-bounded}
use Rattle.places.proofs.Sounds.{sound-end}
use Rattle.routes.proofs.Statements.Images.{sound}
use native.Mathlib.Nat.{zero-add}

-- a sound place starts there
pub record Taken (afi : ℕ) (t : List ℕ) (at : ℕ) : Type 0 where
  pub within : at + 128 ≤ length t
  pub sound : place_sound afi (part t at 128) ≡ true

-- an attribute that reads gives the fields that stand in it
fields_in_lem : (s : List ℕ) (f : AttributeFields) → read_attribute s ≡ given f → read_attribute s ≡ given (fields_in s)
unfolding read_attribute
fields_in_lem s f e = e ∙ ap given (sym (given-same (passed _ _ _ (given-otherwise _ _ _ _ (given-otherwise _ _ _ _ e).1).1).second))

labelled-read : (s : List ℕ) (f : AttributeFields) → read_labelled s ≡ given f → read_attribute s ≡ given (fields_in s)
unfolding read_labelled
labelled-read s f e = let p = passed _ _ _ e in fields_in_lem s p.value p.first

module _ (afi : ℕ) (t : List ℕ) (at : ℕ) (taken : Taken afi t at) where
  place_end : end_in (part t at 128) ≤ 128
  place_end = sound-end afi (part t at 128) taken.sound

  -- its route is acceptable
  pub route-accepted : Accepted afi (nlri_of (route_in (part t at 128))) (attribute_of (route_in (part t at 128)))
  route-accepted = accepted afi (route_in (part t at 128)) (sound-acceptable afi (part t at 128) taken.sound)

  attribute-read : read_attribute (attribute_of (route_in (part t at 128))) ≡ given (fields_in (attribute_of (route_in (part t at 128))))
  attribute-read = labelled-read _ route-accepted.attribute_fields route-accepted.labelled

  -- so its octets can be read where they stand
  pub taken-readable : Readable t at
  unfolding nlri_at
  taken-readable = record { within = taken.within; ends = place_end; bounded = fields-bounded afi _ route-accepted.fields route-accepted.read; read = attribute-read }

  -- and its route can be written
  pub taken-writable : (output : List ℕ) → 124 ≤ length output → RouteFits (part t at 128) output
  taken-writable output room =
      let sizes = sizes-of afi (route_in (part t at 128)) (sound-acceptable afi (part t at 128) taken.sound) in
      record {
        within = rw (length_part t at 128 taken.within) place_end;
        read = attribute-read;
        most = omega arith;
        room = room;
      }

-- the places that soundness has judged
pub places-taken : (afi : ℕ) (previous : List ℕ) (count : ℕ) (t : List ℕ) (at : ℕ) → places_sound afi previous count (drop at t) ≡ true → at + 128 * count ≤ length t
    → (k : ℕ) → k < count → Taken afi t (at + 128 * k)
unfolding places_sound part
places-taken afi previous zero t at h l k some = absurd (omega arith)
places-taken afi previous (suc count) t at h l zero some =
    let e : at ≡ at + 128 * zero = omega arith in
    subst (Taken afi t) e (record { within = omega arith; sound = both-true-left _ _ h })
places-taken afi previous (suc count) t at h l (suc k) some =
    let e : at + 128 + 128 * k ≡ at + 128 * suc k = omega arith in
    let later = both-true-right _ _ (both-true-right _ _ h) in
    subst (Taken afi t) e (places-taken afi (nlri_of (route_in (take 128 (drop at t)))) count t (at + 128) (ap (places_sound afi _ count) (sym (drop-drop 128 at t)) ∙ later) (omega arith) k (omega arith))

-- those of a sound table
pub table_taken : (t : List ℕ) → sound_of t ≡ true → (k : ℕ) → k < count_in t → Taken (afi_in t) t (8 + 128 * k)
table_taken t is =
    let s = sound t is in
    places-taken (afi_in t) [] (count_in t) t 8 s.places (omega arith)

-- and behind its header
pub table-places-taken : (t : List ℕ) → sound_of t ≡ true → (k : ℕ) → k < count_in t → Taken (afi_in t) (drop 8 t) (128 * k)
table-places-taken t is k h =
    let s = sound t is in
    subst (Taken (afi_in t) (drop 8 t)) (zero-add (128 * k)) (places-taken (afi_in t) [] (count_in t) (drop 8 t) 0 s.places (simp length-drop (omega arith)) k h)

-- what a place's functions need of a place cut out of the table
pub place-ends : (t place : List ℕ) (at : ℕ) → Readable t at → place ≡ part t at 128 → end_in place ≤ length place
place-ends t place at r e = rw e (let ends = r.ends in omega (arith, length_part t at 128 r.within))
