-- Tables and images (specs/Rules/Images.antt).
use Prim.Native.Nat.{ℕ, ◌+◌, ◌*◌, ◌-◌, ◌≤◌, ◌<◌}
use mathlib.Core.Path.{◌≡◌, refl, sym, ap, ap₂, ◌∙◌}
use mathlib.Core.Bool.{true, false}
use mathlib.Core.Logic.{◌↔◌, ◌≢◌, ◌⊎◌, inl, inr, ⊎_elim}
use mathlib.Core.List.{List, [], ◌++◌}
use native.Mathlib.Omega.{arith}
use borrow.Author.Tests.{leb-true, le-leb}
use lib.ListN.{length, drop, length-append, length-drop}
use Rattle.octets.specs.Numbers.{DONE, FAMILY, TABLE}
use Rattle.octets.specs.Octets.{AllOctets}
use Rattle.octets.specs.Order.{zeros}
use Rattle.octets.specs.Outcome.{Outcome, given, refused, on_outcome, number_of}
use Rattle.octets.proofs.Choice.{both-true-left, both-true-right, both_true}
use Rattle.octets.proofs.Outcome.{given-same, given-unless, passed, refuses-unless, stopped}
use Rattle.nlri.proofs.Definitions.Families.{family-refused}
use Rattle.nlri.proofs.Definitions.Lengths.{good-family}
use Rattle.octets.specs.Lists.{Among}
use Rattle.routes.specs.Route.{Route}
use Rattle.routes.specs.Table.{header_of, places_of, image_of, afi_in, count_in, places_in, routes_of, table_size, header_sound, places_sound, sound_of}
use Rattle.routes.specs.Calls.{make_outcome, make_of}
use Rattle.routes.specs.Rules.ArgumentRules.{KnownFamily}
use Rattle.routes.specs.Rules.Images.{Holdable, TableOf, Images}
use Rattle.routes.proofs.Definitions.Headers.{length-header, afi-in, count-in, sound-header_of, past-header, sound-family, sound-header, SizeOf, size-sound, sound-size, places-in}
use Rattle.routes.proofs.Definitions.Increases.{increasing-members}
use Rattle.routes.proofs.Definitions.Places.{length-zeros, length-places, routes-from, length_from, sound-places_of, from-acceptable, increasing-routes_from, from_places}

-- what a sound table's tests say
pub record SoundTests (t : List ℕ) : Type 0 where
  pub size : SizeOf (length t) (places_in t)
  pub header : header_sound t ≡ true
  pub within : count_in t ≤ places_in t
  pub places : places_sound (afi_in t) [] (count_in t) (drop 8 t) ≡ true

pub sound : (t : List ℕ) → sound_of t ≡ true → SoundTests t
unfolding sound_of
sound t h =
    let later = both-true-right _ _ h in
    let last = both-true-right _ _ later in
    record {
      size = sound-size t (both-true-left _ _ h);
      header = both-true-left _ _ later;
      within = leb-true _ _ (both-true-left _ _ last);
      places = both-true-right _ _ last;
    }

-- a table has as many routes as its count says
pub length-routes : (t : List ℕ) → length (routes_of t) ≡ count_in t
unfolding routes_of
length-routes t = length_from (count_in t) (drop 8 t)

pub sound-holdable : (t : List ℕ) → sound_of t ≡ true → Holdable (afi_in t) (places_in t) (routes_of t)
unfolding routes_of
sound-holdable t h =
    let s = sound t h in
    record {
      family = sound-family t s.header;
      most = s.size.most;
      within = rw (length_from (count_in t) (drop 8 t)) s.within;
      acceptable = from-acceptable (afi_in t) [] (count_in t) (drop 8 t) s.places;
      increasing = increasing-routes_from (afi_in t) [] (count_in t) (drop 8 t) s.places;
    }

pub sound-image : (t : List ℕ) → AllOctets t → sound_of t ≡ true → t ≡ image_of (afi_in t) (places_in t) (routes_of t)
unfolding image_of routes_of
sound-image t a h =
    let s = sound t h in
    let l : length (drop 8 t) ≡ length t - 8 = length-drop 8 t in
    let left : length (drop 8 t) - 128 * count_in t ≡ 128 * (places_in t - count_in t) = omega arith in
    rw (length_from (count_in t) (drop 8 t))
    (sound-header t a (omega arith) s.header
    ∙ ap (λ (x : List ℕ). header_of (afi_in t) (count_in t) ++ x)
    (from_places (afi_in t) [] (count_in t) (drop 8 t) (omega arith) s.places ∙ ap (λ (n : ℕ). places_of (routes_of t) ++ zeros n) left))

pub afi-image : (afi places : ℕ) (rs : List Route) → afi_in (image_of afi places rs) ≡ afi
unfolding image_of
afi-image afi places rs = afi-in afi (length rs) _

module _ (afi places : ℕ) (rs : List Route) (h : Holdable afi places rs) where
  pub length-image : length (image_of afi places rs) ≡ 8 + 128 * places
  unfolding image_of
  length-image =
      rw (length-append (header_of afi (length rs)) (places_of rs ++ zeros (128 * (places - length rs))), length-header afi (length rs), length-append (places_of rs) (zeros (128 * (places - length rs))), length-places afi rs h.acceptable, length-zeros (128 * (places - length rs)))
      (omega (arith, h.within))

  small : length rs < 65536
  small = omega (arith, h.within, h.most)

  count-image : count_in (image_of afi places rs) ≡ length rs
  unfolding image_of
  count-image = count-in afi (length rs) _ small

  places-image : places_in (image_of afi places rs) ≡ places
  places-image = places-in (image_of afi places rs) places length-image

  rest : drop 8 (image_of afi places rs) ≡ places_of rs ++ zeros (128 * (places - length rs))
  unfolding image_of
  rest = past-header afi (length rs) _

  routes-image : routes_of (image_of afi places rs) ≡ rs
  unfolding routes_of
  routes-image = rw (count-image, rest) (routes-from afi rs _ h.acceptable)

  header : header_sound (image_of afi places rs) ≡ true
  unfolding image_of
  header = sound-header_of afi (length rs) _ h.family

  sound-image_of : sound_of (image_of afi places rs) ≡ true
  unfolding sound_of
  sound-image_of =
      both_true _ _ (size-sound _ places length-image h.most)
      (both_true _ _ header
      (rw (count-image, places-image, afi-image afi places rs, rest) (both_true _ _ (le-leb (length rs) places h.within) (sound-places_of afi [] rs _ h.acceptable h.increasing))))

  image-table : TableOf afi places rs (image_of afi places rs)
  image-table = record { sound = sound-image_of; family = afi-image afi places rs; size = places-image; routes = routes-image }

one-image : (t u : List ℕ) → AllOctets t → AllOctets u → sound_of t ≡ true → sound_of u ≡ true → afi_in t ≡ afi_in u → length t ≡ length u
    → ((r : Route) → Among r (routes_of t) ↔ Among r (routes_of u)) → t ≡ u
one-image t u a b h k bits size members =
    let rs : routes_of t ≡ routes_of u = increasing-members (sound-holdable t h).increasing (sound-holdable u k).increasing members in
    let places : places_in t ≡ places_in u = omega (arith, (sound t h).size.is, (sound u k).size.is) in
    sound-image t a h
    ∙ ap (λ (afi : ℕ). image_of afi (places_in t) (routes_of t)) bits
    ∙ ap₂ (image_of (afi_in u)) places rs
    ∙ sym (sound-image u b k)

-- what making a table gives, where it does not refuse
pub make-given : (afi : ℕ) (memory octets : List ℕ) → make_outcome afi memory ≡ given octets → KnownFamily afi × (table_size (length memory) ≡ true) × (octets ≡ image_of afi (places_in memory) [])
unfolding make_outcome
make-given afi memory octets e =
    let p = passed _ _ _ e in
    let q = given-unless _ _ _ _ p.second in
    (good-family afi p.value p.first, q.0, sym (given-same q.1))

-- why it refuses
pub make-refused : (afi : ℕ) (memory : List ℕ) (n : ℕ) → make_outcome afi memory ≡ refused n
    → ((n ≡ FAMILY) × (afi ≢ 1) × (afi ≢ 2)) ⊎ ((n ≡ TABLE) × KnownFamily afi × (table_size (length memory) ≡ false))
unfolding make_outcome
make-refused afi memory n e =
    ⊎_elim (λ first. let p = family-refused afi n first in inl (p.0, p.1.0, p.1.1))
    (λ later. let p = refuses-unless TABLE n _ _ later.second in inr (p.1, good-family afi later.value later.first, p.0))
    (stopped _ _ _ e)

made-image : (afi : ℕ) (memory : List ℕ) → (make_of afi memory).answer ≡ DONE → (make_of afi memory).octets ≡ image_of afi (places_in memory) []
unfolding make_of number_of on_outcome
made-image afi memory = go (make_outcome afi memory) refl
  where
    go : (o : Outcome (List ℕ)) → make_outcome afi memory ≡ o → number_of o ≡ DONE → on_outcome (λ number. memory) (λ octets. octets) o ≡ image_of afi (places_in memory) []
    go (given octets) e d = (make-given afi memory octets e).2
    go (refused n) e d = absurd (⊎_elim (λ bits. omega arith) (λ size. omega arith) (make-refused afi memory n e))

pub images : Images
images = record { holdable = sound-holdable; image = sound-image; imaged = image-table; one = one-image; made = made-image }
