-- Salvage (specs/Rules/SalvageRule.antt).
use Prim.Native.Nat.{ℕ, ◌≤◌}
use mathlib.Core.Path.{◌≡◌, refl, sym, ap, subst, ◌∙◌}
use mathlib.Core.List.{List, []}
use native.Mathlib.Omega.{arith}
use lib.ListN.{length, get_or}
use Rattle.octets.specs.Choice.{pick, both, either}
use Rattle.octets.specs.Rules.Answering.{Answering}
use Rattle.octets.specs.Octets.{part, front, number_in, big_endian}
use Rattle.octets.specs.Order.{same, before, zeros, all_zero}
use Rattle.octets.specs.Outcome.{on_outcome, and_then}
use Rattle.octets.specs.Lists.{Among}
use Rattle.octets.proofs.Answering.{answering}
use Rattle.octets.proofs.Lists.{length_front, take-front, past-front}
use Rattle.nlri.specs.Family.{family_bits, allowed, is_originator_size}
use Rattle.nlri.specs.Bodies.{bodies, on_body, code_of, same_kind, field_in}
use Rattle.nlri.specs.Fields.{is_discarded}
use Rattle.nlri.specs.Reading.{fixed_field, address_end, address_field, originator_field, field_size, sizes_of, laid_with, laid_at, cut, fields_of, accepted, accepted_single, read_nlri}
use Rattle.tunnel.specs.Identifier.{identifier_forms, form_in, form_of, one_of, is_identifier, read_identifier}
use Rattle.tunnel.specs.Attribute.{label_of, fields_in, read_attribute}
use Rattle.routes.specs.Route.{Route, nlri_of, attribute_of, stale_of, lookup, is_held, holds, inserted, arranged}
use Rattle.routes.specs.Place.{mark_octet, end_in, route_in, place_of, acceptable, place_sound}
use Rattle.routes.specs.Table.{header_start, header_of, places_of, image_of, afi_in, places_in, routes_of, table_size}
use Rattle.routes.specs.Arguments.{read_s_pmsi, read_labelled, read_route}
use Rattle.routes.specs.Salvage.{place_at, good_of, kept_routes, reason_of, reason_at, dropped_of, dropped_octets, list_of, salvage_outcome, salvage_of}
use Rattle.routes.specs.Rules.Images.{Holdable, TableOf}
use Rattle.routes.specs.Rules.SoundRule.{count_at, Sound, small_table}
use Rattle.routes.specs.Rules.SalvageRule.{SalvageRefusal, Salvageable, SalvageDone, SalvageNothing, SalvageRule, repeated_places, SalvageExamples}
use Rattle.routes.proofs.Definitions.Salvages.{kept-holdable, dropped-most, length-list}
use Rattle.routes.proofs.Statements.Images.{images, length-image}
use Rattle.routes.proofs.Statements.SoundRule.{sound_rule}
use Rattle.routes.proofs.Statements.Salvaging.KeptPlaces.{kept-among}
use Rattle.routes.proofs.Statements.Salvaging.Fates.{fate_of, fate-holds, fate-is, list-upto}
use Rattle.routes.proofs.Statements.Salvaging.SoundTables.{none_dropped, all-kept}
use Rattle.routes.proofs.Statements.Salvaging.Refusals.{done_salvage, size-places, gives, given_by, refuses, refusal, never_done, due, due-refused, number_is}

-- what is done
module _ (afi : ℕ) (damaged table list : List ℕ) (s : Salvageable afi damaged table list) where
  abbrev places : ℕ
  places = s.size.places

  holdable : Holdable afi places (kept_routes afi damaged places)
  holdable = kept-holdable afi damaged places places s.family s.size.most (omega arith)

  table_of : TableOf afi places (kept_routes afi damaged places) (image_of afi places (kept_routes afi damaged places))
  table_of = images.imaged afi places (kept_routes afi damaged places) holdable

  table-sound : Sound (image_of afi places (kept_routes afi damaged places))
  table-sound = (sound_rule.exactly (image_of afi places (kept_routes afi damaged places))).0 table_of.sound

  table-family : get_or (image_of afi places (kept_routes afi damaged places)) 5 0 ≡ afi
  table-family = sym (sound_rule.family (image_of afi places (kept_routes afi damaged places)) table-sound) ∙ table_of.family

  table-size : length (image_of afi places (kept_routes afi damaged places)) ≡ length damaged
  table-size = length-image afi places (kept_routes afi damaged places) holdable ∙ sym s.size.is

  table-count : count_at (image_of afi places (kept_routes afi damaged places)) ≡ length (kept_routes afi damaged places)
  table-count = sym (sound_rule.count (image_of afi places (kept_routes afi damaged places)) table-sound) ∙ ap length table_of.routes

  list-fits : length (list_of (dropped_of afi damaged places)) ≤ length list
  list-fits = let a = dropped-most afi damaged places in let b = s.room in omega (arith, length-list (dropped_of afi damaged places))

  done-salvage : SalvageDone afi damaged table list (done_salvage afi damaged list places)
  done-salvage =
      record {
        takes = s;
        sound = table-sound;
        family = table-family;
        table_size = table-size ∙ sym s.same;
        keeps = λ r. (
          λ a. (kept-among afi damaged places r).0 (subst (λ (rs : List Route). Among r rs) table_of.routes a),
          λ p. subst (λ (rs : List Route). Among r rs) (sym table_of.routes) ((kept-among afi damaged places r).1 p),
        );
        kept = sym table-count;
        octets = list_of (dropped_of afi damaged places);
        drops = list-upto afi damaged places (let m = s.size.most in omega arith);
        listed = take-front (list_of (dropped_of afi damaged places)) list;
        past = past-front (list_of (dropped_of afi damaged places)) list;
        list_size = length_front (list_of (dropped_of afi damaged places)) list list-fits;
      }

answers : (afi : ℕ) (damaged table list : List ℕ)
    → Answering (salvage_of afi damaged table list).answer.number (SalvageRefusal afi damaged table list) (SalvageDone afi damaged table list (salvage_of afi damaged table list))
    (SalvageNothing table list (salvage_of afi damaged table list))
answers afi damaged table list =
    answering (salvage_outcome afi damaged table list) _ (SalvageRefusal afi damaged table list) (number_is afi damaged table list) (λ n. (refusal afi damaged table list n, refuses afi damaged table list))
    (never_done afi damaged table list) _ _
    (λ n e. let s = given_by afi damaged table list n e in subst (SalvageDone afi damaged table list) (sym (due afi damaged table list s)) (done-salvage afi damaged table list s))
    (λ d. (d.takes.size.places, gives afi damaged table list d.takes))
    (λ n e. subst (SalvageNothing table list) (sym (due-refused afi damaged table list n e)) (record { kept = refl; dropped = refl; same_table = refl; same_list = refl }))

-- of a sound table of the family every route is kept, and nothing is dropped
salvage-sound : (afi : ℕ) (t other buffer : List ℕ) → Salvageable afi t other buffer → Sound t → get_or t 5 0 ≡ afi
    → salvage_of afi t other buffer ≡ record { answer = record { number = 0; kept = count_at t; dropped = 0 }; table = image_of (afi_in t) (places_in t) (routes_of t); list = buffer }
unfolding front list_of
salvage-sound afi t other buffer s h e =
    let places : places_in t ≡ s.size.places = size-places t s.size in
    let within : count_at t ≤ s.size.places = (let w = h.within in let a = s.size.is in let b = h.size.is in omega arith) in
    let kept : kept_routes afi t s.size.places ≡ routes_of t = ap (λ (i : ℕ). kept_routes i t s.size.places) (sym e) ∙ all-kept t h s.size.places within in
    let dropped : dropped_of afi t s.size.places ≡ [] = ap (λ (i : ℕ). dropped_of i t s.size.places) (sym e) ∙ none_dropped t h s.size.places in
    let family : afi_in t ≡ afi = sound_rule.family t h ∙ e in
    due afi t other buffer s ∙ rw (kept, dropped, sound_rule.count t h, places, family) refl

module _ (afi : ℕ) (damaged table list other buffer : List ℕ) (s : Salvageable afi damaged table list) (z : Salvageable afi damaged other buffer) where
  -- what salvage left is of the same size
  again-takes : Salvageable afi (image_of afi s.size.places (kept_routes afi damaged s.size.places)) other buffer
  again-takes =
      let size = table-size afi damaged table list s in
      record {
        family = z.family;
        size = record { places = z.size.places; most = z.size.most; is = size ∙ z.size.is };
        same = z.same ∙ sym size;
        room = z.room;
      }

  again : salvage_of afi (salvage_of afi damaged table list).table other buffer
      ≡ record { answer = record { number = 0; kept = (salvage_of afi damaged table list).answer.kept; dropped = 0 }; table = (salvage_of afi damaged table list).table; list = buffer }
  again =
      let t = table_of afi damaged table list s in
      rw (due afi damaged table list s)
      (salvage-sound afi (image_of afi s.size.places (kept_routes afi damaged s.size.places)) other buffer again-takes (table-sound afi damaged table list s) (table-family afi damaged table list s)
      ∙ rw (t.family, t.size, t.routes, table-count afi damaged table list s) refl)

pub salvage_rule : SalvageRule
salvage_rule =
    record {
      decided = λ afi memory number. (fate_of afi memory number, fate-holds afi memory number);
      one = λ afi memory number i j a b. sym (fate-is afi memory number i a) ∙ fate-is afi memory number j b;
      answers = answers;
      unchanged = λ afi damaged table list o s h e.
          salvage-sound afi damaged table list s h e
          ∙ ap (λ (t : List ℕ). record { answer = record { number = 0; kept = count_at damaged; dropped = 0 }; table = t; list = list }) (sym (images.image damaged o ((sound_rule.exactly damaged).1 h)));
      again = again;
    }

-- the examples, by computation
pub salvage_examples : SalvageExamples
unfolding repeated_places small_table pick both either on_outcome and_then part front number_in big_endian same before zeros all_zero family_bits allowed is_originator_size bodies on_body code_of same_kind field_in fixed_field address_end address_field originator_field field_size sizes_of laid_with laid_at cut is_discarded fields_of accepted accepted_single read_nlri identifier_forms form_in form_of one_of is_identifier read_identifier label_of fields_in read_attribute nlri_of attribute_of stale_of read_s_pmsi read_labelled read_route end_in route_in mark_octet place_of acceptable place_sound header_start header_of places_of image_of places_in table_size lookup is_held holds inserted arranged place_at good_of kept_routes reason_of reason_at dropped_of dropped_octets list_of salvage_outcome salvage_of
salvage_examples =
    record {
      header = refl;
      uncounted = refl;
      unlabelled = refl;
      other_mark = refl;
      repeated = refl;
      family = refl;
    }
