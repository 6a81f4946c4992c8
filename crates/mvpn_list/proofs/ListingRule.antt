-- What is printed of every run (specs/Rules/ListingRule.antt says what is stated).
use mathlib.Core.Path.{◌≡◌, refl, sym, ◌∙◌, ap, subst}
use mathlib.Core.List.{List, [], ◌∷◌, ◌++◌}
use mathlib.Core.Logic.{◌⊎◌, inl, inr, ⊎_elim, ◌↔◌, ◌≢◌}
use Prim.Native.Nat.{ℕ, ◌<◌}
use native.Mathlib.Omega.{arith}
use borrow.Author.Tests.{leb-true, leb-false, eqb-true, eq-eqb, ne_eqb}
use lib.ListN.{length, take}
use lib.Seq.{take_all, length-take-le}
use lib.Dec.{leb}
use Rattle.octets.specs.Numbers.{LONG}
use Rattle.octets.specs.Choice.{pick, both, either}
use Rattle.octets.specs.Octets.{part}
use Rattle.octets.specs.Outcome.{on_outcome, and_then}
use Rattle.octets.proofs.Choice.{tested, both_true, both-held, pick_true, pick-case, picked}
use Rattle.octets.proofs.Orders.{same-equal, same-of-equal}
use Rattle.nlri.specs.Family.{family_bits, allowed, is_originator_size}
use Rattle.nlri.specs.Bodies.{bodies, on_body, field_in, same_kind, code_of}
use Rattle.nlri.specs.Groups.{source_specific, is_ssm}
use Rattle.nlri.specs.Fields.{is_discarded}
use Rattle.nlri.specs.Reading.{fixed_field, address_end, address_field, originator_field, field_size, sizes_of, laid_with, laid_at, cut, fields_of, accepted, accepted_at}
use Rattle.nlri.specs.Layouts.{layout_of, layout_at}
use Rattle.nlri.specs.Rules.DiscardExamples.{source_active4}
use Rattle.runs.specs.Walking.{read_to, ended_at, refused_at, step_under, step_from}
use Rattle.runs.specs.Rules.WalkRules.{encode_run}
use Rattle.runs.specs.Modes.{SKIP, OLD, is_skipped, turn_from, on_turn, walk_by_from, walk_by, nlris_by_from, nlris_by}
use Rattle.runs.proofs.Steps.{stops-refused_at, step-long}
use Rattle.runs.proofs.Turns.{never-skipped, turn-stops}
use Rattle.mvpn_list.specs.Listing.{last_digit, digits_within, decimal_of, field_of, header_line, line_of, nlri_lines, opening_of, last_fields, last_line, lines_of, listing_of, mode_of}
use Rattle.mvpn_list.specs.Rules.ListingRule.{Decimal, RunLines, fields_from, ListingRule}
use Rattle.mvpn_list.proofs.DecimalRule.{decimal-decimal_of, decimal-only}
use Rattle.mvpn_list.proofs.Steps.{lines_from, lines_from-stopped}
use Rattle.mvpn_list.proofs.RunLines.{family_bits-1, run_lines-skip, run_lines-old, run_lines-only}

listing_of-header : (mode : ℕ) (run : List ℕ) → listing_of mode run ≡ 77 ∷ 86 ∷ 84 ∷ 32 ∷ 108 ∷ 105 ∷ 115 ∷ 116 ∷ 32 ∷ 49 ∷ 10 ∷ lines_of mode run
unfolding listing_of header_line
listing_of-header mode run = refl

last_line-long : last_line SKIP LONG 0 0 ≡ 115 ∷ 116 ∷ 111 ∷ 112 ∷ 32 ∷ 48 ∷ 32 ∷ 56 ∷ 32 ∷ 48 ∷ 10 ∷ []
unfolding last_line last_fields opening_of field_of decimal_of digits_within last_digit pick
last_line-long = refl

last_line-long_old : (mode : ℕ) → mode ≢ SKIP → last_line mode LONG 0 0 ≡ 115 ∷ 116 ∷ 111 ∷ 112 ∷ 32 ∷ 48 ∷ 32 ∷ 56 ∷ 10 ∷ []
unfolding last_line last_fields opening_of field_of decimal_of digits_within last_digit pick
last_line-long_old mode other = rw (ne_eqb mode SKIP other) refl

lines_of-long : (mode : ℕ) (run : List ℕ) → 4096 < length run → lines_of mode run ≡ last_line mode LONG 0 0
unfolding lines_of lines_from nlris_by walk_by
lines_of-long mode run h =
    lines_from-stopped (length run) mode run 0 0 0 LONG
    (turn-stops 1 run 0 mode LONG (stops-refused_at LONG 0 (step-long 1 run 0 32 family_bits-1 h)) (never-skipped mode LONG (λ t. omega arith) (λ g. omega arith)))

listing_of-long : (mode : ℕ) (run : List ℕ) → 4096 < length run → listing_of mode run ≡ header_line ++ last_line mode LONG 0 0
unfolding listing_of
listing_of-long mode run h = ap (λ (x : List ℕ). header_line ++ x) (lines_of-long mode run h)

listing_of-take : (mode : ℕ) (input : List ℕ) → listing_of mode (take 4097 input) ≡ listing_of mode input
listing_of-take mode input =
    tested (leb (length input) 4097) (λ t. ap (listing_of mode) (take_all 4097 input (leb-true _ _ t)))
    (λ t.
    let h : 4097 < length input = leb-false _ _ t in
    listing_of-long mode (take 4097 input) (omega (arith, length-take-le 4097 input (omega arith))) ∙ sym (listing_of-long mode input (omega arith)))

listing_of-marked : listing_of SKIP (3 ∷ 14 ∷ 0 ∷ 0 ∷ 0 ∷ 100 ∷ 0 ∷ 0 ∷ 0 ∷ 7 ∷ 0 ∷ 0 ∷ 10 ∷ 0 ∷ 0 ∷ 1 ∷ 9 ∷ 0 ∷ [])
    ≡ 77 ∷ 86 ∷ 84 ∷ 32 ∷ 108 ∷ 105 ∷ 115 ∷ 116 ∷ 32 ∷ 49 ∷ 10 ∷ 48 ∷ 32 ∷ 51 ∷ 32 ∷ 49 ∷ 52 ∷ 10 ∷ 101 ∷ 110 ∷ 100 ∷ 32 ∷ 49 ∷ 56 ∷ 32 ∷ 48 ∷ 32 ∷ 49 ∷ 10 ∷ []
unfolding listing_of header_line lines_of nlri_lines nlris_by nlris_by_from walk_by walk_by_from turn_from on_turn is_skipped line_of last_line last_fields opening_of field_of decimal_of digits_within last_digit step_from step_under read_to ended_at refused_at family_bits layout_at accepted_at accepted is_discarded fields_of laid_at laid_with bodies on_body sizes_of field_size fixed_field address_field address_end originator_field is_originator_size allowed layout_of field_in same_kind code_of part pick both either on_outcome and_then
listing_of-marked = refl

listing_of-marked_old : listing_of OLD (3 ∷ 14 ∷ 0 ∷ 0 ∷ 0 ∷ 100 ∷ 0 ∷ 0 ∷ 0 ∷ 7 ∷ 0 ∷ 0 ∷ 10 ∷ 0 ∷ 0 ∷ 1 ∷ 9 ∷ 0 ∷ [])
    ≡ 77 ∷ 86 ∷ 84 ∷ 32 ∷ 108 ∷ 105 ∷ 115 ∷ 116 ∷ 32 ∷ 49 ∷ 10 ∷ 48 ∷ 32 ∷ 51 ∷ 32 ∷ 49 ∷ 52 ∷ 10 ∷ 115 ∷ 116 ∷ 111 ∷ 112 ∷ 32 ∷ 49 ∷ 54 ∷ 32 ∷ 50 ∷ 10 ∷ []
unfolding listing_of header_line lines_of nlri_lines nlris_by nlris_by_from walk_by walk_by_from turn_from on_turn is_skipped line_of last_line last_fields opening_of field_of decimal_of digits_within last_digit step_from step_under read_to ended_at refused_at family_bits layout_at accepted_at accepted is_discarded fields_of laid_at laid_with bodies on_body sizes_of field_size fixed_field address_field address_end originator_field is_originator_size allowed layout_of field_in same_kind code_of part pick both either on_outcome and_then
listing_of-marked_old = refl

listing_of-discarded : (listing_of SKIP (source_active4 232 0 0 0 ++ source_active4 233 0 0 0)
    ≡ 77 ∷ 86 ∷ 84 ∷ 32 ∷ 108 ∷ 105 ∷ 115 ∷ 116 ∷ 32 ∷ 49 ∷ 10 ∷ 50 ∷ 48 ∷ 32 ∷ 53 ∷ 32 ∷ 49 ∷ 56 ∷ 10 ∷ 101 ∷ 110 ∷ 100 ∷ 32 ∷ 52 ∷ 48 ∷ 32 ∷ 48 ∷ 32 ∷ 49 ∷ 10 ∷ [])
    × (listing_of OLD (source_active4 232 0 0 0 ++ source_active4 233 0 0 0)
    ≡ 77 ∷ 86 ∷ 84 ∷ 32 ∷ 108 ∷ 105 ∷ 115 ∷ 116 ∷ 32 ∷ 49 ∷ 10 ∷ 115 ∷ 116 ∷ 111 ∷ 112 ∷ 32 ∷ 48 ∷ 32 ∷ 49 ∷ 57 ∷ 10 ∷ [])
unfolding listing_of header_line lines_of nlri_lines nlris_by nlris_by_from walk_by walk_by_from turn_from on_turn is_skipped line_of last_line last_fields opening_of field_of decimal_of digits_within last_digit step_from step_under read_to ended_at refused_at family_bits layout_at accepted_at accepted is_discarded is_ssm source_specific fields_of cut laid_at laid_with bodies on_body sizes_of field_size fixed_field address_field address_end originator_field is_originator_size allowed layout_of field_in same_kind code_of part pick both either on_outcome and_then
listing_of-discarded = (refl, refl)

mode_of-asked : (count : ℕ) (argument : List ℕ) → (mode_of count argument ≡ OLD) ↔ ((count ≡ 2) × (argument ≡ 111 ∷ 108 ∷ 100 ∷ []))
unfolding mode_of
mode_of-asked count argument = (
  λ e. ⊎_elim (λ yes. let b = both-held _ _ yes.0 in (eqb-true _ _ b.0, same-equal _ _ b.1)) (λ no'. absurd (omega (arith, no'.1))) (picked _ _ _ _ e),
  λ h. pick_true _ _ _ (both_true _ _ (eq-eqb count 2 h.0) (same-of-equal argument _ h.1)),
)

mode_of-other : (count : ℕ) (argument : List ℕ) → (mode_of count argument ≡ OLD) ⊎ (mode_of count argument ≡ SKIP)
unfolding mode_of
mode_of-other count argument = pick-case (λ (mode : ℕ). (mode ≡ OLD) ⊎ (mode ≡ SKIP)) _ _ _ (λ _. inl refl) (λ _. inr refl)

pub listing_rule : ListingRule
listing_rule =
    record {
      decimal = λ n digits. (λ e. subst (Decimal n) e (decimal-decimal_of n), λ d. decimal-only (decimal-decimal_of n) d);
      header = listing_of-header;
      skips = λ run s text octets short.
          (λ e. subst (RunLines s.number (s.offset ∷ s.number ∷ s.skipped ∷ []) s.nlris) e (run_lines-skip run octets short s), λ l. run_lines-only (run_lines-skip run octets short s) l);
      old = λ mode run r text other octets short.
          (λ e. subst (RunLines r.number (length (encode_run r.nlris) ∷ r.number ∷ []) (fields_from 0 r.nlris)) e (run_lines-old run octets short mode other r), λ l. run_lines-only (run_lines-old run octets short mode other r) l);
      long = λ run h. lines_of-long SKIP run h ∙ last_line-long;
      long_old = λ mode run other h. lines_of-long mode run h ∙ last_line-long_old mode other;
      seen = listing_of-take;
      marked = listing_of-marked;
      marked_old = listing_of-marked_old;
      discarded = listing_of-discarded.0;
      discarded_old = listing_of-discarded.1;
      asked = mode_of-asked;
      other = mode_of-other;
    }
