-- The lines of a run are those of its NLRIs and of its end, and no other text is.
use mathlib.Core.Path.{◌≡◌, refl, sym, ◌∙◌, ap, ap₂, subst}
use mathlib.Core.List.{List, [], ◌∷◌, ◌++◌, append_assoc}
use mathlib.Core.Logic.{inl, ◌≢◌}
use Prim.Native.Nat.{ℕ, ◌+◌, ◌-◌, ◌≤◌}
use native.Mathlib.Omega.{arith}
use borrow.Author.Tests.{eqb-true, eqb-false, ne_eqb}
use lib.ListN.{length, get_or}
use lib.Dec.{eqb}
use Rattle.octets.specs.Numbers.{DONE}
use Rattle.octets.specs.Choice.{pick}
use Rattle.octets.specs.Octets.{AllOctets}
use Rattle.octets.specs.Outcome.{given}
use Rattle.octets.proofs.Choice.{pick-false, pick-case}
use Rattle.nlri.specs.Family.{family_bits}
use Rattle.nlri.specs.Fields.{Fields, encode_nlri}
use Rattle.nlri.proofs.Theorems.{lengths}
use Rattle.runs.specs.declared.walking.Walked.{Walked}
use Rattle.runs.specs.Walking.{walked_with, NlriRead}
use Rattle.runs.specs.Rules.WalkRules.{encode_run, encoded_from, RunOf}
use Rattle.runs.specs.Modes.{SKIP, walk_by, nlris_by}
use Rattle.runs.specs.Rules.ModeRule.{EncodedNlri, encodings, Split}
use Rattle.runs.proofs.Theorems.{walk_rule, mode_rule}
use Rattle.mvpn_list.specs.Listing.{decimal_of, field_of, line_of, nlri_line, nlri_lines, opening_of, last_fields, last_line, lines_of}
use Rattle.mvpn_list.specs.Rules.ListingRule.{NumberLine, Opening, fields_from, RunLines}
use Rattle.mvpn_list.proofs.DecimalRule.{decimal-decimal_of, decimal-only}

number_line-last : (n : ℕ) → NumberLine (n ∷ []) (field_of n 10)
unfolding field_of
number_line-last n = NumberLine.last (decimal_of n) (decimal-decimal_of n) refl

number_line-next : (n : ℕ) {ns later : List ℕ} → NumberLine ns later → NumberLine (n ∷ ns) (field_of n 32 ++ later)
unfolding field_of
number_line-next n {ns = ns} {later = later} line = NumberLine.next (decimal_of n) later (decimal-decimal_of n) line (append_assoc (decimal_of n) (32 ∷ []) later)

number_line-line_of : (offset type length_field : ℕ) → NumberLine (offset ∷ type ∷ length_field ∷ []) (line_of offset type length_field)
unfolding line_of
number_line-line_of offset type length_field = number_line-next offset (number_line-next type (number_line-last length_field))

opening-opening_of : (number : ℕ) → Opening number (opening_of number)
unfolding opening_of
opening-opening_of number =
    pick-case (Opening number) (eqb number DONE) _ _ (λ e. subst (λ (n : ℕ). Opening n (101 ∷ 110 ∷ 100 ∷ 32 ∷ [])) (sym (eqb-true number DONE e)) Opening.end) (λ e. Opening.stop (eqb-false number DONE e))

run_lines-last_line : (number offset : ℕ) (figures fields : List ℕ) → NumberLine figures fields → RunLines number (offset ∷ figures) [] (opening_of number ++ (field_of offset 32 ++ fields))
run_lines-last_line number offset figures fields line = RunLines.last (opening_of number) _ (opening-opening_of number) (number_line-next offset line) refl

-- the first octets of an encoding
encoded-header : (f : Fields) → (get_or (encode_nlri f) 0 0 ≡ f.type) × (get_or (encode_nlri f) 1 0 ≡ length (encode_nlri f) - 2)
unfolding encode_nlri
encoded-header f = (refl, omega arith)

-- a line for each encoding, and a last line after them
run_lines-encodings : {number : ℕ} {figures last : List ℕ} → RunLines number figures [] last → (fs : List EncodedNlri) → RunLines number figures fs (nlri_lines (encodings fs) ++ last)
unfolding nlri_lines encodings
run_lines-encodings end [] = end
run_lines-encodings {number} {figures} {last} end (f ∷ fs) =
    let h = encoded-header f.fields in
    let line = subst (λ (x : List ℕ). NumberLine (f.offset ∷ f.fields.type ∷ (length (encode_nlri f.fields) - 2) ∷ []) x) (sym (ap₂ (line_of f.offset) h.0 h.1)) (number_line-line_of f.offset f.fields.type (length (encode_nlri f.fields) - 2)) in
    RunLines.nlri _ _ line (run_lines-encodings end fs) (append_assoc (nlri_line (record { offset = f.offset; octets = encode_nlri f.fields })) (nlri_lines (encodings fs)) last)

-- AFI 1 has addresses of 32 bits
pub family_bits-1 : family_bits 1 ≡ given 32
family_bits-1 = (lengths.families 1 32).1 (inl (refl, refl))

encoded_from-encodings : (at : ℕ) (fs : List Fields) → encoded_from at fs ≡ encodings (fields_from at fs)
unfolding encoded_from encodings fields_from
encoded_from-encodings at [] = refl
encoded_from-encodings at (f ∷ fs) = ap (λ (ns : List NlriRead). record { offset = at; octets = encode_nlri f } ∷ ns) (encoded_from-encodings (at + length (encode_nlri f)) fs)

module _ (run : List ℕ) (octets : AllOctets run) (short : length run ≤ 4096) where
  -- the lines by what the walk of the mode reads, and where and why it stops
  lines-walked : (mode number count offset skipped : ℕ) (fs : List EncodedNlri) → walk_by 1 mode run ≡ walked_with number count offset skipped → nlris_by 1 mode run ≡ encodings fs
      → lines_of mode run ≡ nlri_lines (encodings fs) ++ last_line mode number offset skipped
  unfolding lines_of
  lines-walked mode number count offset skipped fs w e = ap₂ (λ (ns : List NlriRead) (x : Walked). nlri_lines ns ++ last_line mode x.number x.offset x.skipped) e w

  pub run_lines-skip : (s : Split 32 0 run) → RunLines s.number (s.offset ∷ s.number ∷ s.skipped ∷ []) s.nlris (lines_of SKIP run)
  unfolding last_line last_fields pick
  run_lines-skip s =
      let w = mode_rule.skips 1 32 run s family_bits-1 octets short in
      let last = run_lines-last_line s.number s.offset (s.number ∷ s.skipped ∷ []) _ (number_line-next s.number (number_line-last s.skipped)) in
      subst (RunLines s.number (s.offset ∷ s.number ∷ s.skipped ∷ []) s.nlris) (sym (lines-walked SKIP _ _ _ _ s.nlris w.0 w.1)) (run_lines-encodings last s.nlris)

  pub run_lines-old : (mode : ℕ) → mode ≢ SKIP → (r : RunOf 32 run) → RunLines r.number (length (encode_run r.nlris) ∷ r.number ∷ []) (fields_from 0 r.nlris) (lines_of mode run)
  unfolding last_line last_fields
  run_lines-old mode other r =
      let same = mode_rule.old 1 mode run other in
      let fs : List EncodedNlri = fields_from 0 r.nlris in
      let offset : ℕ = length (encode_run r.nlris) in
      let lines =
      lines-walked mode r.number (length r.nlris) offset 0 fs (same.0 ∙ walk_rule.counts 1 32 run r family_bits-1 octets short)
      (same.1 ∙ walk_rule.reads 1 32 run r family_bits-1 octets short ∙ encoded_from-encodings 0 r.nlris) in
      let fields : last_fields mode r.number 0 ≡ field_of r.number 10 = pick-false _ _ _ (ne_eqb mode SKIP other) in
      let last = run_lines-last_line r.number offset (r.number ∷ []) _ (number_line-last r.number) in
      subst (RunLines r.number (offset ∷ r.number ∷ []) fs) (sym (lines ∙ ap (λ (x : List ℕ). nlri_lines (encodings fs) ++ (opening_of r.number ++ (field_of offset 32 ++ x))) fields)) (run_lines-encodings last fs)

number_line-some : {ns text : List ℕ} → NumberLine ns text → ns ≡ [] → ⊥
number_line-some (NumberLine.last digits p is) e = let z : ◌≡◌ {A = ℕ} 0 1 = cc in omega arith
number_line-some (NumberLine.next digits later p line is) e = let z : ◌≡◌ {A = ℕ} 0 1 = cc in omega arith

number_line-only : {ns s t : List ℕ} → NumberLine ns s → NumberLine ns t → s ≡ t
number_line-only (NumberLine.last digits p is) (NumberLine.last digits' p' is') = is ∙ ap (λ (x : List ℕ). x ++ (10 ∷ [])) (decimal-only p p') ∙ sym is'
number_line-only (NumberLine.last digits p is) (NumberLine.next digits' later' p' line' is') = absurd (number_line-some line' refl)
number_line-only (NumberLine.next digits later p line is) (NumberLine.last digits' p' is') = absurd (number_line-some line refl)
number_line-only (NumberLine.next digits later p line is) (NumberLine.next digits' later' p' line' is') =
    is ∙ ap₂ (λ (x y : List ℕ). x ++ (32 ∷ y)) (decimal-only p p') (number_line-only line line') ∙ sym is'

opening-only : {m n : ℕ} {s t : List ℕ} → Opening m s → Opening n t → m ≡ n → s ≡ t
opening-only Opening.end Opening.end e = refl
opening-only Opening.end (Opening.stop other) e = absurd (other (sym e))
opening-only (Opening.stop other) Opening.end e = absurd (other e)
opening-only (Opening.stop other) (Opening.stop other') e = refl

pub run_lines-only : {number : ℕ} {figures : List ℕ} {fs : List EncodedNlri} {s t : List ℕ} → RunLines number figures fs s → RunLines number figures fs t → s ≡ t
run_lines-only (RunLines.nlri line later a lines is) (RunLines.nlri line' later' a' lines' is') =
    is ∙ ap₂ (λ (x y : List ℕ). x ++ y) (number_line-only a a') (run_lines-only lines lines') ∙ sym is'
run_lines-only (RunLines.last opening line o a is) (RunLines.last opening' line' o' a' is') =
    is ∙ ap₂ (λ (x y : List ℕ). x ++ y) (opening-only o o' refl) (number_line-only a a') ∙ sym is'
