-- A single NLRI of type 3, judged by its octets where they stand.
use Rattle.std.proofs.Common.{◌≡◌, ℕ, ◌-◌, ◌≤◌, Bool, true, false, eqb, List, ◌∷◌, length, get_or, drop, sym, refl, ap, ◌∙◌, arith, le-ltb, eq-eqb, ne_eqb, eqb-true, le-leb, leb-true}
use borrow.Author.Tests.{eqb-false}
use Rattle.octets.specs.Numbers.{DONE}
use Rattle.octets.specs.Choice.{pick, both, either}
use Rattle.octets.specs.Outcome.{Outcome, given, refused, and_then, on_outcome, number_of}
use Rattle.octets.proofs.Choice.{pick_true, pick-false, both_left, tested, opposite}
use Rattle.octets.proofs.Outcome.{on-mapped, and-goes-on, and-stops, on-given, on-refused, refused-of}
use Rattle.nlri.specs.Family.{family_bits}
use Rattle.nlri.specs.Bodies.{distinguisher, source, group, bodies, on_body}
use Rattle.nlri.specs.Fields.{is_discarded}
use Rattle.nlri.specs.Reading.{Laid, field_size, laid_at, accepted, accepted_single, fields_of, read_nlri, is_s_pmsi}
use Rattle.nlri.specs.Layouts.{laid_layout}
use Rattle.nlri.specs.Inner.{left_fault, body_fault, after_flow, header_at, with_key, s_pmsi_under}
use Rattle.nlri.proofs.Definitions.Whole.{part-whole, single-laid-out}
use Rattle.nlri.proofs.Definitions.ReadNumbers.{laying, refuses-done, refuses-front}
use Rattle.nlri.proofs.Functions.Ends.{number-mapped, left-fixed, left-drop}
use Rattle.nlri.proofs.Functions.Fronts.{front-typed}
use Rattle.nlri.proofs.Functions.Shapes.{laid_out, total, other-sizes}

-- what a single NLRI comes to is of type 3
of_s_pmsi : Outcome Laid → Bool
of_s_pmsi o = on_outcome (λ number. false) (λ laid. eqb laid.type 3) o

-- a test and then another
by_both : (x a b : Bool) → (a ≡ false → x ≡ false) → (a ≡ true → x ≡ b) → x ≡ both a b
unfolding both
by_both x true b f g = g refl
by_both x false b f g = f refl

-- nothing of type 3
none_of : (o : Outcome Laid) → ((laid : Laid) → o ≡ given laid → laid.type ≡ 3 → ⊥) → of_s_pmsi o ≡ false
unfolding of_s_pmsi on_outcome
none_of (refused n) h = refl
none_of (given laid) h = tested (eqb laid.type 3) (λ t. absurd (h laid refl (eqb-true _ _ t))) (λ f. f)

module _ (bits : ℕ) (s : List ℕ) where
  -- the octets of a single NLRI of type 3
  opens : (laid : Laid) → accepted_single bits s ≡ given laid → laid.type ≡ 3 → (get_or s 0 0 ≡ 3) × (get_or s 1 0 ≡ length s - 2) × (10 ≤ length s)
  unfolding with_key either
  opens laid e three =
      let o = single-laid-out bits s laid e in
      let z = other-sizes bits s laid o.front (ap with_key three) in
      (sym o.laid_out.typed ∙ three, sym o.laid_out.sized ∙ sym o.all, omega (arith, z.eight, total bits s laid o.front, o.all, o.laid_out.enough))

  module _ (enough : 2 ≤ length s) (t : get_or s 0 0 ≡ 3) (n : get_or s 1 0 ≡ length s - 2) where
    header : header_at s ≡ given (3, length s - 2)
    unfolding header_at pick
    header = rw (le-ltb (length s) 2 enough, le-ltb (length s - 2) (get_or s 1 0) (omega arith), t, n)

    -- its number is that of the source, group and originator where they stand
    number : number_of (laid_at bits s) ≡ left_fault bits 3 (source ∷ group ∷ after_flow 3) 10 s
    unfolding laid_layout body_fault on_body bodies after_flow pick field_size
    number =
        sym (number-mapped _ _) ∙ sym (front-typed bits s 3 (length s - 2) header) ∙ ap (body_fault bits 3) (part-whole s (length s - 2) refl)
        ∙ sym (left-fixed bits 3 distinguisher _ 8 0 (drop 2 s) (λ y. refl)) ∙ left-drop bits 3 _ 2 8 s enough

    by_number : of_s_pmsi (accepted_single bits s) ≡ eqb (number_of (laid_at bits s)) DONE
    unfolding accepted_single of_s_pmsi accepted is_discarded fields_of
    by_number =
        tested (eqb (number_of (laid_at bits s)) DONE)
        (λ yes. let r = refuses-done _ (laying (refuses-front bits s)) (eqb-true _ _ yes) in let o = laid_out bits s r.0 r.1 in
        sym (on-given true _ r.0 _ _ (sym (and-goes-on _ _ r.0 _ r.1 (sym (pick_true _ _ _ (eq-eqb (length s - 2) r.0.size (sym n ∙ sym o.sized)) ∙ pick-false _ _ _ (both_left _ _ (ne_eqb r.0.type 5 (λ five. omega (arith, o.typed, t)))))))) (sym (eq-eqb _ 3 (o.typed ∙ t)))) ∙ sym yes)
        (λ no. sym (on-refused false _ _ _ _ (sym (and-stops _ _ _ (refused-of _ _ refl (eqb-false _ _ no)))) refl) ∙ sym no)

  -- document 01's reading of a single NLRI, by the octets
  s-pmsi-by-octets : of_s_pmsi (accepted_single bits s) ≡ s_pmsi_under bits s
  unfolding s_pmsi_under
  s-pmsi-by-octets =
      by_both _ _ _ (λ off. none_of _ (λ l e t. opposite (le-leb _ _ (opens l e t).2) off))
      (λ enough. by_both _ _ _ (λ off. none_of _ (λ l e t. opposite (eq-eqb _ _ (opens l e t).0) off))
      (λ t. by_both _ _ _ (λ off. none_of _ (λ l e q. opposite (eq-eqb _ _ (opens l e q).1) off))
      (λ n. let two : 2 ≤ length s = omega (arith, leb-true) in
      by_number two (eqb-true _ _ t) (eqb-true _ _ n) ∙ ap (λ (k : ℕ). eqb k DONE) (number two (eqb-true _ _ t) (eqb-true _ _ n)))))

-- under an AFI
module _ (afi : ℕ) (s : List ℕ) where
  pub s-pmsi-none : (n : ℕ) → family_bits afi ≡ refused n → false ≡ is_s_pmsi afi s
  unfolding is_s_pmsi read_nlri and_then on_outcome
  s-pmsi-none n e = rw e

  pub s-pmsi-under : (bits : ℕ) (r : Bool) → family_bits afi ≡ given bits → r ≡ s_pmsi_under bits s → r ≡ is_s_pmsi afi s
  unfolding is_s_pmsi read_nlri of_s_pmsi fields_of
  s-pmsi-under bits r e q = q ∙ sym (s-pmsi-by-octets bits s) ∙ sym (ap (on_outcome _ _) (sym (and-goes-on _ _ bits _ e refl)) ∙ on-mapped _ _ _ _)
