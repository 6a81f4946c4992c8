-- Well-formed fields are written where there is space, and any others are refused by the one number that document 01 gives them.
use Rattle.std.proofs.Common.{◌≡◌, ℕ, ◌≤◌, Bool, true, false, List, [], ◌∷◌, length, sym, refl, ap, ◌∙◌, subst, ⊎_elim, arith, ltb-false, ltb-true, le-ltb, lt-ltb, eq-eqb, ne_eqb, eqb-true}
use borrow.Author.Tests.{eqb-false}
use Rattle.octets.specs.Numbers.{DONE, WIDTH, KEY, LONG, SPACE, GROUP}
use Rattle.octets.specs.Choice.{both, either}
use Rattle.octets.specs.Outcome.{Outcome, given, refused}
use Rattle.octets.proofs.Choice.{pick_true, pick-false, tested, opposite, both_true, both-true-left, both-true-right, picked, is_false, is_true}
use Rattle.octets.proofs.Outcome.{and-goes-on, and-stops, never, passed, given-otherwise, refused-same, stopped, refused-of, number-refused}
use Rattle.fec_elements.specs.declared.Standing.TheVariants.{Lent}
use Rattle.fec_elements.specs.Rules.FecRules.{NestedFault}
use Rattle.fec_elements.proofs.Nesting.{read-refused}
use Rattle.fec_elements.proofs.Theorems.{nested_fec_rule}
use Rattle.nlri.specs.Family.{family_bits, root_family}
use Rattle.nlri.specs.Bodies.{FieldKind, distinguisher, source_as, source, group, originator, key, fec, KnownType, body_of, same_kind, has_field}
use Rattle.nlri.specs.Fields.{Fields, encode_nlri, WellFormed, KeyOf}
use Rattle.nlri.specs.Writing.{width_fits, widths_fit, fec_number, is_long, is_key, key_fits, write_nlri}
use Rattle.nlri.specs.Rules.NlriRules.{HoldsOctets, WidthFault, WidthsFit, FecFits, TooLong, WriteRefusal, bad_family, bad_type, bad_width, bad_fec, long, bad_key, discarded, no_space, WriteRefusals}
use Rattle.nlri.proofs.Definitions.Table.{known, row_of, same_kind_lem, has_first, has-later, unlisted}
use Rattle.nlri.proofs.Definitions.Writes.{all, widths-all, keys-all, verdict, verdict_of, write-is, write-well, written, key-judged, key_fits_lem, well-passed, write-discarded}
use Rattle.nlri.proofs.Definitions.Fecs.{fec-lent, lent-fec}
use Rattle.nlri.proofs.Definitions.Families.{family-refused, family-refuses}
use Rattle.nlri.proofs.Definitions.Discards.{discarded-fields, well-formed}

all_true : (test : FieldKind → Bool) (body : List FieldKind) → all test body ≡ true → (kind : FieldKind) → has_field kind body ≡ true → test kind ≡ true
unfolding all has_field either
all_true test [] h kind e = absurd (opposite e refl)
all_true test (k ∷ body) h kind e = go (same_kind kind k) refl e (all_true test body (both-true-right (test k) _ h) kind)
  where
    go : (b : Bool) → same_kind kind k ≡ b → either b (has_field kind body) ≡ true → (has_field kind body ≡ true → test kind ≡ true) → test kind ≡ true
    go true same e later = ap test (same_kind_lem kind k same) ∙ both-true-left _ _ h
    go false other e later = later e

all-false : (test : FieldKind → Bool) (body : List FieldKind) → all test body ≡ false → (kind : FieldKind) × (has_field kind body ≡ true) × (test kind ≡ false)
unfolding all both
all-false test [] h = absurd (opposite refl h)
all-false test (k ∷ body) h = go (test k) refl h (all-false test body)
  where
    go : (b : Bool) → test k ≡ b → both b (all test body) ≡ false → (all test body ≡ false → (kind : FieldKind) × (has_field kind body ≡ true) × (test kind ≡ false))
        → (kind : FieldKind) × (has_field kind (k ∷ body) ≡ true) × (test kind ≡ false)
    go false e h later = (k, has_first k body, e)
    go true e h later = let r = later h in (r.0, has-later r.0 k body r.1, r.2)

-- one kind that fails
all-fails : (test : FieldKind → Bool) (body : List FieldKind) (kind : FieldKind) → has_field kind body ≡ true → test kind ≡ false → all test body ≡ false
all-fails test body kind h fails = is_false _ (λ e. opposite (all_true test body e kind h) fails)

-- no kind that fails
all-holds : (test : FieldKind → Bool) (body : List FieldKind) → ((kind : FieldKind) → has_field kind body ≡ true → test kind ≡ false → ⊥) → all test body ≡ true
all-holds test body h = is_true _ (λ e. let r = all-false test body e in h r.0 r.1 r.2)

width-fault : (bits : ℕ) (f : Fields) (k : FieldKind) → width_fits bits f k ≡ false → WidthFault bits f k
unfolding width_fits
width-fault bits f distinguisher e = opposite refl e
width-fault bits f source_as e = opposite refl e
width-fault bits f source e = e
width-fault bits f group e = e
width-fault bits f originator e = e
width-fault bits f key e = opposite refl e
width-fault bits f fec e = opposite refl e

fault-width : (bits : ℕ) (f : Fields) (k : FieldKind) → WidthFault bits f k → width_fits bits f k ≡ false
unfolding width_fits
fault-width bits f distinguisher h = absurd h
fault-width bits f source_as h = absurd h
fault-width bits f source h = h
fault-width bits f group h = h
fault-width bits f originator h = h
fault-width bits f key h = absurd h
fault-width bits f fec h = absurd h

key-fault : (bits : ℕ) (f : Fields) (k : FieldKind) → key_fits bits f k ≡ false → (k ≡ key) × (is_key bits f.type f.key ≡ false)
unfolding key_fits
key-fault bits f distinguisher e = absurd (opposite refl e)
key-fault bits f source_as e = absurd (opposite refl e)
key-fault bits f source e = absurd (opposite refl e)
key-fault bits f group e = absurd (opposite refl e)
key-fault bits f originator e = absurd (opposite refl e)
key-fault bits f fec e = absurd (opposite refl e)
key-fault bits f key e = (refl, e)

module _ (afi bits : ℕ) (of_family : family_bits afi ≡ given bits) (f : Fields) (held : HoldsOctets f) (space : ℕ) where
  -- what the writer's tests of widths, of the FEC and of the Length say, and the other way
  widths-fit : widths_fit bits f (body_of f.type) ≡ true → WidthsFit bits f
  widths-fit h k has fault = opposite (all_true (width_fits bits f) _ (sym (widths-all bits f _) ∙ h) k has) (fault-width bits f k fault)

  fit-widths : WidthsFit bits f → widths_fit bits f (body_of f.type) ≡ true
  fit-widths w = widths-all bits f _ ∙ all-holds (width_fits bits f) _ (λ k h e. w k h (width-fault bits f k e))

  fec-fits : fec_number bits f (body_of f.type) ≡ DONE → FecFits bits f
  unfolding fec_number
  fec-fits e has = lent-fec bits f.fec held.fec (sym (pick_true _ _ _ has) ∙ e)

  fit-fec : FecFits bits f → fec_number bits f (body_of f.type) ≡ DONE
  unfolding fec_number
  fit-fec c =
      tested (has_field fec (body_of f.type)) (λ yes. pick_true _ _ _ yes ∙ fec-lent bits f.fec (c yes)) (λ no. pick-false _ _ _ no)

  fec-faulty : (fec_number bits f (body_of f.type) ≡ DONE → ⊥) → (has_field fec (body_of f.type) ≡ true) × NestedFault (Lent (root_family bits)) f.fec (fec_number bits f (body_of f.type))
  unfolding fec_number
  fec-faulty h =
      tested (has_field fec (body_of f.type))
      (λ yes. (yes, (nested_fec_rule.exactly (Lent (root_family bits)) f.fec _ held.fec).0 (refused-of _ _ (pick_true _ _ _ yes) h)))
      (λ no. absurd (h (pick-false _ _ _ no)))

  faulty-fec : (n : ℕ) → has_field fec (body_of f.type) ≡ true → NestedFault (Lent (root_family bits)) f.fec n → (fec_number bits f (body_of f.type) ≡ n) × (n ≡ DONE → ⊥)
  unfolding fec_number
  faulty-fec n has fault =
      let r = (nested_fec_rule.exactly (Lent (root_family bits)) f.fec n held.fec).1 fault in
      (pick_true _ _ _ has ∙ number-refused r, (read-refused _ f.fec n r).1)

  long-is : is_long f (body_of f.type) ≡ true → TooLong f
  unfolding is_long
  long-is h = (ltb-true _ _ (both-true-left _ _ h), ltb-true _ _ (both-true-right _ _ h))

  is-long : TooLong f → is_long f (body_of f.type) ≡ true
  unfolding is_long
  is-long h = both_true _ _ (lt-ltb _ _ h.0) (lt-ltb _ _ h.1)

  verdict-refused : (n : ℕ) → KnownType f.type → verdict_of bits f space ≡ refused n → WriteRefusal afi f space n
  unfolding verdict_of verdict
  verdict-refused n typed e =
      let body : List FieldKind = body_of f.type in
      let same : (k : ℕ) → ◌≡◌ {A = Outcome (List ℕ)} (refused k) (refused n) → k ≡ n = λ k q. refused-same {A = List ℕ} q in
      ⊎_elim
      (λ widths.
      ⊎_elim
      (λ fecs.
      let whole : fec_number bits f body ≡ DONE = eqb-true _ _ fecs.0 in
      ⊎_elim
      (λ over. subst (WriteRefusal afi f space) (same LONG over.1) (long bits of_family typed (widths-fit widths.0) (fec-fits whole) (long-is over.0)))
      (λ short.
      ⊎_elim
      (λ keys.
      let w = well-passed afi bits of_family f held typed widths.0 whole short.0 keys.0 in
      ⊎_elim (λ ssm. subst (WriteRefusal afi f space) (same GROUP ssm.1) (discarded bits of_family w (discarded-fields afi bits of_family f w ssm.0)))
      (λ stays.
      ⊎_elim
      (λ few. subst (WriteRefusal afi f space) (same SPACE few.1) (no_space bits of_family (well-formed bits f w stays.0) (ltb-true _ _ few.0)))
      (λ room. absurd (never refl room.1))
      (picked _ _ _ _ stays.1))
      (picked _ _ _ _ keys.1))
      (λ bad.
      let r = all-false (key_fits bits f) body (sym (keys-all bits f body) ∙ bad.0) in
      let q = key-fault bits f r.0 r.2 in
      subst (WriteRefusal afi f space) (same KEY bad.1)
      (bad_key bits of_family typed (widths-fit widths.0) (fec-fits whole) (λ over. opposite (is-long over) short.0)
      (ap (λ (k : FieldKind). has_field k body) (sym q.0) ∙ r.1) (λ of. opposite (key_fits_lem afi bits of_family f.type f.key of) q.1)))
      (picked _ _ _ _ short.1))
      (picked _ _ _ _ fecs.1))
      (λ bad.
      let c = fec-faulty (eqb-false _ _ bad.0) in
      subst (WriteRefusal afi f space) (same _ bad.1) (bad_fec bits of_family typed (widths-fit widths.0) c.0 c.1))
      (picked _ _ _ _ widths.1))
      (λ bad.
      let r = all-false (width_fits bits f) body (sym (widths-all bits f body) ∙ bad.0) in
      subst (WriteRefusal afi f space) (same WIDTH bad.1) (bad_width bits of_family typed r.0 r.1 (width-fault bits f r.0 r.2)))
      (picked _ _ _ _ e)

  -- a verdict of a known type is the call's
  typed-stops : (o : Outcome (List ℕ)) → KnownType f.type → verdict_of bits f space ≡ o → write_nlri afi f space ≡ o
  typed-stops o typed e = write-is afi f space ∙ sym (and-goes-on _ _ _ _ of_family (sym (pick_true _ _ _ (known f.type typed) ∙ e)))

  width-stops : KnownType f.type → (k : FieldKind) → has_field k (body_of f.type) ≡ true → WidthFault bits f k → write_nlri afi f space ≡ refused WIDTH
  unfolding verdict_of verdict
  width-stops typed k h fault = typed-stops _ typed (pick-false _ _ _ (widths-all bits f _ ∙ all-fails (width_fits bits f) _ k h (fault-width bits f k fault)))

  fec-stops : (n : ℕ) → KnownType f.type → WidthsFit bits f → has_field fec (body_of f.type) ≡ true → NestedFault (Lent (root_family bits)) f.fec n → write_nlri afi f space ≡ refused n
  unfolding verdict_of verdict
  fec-stops n typed widths has fault =
      let c = faulty-fec n has fault in
      typed-stops _ typed (pick_true _ _ _ (fit-widths widths) ∙ pick-false _ _ _ (ne_eqb _ _ (λ done. c.1 (sym c.0 ∙ done))) ∙ ap refused c.0)

  long-stops : KnownType f.type → WidthsFit bits f → FecFits bits f → TooLong f → write_nlri afi f space ≡ refused LONG
  unfolding verdict_of verdict
  long-stops typed widths fecs over = typed-stops _ typed (pick_true _ _ _ (fit-widths widths) ∙ pick_true _ _ _ (eq-eqb _ _ (fit-fec fecs)) ∙ pick_true _ _ _ (is-long over))

  key-stops : KnownType f.type → WidthsFit bits f → FecFits bits f → (TooLong f → ⊥) → has_field key (body_of f.type) ≡ true → (KeyOf bits f.type f.key → ⊥) → write_nlri afi f space ≡ refused KEY
  unfolding verdict_of verdict key_fits
  key-stops typed widths fecs short h none =
      typed-stops _ typed (pick_true _ _ _ (fit-widths widths) ∙ pick_true _ _ _ (eq-eqb _ _ (fit-fec fecs)) ∙ pick-false _ _ _ (is_false _ (λ over. short (long-is over)))
      ∙ pick-false _ _ _ (keys-all bits f _ ∙ all-fails (key_fits bits f) _ key h (is_false _ (λ e. none (key-judged afi bits of_family f.type f.key held.key e)))))

refusal-sound : (afi : ℕ) (f : Fields) (space n : ℕ) → HoldsOctets f → write_nlri afi f space ≡ refused n → WriteRefusal afi f space n
refusal-sound afi f space n held e =
    ⊎_elim (λ first. let p = family-refused afi n first in subst (WriteRefusal afi f space) (sym p.0) (bad_family p.1.0 p.1.1))
    (λ next.
    ⊎_elim (λ good. let row = row_of f.type good.0 in verdict-refused afi next.value next.first f held space n row.known good.1)
    (λ bad. subst (WriteRefusal afi f space) (refused-same {A = List ℕ} bad.1) (bad_type next.value next.first (λ typed. opposite (known f.type typed) bad.0)))
    (picked _ _ _ _ next.second))
    (stopped _ _ _ (sym (write-is afi f space) ∙ e))

refusal-complete : (afi : ℕ) (f : Fields) (space n : ℕ) → HoldsOctets f → WriteRefusal afi f space n → write_nlri afi f space ≡ refused n
refusal-complete afi f space n held (bad_family one two) = write-is afi f space ∙ sym (and-stops _ _ _ (family-refuses afi one two))
refusal-complete afi f space n held (bad_type bits of_family untyped) = write-is afi f space ∙ sym (and-goes-on _ _ _ _ of_family (sym (pick-false _ _ _ (unlisted f.type untyped))))
refusal-complete afi f space n held (bad_width bits of_family typed k h fault) = width-stops afi bits of_family f held space typed k h fault
refusal-complete afi f space n held (bad_fec bits of_family typed widths h fault) = fec-stops afi bits of_family f held space n typed widths h fault
refusal-complete afi f space n held (long bits of_family typed widths fecs over) = long-stops afi bits of_family f held space typed widths fecs over
refusal-complete afi f space n held (bad_key bits of_family typed widths fecs short h none) = key-stops afi bits of_family f held space typed widths fecs short h none
refusal-complete afi f space n held (discarded bits of_family w d) = write-discarded afi bits of_family f space w d
refusal-complete afi f space n held (no_space bits of_family w few) = write-well afi bits of_family f space w ∙ pick_true _ _ _ (lt-ltb space (length (encode_nlri f)) few)

-- no refusal is DONE
pub write-not-done : (afi : ℕ) (f : Fields) (space n : ℕ) → HoldsOctets f → WriteRefusal afi f space n → n ≡ DONE → ⊥
write-not-done afi f space n held (bad_family one two) e = omega arith
write-not-done afi f space n held (bad_type bits of_family untyped) e = omega arith
write-not-done afi f space n held (bad_width bits of_family typed k h fault) e = omega arith
write-not-done afi f space n held (bad_fec bits of_family typed widths h fault) e =
    (read-refused _ f.fec n ((nested_fec_rule.exactly (Lent (root_family bits)) f.fec n held.fec).1 fault)).1 e
write-not-done afi f space n held (long bits of_family typed widths fecs over) e = omega arith
write-not-done afi f space n held (bad_key bits of_family typed widths fecs short h none) e = omega arith
write-not-done afi f space n held (discarded bits of_family w d) e = omega arith
write-not-done afi f space n held (no_space bits of_family w few) e = omega arith

accepted : (afi : ℕ) (f : Fields) (space : ℕ) (e : List ℕ) → HoldsOctets f
    → write_nlri afi f space ≡ given e → (bits : ℕ) × (family_bits afi ≡ given bits) × WellFormed bits f × (length e ≤ space) × (e ≡ encode_nlri f)
accepted afi f space e held w =
    let p = passed _ _ _ (sym (write-is afi f space) ∙ w) in
    let r = written afi p.value p.first f held space e w in
    let u = given-otherwise _ _ _ _ (sym (write-well afi p.value p.first f space r.0) ∙ w) in
    (p.value, p.first, r.0, omega (arith, ltb-false, ap length r.1), sym r.1)

pub write_refusals : WriteRefusals
write_refusals =
    record {
      exactly = λ afi f space n held. (refusal-sound afi f space n held, refusal-complete afi f space n held);
      accepted = λ afi f space e held. (
        accepted afi f space e held,
        λ h. write-well afi h.0 h.1 f space h.2 ∙ pick-false _ _ _ (le-ltb space (length (encode_nlri f)) (omega (arith, h.3, ap length h.4))) ∙ ap given (sym h.4),
      );
    }
