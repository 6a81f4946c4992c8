-- Every list of octets is read, or refused by the one number that document 01 gives it.
use Rattle.std.proofs.Common.{◌≡◌, ℕ, suc, ◌+◌, ◌-◌, ◌*◌, ◌/◌, ◌<◌, Bool, true, false, ltb, List, ◌++◌, length, get_or, drop, sym, refl, ap, ◌∙◌, subst, inl, inr, ⊎_elim, append-nil, arith, length-append, length-drop, ltb-false, ltb-true, lt-ltb, ne_eqb, eqb-true}
use borrow.Author.Tests.{eqb-false}
use Rattle.octets.specs.Numbers.{DONE, SHORT, TYPE, LENGTH}
use Rattle.octets.specs.Outcome.{given, refused, and_then}
use Rattle.octets.specs.Octets.{AllOctets, part}
use Rattle.octets.proofs.Choice.{pick_true, pick-false, opposite, picked, is_false}
use Rattle.octets.proofs.Outcome.{and-goes-on, and-stops, never, refused-same, stopped, outcome}
use Rattle.octets.proofs.AllOctets.{octets-part}
use Rattle.octets.proofs.Lists.{empty-list}
use Rattle.nlri.specs.Family.{family_bits}
use Rattle.nlri.specs.Bodies.{KnownType, body_of}
use Rattle.nlri.specs.Fields.{Fields, encode_body, encode_nlri, Encodable, is_discarded, KeyOf}
use Rattle.nlri.specs.Reading.{Laid, key_field, laid_with, laid_at, accepted, accepted_at, accepted_single, read_nlri}
use Rattle.nlri.specs.Rules.NlriRules.{TooShort, Faulty, LaidRefusal, short, bad_type, bad_body, FrontRefusal, unlaid, ReadRefusal, bad_family, front, after, ReadRefusals}
use Rattle.nlri.proofs.Definitions.Table.{on-body, known, row_of, unlisted}
use Rattle.nlri.proofs.Definitions.Lengths.{family-octets}
use Rattle.nlri.proofs.Definitions.Whole.{laid_out_lem, laid-complete}
use Rattle.nlri.proofs.Definitions.Keys.{key-judges}
use Rattle.nlri.proofs.Definitions.Discards.{discarded-fields}
use Rattle.nlri.proofs.Statements.Acceptance.{acceptance, front-sound, discarded-front, discarded-single}
use Rattle.nlri.proofs.Definitions.Families.{family-refused, family-refuses}
use Rattle.nlri.proofs.Statements.Faults.{body_refused, faulty-refuses, faulty-numbers, fault-not-done}

module _ (afi bits : ℕ) (of_family : family_bits afi ≡ given bits) (s : List ℕ) (a : AllOctets s) where
  whole : 8 * (bits / 8) ≡ bits
  whole = (family-octets afi bits of_family).0

  not_short : ltb (length s) 2 ≡ false → ltb (length s - 2) (get_or s 1 0) ≡ false → TooShort s → ⊥
  not_short enough fits sh = ⊎_elim (λ h. omega (arith, ltb-false)) (λ h. omega (arith, ltb-false)) sh

  laid-refused : (n : ℕ) → laid_at bits s ≡ refused n → LaidRefusal bits s n
  unfolding laid_at laid_with
  laid-refused n e =
      ⊎_elim (λ h. subst (LaidRefusal bits s) (refused-same {A = Laid} h.1) (short (inl (ltb-true _ _ h.0))))
      (λ enough.
      ⊎_elim (λ h. subst (LaidRefusal bits s) (refused-same {A = Laid} h.1) (short (inr (ltb-true _ _ h.0))))
      (λ fits.
      ⊎_elim
      (λ good.
      let row = row_of (get_or s 0 0) good.0 in
      bad_body (not_short enough.0 fits.0) row.known
      (body_refused bits whole (get_or s 0 0) (body_of (get_or s 0 0)) (part s 2 (get_or s 1 0)) n (octets-part 2 (get_or s 1 0) a)
      (⊎_elim (λ first. first) (λ none. absurd (never refl none.second)) (stopped _ _ _ good.1))))
      (λ bad. subst (LaidRefusal bits s) (refused-same {A = Laid} bad.1) (bad_type (not_short enough.0 fits.0) (λ typed. opposite (known _ typed) bad.0)))
      (picked _ _ _ _ (sym (on-body _ _ _) ∙ fits.1)))
      (picked _ _ _ _ enough.1))
      (picked _ _ _ _ e)

  single-refused : (n : ℕ) → accepted_single bits s ≡ refused n → ReadRefusal afi s n
  unfolding accepted_single laid_at accepted
  single-refused n e =
      ⊎_elim (λ first. front bits of_family (laid-refused n first))
      (λ next.
      let laid : Laid = next.value in
      let o = laid_out_lem (key_field bits) bits s laid next.first in
      let r = front-sound afi bits of_family s laid a next.first in
      ⊎_elim
      (λ same.
      let alone : s ≡ encode_nlri r.fields =
      (let all : length s - 2 ≡ laid.size = eqb-true _ _ same.0 in
      r.is ∙ ap (λ (x : List ℕ). encode_nlri r.fields ++ x) (empty-list (drop (2 + laid.size) s) (rw length-drop (omega (arith, o.enough)))) ∙ append-nil (encode_nlri r.fields)) in
      ⊎_elim (λ ssm. subst (ReadRefusal afi s) (refused-same {A = Laid} ssm.1) (ReadRefusal.discarded bits r.fields of_family r.encodable (discarded-fields afi bits of_family r.fields r.encodable (ap (is_discarded bits) r.same ∙ ssm.0)) alone))
      (λ passed. absurd (never refl passed.1)) (picked _ _ _ _ same.1))
      (λ more.
      let other : length s - 2 ≡ laid.size → ⊥ = eqb-false (length s - 2) laid.size more.0 in
      let some : 0 < length (drop (2 + laid.size) s) = rw length-drop (omega (arith, o.fits, o.enough)) in
      subst (ReadRefusal afi s) (refused-same {A = Laid} more.1)
      (after bits r.fields (drop (2 + laid.size) s) of_family r.encodable r.is some))
      (picked _ _ _ _ next.second))
      (stopped _ _ _ e)

  laid-short : TooShort s → laid_at bits s ≡ refused SHORT
  unfolding laid_at laid_with
  laid-short sh = go (ltb (length s) 2) refl
    where
      go : (b : Bool) → ltb (length s) 2 ≡ b → laid_at bits s ≡ refused SHORT
      go true h = pick_true _ _ _ h
      go false h = pick-false _ _ _ h ∙ pick_true _ _ _ (⊎_elim (λ few. absurd (omega (arith, ltb-false))) (λ few. lt-ltb (length s - 2) (get_or s 1 0) few) sh)

  -- past SHORT
  enough : (TooShort s → ⊥) → ltb (length s) 2 ≡ false
  enough h = is_false _ (λ few. h (inl (ltb-true _ _ few)))

  fits : (TooShort s → ⊥) → ltb (length s - 2) (get_or s 1 0) ≡ false
  fits h = is_false _ (λ few. h (inr (ltb-true _ _ few)))

  laid-untyped : (TooShort s → ⊥) → (KnownType (get_or s 0 0) → ⊥) → laid_at bits s ≡ refused TYPE
  unfolding laid_at laid_with
  laid-untyped h t = pick-false _ _ _ (enough h) ∙ pick-false _ _ _ (fits h) ∙ on-body _ _ _ ∙ pick-false _ _ _ (unlisted (get_or s 0 0) t)

  laid-faulty : (n : ℕ) → (TooShort s → ⊥) → KnownType (get_or s 0 0) → Faulty bits (get_or s 0 0) (body_of (get_or s 0 0)) (part s 2 (get_or s 1 0)) n → laid_at bits s ≡ refused n
  unfolding laid_at laid_with
  laid-faulty n h t fault =
      pick-false _ _ _ (enough h) ∙ pick-false _ _ _ (fits h) ∙ on-body _ _ _ ∙ pick_true _ _ _ (known (get_or s 0 0) t)
      ∙ sym (and-stops _ _ _ (faulty-refuses bits whole (get_or s 0 0) (body_of (get_or s 0 0)) (part s 2 (get_or s 1 0)) n (octets-part 2 (get_or s 1 0) a) fault))

  single-after : (f : Fields) (t : List ℕ) → Encodable bits f → s ≡ encode_nlri f ++ t → 0 < length t → accepted_single bits s ≡ refused LENGTH
  unfolding accepted_single laid_at encode_nlri
  single-after f t w e some =
      let body = body_of f.type in
      let len : length s ≡ suc (suc (length (encode_body f body) + length t)) = ap length e ∙ ap (λ (n : ℕ). suc (suc n)) (length-append (encode_body f body) t) in
      sym (and-goes-on _ _ _ _ (ap (laid_at bits) e ∙ laid-complete (key_field bits) (KeyOf bits) (key-judges bits whole) bits whole f t w.typed w.body)
      (sym (pick-false _ _ _ (ne_eqb (length s - 2) (length (encode_body f body)) (λ q. omega arith)))))

  laid-stops : (n : ℕ) → LaidRefusal bits s n → laid_at bits s ≡ refused n
  laid-stops n (short h) = laid-short h
  laid-stops n (bad_type h t) = laid-untyped h t
  laid-stops n (bad_body h t fault) = laid-faulty n h t fault

  -- with GROUP
  accepted-refused : (n : ℕ) → accepted_at bits s ≡ refused n → FrontRefusal bits s n
  unfolding accepted_at accepted
  accepted-refused n e =
      ⊎_elim (λ first. unlaid (laid-refused n first))
      (λ next.
      let r = front-sound afi bits of_family s next.value a next.first in
      ⊎_elim (λ ssm. subst (FrontRefusal bits s) (refused-same {A = Laid} ssm.1) (FrontRefusal.discarded r.fields (drop (2 + next.value.size) s) r.encodable (discarded-fields afi bits of_family r.fields r.encodable (ap (is_discarded bits) r.same ∙ ssm.0)) r.is))
      (λ passed. absurd (never refl passed.1)) (picked _ _ _ _ next.second))
      (stopped _ _ _ e)

  accepted-stops : (n : ℕ) → FrontRefusal bits s n → accepted_at bits s ≡ refused n
  unfolding accepted_at
  accepted-stops n (unlaid h) = sym (and-stops _ _ _ (laid-stops n h))
  accepted-stops n (FrontRefusal.discarded f t w d e) = ap (λ (x : List ℕ). and_then (laid_at bits x) (accepted bits x)) e ∙ discarded-front afi bits of_family f t w d

  -- a refusal of the front, or of the single NLRI, is the call's
  read-stops : (n : ℕ) → accepted_single bits s ≡ refused n → read_nlri afi s ≡ refused n
  unfolding read_nlri
  read-stops n e = sym (and-goes-on _ _ _ _ of_family (and-stops _ _ _ e))

  front-stops : (n : ℕ) → LaidRefusal bits s n → read_nlri afi s ≡ refused n
  unfolding accepted_single
  front-stops n h = read-stops n (sym (and-stops _ _ _ (laid-stops n h)))

refusal-sound : (afi : ℕ) (s : List ℕ) (n : ℕ) → AllOctets s → read_nlri afi s ≡ refused n → ReadRefusal afi s n
unfolding read_nlri
refusal-sound afi s n a e =
    ⊎_elim (λ first. let p = family-refused afi n first in subst (ReadRefusal afi s) (sym p.0) (bad_family p.1.0 p.1.1))
    (λ next. single-refused afi next.value next.first s a n (⊎_elim (λ first. first) (λ none. absurd (never refl none.second)) (stopped _ _ _ next.second)))
    (stopped _ _ _ e)

refusal-complete : (afi : ℕ) (s : List ℕ) (n : ℕ) → AllOctets s → ReadRefusal afi s n → read_nlri afi s ≡ refused n
unfolding read_nlri
refusal-complete afi s n a (bad_family one two) = sym (and-stops _ _ _ (family-refuses afi one two))
refusal-complete afi s n a (front bits of_family h) = front-stops afi bits of_family s a n h
refusal-complete afi s n a (ReadRefusal.discarded bits f of_family w d e) = read-stops afi bits of_family s a _ (ap (accepted_single bits) e ∙ discarded-single afi bits of_family f w d)
refusal-complete afi s n a (after bits f t of_family w e some) = read-stops afi bits of_family s a LENGTH (single-after afi bits of_family s a f t w e some)

-- no refusal is DONE
laid-not-done : (bits : ℕ) (s : List ℕ) (n : ℕ) → LaidRefusal bits s n → n ≡ DONE → ⊥
laid-not-done bits s n (short h) e = omega arith
laid-not-done bits s n (bad_type h t) e = omega arith
laid-not-done bits s n (bad_body h t fault) e = fault-not-done n (faulty-numbers bits _ _ _ n fault) e

pub front-not-done : (bits : ℕ) (s : List ℕ) (n : ℕ) → FrontRefusal bits s n → n ≡ DONE → ⊥
front-not-done bits s n (unlaid h) e = laid-not-done bits s n h e
front-not-done bits s n (FrontRefusal.discarded f t w d is) e = omega arith

pub refusal-not-done : (afi : ℕ) (s : List ℕ) (n : ℕ) → ReadRefusal afi s n → n ≡ DONE → ⊥
refusal-not-done afi s n (bad_family one two) e = omega arith
refusal-not-done afi s n (front bits of_family h) e = laid-not-done bits s n h e
refusal-not-done afi s n (ReadRefusal.discarded bits f of_family w d is) e = omega arith
refusal-not-done afi s n (after bits f t of_family w q some) e = omega arith

pub read_refusals : ReadRefusals
read_refusals =
    record {
      exactly = λ afi s n a. (refusal-sound afi s n a, refusal-complete afi s n a);
      front = λ afi bits s n of_family a. (accepted-refused afi bits of_family s a n, accepted-stops afi bits of_family s a n);
      decided = λ afi s a. ⊎_elim (λ yes. inl (yes.0, (acceptance.exactly afi s yes.0 a).0 yes.1)) (λ no. inr (no.0, refusal-sound afi s no.0 a no.1)) (outcome (read_nlri afi s));
      one = λ afi s m n a p q. refused-same {A = Fields} (sym (refusal-complete afi s m a p) ∙ refusal-complete afi s n a q);
      never = λ afi s f n a p q. never ((acceptance.exactly afi s f a).1 p) (refusal-complete afi s n a q);
      done = λ afi s h. refusal-not-done afi s DONE h refl;
      bodies = faulty-numbers;
    }
