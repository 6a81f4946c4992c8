-- Which Source Active routes are discarded (document 02, W-210): the test, and the facts.
use Rattle.std.proofs.Common.{◌≡◌, ℕ, ◌*◌, true, false, ◌⊎◌, List, length, sym, ap, ◌∙◌, subst, inl, inr, ⊎_elim, arith, eq-eqb, eqb-true, le-leb}
use Rattle.octets.specs.Choice.{pick}
use Rattle.octets.specs.Outcome.{given}
use Rattle.octets.proofs.Choice.{both_true, both-held, both-true-left, both-true-right, either_true, is_false, opposite}
use Rattle.octets.proofs.Outcome.{given-same}
use Rattle.nlri.specs.Family.{family_bits, allowed}
use Rattle.nlri.specs.Bodies.{bodies, on_body, body_of}
use Rattle.nlri.specs.Groups.{source_specific, is_ssm, SourceSpecific}
use Rattle.nlri.specs.Fields.{Fields, WellFormedBody, KeyOf, Encodable, Discarded, is_discarded, WellFormed}
use Rattle.nlri.proofs.Definitions.Lengths.{good-family}

-- a group of the standard range, by the test
is-ssm : (afi bits : ℕ) (g : List ℕ) → family_bits afi ≡ given bits → SourceSpecific afi g → is_ssm bits g ≡ true
unfolding family_bits is_ssm source_specific pick
is-ssm afi bits g e (SourceSpecific.ipv4 size first) = rw (sym (given-same e)) (both_true _ _ (le-leb 4 (length g) (omega arith)) (eq-eqb _ _ first))
is-ssm afi bits g e (SourceSpecific.ipv6 size first second third fourth) =
    rw (sym (given-same e)) (both_true _ _ (le-leb 4 (length g) (omega arith)) (both_true _ _ (eq-eqb _ _ first) (both_true _ _ (eq-eqb _ _ second) (both_true _ _ (eq-eqb _ _ third) (eq-eqb _ _ fourth)))))

-- and a group of the family's size that the test takes
ssm-ipv4 : (g : List ℕ) → length g ≡ 4 → is_ssm 32 g ≡ true → SourceSpecific 1 g
unfolding is_ssm source_specific pick
ssm-ipv4 g size e = SourceSpecific.ipv4 size (eqb-true _ _ (both-true-right _ _ e))

ssm-ipv6 : (g : List ℕ) → length g ≡ 16 → is_ssm 128 g ≡ true → SourceSpecific 2 g
unfolding is_ssm source_specific pick
ssm-ipv6 g size e =
    let s = both-true-right _ _ e in
    let t = both-true-right _ _ s in
    let u = both-true-right _ _ t in
    SourceSpecific.ipv6 size (eqb-true _ _ (both-true-left _ _ s)) (eqb-true _ _ (both-true-left _ _ t)) (eqb-true _ _ (both-true-left _ _ u)) (eqb-true _ _ (both-true-right _ _ u))

family : (afi bits : ℕ) → family_bits afi ≡ given bits → ((afi ≡ 1) × (bits ≡ 32)) ⊎ ((afi ≡ 2) × (bits ≡ 128))
unfolding family_bits pick
family afi bits e = ⊎_elim (λ p. inl (p, sym (given-same (sym (ap family_bits p) ∙ e)))) (λ p. inr (p, sym (given-same (sym (ap family_bits p) ∙ e)))) (good-family afi bits e)

ssm : (afi bits : ℕ) (g : List ℕ) → family_bits afi ≡ given bits → 8 * length g ≡ bits → is_ssm bits g ≡ true → SourceSpecific afi g
ssm afi bits g e size h = go (family afi bits e)
  where
    go : ((afi ≡ 1) × (bits ≡ 32)) ⊎ ((afi ≡ 2) × (bits ≡ 128)) → SourceSpecific afi g
    go (inl p) = let four : length g ≡ 4 = omega (arith, p.1) in rw p.0 (ssm-ipv4 g four (rw p.1 at h))
    go (inr p) = let sixteen : length g ≡ 16 = omega (arith, p.1) in rw p.0 (ssm-ipv6 g sixteen (rw p.1 at h))

-- the group of a Source Active route has its family's size
sized : (bits : ℕ) (f : Fields) → Encodable bits f → f.type ≡ 5 → 8 * length f.group ≡ bits
unfolding body_of on_body bodies pick allowed
sized bits f w five =
    let b = subst (λ (t : ℕ). WellFormedBody (KeyOf bits) bits f (body_of t)) five w.body in
    ⊎_elim (λ e. eqb-true _ _ e) (λ e. absurd (omega (arith, eqb-true f.type 3 (both-true-left _ _ e)))) (either_true _ _ b.1.1.0.0)

pub tested-discarded : (bits : ℕ) (f : Fields) → Discarded bits f → is_discarded bits f ≡ true
unfolding is_discarded
tested-discarded bits f d = both_true _ _ (eq-eqb _ _ d.source_active) (is-ssm d.afi bits f.group d.of_family d.specific)

pub discarded-tested : (afi bits : ℕ) → family_bits afi ≡ given bits → (f : Fields) → Encodable bits f → is_discarded bits f ≡ true → (f.type ≡ 5) × SourceSpecific afi f.group
unfolding is_discarded
discarded-tested afi bits of_family f w h =
    let b = both-held _ _ h in
    let five = eqb-true _ _ b.0 in
    (five, ssm afi bits f.group of_family (sized bits f w five) b.1)

pub discarded-fields : (afi bits : ℕ) → family_bits afi ≡ given bits → (f : Fields) → Encodable bits f → is_discarded bits f ≡ true → Discarded bits f
discarded-fields afi bits of_family f w h = let d = discarded-tested afi bits of_family f w h in record { afi = afi; of_family = of_family; source_active = d.0; specific = d.1 }

-- so well-formed fields are encodable ones that pass the test
pub passes : (afi bits : ℕ) → family_bits afi ≡ given bits → (f : Fields) → WellFormed bits f → is_discarded bits f ≡ false
passes afi bits of_family f w =
    is_false _ (λ t. w.not_discarded (discarded-fields afi bits of_family f w.encodable t))

pub well-formed : (bits : ℕ) (f : Fields) → Encodable bits f → is_discarded bits f ≡ false → WellFormed bits f
well-formed bits f w h = record { encodable = w; not_discarded = λ d. opposite (tested-discarded bits f d) h }
