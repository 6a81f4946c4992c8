-- Writing: what the writer's tests say of the fields, and that it looks only at fields of the type's body.
use Rattle.std.proofs.Common.{◌≡◌, ℕ, ◌*◌, ◌<◌, ◌≤◌, Bool, true, false, eqb, ltb, leb, List, [], ◌∷◌, ◌++◌, length, sym, refl, ap, ◌∙◌, subst, ap₂, append-nil, arith, take_all, ltb-true, lt-ltb, eq-eqb, eqb-true, leb-false, leb-true}
use Rattle.octets.specs.Numbers.{DONE, TYPE, WIDTH, KEY, LONG, SPACE, GROUP}
use Rattle.octets.specs.Choice.{pick, both, either}
use Rattle.octets.specs.Outcome.{Outcome, given, refused, on_outcome, and_then, number_of}
use Rattle.octets.specs.Octets.{AllOctets, big_endian}
use Rattle.octets.proofs.Choice.{pick_true, pick-false, pick-cong, tested, is_false, both_left, both_true, opposite, both-true-left, both-true-right}
use Rattle.octets.proofs.Outcome.{and-cong, and-goes-on, on-given, given-otherwise, given-unless, passed, given-same}
use Rattle.fec_elements.specs.declared.Standing.TheVariants.{Lent}
use Rattle.fec_elements.specs.Reading.{read_fec}
use Rattle.nlri.specs.Family.{family_bits, root_family, allowed, is_originator_size}
use Rattle.nlri.specs.Bodies.{FieldKind, distinguisher, source_as, source, group, originator, key, fec, KnownType, bodies, on_body, body_of, code_of, same_kind, has_field}
use Rattle.nlri.specs.Groups.{is_ssm}
use Rattle.nlri.specs.Fields.{Fields, encode_address, encode_field, encode_body, encode_nlri, LengthFits, WellFormedField, WellFormedBody, Encodable, Discarded, is_discarded, WellFormed, KeyOf, restricted}
use Rattle.nlri.specs.Reading.{key_field}
use Rattle.nlri.specs.Writing.{width_fits, widths_fit, fec_number, is_long, is_key, key_fits, keys_fit, write_nlri}
use Rattle.nlri.specs.Rules.NlriRules.{HoldsOctets}
use Rattle.nlri.proofs.Definitions.Table.{listed, on-body, known, row_of, has_first, has-later}
use Rattle.nlri.proofs.Definitions.Lengths.{family-octets}
use Rattle.nlri.proofs.Definitions.Fecs.{fec-lent, lent-fec}
use Rattle.nlri.proofs.Definitions.Whole.{field-in-body, length_most}
use Rattle.nlri.proofs.Definitions.Keys.{key-judges, key-most}
use Rattle.nlri.proofs.Definitions.Discards.{tested-discarded, passes, well-formed}

-- two fields records agree in a kind of field
abbrev pub SameField : Fields → Fields → FieldKind → Type 0
SameField f g distinguisher = f.distinguisher ≡ g.distinguisher
SameField f g source_as = f.source_as ≡ g.source_as
SameField f g source = f.source ≡ g.source
SameField f g group = f.group ≡ g.group
SameField f g originator = f.originator ≡ g.originator
SameField f g key = f.key ≡ g.key
SameField f g fec = f.fec ≡ g.fec

restricted-same : (f : Fields) (k : FieldKind) → has_field k (body_of f.type) ≡ true → SameField (restricted f) f k
unfolding restricted
restricted-same f distinguisher h = pick_true _ _ _ h
restricted-same f source_as h = pick_true _ _ _ h
restricted-same f source h = pick_true _ _ _ h
restricted-same f group h = pick_true _ _ _ h
restricted-same f originator h = pick_true _ _ _ h
restricted-same f key h = pick_true _ _ _ h
restricted-same f fec h = pick_true _ _ _ h

same-encoding : (f g : Fields) (k : FieldKind) → SameField f g k → encode_field f k ≡ encode_field g k
unfolding encode_field
same-encoding f g distinguisher e = e
same-encoding f g source_as e = ap (big_endian 4) e
same-encoding f g source e = ap encode_address e
same-encoding f g group e = ap encode_address e
same-encoding f g originator e = e
same-encoding f g key e = e
same-encoding f g fec e = e

same_width : (bits : ℕ) (f g : Fields) → f.type ≡ g.type → (k : FieldKind) → SameField f g k → width_fits bits f k ≡ width_fits bits g k
unfolding width_fits
same_width bits f g t distinguisher e = refl
same_width bits f g t source_as e = refl
same_width bits f g t source e = ap₂ (λ (n : ℕ) (x : List ℕ). allowed bits n (8 * length x)) t e
same_width bits f g t group e = ap₂ (λ (n : ℕ) (x : List ℕ). allowed bits n (8 * length x)) t e
same_width bits f g t originator e = ap (λ (x : List ℕ). is_originator_size (length x)) e
same_width bits f g t key e = refl
same_width bits f g t fec e = refl

same_key : (bits : ℕ) (f g : Fields) → f.type ≡ g.type → (k : FieldKind) → SameField f g k → key_fits bits f k ≡ key_fits bits g k
unfolding key_fits
same_key bits f g t distinguisher e = refl
same_key bits f g t source_as e = refl
same_key bits f g t source e = refl
same_key bits f g t group e = refl
same_key bits f g t originator e = refl
same_key bits f g t key e = ap₂ (is_key bits) t e
same_key bits f g t fec e = refl

same_body : (bits : ℕ) (f g : Fields) → f.type ≡ g.type → (body : List FieldKind) → ((k : FieldKind) → has_field k body ≡ true → SameField f g k)
    → (encode_body f body ≡ encode_body g body) × (widths_fit bits f body ≡ widths_fit bits g body) × (keys_fit bits f body ≡ keys_fit bits g body)
unfolding encode_body widths_fit keys_fit
same_body bits f g t [] same = (refl, refl, refl)
same_body bits f g t (k ∷ body) same =
    let later = same_body bits f g t body (λ k' h. same k' (has-later k' k body h)) in
    let here = same k (has_first k body) in
    (ap₂ (λ (x y : List ℕ). x ++ y) (same-encoding f g k here) later.0, ap₂ both (same_width bits f g t k here) later.1, ap₂ both (same_key bits f g t k here) later.2)

-- a test of every kind of field along a body
unfoldable pub all : (FieldKind → Bool) → List FieldKind → Bool
all test [] = true
all test (k ∷ body) = both (test k) (all test body)

pub widths-all : (bits : ℕ) (f : Fields) (body : List FieldKind) → widths_fit bits f body ≡ all (width_fits bits f) body
unfolding widths_fit all
widths-all bits f [] = refl
widths-all bits f (k ∷ body) = ap (both (width_fits bits f k)) (widths-all bits f body)

pub keys-all : (bits : ℕ) (f : Fields) (body : List FieldKind) → keys_fit bits f body ≡ all (key_fits bits f) body
unfolding keys_fit all
keys-all bits f [] = refl
keys-all bits f (k ∷ body) = ap (both (key_fits bits f k)) (keys-all bits f body)

-- the order of writing: WIDTH, IDENT and DEEP, LONG, KEY, GROUP, SPACE
unfoldable pub verdict : ℕ → List ℕ → (widths : Bool) → (number : ℕ) → (long keys ssm : Bool) → Outcome (List ℕ)
verdict space e widths number long keys ssm =
    pick widths (pick (eqb number DONE) (pick long (refused LONG) (pick keys (pick ssm (refused GROUP) (pick (ltb space (length e)) (refused SPACE) (given e))) (refused KEY))) (refused number)) (refused WIDTH)

unfoldable pub verdict_of : ℕ → Fields → ℕ → Outcome (List ℕ)
verdict_of bits f space =
    verdict space (encode_nlri f) (widths_fit bits f (body_of f.type)) (fec_number bits f (body_of f.type)) (is_long f (body_of f.type)) (keys_fit bits f (body_of f.type)) (is_discarded bits f)

pub write-is : (afi : ℕ) (f : Fields) (space : ℕ) → write_nlri afi f space ≡ and_then (family_bits afi) (λ bits. pick (listed bodies f.type) (verdict_of bits f space) (refused TYPE))
unfolding write_nlri verdict_of verdict
write-is afi f space = and-cong _ _ _ (λ bits e. on-body _ _ _)

pub verdict-same : (space : ℕ) {e e' : List ℕ} {w w' : Bool} {n n' : ℕ} {l l' k k' d d' : Bool} → e ≡ e' → w ≡ w' → n ≡ n' → l ≡ l' → k ≡ k' → d ≡ d' → verdict space e w n l k d ≡ verdict space e' w' n' l' k' d'
verdict-same space p q r s t u = λ i. verdict space (p i) (q i) (r i) (s i) (t i) (u i)

restricted-discarded : (bits : ℕ) (f : Fields) → is_discarded bits (restricted f) ≡ is_discarded bits f
unfolding is_discarded restricted body_of on_body bodies has_field same_kind code_of either pick
restricted-discarded bits f =
    tested (eqb f.type 5)
    (λ y.
    let five : f.type ≡ 5 = eqb-true _ _ y in
    let has : has_field group (body_of f.type) ≡ true = ap (λ (n : ℕ). has_field group (body_of n)) five in
    ap (λ (g : List ℕ). both (eqb f.type 5) (is_ssm bits g)) (pick_true (has_field group (body_of f.type)) f.group [] has))
    (λ n. both_left _ _ n ∙ sym (both_left _ _ n))

restricted-fec : (bits : ℕ) (f : Fields) → fec_number bits (restricted f) (body_of f.type) ≡ fec_number bits f (body_of f.type)
unfolding fec_number restricted
restricted-fec bits f = pick-cong _ _ _ _ _ (λ h. ap (λ (x : List ℕ). number_of (read_fec (Lent (root_family bits)) x)) (pick_true _ _ _ h)) (λ _. refl)

-- the writer does not look at fields that the type lacks
pub write-restricted : (afi : ℕ) (f : Fields) (space : ℕ) → write_nlri afi (restricted f) space ≡ write_nlri afi f space
unfolding verdict_of restricted encode_nlri is_long
write-restricted afi f space =
    write-is afi (restricted f) space
    ∙ and-cong _ _ _ (λ bits e.
    let same = same_body bits (restricted f) f refl (body_of f.type) (restricted-same f) in
    ap (λ (o : Outcome (List ℕ)). pick (listed bodies f.type) o (refused TYPE))
    (verdict-same space (ap (λ (b : List ℕ). f.type ∷ (length b ∷ b)) same.0) same.1 (restricted-fec bits f) (ap (λ (b : List ℕ). both (ltb 7 f.type) (ltb 255 (length b))) same.0) same.2 (restricted-discarded bits f)))
    ∙ sym (write-is afi f space)

-- octets that the writer takes for a key
pub key-judged : (afi bits : ℕ) → family_bits afi ≡ given bits → (type : ℕ) (k : List ℕ) → AllOctets k → is_key bits type k ≡ true → KeyOf bits type k
unfolding is_key on_outcome
key-judged afi bits of_family type k a e = go (key_field bits type k) refl e
  where
    go : (o : Outcome ℕ) → key_field bits type k ≡ o → on_outcome (λ fault. false) (λ size. eqb size (length k)) o ≡ true → KeyOf bits type k
    go (given n) p q =
        let size : n ≡ length k = eqb-true _ _ q in
        subst (KeyOf bits type) (take_all n k (omega arith)) ((key-judges bits (family-octets afi bits of_family).0).sound type k n a p).1
    go (refused n) p q = absurd (opposite q refl)

pub key_fits_lem : (afi bits : ℕ) → family_bits afi ≡ given bits → (type : ℕ) (k : List ℕ) → KeyOf bits type k → is_key bits type k ≡ true
unfolding is_key
key_fits_lem afi bits of_family type k of =
    sym (on-given _ _ _ _ _ (ap (key_field bits type) (sym (append-nil k)) ∙ (key-judges bits (family-octets afi bits of_family).0).complete type k [] of) (sym (eq-eqb (length k) (length k) refl)))

module _ (afi bits : ℕ) (of_family : family_bits afi ≡ given bits) (f : Fields) where
  fits-well : (body : List FieldKind) → WellFormedBody (KeyOf bits) bits f body → (widths_fit bits f body ≡ true) × (keys_fit bits f body ≡ true)
  unfolding widths_fit keys_fit width_fits key_fits
  fits-well [] w = (refl, refl)
  fits-well (k ∷ body) w =
      let later = fits-well body w.1 in
      let here = at k w.0 in
      (both_true _ _ here.0 later.0, both_true _ _ here.1 later.1)
    where
      at : (k : FieldKind) → WellFormedField (KeyOf bits) bits f k → (width_fits bits f k ≡ true) × (key_fits bits f k ≡ true)
      at distinguisher h = (refl, refl)
      at source_as h = (refl, refl)
      at source h = (h.0, refl)
      at group h = (h.0, refl)
      at originator h = (h.0, refl)
      at key h = (refl, key_fits_lem afi bits of_family f.type f.key h)
      at fec h = (refl, refl)

  -- the FEC of a well-formed body is taken, and a Length that fits is not long
  fec-well : WellFormedBody (KeyOf bits) bits f (body_of f.type) → fec_number bits f (body_of f.type) ≡ DONE
  unfolding fec_number
  fec-well w =
      tested (has_field fec (body_of f.type))
      (λ yes. let of = field-in-body (KeyOf bits) bits f fec (body_of f.type) w yes in pick_true _ _ _ yes ∙ fec-lent bits f.fec of)
      (λ no. pick-false _ _ _ no)

  long-well : LengthFits f → is_long f (body_of f.type) ≡ false
  unfolding is_long
  long-well fits = is_false _ (λ h. omega (arith, ltb-true 255 (length (encode_body f (body_of f.type))) (both-true-right _ _ h)))

  -- a body that is not long fits: one of types 1 to 7 is short
  pub fits-well-formed : KnownType f.type → WellFormedBody (KeyOf bits) bits f (body_of f.type) → is_long f (body_of f.type) ≡ false → LengthFits f
  unfolding is_long encode_nlri
  fits-well-formed typed w short =
      let octets = family-octets afi bits of_family in
      tested (leb f.type 7)
      (λ t.
      let low : f.type ≤ 7 = leb-true _ _ t in
      let sizes = (row_of f.type (known f.type typed)).sizes low in
      omega (arith, sizes.most, length_most (key_field bits) (KeyOf bits) (key-judges bits octets.0) bits octets.0 60 f (key-most bits octets.1 f.type low) octets.1 typed w sizes.bare))
      (λ n.
      let high : 7 < f.type = leb-false _ _ n in
      let most : 255 < length (encode_body f (body_of f.type)) → ⊥ = λ h. opposite (both_true _ _ (lt-ltb 7 f.type high) (lt-ltb 255 (length (encode_body f (body_of f.type))) h)) short in
      omega arith)

  -- of fields whose kinds the type has
  pub well-fits : HoldsOctets f → fec_number bits f (body_of f.type) ≡ DONE → (body : List FieldKind) → ((kind : FieldKind) → has_field kind body ≡ true → has_field kind (body_of f.type) ≡ true)
      → widths_fit bits f body ≡ true → keys_fit bits f body ≡ true → WellFormedBody (KeyOf bits) bits f body
  unfolding widths_fit keys_fit width_fits key_fits fec_number
  well-fits held fecs [] has w k = tt
  well-fits held fecs (kind ∷ body) has w k = (
    at kind (has kind (has_first kind body)) (both-true-left _ _ w) (both-true-left _ _ k),
    well-fits held fecs body (λ other h. has other (has-later other kind body h)) (both-true-right (width_fits bits f kind) _ w) (both-true-right (key_fits bits f kind) _ k),
  )
    where
      at : (k : FieldKind) → has_field k (body_of f.type) ≡ true → width_fits bits f k ≡ true → key_fits bits f k ≡ true → WellFormedField (KeyOf bits) bits f k
      at distinguisher has w h = (held.distinguisher_size has, held.distinguisher)
      at source_as has w h = held.source_as
      at source has w h = (w, held.source)
      at group has w h = (w, held.group)
      at originator has w h = (w, held.originator)
      at key has w h = key-judged afi bits of_family f.type f.key held.key h
      at fec has w h = lent-fec bits f.fec held.fec (sym (pick_true _ _ _ has) ∙ fecs)

  -- well-formed fields are written where there is space
  pub write-well : (space : ℕ) → WellFormed bits f → write_nlri afi f space ≡ pick (ltb space (length (encode_nlri f))) (refused SPACE) (given (encode_nlri f))
  unfolding verdict_of verdict
  write-well space w =
      let fits = fits-well (body_of f.type) w.encodable.body in
      write-is afi f space
      ∙ sym (and-goes-on _ _ _ _ of_family (sym (pick_true _ _ _ (known f.type w.encodable.typed) ∙ pick_true _ _ _ fits.0 ∙ pick_true _ _ _ (eq-eqb _ _ (fec-well w.encodable.body)) ∙ pick-false _ _ _ (long-well w.encodable.fits) ∙ pick_true _ _ _ fits.1 ∙ pick-false _ _ _ (passes afi bits of_family f w))))

  -- one that is discarded is not
  pub write-discarded : (space : ℕ) → Encodable bits f → Discarded bits f → write_nlri afi f space ≡ refused GROUP
  unfolding verdict_of verdict
  write-discarded space w d =
      let fits = fits-well (body_of f.type) w.body in
      write-is afi f space
      ∙ sym (and-goes-on _ _ _ _ of_family (sym (pick_true _ _ _ (known f.type w.typed) ∙ pick_true _ _ _ fits.0 ∙ pick_true _ _ _ (eq-eqb _ _ (fec-well w.body)) ∙ pick-false _ _ _ (long-well w.fits) ∙ pick_true _ _ _ fits.1 ∙ pick_true _ _ _ (tested-discarded bits f d))))

  -- fields that pass the writer's tests before GROUP are encodable
  pub well-passed : HoldsOctets f → KnownType f.type → widths_fit bits f (body_of f.type) ≡ true → fec_number bits f (body_of f.type) ≡ DONE → is_long f (body_of f.type) ≡ false → keys_fit bits f (body_of f.type) ≡ true
      → Encodable bits f
  well-passed held typed widths fecs short keys =
      let body = well-fits held fecs (body_of f.type) (λ kind h. h) widths keys in
      record { typed = typed; body = body; fits = fits-well-formed typed body short }

  -- what was written is the encoding, and the fields are well-formed
  pub written : HoldsOctets f → (space : ℕ) (e : List ℕ) → write_nlri afi f space ≡ given e → WellFormed bits f × (encode_nlri f ≡ e)
  unfolding verdict_of verdict
  written held space e w =
      let p = passed _ _ _ (sym (write-is afi f space) ∙ w) in
      let same : p.value ≡ bits = given-same (sym p.first ∙ of_family) in
      let q = given-unless _ _ _ _ p.second in
      let r = given-unless _ _ _ _ q.1 in
      let c = given-unless _ _ _ _ r.1 in
      let l = given-otherwise _ _ _ _ c.1 in
      let k = given-unless _ _ _ _ l.1 in
      let d = given-otherwise _ _ _ _ k.1 in
      let u = given-otherwise _ _ _ _ d.1 in
      let stays : is_discarded bits f ≡ false = ap (λ (n : ℕ). is_discarded n f) (sym same) ∙ d.0 in
      let widths : widths_fit bits f (body_of f.type) ≡ true = ap (λ (n : ℕ). widths_fit n f (body_of f.type)) (sym same) ∙ r.0 in
      let fecs : fec_number bits f (body_of f.type) ≡ DONE = ap (λ (n : ℕ). fec_number n f (body_of f.type)) (sym same) ∙ eqb-true _ _ c.0 in
      let keys : keys_fit bits f (body_of f.type) ≡ true = ap (λ (n : ℕ). keys_fit n f (body_of f.type)) (sym same) ∙ k.0 in
      (well-formed bits f (well-passed held (row_of f.type q.0).known widths fecs l.0 keys) stays, given-same u.1)
