-- Reading accepts exactly the encodings of well-formed fields (document 01, "NLRI on the wire").
use Rattle.std.proofs.Common.{◌≡◌, ℕ, suc, ◌+◌, ◌-◌, ◌*◌, ◌/◌, ◌^◌, ◌<◌, ◌≤◌, Bool, true, false, not, eqb, ltb, List, [], ◌++◌, length, drop, sym, refl, ap, ◌∙◌, subst, ⊎_elim, append-nil, arith, take-append-drop, take_all, ltb-true, eq-eqb, eqb-true}
use borrow.Author.Tests.{not-true}
use Rattle.octets.specs.Numbers.{GROUP}
use Rattle.octets.specs.Choice.{pick, both, either}
use Rattle.octets.specs.Outcome.{Outcome, given, refused, and_then}
use Rattle.octets.specs.Octets.{AllOctets, number_in, big_endian}
use Rattle.octets.proofs.Choice.{pick_true, pick-false, either_true}
use Rattle.octets.proofs.Outcome.{and-goes-on, passed, given-same, given-otherwise}
use Rattle.octets.proofs.Lists.{length_part}
use Rattle.octets.proofs.NetworkOrder.{number-of-big-endian}
use Rattle.nlri.specs.Family.{family_bits}
use Rattle.nlri.specs.Bodies.{FieldKind, distinguisher, source_as, source, group, originator, key, fec, KnownType, bodies, body_of, field_in, code_of, same_kind, has_field}
use Rattle.nlri.specs.Fields.{Fields, encode_address, encode_field, encode_body, encode_nlri, LengthFits, WellFormedBody, Encodable, Discarded, is_discarded, WellFormed, KeyOf, restricted}
use Rattle.nlri.specs.Reading.{Laid, key_field, laid_at, accepted, accepted_at, accepted_single, cut, fields_of, read_nlri}
use Rattle.nlri.specs.Rules.NlriRules.{ReadAs, Acceptance}
use Rattle.nlri.proofs.Definitions.FieldRecords.{fields-same}
use Rattle.nlri.proofs.Definitions.Table.{SizesOf, row_of, known, every, every-row, most_in, field-of-map, lacks}
use Rattle.nlri.proofs.Definitions.Judged.{fields_from}
use Rattle.nlri.proofs.Definitions.Lengths.{family-octets}
use Rattle.nlri.proofs.Definitions.Whole.{fields_laid_lem, discarded-encoded, pieces_of, sizes_in, laid_of, cut-body, laid_out_lem, fields_laid, single-laid-out, field-in-body, sizes-most, laid-encoded, laid-fits, laid-sound, laid-complete, octets-nlri, length_most}
use Rattle.nlri.proofs.Definitions.Keys.{key-judges, key-within, key-most, octets-key}
use Rattle.nlri.proofs.Definitions.Discards.{tested-discarded, passes, well-formed}

-- what is nothing where a test fails
pick-none : {A : Type 0} (b : Bool) (x none : A) → (b ≡ false → x ≡ none) → pick b x none ≡ x
unfolding pick
pick-none true x none h = refl
pick-none false x none h = sym (h refl)

-- fields from pieces along a body have nothing where the body lacks the kind
restricted-from : (type : ℕ) (body : List FieldKind) (pieces : List (List ℕ)) → body ≡ body_of type
    → restricted (fields_from type (λ kind. field_in [] kind body pieces)) ≡ fields_from type (λ kind. field_in [] kind body pieces)
unfolding restricted number_in
restricted-from type body pieces e =
    let none : (kind : FieldKind) → has_field kind (body_of type) ≡ false → field_in [] kind body pieces ≡ [] = λ kind h. lacks [] kind body pieces (ap (has_field kind) e ∙ h) in
    fields-same refl (pick-none _ _ _ (none distinguisher)) (pick-none _ _ _ (λ h. ap (λ (x : List ℕ). number_in x 0) (none source_as h))) (pick-none _ _ _ (λ h. ap (drop 1) (none source h)))
    (pick-none _ _ _ (λ h. ap (drop 1) (none group h))) (pick-none _ _ _ (none originator)) (pick-none _ _ _ (none key)) (pick-none _ _ _ (none fec))

-- a number in four octets, where the body has it
number-pick : (b : Bool) (x : ℕ) → (b ≡ true → x < 2 ^ 32) → number_in (pick b (big_endian 4 x) []) 0 ≡ pick b x 0
unfolding pick number_in
number-pick true x h = number-of-big-endian 4 x (h refl)
number-pick false x h = refl

drop-pick-address : (b : Bool) (x : List ℕ) → drop 1 (pick b (encode_address x) []) ≡ pick b x []
unfolding pick encode_address
drop-pick-address true x = refl
drop-pick-address false x = refl

-- the fields that the pieces of an encoding give
fields-encoded : (Key : ℕ → List ℕ → Type 0) (bits : ℕ) (f : Fields) → WellFormedBody Key bits f (body_of f.type)
    → fields_from f.type (λ kind. field_in [] kind (body_of f.type) (pieces_of f (body_of f.type))) ≡ restricted f
unfolding restricted encode_field
fields-encoded Key bits f w =
    let body : List FieldKind = body_of f.type in
    let at : (kind : FieldKind) → field_in [] kind body (pieces_of f body) ≡ pick (has_field kind body) (encode_field f kind) [] = λ kind. field-of-map [] (encode_field f) kind body in
    fields-same refl (at distinguisher) (ap (λ (x : List ℕ). number_in x 0) (at source_as) ∙ number-pick _ _ (field-in-body Key bits f source_as body w))
    (ap (drop 1) (at source) ∙ drop-pick-address _ _) (ap (drop 1) (at group) ∙ drop-pick-address _ _) (at originator) (at key) (at fec)

-- an NLRI laid out at the front of octets: fields that stand encoded there
pub record Front (bits : ℕ) (s : List ℕ) (laid : Laid) : Type 0 where
  pub fields : Fields
  pub encodable : Encodable bits fields
  pub same : fields ≡ fields_of laid s
  pub is : s ≡ encode_nlri fields ++ drop (2 + laid.size) s

module _ (afi bits : ℕ) (of_family : family_bits afi ≡ given bits) where
  whole : 8 * (bits / 8) ≡ bits
  whole = (family-octets afi bits of_family).0

  pub front-sound : (s : List ℕ) (laid : Laid) → AllOctets s → laid_at bits s ≡ given laid → Front bits s laid
  unfolding laid_at
  front-sound s laid a e =
      let o = laid_out_lem (key_field bits) bits s laid e in
      let r = laid-sound (key_field bits) (KeyOf bits) (key-judges bits whole) bits whole s laid a e in
      record {
        fields = fields_laid s laid;
        encodable = record { typed = o.row.known; body = r; fits = laid-fits (key_field bits) bits whole s laid a e };
        same = sym (fields_laid_lem (key_field bits) (λ type x n h. (key-within bits type x n h).1) bits s laid e);
        is = sym (take-append-drop (2 + laid.size) s) ∙ ap (λ (x : List ℕ). x ++ drop (2 + laid.size) s) (laid-encoded (key_field bits) bits whole s laid (λ _. a) e);
      }

  -- an NLRI accepted at the front: well-formed fields that stand encoded there
  pub front-accepted : (s : List ℕ) (laid : Laid) → AllOctets s → accepted_at bits s ≡ given laid → (f : Fields) × WellFormed bits f × (s ≡ encode_nlri f ++ drop (2 + laid.size) s)
  unfolding accepted_at accepted
  front-accepted s laid a e =
      let p = passed _ _ _ e in
      let k = given-otherwise _ _ _ _ p.second in
      let same : p.value ≡ laid = given-same k.1 in
      let r = front-sound s laid a (p.first ∙ ap given same) in
      (r.fields, well-formed bits r.fields r.encodable (ap (is_discarded bits) (r.same ∙ ap (λ (x : Laid). fields_of x s) (sym same)) ∙ k.0), r.is)

  -- what a single NLRI is read as encodes to it, octets or not where it has no source AS
  single-is-encoded : (s : List ℕ) (laid : Laid) → (has_field source_as (body_of laid.type) ≡ true → AllOctets s) → accepted_single bits s ≡ given laid → s ≡ encode_nlri (fields_of laid s)
  unfolding laid_at
  single-is-encoded s laid a e =
      let o = single-laid-out bits s laid e in
      sym (take_all (2 + laid.size) s (omega (arith, o.laid_out.enough, o.all))) ∙ laid-encoded (key_field bits) bits whole s laid a o.front ∙ ap encode_nlri o.fields

  single-sound : (s : List ℕ) (laid : Laid) → AllOctets s → accepted_single bits s ≡ given laid → ReadAs afi s (fields_of laid s)
  unfolding laid_at fields_of
  single-sound s laid a e =
      let single = single-laid-out bits s laid e in
      let o = single.laid_out in
      let r = laid-sound (key_field bits) (KeyOf bits) (key-judges bits whole) bits whole s laid a single.front in
      record {
        bits = bits;
        of_family = of_family;
        well_formed = well-formed bits (fields_of laid s)
            (record { typed = o.row.known; body = subst (λ (f : Fields). WellFormedBody (KeyOf bits) bits f (body_of laid.type)) single.fields r; fits = subst LengthFits single.fields (laid-fits (key_field bits) bits whole s laid a single.front) })
            single.passes;
        whole = restricted-from laid.type laid.body _ o.body;
        encoded = single-is-encoded s laid (λ _. a) e;
      }

  -- fields that stand encoded at the front are laid out, and accepted unless they are discarded
  pub laid-front : (f : Fields) (t : List ℕ) → Encodable bits f → laid_at bits (encode_nlri f ++ t) ≡ given (laid_of f)
  unfolding laid_at
  laid-front f t w = laid-complete (key_field bits) (KeyOf bits) (key-judges bits whole) bits whole f t w.typed w.body

  pub accepted-front : (f : Fields) (t : List ℕ) → WellFormed bits f → accepted_at bits (encode_nlri f ++ t) ≡ given (laid_of f)
  unfolding accepted_at accepted
  accepted-front f t w = sym (and-goes-on _ _ _ _ (laid-front f t w.encodable) (sym (pick-false _ _ _ (discarded-encoded bits f t ∙ passes afi bits of_family f w))))

  pub discarded-front : (f : Fields) (t : List ℕ) → Encodable bits f → Discarded bits f → accepted_at bits (encode_nlri f ++ t) ≡ refused GROUP
  unfolding accepted_at accepted
  discarded-front f t w d = sym (and-goes-on _ _ _ _ (laid-front f t w) (sym (pick_true _ _ _ (discarded-encoded bits f t ∙ tested-discarded bits f d))))

  -- the encoding of encodable fields as a single NLRI, before GROUP
  laid-alone : (f : Fields) → Encodable bits f → (o : Outcome Laid) → accepted bits (encode_nlri f) (laid_of f) ≡ o → accepted_single bits (encode_nlri f) ≡ o
  unfolding accepted_single encode_nlri
  laid-alone f w o e =
      let body : List FieldKind = body_of f.type in
      sym (and-goes-on _ _ _ _ (ap (laid_at bits) (sym (append-nil (encode_nlri f))) ∙ laid-front f [] w)
      (sym (pick_true _ _ _ (eq-eqb (suc (suc (length (encode_body f body))) - 2) (length (encode_body f body)) (omega arith)) ∙ e)))

  discarded-alone : (f : Fields) → is_discarded bits (fields_of (laid_of f) (encode_nlri f)) ≡ is_discarded bits f
  discarded-alone f = ap (λ (x : List ℕ). is_discarded bits (fields_of (laid_of f) x)) (sym (append-nil (encode_nlri f))) ∙ discarded-encoded bits f []

  pub discarded-single : (f : Fields) → Encodable bits f → Discarded bits f → accepted_single bits (encode_nlri f) ≡ refused GROUP
  unfolding accepted
  discarded-single f w d = laid-alone f w (refused GROUP) (pick_true _ _ _ (discarded-alone f ∙ tested-discarded bits f d))

  -- the encoding of well-formed fields lies as these say
  pub laid-single : (f : Fields) → WellFormed bits f → accepted_single bits (encode_nlri f) ≡ given (laid_of f)
  unfolding accepted
  laid-single f w = laid-alone f w.encodable (given (laid_of f)) (pick-false _ _ _ (discarded-alone f ∙ passes afi bits of_family f w))

  single-encoded : (f : Fields) → WellFormed bits f → and_then (accepted_single bits (encode_nlri f)) (λ laid. given (fields_of laid (encode_nlri f))) ≡ given (restricted f)
  unfolding fields_of encode_nlri
  single-encoded f w =
      let body : List FieldKind = body_of f.type in
      let cuts : cut (sizes_in f body) (encode_body f body) ≡ pieces_of f body = ap (cut (sizes_in f body)) (sym (append-nil (encode_body f body))) ∙ cut-body f body [] in
      sym (and-goes-on _ _ _ _ (laid-single f w) (ap given (sym (ap (λ (x : List (List ℕ)). fields_from f.type (λ kind. field_in [] kind body x)) cuts ∙ fields-encoded (KeyOf bits) bits f w.encodable.body))))

  octets-encoded : (f : Fields) → WellFormed bits f → AllOctets (encode_nlri f)
  octets-encoded f w =
      let small = (family-octets afi bits of_family).1 in
      octets-nlri (key_field bits) (KeyOf bits) (key-judges bits whole) bits whole (octets-key bits whole small) small f w.encodable.typed w.encodable.body w.encodable.fits

  length-encoded : (f : Fields) → WellFormed bits f → length (encode_nlri f) ≤ 257
  unfolding encode_nlri
  length-encoded f w = omega (arith, w.encodable.fits)

  -- of types 1 to 7
  sizes-encoded : (f : Fields) → WellFormed bits f → f.type ≤ 7 → SizesOf (body_of f.type)
  sizes-encoded f w low = (row_of f.type (known f.type w.encodable.typed)).sizes low

  most-encoded : (f : Fields) (w : WellFormed bits f) → f.type ≤ 7 → length (encode_nlri f) ≤ 2 + most_in 60 (body_of f.type)
  most-encoded f w low =
      let small = (family-octets afi bits of_family).1 in
      length_most (key_field bits) (KeyOf bits) (key-judges bits whole) bits whole 60 f (key-most bits small f.type low) small w.encodable.typed w.encodable.body (sizes-encoded f w low).bare

-- of types 1 to 7 only a Leaf has a key
keyless-rows : every (λ n body. either (ltb 7 n) (either (eqb n 4) (not (has_field key body)))) bodies ≡ true
unfolding every bodies both either has_field same_kind code_of
keyless-rows = refl

keyless : (type : ℕ) → KnownType type → type ≤ 7 → (type ≡ 4 → ⊥) → has_field key (body_of type) ≡ false
keyless type k low other =
    ⊎_elim (λ high. absurd (omega (arith, ltb-true 7 type high)))
    (λ rest. ⊎_elim (λ leaf. absurd (other (eqb-true _ _ leaf))) (λ none. not-true _ none) (either_true _ _ rest))
    (either_true _ _ (every-row _ keyless-rows type (known type k)))

-- what is read encodes to the octets
pub read-is-encoded : (afi : ℕ) (s : List ℕ) (f : Fields) → (has_field source_as (body_of f.type) ≡ true → AllOctets s) → read_nlri afi s ≡ given f → s ≡ encode_nlri f
unfolding read_nlri fields_of
read-is-encoded afi s f a e =
    let p = passed _ _ _ e in
    let q = passed _ _ _ p.second in
    let same : fields_of q.value s ≡ f = given-same q.second in
    let type : q.value.type ≡ f.type = ap (λ (x : Fields). x.type) same in
    single-is-encoded afi p.value p.first s q.value (λ h. a (ap (λ (n : ℕ). has_field source_as (body_of n)) (sym type) ∙ h)) q.first ∙ ap encode_nlri same

-- an NLRI of types 1 to 7 without a key has at most 60 octets
pub read_short : (afi : ℕ) (s : List ℕ) (f : Fields) → read_nlri afi s ≡ given f → f.type ≤ 7 → has_field key (body_of f.type) ≡ false → (2 ≤ length s) × (length s ≤ 60)
unfolding read_nlri fields_of
read_short afi s f e low unkeyed =
    let p = passed _ _ _ e in
    let q = passed _ _ _ p.second in
    let laid : Laid = q.value in
    let small = (family-octets afi p.value p.first).1 in
    let o = single-laid-out p.value s laid q.first in
    let type : laid.type ≡ f.type = ap (λ (x : Fields). x.type) (given-same q.second) in
    let l = length_part s 2 laid.size (omega (arith, o.laid_out.fits, o.laid_out.enough)) in
    let seven : laid.type ≤ 7 = omega arith in
    let sizes = o.laid_out.row.sizes seven in
    let most = sizes-most (key_field p.value) p.value 60 laid.type (key-most p.value small laid.type seven) small (body_of laid.type) sizes.bare _ _ o.laid_out.sizes in
    (o.laid_out.enough, omega (arith, o.all, sizes.plain (ap (λ (n : ℕ). has_field key (body_of n)) type ∙ unkeyed)))

pub read-sound : (afi : ℕ) (s : List ℕ) (f : Fields) → AllOctets s → read_nlri afi s ≡ given f → ReadAs afi s f
unfolding read_nlri
read-sound afi s f a e =
    let p = passed _ _ _ e in
    let q = passed _ _ _ p.second in
    subst (ReadAs afi s) (given-same q.second) (single-sound afi p.value p.first s q.value a q.first)

pub read-encoded : (afi bits : ℕ) (f : Fields) → family_bits afi ≡ given bits → WellFormed bits f → read_nlri afi (encode_nlri f) ≡ given (restricted f)
unfolding read_nlri
read-encoded afi bits f of_family w = sym (and-goes-on _ _ _ _ of_family (sym (single-encoded afi bits of_family f w)))

pub acceptance : Acceptance
acceptance =
    record {
      exactly = λ afi s f a. (read-sound afi s f a, λ r. ap (read_nlri afi) r.encoded ∙ read-encoded afi r.bits f r.of_family r.well_formed ∙ ap given r.whole);
      encoded = read-encoded;
      octets = λ afi bits f of_family w. octets-encoded afi bits of_family f w;
      longest = λ afi bits f of_family w. length-encoded afi bits of_family f w;
      most = λ afi bits f of_family w low. omega (arith, most-encoded afi bits of_family f w low, (sizes-encoded afi bits of_family f w low).most);
      plain = λ afi bits f of_family w low other. omega (arith, most-encoded afi bits of_family f w low, (sizes-encoded afi bits of_family f w low).plain (keyless f.type w.encodable.typed low other));
      same = λ afi bits f g of_family w v e. given-same (sym (read-encoded afi bits f of_family w) ∙ ap (read_nlri afi) e ∙ read-encoded afi bits g of_family v);
    }
