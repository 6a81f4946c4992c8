-- A body, and a whole NLRI, is read exactly where it stands encoded and well-formed, for every judge of keys.
use Rattle.std.proofs.Common.{◌≡◌, ℕ, suc, ◌+◌, ◌-◌, ◌*◌, ◌/◌, ◌≤◌, Bool, true, false, eqb, List, [], ◌∷◌, ◌++◌, map, length, get_or, take, drop, sym, refl, ap, ◌∙◌, subst, ap₂, append_assoc, arith, length-append, length-drop, take-append-drop, length-take-le, take_all, ltb-false, le-ltb, eqb-true}
use lib.Seq.{take-append-le, drop-append-le, take-append_seam, drop-append_seam}
use Rattle.octets.specs.Choice.{pick, both, either}
use Rattle.octets.specs.Outcome.{Outcome, given}
use Rattle.octets.specs.Octets.{AllOctets, none, one, part}
use Rattle.octets.proofs.Choice.{pick_true, pick-false, opposite, tested, both_left, both-true-left, both-true-right, either_left, either_second, either-false-right}
use Rattle.octets.proofs.Outcome.{and-goes-on, given-otherwise, given-unless, passed, given-same}
use Rattle.octets.proofs.AllOctets.{octet-at, octets-drop, octets-part, octets-append}
use Rattle.octets.proofs.Lists.{empty-list, take-two, length_part}
use Rattle.nlri.specs.Bodies.{FieldKind, distinguisher, source_as, source, group, originator, key, fec, KnownType, bodies, on_body, body_of, code_of, field_in, same_kind, has_field}
use Rattle.nlri.specs.Groups.{is_ssm}
use Rattle.nlri.specs.Fields.{Fields, encode_address, is_discarded, encode_field, encode_body, encode_nlri, LengthFits, WellFormedField, WellFormedBody}
use Rattle.nlri.specs.Reading.{Laid, field_size, sizes_of, laid_with, key_field, laid_at, accepted, accepted_single, cut, fields_of}
use Rattle.nlri.proofs.Definitions.Table.{field-of-map, listed, on-body, known, known-octet, RowOf, row_of, closes, closed, most, most_in, same_kind_lem, has_first, apart, Along, along-fields}
use Rattle.nlri.proofs.Definitions.Starts.{sizes-first, length-sizes}
use Rattle.nlri.proofs.Definitions.Judged.{Judges, Closes, fields_from, field-within, field-most, field-encoded, field-sound, field-complete, octets-field}

-- a field of a well-formed body
pub field-in-body : (Key : ℕ → List ℕ → Type 0) (bits : ℕ) (f : Fields) (kind : FieldKind) (body : List FieldKind) → WellFormedBody Key bits f body → has_field kind body ≡ true → WellFormedField Key bits f kind
unfolding has_field either
field-in-body Key bits f kind [] w h = absurd (opposite h refl)
field-in-body Key bits f kind (k ∷ body) w h = go (same_kind kind k) refl h (λ later. field-in-body Key bits f kind body w.1 later)
  where
    go : (b : Bool) → same_kind kind k ≡ b → either b (has_field kind body) ≡ true → (has_field kind body ≡ true → WellFormedField Key bits f kind) → WellFormedField Key bits f kind
    go true same h later = subst (WellFormedField Key bits f) (sym (same_kind_lem kind k same)) w.0
    go false other h later = later h

-- the encodings of the fields of a body, and their sizes
abbrev pub pieces_of : Fields → List FieldKind → List (List ℕ)
pieces_of f body = map (encode_field f) body

abbrev pub sizes_in : Fields → List FieldKind → List ℕ
sizes_in f body = map (λ k. length (encode_field f k)) body

-- where the fields of an encoding lie
abbrev pub laid_of : Fields → Laid
laid_of f = record { type = f.type; size = length (encode_body f (body_of f.type)); body = body_of f.type; sizes = sizes_in f (body_of f.type) }

pub cut-body : (f : Fields) (body : List FieldKind) (t : List ℕ) → cut (sizes_in f body) (encode_body f body ++ t) ≡ pieces_of f body
unfolding cut encode_body
cut-body f [] t = refl
cut-body f (k ∷ body) t =
    rw (append_assoc (encode_field f k) (encode_body f body) t, take-append_seam (encode_field f k) (encode_body f body ++ t), drop-append_seam (encode_field f k) (encode_body f body ++ t), cut-body f body t)

length_cut : (sizes s : List ℕ) → length (cut sizes s) ≡ length sizes
unfolding cut
length_cut [] s = refl
length_cut (n ∷ sizes) s = ap suc (length_cut sizes (drop n s))

closes-body : (f : Fields) (k : FieldKind) (body : List FieldKind) → closes k body ≡ true → Closes k (encode_body f body)
unfolding closes encode_body
closes-body f distinguisher body h = tt
closes-body f source_as body h = tt
closes-body f source body h = tt
closes-body f group body h = tt
closes-body f originator [] h = refl
closes-body f originator (k ∷ body) h = absurd (opposite h refl)
closes-body f key body h = tt
closes-body f fec body h = tt

-- what was laid out
pub record LaidOut (judge : ℕ → List ℕ → Outcome ℕ) (bits : ℕ) (s : List ℕ) (laid : Laid) : Type 0 where
  pub row : RowOf laid.type
  pub body : laid.body ≡ body_of laid.type
  pub enough : 2 ≤ length s
  pub typed : laid.type ≡ get_or s 0 0
  pub sized : laid.size ≡ get_or s 1 0
  pub fits : laid.size ≤ length s - 2
  pub sizes : sizes_of (field_size judge bits laid.type) (body_of laid.type) (part s 2 laid.size) ≡ given laid.sizes

pub laid_out_lem : (judge : ℕ → List ℕ → Outcome ℕ) (bits : ℕ) (s : List ℕ) (laid : Laid) → laid_with judge bits s ≡ given laid → LaidOut judge bits s laid
unfolding laid_with
laid_out_lem judge bits s laid e =
    let p = given-otherwise _ _ _ _ e in
    let q = given-otherwise _ _ _ _ p.1 in
    let r = given-unless _ _ _ _ (sym (on-body _ _ _) ∙ q.1) in
    let w = passed _ _ _ r.1 in
    subst (LaidOut judge bits s) (given-same w.second)
    (record {
      row = row_of _ r.0;
      body = refl;
      enough = omega (arith, ltb-false);
      typed = refl;
      sized = refl;
      fits = omega (arith, ltb-false);
      sizes = w.first;
    })

-- the fields of what was laid out
abbrev pub fields_laid : List ℕ → Laid → Fields
fields_laid s laid = fields_from laid.type (λ kind. field_in [] kind laid.body (cut laid.sizes (part s 2 laid.size)))

-- no octet behind what the sizes say is looked at
cut-front : (size : FieldKind → List ℕ → Outcome ℕ) → ((k : FieldKind) (x : List ℕ) (n : ℕ) → size k x ≡ given n → n ≤ length x)
    → (body : List FieldKind) (x t sizes : List ℕ) → sizes_of size body x ≡ given sizes → cut sizes (x ++ t) ≡ cut sizes x
unfolding cut sizes_of
cut-front size within [] x t sizes e = let none : sizes ≡ [] = sym (given-same (given-unless _ _ _ _ e).1) in rw none refl
cut-front size within (k ∷ body) x t sizes e =
    sizes-first (λ (z : List ℕ). cut z (x ++ t) ≡ cut z x) size k body x sizes e
    (λ n rest here left.
    let most : n ≤ length x = within k x n here in
    ap₂ (λ (a : List ℕ) (b : List (List ℕ)). a ∷ b) (take-append-le n x t most) (ap (cut rest) (drop-append-le n x t most) ∙ cut-front size within body (drop n x) t rest left))

pub fields_laid_lem : (judge : ℕ → List ℕ → Outcome ℕ) → ((type : ℕ) (s : List ℕ) (n : ℕ) → judge type s ≡ given n → n ≤ length s) → (bits : ℕ) (s : List ℕ) (laid : Laid) → laid_with judge bits s ≡ given laid
    → fields_of laid s ≡ fields_laid s laid
unfolding fields_of part
fields_laid_lem judge within bits s laid e =
    let o = laid_out_lem judge bits s laid e in
    ap (λ (x : List (List ℕ)). fields_from laid.type (λ kind. field_in [] kind laid.body x))
    (ap (cut laid.sizes) (sym (take-append-drop laid.size (drop 2 s)))
    ∙ cut-front (field_size judge bits laid.type) (field-within judge bits within laid.type) (body_of laid.type) (part s 2 laid.size) (drop laid.size (drop 2 s)) laid.sizes o.sizes)

pub part-whole : (s : List ℕ) (n : ℕ) → length s - 2 ≡ n → part s 2 n ≡ drop 2 s
unfolding part
part-whole s n e = take_all n (drop 2 s) (rw length-drop (omega arith))

-- a single NLRI: the one at the front, which is all of the octets
pub record SingleLaid (bits : ℕ) (s : List ℕ) (laid : Laid) : Type 0 where
  pub front : laid_at bits s ≡ given laid
  pub laid_out : LaidOut (key_field bits) bits s laid
  pub all : length s - 2 ≡ laid.size
  pub passes : is_discarded bits (fields_of laid s) ≡ false
  pub fields : fields_laid s laid ≡ fields_of laid s

pub single-laid-out : (bits : ℕ) (s : List ℕ) (laid : Laid) → accepted_single bits s ≡ given laid → SingleLaid bits s laid
unfolding accepted_single laid_at fields_of accepted
single-laid-out bits s laid e =
    let p = passed _ _ _ e in
    let q = given-unless _ _ _ _ p.second in
    let k = given-otherwise _ _ _ _ q.1 in
    let same : p.value ≡ laid = given-same k.1 in
    let first : laid_at bits s ≡ given laid = p.first ∙ ap given same in
    let size : length s - 2 ≡ laid.size = eqb-true _ _ q.0 ∙ ap (λ (x : Laid). x.size) same in
    record {
      front = first;
      laid_out = laid_out_lem (key_field bits) bits s laid first;
      all = size;
      passes = ap (λ (x : Laid). is_discarded bits (fields_of x s)) (sym same) ∙ k.0;
      fields = ap (λ (x : List ℕ). fields_from laid.type (λ kind. field_in [] kind laid.body (cut laid.sizes x))) (part-whole s laid.size size);
    }

module _ (judge : ℕ → List ℕ → Outcome ℕ) (bits : ℕ) where
  -- a body has at most so many octets
  pub sizes-most : (w type : ℕ) → ((s : List ℕ) (n : ℕ) → judge type s ≡ given n → n ≤ w) → bits ≤ 128 → (body : List FieldKind) → has_field fec body ≡ false → (s sizes : List ℕ)
      → sizes_of (field_size judge bits type) body s ≡ given sizes → length s ≤ most_in w body
  unfolding sizes_of most_in has_field
  sizes-most w type bound small [] bare s sizes e = let h : length s ≡ 0 = eqb-true _ _ (given-unless _ _ _ _ e).0 in omega arith
  sizes-most w type bound small (k ∷ body) bare s sizes e =
      sizes-first (λ _. length s ≤ most w k + most_in w body) _ k body s sizes e
      (λ n rest here left. let l = length-drop n s in omega (arith, field-most judge bits w type bound small k (apart k fec (k ∷ body) (has_first k body) bare) s n here, sizes-most w type bound small body (either-false-right _ _ bare) (drop n s) rest left))

  -- a body read is its encoding
  body-encoded : 8 * (bits / 8) ≡ bits → (type : ℕ) (body : List FieldKind) (s sizes : List ℕ) (field : FieldKind → List ℕ) → (has_field source_as body ≡ true → AllOctets s)
      → sizes_of (field_size judge bits type) body s ≡ given sizes → Along field body (cut sizes s) → encode_body (fields_from type field) body ≡ s
  unfolding sizes_of encode_body cut has_field
  body-encoded whole type [] s sizes field a e al = sym (empty-list s (eqb-true _ _ (given-unless _ _ _ _ e).0))
  body-encoded whole type (k ∷ body) s sizes field a e al =
      sizes-first (λ (z : List ℕ). Along field (k ∷ body) (cut z s) → encode_body (fields_from type field) (k ∷ body) ≡ s) _ k body s sizes e
      (λ n rest here left al.
      ap₂ (λ (x y : List ℕ). x ++ y) (field-encoded judge bits whole type k s n field (λ h. a (either_left _ _ h)) here al.0)
      (body-encoded whole type body (drop n s) rest field (λ h. octets-drop n (a (either_second _ _ h))) left al.1)
      ∙ take-append-drop n s) al

  along-laid : (s : List ℕ) (laid : Laid) → LaidOut judge bits s laid
      → Along (λ kind. field_in [] kind laid.body (cut laid.sizes (part s 2 laid.size))) (body_of laid.type) (cut laid.sizes (part s 2 laid.size))
  along-laid s laid o =
      rw o.body (along-fields [] (body_of laid.type) (cut laid.sizes (part s 2 laid.size)) o.row.distinct (length_cut _ _ ∙ length-sizes _ (body_of laid.type) _ _ o.sizes))

  -- an NLRI read is the encoding of its fields, octets or not where it has no source AS
  pub laid-encoded : 8 * (bits / 8) ≡ bits → (s : List ℕ) (laid : Laid) → (has_field source_as (body_of laid.type) ≡ true → AllOctets s) → laid_with judge bits s ≡ given laid
      → take (2 + laid.size) s ≡ encode_nlri (fields_laid s laid)
  unfolding encode_nlri
  laid-encoded whole s laid a e =
      let o = laid_out_lem judge bits s laid e in
      let b = body-encoded whole laid.type (body_of laid.type) (part s 2 laid.size) laid.sizes _ (λ h. octets-part 2 laid.size (a h)) o.sizes (along-laid s laid o) in
      let len : laid.size ≡ length (encode_body (fields_laid s laid) (body_of laid.type)) = sym (ap length b ∙ length_part s 2 laid.size (omega (arith, o.fits, o.enough))) in
      take-two s laid.size o.enough ∙ ap₂ (λ (x : ℕ) (y : List ℕ). x ∷ y) (sym o.typed) (ap₂ (λ (x : ℕ) (y : List ℕ). x ∷ y) (sym o.sized ∙ len) (sym b))

-- what was laid out in octets has a Length that fits one
pub laid-fits : (judge : ℕ → List ℕ → Outcome ℕ) (bits : ℕ) → 8 * (bits / 8) ≡ bits → (s : List ℕ) (laid : Laid) → AllOctets s → laid_with judge bits s ≡ given laid → LengthFits (fields_laid s laid)
unfolding encode_nlri
laid-fits judge bits whole s laid a e =
    let o = laid_out_lem judge bits s laid e in
    let l = ap length (laid-encoded judge bits whole s laid (λ _. a) e) in
    let n = length-take-le (2 + laid.size) s (omega (arith, o.fits, o.enough)) in
    omega (arith, o.sized, octet-at a 1)

module _ (judge : ℕ → List ℕ → Outcome ℕ) (Key : ℕ → List ℕ → Type 0) (judges : Judges judge Key) (bits : ℕ) (whole : 8 * (bits / 8) ≡ bits) where
  -- a body read is well-formed
  body-sound : (type : ℕ) (body : List FieldKind) (s sizes : List ℕ) (field : FieldKind → List ℕ) → AllOctets s → sizes_of (field_size judge bits type) body s ≡ given sizes → Along field body (cut sizes s)
      → WellFormedBody Key bits (fields_from type field) body
  unfolding cut
  body-sound type [] s sizes field a e al = tt
  body-sound type (k ∷ body) s sizes field a e al =
      sizes-first (λ (z : List ℕ). Along field (k ∷ body) (cut z s) → WellFormedBody Key bits (fields_from type field) (k ∷ body)) _ k body s sizes e
      (λ n rest here left al. (field-sound judge Key judges bits whole type k s n field a here al.0, body-sound type body (drop n s) rest field (octets-drop n a) left al.1)) al

  -- a well-formed body that stands encoded is read
  body-complete : (f : Fields) (body : List FieldKind) → closed body ≡ true → WellFormedBody Key bits f body → sizes_of (field_size judge bits f.type) body (encode_body f body) ≡ given (sizes_in f body)
  unfolding sizes_of encode_body closed
  body-complete f [] c w = pick_true _ _ _ refl
  body-complete f (k ∷ body) c w =
      sym (and-goes-on _ _ _ _ (field-complete judge Key judges bits whole f k (encode_body f body) w.0 (closes-body f k body (both-true-left _ _ c)))
      (and-goes-on _ _ _ _ (ap (sizes_of (field_size judge bits f.type) body) (drop-append_seam (encode_field f k) (encode_body f body)) ∙ body-complete f body (both-true-right (closes k body) _ c) w.1) refl))

  octets-body : ((type : ℕ) (k : List ℕ) → Key type k → AllOctets k) → bits ≤ 128 → (f : Fields) (body : List FieldKind) → WellFormedBody Key bits f body → AllOctets (encode_body f body)
  unfolding encode_body
  octets-body of_key small f [] h = none
  octets-body of_key small f (k ∷ body) h = octets-append (octets-field judge Key judges bits whole of_key small f k h.0) (octets-body of_key small f body h.1)

  -- an NLRI read is well-formed
  pub laid-sound : (s : List ℕ) (laid : Laid) → AllOctets s → laid_with judge bits s ≡ given laid → WellFormedBody Key bits (fields_laid s laid) (body_of laid.type)
  laid-sound s laid a e =
      let o = laid_out_lem judge bits s laid e in
      body-sound laid.type (body_of laid.type) (part s 2 laid.size) laid.sizes _ (octets-part 2 laid.size a) o.sizes (along-laid judge bits s laid o)

  -- a well-formed NLRI that stands encoded is read
  pub laid-complete : (f : Fields) (t : List ℕ) → KnownType f.type → WellFormedBody Key bits f (body_of f.type)
      → laid_with judge bits (encode_nlri f ++ t) ≡ given (laid_of f)
  unfolding laid_with encode_nlri part
  laid-complete f t range w =
      let l : listed bodies f.type ≡ true = known f.type range in
      let body : List FieldKind = body_of f.type in
      pick-false _ _ _ (le-ltb (suc (suc (length (encode_body f body ++ t)))) 2 (omega arith))
      ∙ pick-false _ _ _ (le-ltb (suc (suc (length (encode_body f body ++ t))) - 2) (length (encode_body f body)) (simp length-append (omega arith)))
      ∙ on-body f.type _ _
      ∙ pick_true _ _ _ l
      ∙ sym (and-goes-on _ _ _ _ (ap (sizes_of (field_size judge bits f.type) body) (take-append_seam (encode_body f body) t) ∙ body-complete f body (row_of f.type l).closed w) refl)

  -- a well-formed NLRI in octets
  pub octets-nlri : ((type : ℕ) (k : List ℕ) → Key type k → AllOctets k) → bits ≤ 128 → (f : Fields) → KnownType f.type → WellFormedBody Key bits f (body_of f.type) → LengthFits f → AllOctets (encode_nlri f)
  unfolding encode_nlri
  octets-nlri of_key small f range h fits = one (known-octet f.type range) (one fits (octets-body of_key small f (body_of f.type) h))

  -- its octets, where it has no FEC
  pub length_most : (w : ℕ) (f : Fields) → ((s : List ℕ) (n : ℕ) → judge f.type s ≡ given n → n ≤ w) → bits ≤ 128 → KnownType f.type → WellFormedBody Key bits f (body_of f.type) → has_field fec (body_of f.type) ≡ false
      → length (encode_nlri f) ≤ 2 + most_in w (body_of f.type)
  unfolding encode_nlri
  length_most w f bound small range h bare =
      let len = sizes-most judge bits w f.type bound small (body_of f.type) bare _ _ (body-complete f (body_of f.type) (row_of f.type (known f.type range)).closed h) in
      omega arith

drop-pick-group : (b : Bool) (x : List ℕ) → b ≡ true → drop 1 (pick b (encode_address x) []) ≡ x
unfolding pick encode_address
drop-pick-group true x h = refl
drop-pick-group false x h = absurd (opposite h refl)

-- the group of fields that stand encoded, and whether they are discarded
group-encoded : (f : Fields) (t : List ℕ) → f.type ≡ 5 → (fields_of (laid_of f) (encode_nlri f ++ t)).group ≡ f.group
unfolding fields_of encode_nlri encode_field body_of on_body bodies has_field same_kind code_of either pick
group-encoded f t five =
    let body : List FieldKind = body_of f.type in
    ap (λ (x : List (List ℕ)). drop 1 (field_in [] group body x)) (cut-body f body t)
    ∙ ap (drop 1) (field-of-map [] (encode_field f) group body)
    ∙ drop-pick-group (has_field group body) f.group (ap (λ (n : ℕ). has_field group (body_of n)) five)

pub discarded-encoded : (bits : ℕ) (f : Fields) (t : List ℕ) → is_discarded bits (fields_of (laid_of f) (encode_nlri f ++ t)) ≡ is_discarded bits f
unfolding is_discarded fields_of
discarded-encoded bits f t =
    tested (eqb f.type 5) (λ y. ap (λ (g : List ℕ). both (eqb f.type 5) (is_ssm bits g)) (group-encoded f t (eqb-true _ _ y)))
    (λ n. both_left _ _ n ∙ sym (both_left _ _ n))
