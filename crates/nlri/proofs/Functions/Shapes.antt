-- Where the fields of an accepted NLRI stand, for every route type at once: each behind those before it in the order of kinds.
use Rattle.std.proofs.Common.{◌≡◌, ℕ, zero, suc, ◌+◌, ◌-◌, ◌/◌, ◌<◌, ◌≤◌, Bool, true, false, eqb, ◌⊎◌, List, [], ◌∷◌, length, get_or, take, drop, sym, refl, ap, ◌∙◌, ap₂, inl, inr, ⊎_elim, add-zero, arith, length-drop, get_or-drop, get_or-take, take-take, drop-drop, eqb-true}
use lib.Seq.{take-nil}
use Rattle.octets.specs.Choice.{pick, either, both}
use Rattle.octets.specs.Outcome.{given}
use Rattle.octets.specs.Octets.{part, number_in}
use Rattle.octets.proofs.Choice.{pick_true, pick-false, tested, opposite, is_false, both_left, either_true}
use Rattle.octets.proofs.Lists.{length_part, drop-taken}
use Rattle.fec_elements.specs.Reading.{opaque_start, fec_size}
use Rattle.fec_elements.proofs.Nesting.{size-read}
use Rattle.nlri.specs.Bodies.{FieldKind, distinguisher, source_as, source, group, originator, key, fec, bodies, on_body, body_of, field_in, same_kind, code_of, has_field}
use Rattle.nlri.specs.Fields.{is_discarded}
use Rattle.nlri.specs.Reading.{Laid, address_field, fixed_field, field_size, laid_at, accepted_single, key_field, cut, fields_of}
use Rattle.nlri.specs.Groups.{is_ssm}
use Rattle.nlri.specs.Layouts.{layout_of}
use Rattle.nlri.specs.Inner.{with_key, with_fec, with_source_as, source_start, size_at, is_discarded_at, fec_start, from_fec, distinguisher_at, source_as_at, fields_at, LayoutWithin}
use Rattle.nlri.proofs.Definitions.FieldRecords.{fields-same}
use Rattle.nlri.proofs.Definitions.Sizes.{fixed-is, address_is, originator-given}
use Rattle.nlri.proofs.Definitions.Lengths.{originator-sized}
use Rattle.nlri.proofs.Definitions.Table.{order, every, every-row, known, known-octet, agree, agree_same, lacks}
use Rattle.nlri.proofs.Definitions.Judged.{field-within, address-most}
use Rattle.nlri.proofs.Definitions.Starts.{before, sum_of, StandsAt, size_in, start_in, starts, body-stands, body-piece, body-all}
use Rattle.nlri.proofs.Definitions.Whole.{LaidOut, laid_out_lem, fields_laid, fields_laid_lem, part-whole, single-laid-out}
use Rattle.nlri.proofs.Definitions.Keys.{key-within}

-- parts of an NLRI
drop-take : (a : ℕ) (x : List ℕ) → drop 1 (take a x) ≡ take (a - 1) (drop 1 x)
drop-take zero x = refl
drop-take (suc m) [] = sym (take-nil (suc m - 1))
drop-take (suc m) (y ∷ ys) = ap (λ (k : ℕ). take k ys) (sym (sub m))
  where
    sub : (n : ℕ) → suc n - 1 ≡ n
    sub n = omega arith

part-drop : (s : List ℕ) (k start size : ℕ) → part (drop k s) start size ≡ part s (k + start) size
unfolding part
part-drop s k start size = ap (take size) (drop-drop start k s)

address-part : (s : List ℕ) (start size : ℕ) → drop 1 (part s start size) ≡ part s (start + 1) (size - 1)
unfolding part
address-part s start size = drop-take size (drop start s) ∙ ap (take (size - 1)) (drop-drop 1 start s)

drop-part : (s : List ℕ) (start size k : ℕ) → k ≤ size → drop k (part s start size) ≡ part s (start + k) (size - k)
unfolding part
drop-part s start size k h = drop-taken k size (drop start s) h ∙ ap (take (size - k)) (drop-drop k start s)

pub part-part : (s : List ℕ) (start size k m : ℕ) → k + m ≤ size → part (part s start size) k m ≡ part s (start + k) m
unfolding part
part-part s start size k m h = ap (take m) (drop-part s start size k (omega arith)) ∙ take-take m (size - k) (drop (start + k) s) (omega arith)

-- an octet of a body
pub body-octet : (s : List ℕ) (n i : ℕ) → i < n → get_or (part s 2 n) i 0 ≡ get_or s (2 + i) 0
unfolding part
body-octet s n i h = get_or-take n (drop 2 s) i 0 h ∙ get_or-drop 2 s i 0

-- an address in a body, behind its length octet
inner-address : (s : List ℕ) (size start m : ℕ) → start + (1 + m) ≤ size → drop 1 (part (part s 2 size) start (1 + m)) ≡ part s (3 + start) m
unfolding part
inner-address s size start m h =
    let one : 1 + m - 1 ≡ m = omega arith in
    let at : 2 + (start + 1) ≡ 3 + start = omega arith in
    drop-take (1 + m) (drop start (part s 2 size)) ∙ ap (λ (k : ℕ). take k (drop 1 (drop start (part s 2 size)))) one
    ∙ ap (take m) (drop-drop 1 start (part s 2 size) ∙ drop-part s 2 size (start + 1) (omega arith))
    ∙ take-take m (size - (start + 1)) (drop (2 + (start + 1)) s) (omega arith) ∙ ap (λ (k : ℕ). take m (drop k s)) at

-- a type has no key where it has a FEC
pub unkeyed-fec : (type : ℕ) → with_fec type ≡ true → with_key type ≡ false
unfolding with_fec with_key either
unkeyed-fec type h =
    ⊎_elim (λ e. ap with_key (eqb-true type 67 e)) (λ e. ap with_key (eqb-true type 71 e)) (either_true _ _ h)

module _ (bits : ℕ) (s : List ℕ) (laid : Laid) (e : laid_at bits s ≡ given laid) where
  pub laid_out : LaidOut (key_field bits) bits s laid
  unfolding laid_at
  laid_out = laid_out_lem (key_field bits) bits s laid e

  abbrev z : FieldKind → ℕ
  z k = size_in laid.body laid.sizes k

  -- what a test of every row says of the type and its body
  row_is : (test : ℕ → List FieldKind → Bool) → every test bodies ≡ true → test laid.type laid.body ≡ true
  row_is test e = rw laid_out.body (every-row test e laid.type (known laid.type laid_out.row.known))

  -- the tests of a type by which the functions go say which kinds its body has
  pub has-is : (k : FieldKind) (test : ℕ → Bool) → every (λ n body. agree (has_field k body) (test n)) bodies ≡ true → has_field k laid.body ≡ test laid.type
  has-is k test e = agree_same _ _ (row_is _ e)

  pub has_key : has_field key laid.body ≡ with_key laid.type
  unfolding every bodies both agree pick has_field either same_kind code_of with_key
  has_key = has-is key with_key refl

  pub has-fec : has_field fec laid.body ≡ with_fec laid.type
  unfolding every bodies both agree pick has_field either same_kind code_of with_fec
  has-fec = has-is fec with_fec refl

  pub has-source-as : has_field source_as laid.body ≡ with_source_as laid.type
  unfolding every bodies both agree pick has_field either same_kind code_of with_source_as
  has-source-as = has-is source_as with_source_as refl

  pub lacked : (k : FieldKind) → has_field k laid.body ≡ false → z k ≡ 0
  lacked k h = lacks 0 k laid.body laid.sizes h

  length-body : length (part s 2 laid.size) ≡ laid.size
  length-body = length_part s 2 laid.size (omega (arith, laid_out.fits, laid_out.enough))

  -- the field of a kind is read at its start
  pub kind-stands : (k : FieldKind) → has_field k laid.body ≡ true
      → StandsAt (field_size (key_field bits) bits laid.type) (size_in laid.body laid.sizes) k laid.body (start_in laid.body laid.sizes k) (part s 2 laid.size) laid.sizes
  kind-stands k h = body-stands _ laid.body (part s 2 laid.size) laid.sizes (rw laid_out.body laid_out.row.distinct) (rw laid_out.body laid_out.row.ordered) (rw laid_out.body laid_out.sizes) k h

  pub kind-piece : (k : FieldKind) → field_in [] k laid.body (cut laid.sizes (part s 2 laid.size)) ≡ part (part s 2 laid.size) (start_in laid.body laid.sizes k) (z k)
  kind-piece k = body-piece (field_size (key_field bits) bits laid.type) laid.body (part s 2 laid.size) laid.sizes (rw laid_out.body laid_out.row.distinct) (rw laid_out.body laid_out.row.ordered) (rw laid_out.body laid_out.sizes) k

  -- the fields take all of the body
  pub total : z key + (z distinguisher + (z source_as + (z fec + (z source + (z group + z originator))))) ≡ laid.size
  unfolding sum_of order
  total =
      let all = body-all _ laid.body (part s 2 laid.size) laid.sizes (rw laid_out.body laid_out.row.distinct) (rw laid_out.body laid_out.row.ordered) (rw laid_out.body laid_out.sizes)
      (field-within (key_field bits) bits (λ t y n q. (key-within bits t y n q).1) laid.type) in
      omega (arith, length-body)

  octet : (i : ℕ) → i < laid.size → get_or (drop i (part s 2 laid.size)) 0 0 ≡ get_or s (2 + i) 0
  unfolding part
  octet i h = get_or-drop i (take laid.size (drop 2 s)) 0 0 ∙ ap (λ (k : ℕ). get_or (take laid.size (drop 2 s)) k 0) (add-zero i) ∙ get_or-take laid.size (drop 2 s) i 0 h ∙ get_or-drop 2 s i 0

  -- a kind of field of a fixed size, and an address
  fixed : (k : FieldKind) (n : ℕ) → ((y : List ℕ) → field_size (key_field bits) bits laid.type k y ≡ fixed_field n y) → has_field k laid.body ≡ true → z k ≡ n
  fixed k n is h = sym (fixed-is n (z k) _ (sym (is _) ∙ (kind-stands k h).read)).0

  address : (k : FieldKind) (start : ℕ) → ((y : List ℕ) → field_size (key_field bits) bits laid.type k y ≡ address_field bits laid.type y) → start_in laid.body laid.sizes k ≡ start
      → has_field k laid.body ≡ true → z k ≡ 1 + get_or s (2 + start) 0 / 8
  address k start is at h =
      let r : address_field bits laid.type (drop start (part s 2 laid.size)) ≡ given (z k) = rw (sym at) (sym (is _) ∙ (kind-stands k h).read) in
      let p = address_is bits laid.type _ (z k) r in
      let l = length-drop start (part s 2 laid.size) in
      let first : get_or (drop start (part s 2 laid.size)) 0 0 ≡ get_or s (2 + start) 0 = octet start (omega (arith, p.0, p.1, length-body)) in
      p.0 ∙ ap (λ (n : ℕ). 1 + n / 8) first

  -- the octets that an address takes, and an originator
  pub address-short : bits ≤ 128 → (k : FieldKind) → ((y : List ℕ) → field_size (key_field bits) bits laid.type k y ≡ address_field bits laid.type y) → z k ≤ 17
  address-short small k is =
      tested (has_field k laid.body) (λ yes. address-most laid.type _ (z k) small (sym (is _) ∙ (kind-stands k yes).read)) (λ no. omega (arith, lacked k no))

  originator-range : has_field originator laid.body ≡ true → (4 ≤ z originator) × (z originator ≤ 16)
  unfolding field_size
  originator-range h = let p = originator-given _ _ (kind-stands originator h).read in omega (arith, p.1, originator-sized _ p.0)

  pub originator-least : has_field originator laid.body ≡ true → 4 ≤ z originator
  originator-least h = (originator-range h).0

  pub originator-short : z originator ≤ 16
  originator-short = tested (has_field originator laid.body) (λ yes. (originator-range yes).1) (λ no. omega (arith, lacked originator no))

  -- an NLRI with a key: behind it an originator
  pub record LeafSizes : Type 0 where
    pub rest : (z distinguisher ≡ 0) × (z source_as ≡ 0) × (z source ≡ 0) × (z group ≡ 0) × (z fec ≡ 0)
    pub keyed : (z key ≡ 2 + get_or s 3 0) × (2 ≤ z key)

  pub leaf-sizes : with_key laid.type ≡ true → LeafSizes
  unfolding field_size sum_of before order same_kind code_of pick has_field either
  leaf-sizes t =
      let k = key-within bits _ _ (z key) (kind-stands key (has_key ∙ t)).read in
      let body : laid.body ≡ key ∷ originator ∷ [] = laid_out.body ∙ laid_out.row.keyed (ap (has_field key) (sym laid_out.body) ∙ has_key ∙ t) in
      let none : (k : FieldKind) → has_field k (key ∷ originator ∷ []) ≡ false → z k ≡ 0 = λ k h. lacked k (ap (has_field k) body ∙ h) in
      let second : get_or (part s 2 laid.size) 1 0 ≡ get_or s 3 0 = sym (get_or-drop 1 (part s 2 laid.size) 0 0) ∙ octet 1 (omega (arith, length-body, k.0, k.1)) in
      record {
        rest = (none distinguisher refl, none source_as refl, none source refl, none group refl, none fec refl);
        keyed = (k.2 ∙ ap (λ (n : ℕ). 2 + n) second, k.0);
      }

  pub unnumbered : with_key laid.type ≡ true → with_source_as laid.type ≡ false
  unfolding has_field same_kind code_of either
  unnumbered t = sym has-source-as ∙ ap (has_field source_as) (laid_out.body ∙ laid_out.row.keyed (ap (has_field key) (sym laid_out.body) ∙ has_key ∙ t))

  -- any other NLRI begins with a route distinguisher
  pub record OtherSizes : Type 0 where
    pub unkeyed : z key ≡ 0
    pub eight : z distinguisher ≡ 8
    pub numbered : z source_as ≡ pick (with_source_as laid.type) 4 0

  -- its route distinguisher, and its group by its source, in whose place a FEC stands
  unkeyed-row : with_key laid.type ≡ false → (has_field distinguisher laid.body ≡ true) × (has_field group laid.body ≡ has_field source laid.body) × (has_field fec laid.body ≡ true → has_field source laid.body ≡ false)
  unkeyed-row n = rw laid_out.body (laid_out.row.unkeyed (ap (has_field key) (sym laid_out.body) ∙ has_key ∙ n))

  pub other-sizes : with_key laid.type ≡ false → OtherSizes
  unfolding field_size
  other-sizes n =
      record {
        unkeyed = lacked key (has_key ∙ n);
        eight = fixed distinguisher 8 (λ y. refl) (unkeyed-row n).0;
        numbered = tested (with_source_as laid.type)
            (λ yes. fixed source_as 4 (λ y. refl) (has-source-as ∙ yes) ∙ sym (pick_true _ _ _ yes))
            (λ no. lacked source_as (has-source-as ∙ no) ∙ sym (pick-false _ _ _ no));
      }

  -- a kind of field that starts `near` octets, and those of the route distinguisher and the source AS, from the front
  start_is : (k : FieldKind) (start : ℕ → ℕ) (near : ℕ) → every (λ n body. pick (has_field k body) (eqb (start n) (near + pick (has_field source_as body) 12 8)) true) bodies ≡ true
      → with_key laid.type ≡ false → has_field k laid.body ≡ true → start laid.type ≡ near + (z distinguisher + z source_as)
  unfolding field_size
  start_is k start near e n h =
      let row : eqb (start laid.type) (near + pick (has_field source_as laid.body) 12 8) ≡ true = sym (pick_true _ _ true h) ∙ row_is (λ n body. pick (has_field k body) (eqb (start n) (near + pick (has_field source_as body) 12 8)) true) e in
      let o = other-sizes n in
      let sizes : pick (has_field source_as laid.body) 12 8 ≡ z distinguisher + z source_as =
      tested (has_field source_as laid.body)
      (λ yes. pick_true _ _ _ yes ∙ omega (arith, o.eight, fixed source_as 4 (λ y. refl) yes))
      (λ no. pick-false _ _ _ no ∙ omega (arith, o.eight, lacked source_as no)) in
      eqb-true _ _ row ∙ ap (λ (m : ℕ). near + m) sizes

  pub flow-start : with_key laid.type ≡ false → has_field source laid.body ≡ true → source_start laid.type ≡ 3 + (z distinguisher + z source_as)
  unfolding every bodies both pick has_field same_kind code_of either source_start
  flow-start n f = start_is source source_start 3 refl n f

  fec-begins : with_fec laid.type ≡ true → fec_start laid.type ≡ 2 + (z distinguisher + z source_as)
  unfolding every bodies both pick has_field same_kind code_of either fec_start
  fec-begins h = start_is fec fec_start 2 refl (unkeyed-fec laid.type h) (has-fec ∙ h)

  -- a source and a group, each behind its length octet in bits
  pub record FlowSizes : Type 0 where
    pub first : z source ≡ 1 + get_or s (source_start laid.type - 1) 0 / 8
    pub second : z group ≡ 1 + get_or s (source_start laid.type - 1 + z source) 0 / 8

  -- beside a source there is no FEC
  pub flow-bare : with_key laid.type ≡ false → has_field source laid.body ≡ true → z fec ≡ 0
  flow-bare n f = lacked fec (is_false _ (λ yes. opposite f ((unkeyed-row n).2 yes)))

  pub flow-sizes : with_key laid.type ≡ false → has_field source laid.body ≡ true → FlowSizes
  unfolding field_size
  flow-sizes n f =
      let st = starts laid.body laid.sizes in
      let o = other-sizes n in
      let bare = flow-bare n f in
      let at : 2 + (z distinguisher + z source_as) ≡ source_start laid.type - 1 = omega (arith, flow-start n f) in
      let next : 2 + (z distinguisher + z source_as + z source) ≡ source_start laid.type - 1 + z source = omega (arith, flow-start n f) in
      record {
        first = rw at at (address source (z distinguisher + z source_as) (λ y. refl) (omega (arith, o.unkeyed)) f);
        second = rw next at (address group (z distinguisher + z source_as + z source) (λ y. refl) (omega (arith, o.unkeyed)) ((unkeyed-row n).1 ∙ f));
      }

  -- the group of a type 5, by its octets (W-210)
  group-piece : laid.type ≡ 5 → (fields_laid s laid).group ≡ part s (12 + size_at s 10) (size_at s (11 + size_at s 10))
  unfolding with_key either source_start pick body_of on_body bodies has_field same_kind code_of size_at
  group-piece five =
      let n : with_key laid.type ≡ false = ap with_key five in
      let f : has_field source laid.body ≡ true = ap (has_field source) (laid_out.body ∙ ap body_of five) in
      let w = flow-sizes n f in
      let st = starts laid.body laid.sizes in
      let o = other-sizes n in
      let bare = flow-bare n f in
      let begin : source_start laid.type ≡ 11 = ap source_start five in
      let one : z source ≡ 1 + get_or s 10 0 / 8 = w.first ∙ ap (λ (k : ℕ). 1 + get_or s (k - 1) 0 / 8) begin in
      let next : source_start laid.type - 1 + z source ≡ 11 + get_or s 10 0 / 8 = omega arith in
      let two : z group ≡ 1 + get_or s (11 + get_or s 10 0 / 8) 0 / 8 = w.second ∙ ap (λ (k : ℕ). 1 + get_or s k 0 / 8) next in
      let at : start_in laid.body laid.sizes group ≡ 9 + get_or s 10 0 / 8 = omega (arith, o.unkeyed, flow-start n f) in
      let within : 9 + get_or s 10 0 / 8 + (1 + get_or s (11 + get_or s 10 0 / 8) 0 / 8) ≤ laid.size = omega (arith, total, o.eight) in
      let sum : 3 + (9 + get_or s 10 0 / 8) ≡ 12 + get_or s 10 0 / 8 = omega arith in
      ap (drop 1) (kind-piece group ∙ ap₂ (part (part s 2 laid.size)) at two)
      ∙ inner-address s laid.size (9 + get_or s 10 0 / 8) (get_or s (11 + get_or s 10 0 / 8) 0 / 8) within
      ∙ ap (λ (k : ℕ). part s k (get_or s (11 + get_or s 10 0 / 8) 0 / 8)) sum

  pub discarded-laid : is_discarded bits (fields_of laid s) ≡ is_discarded_at bits s
  unfolding is_discarded is_discarded_at laid_at
  discarded-laid =
      ap (is_discarded bits) (fields_laid_lem (key_field bits) (λ type x n h. (key-within bits type x n h).1) bits s laid e)
      ∙ tested (eqb laid.type 5)
      (λ y. ap₂ (λ (t : ℕ) (g : List ℕ). both (eqb t 5) (is_ssm bits g)) laid_out.typed (group-piece (eqb-true _ _ y)))
      (λ n. both_left _ _ n ∙ sym (both_left _ _ (ap (λ (t : ℕ). eqb t 5) (sym laid_out.typed) ∙ n)))

  -- a FEC, whose size is what its own lengths say, behind the route distinguisher or the source AS
  pub record FecSizes : Type 0 where
    pub none : (z source ≡ 0) × (z group ≡ 0)
    pub start : fec_start laid.type ≡ 2 + (z distinguisher + z source_as)
    pub size : fec_size (from_fec laid.type s) ≡ z fec
    pub opaque : opaque_start (from_fec laid.type s) ≤ length (from_fec laid.type s)

  pub fec-sizes : with_fec laid.type ≡ true → FecSizes
  unfolding field_size from_fec
  fec-sizes h =
      let n : with_key laid.type ≡ false = unkeyed-fec laid.type h in
      let st = starts laid.body laid.sizes in
      let o = other-sizes n in
      let yes : has_field fec laid.body ≡ true = has-fec ∙ h in
      let begin = fec-begins h in
      let at : start_in laid.body laid.sizes fec ≡ z distinguisher + z source_as = omega (arith, o.unkeyed) in
      let within : z distinguisher + z source_as ≤ laid.size = omega (arith, total) in
      let from : drop (z distinguisher + z source_as) (part s 2 laid.size) ≡ part s (fec_start laid.type) (2 + get_or s 1 0 - fec_start laid.type) =
      drop-part s 2 laid.size (z distinguisher + z source_as) within
      ∙ ap₂ (part s) (sym begin) (omega (arith, begin, laid_out.sized)) in
      let read = size-read _ _ (z fec) (rw at at (kind-stands fec yes).read) in
      record {
        none = (lacked source ((unkeyed-row n).2 yes), lacked group ((unkeyed-row n).1 ∙ (unkeyed-row n).2 yes));
        start = begin;
        size = ap fec_size (sym from) ∙ read.0;
        opaque = rw (sym from) read.2;
      }

  pub no_flow : with_key laid.type ≡ false → has_field source laid.body ≡ false → (z source ≡ 0) × (z group ≡ 0)
  no_flow n f = (lacked source f, lacked group ((unkeyed-row n).1 ∙ f))

-- what a single NLRI's layout says of it
pub record Shaped (laid : Laid) (s : List ℕ) : Type 0 where
  pub fields : fields_of laid s ≡ fields_at (layout_of laid) s
  pub within : LayoutWithin (layout_of laid) s

module _ (bits : ℕ) (small : bits ≤ 128) (s : List ℕ) (laid : Laid) (e : laid_at bits s ≡ given laid) (whole : length s - 2 ≡ laid.size) where
  abbrev w : FieldKind → ℕ
  w k = size_in laid.body laid.sizes k

  long : length s ≡ 2 + laid.size
  long = let h = (laid_out bits s laid e).enough in omega arith

  abbrev start : FieldKind → ℕ
  start k = start_in laid.body laid.sizes k

  all : w key + (w distinguisher + (w source_as + (w fec + (w source + (w group + w originator))))) ≡ laid.size
  all = total bits s laid e

  -- each field is the part of the NLRI at its start; where a field takes nothing, any start will do
  field : FieldKind → List ℕ
  field k = field_in [] k laid.body (cut laid.sizes (drop 2 s))

  piece : (k : FieldKind) → field k ≡ part s (2 + start k) (w k)
  unfolding field
  piece k = let rest : part s 2 laid.size ≡ drop 2 s = part-whole s laid.size whole in (rw rest at (kind-piece bits s laid e k)) ∙ part-drop s 2 _ _

  no-piece : (k : FieldKind) → w k ≡ 0 → field k ≡ []
  unfolding part
  no-piece k q = piece k ∙ ap (part s (2 + start k)) q

  address-at : (k : FieldKind) (at : ℕ) → (w k ≡ 0) ⊎ (3 + start k ≡ at) → drop 1 (field k) ≡ part s at (w k - 1)
  unfolding part
  address-at k at (inl q) = ap (drop 1) (no-piece k q) ∙ ap (λ (n : ℕ). part s at (n - 1)) (sym q)
  address-at k at (inr p) = let next : 2 + start k + 1 ≡ at = omega arith in ap (drop 1) (piece k) ∙ address-part s (2 + start k) (w k) ∙ ap (λ (i : ℕ). part s i (w k - 1)) next

  address-ends : (k : FieldKind) (at : ℕ) → start k + w k ≤ laid.size → (w k ≡ 0) ⊎ (3 + start k ≡ at) → 0 < w k - 1 → at + (w k - 1) ≤ length s
  address-ends k at h (inl q) some = absurd (omega arith)
  address-ends k at h (inr p) some = omega (arith, long)

  fec-at : (at : ℕ) → (w fec ≡ 0) ⊎ (2 + start fec ≡ at) → field fec ≡ part s at (w fec)
  unfolding part
  fec-at at (inl q) = no-piece fec q ∙ ap (part s at) (sym q)
  fec-at at (inr p) = piece fec ∙ ap (λ (i : ℕ). part s i (w fec)) p

  fec-ends : (at : ℕ) → (w fec ≡ 0) ⊎ (2 + start fec ≡ at) → 0 < w fec → at + w fec ≤ length s
  fec-ends at (inl q) some = absurd (omega arith)
  fec-ends at (inr p) some = let st = starts laid.body laid.sizes in omega (arith, long, all)

  -- by what the type says of its fields
  shape : (w source ≡ 0) ⊎ (3 + start source ≡ source_start laid.type)
      → (w group ≡ 0) ⊎ (3 + start group ≡ source_start laid.type + (w source - 1) + 1)
      → (field distinguisher ≡ distinguisher_at laid.type s) × (with_key laid.type ≡ false → 10 ≤ length s)
      → (number_in (field source_as) 0 ≡ source_as_at laid.type s) × (with_source_as laid.type ≡ true → 14 ≤ length s) → (w fec ≡ 0) ⊎ (2 + start fec ≡ fec_start laid.type) → Shaped laid s
  unfolding fields_of fields_at layout_of field field_size
  shape a b d n c =
      let at = starts laid.body laid.sizes in
      let first : 2 + start key ≡ 2 = omega arith in
      let last : 2 + start originator ≡ length s - w originator = omega (arith, long, all) in
      record {
        fields = fields-same refl d.0 n.0 (address-at source _ a) (address-at group _ b) (piece originator ∙ ap (λ (i : ℕ). part s i (w originator)) last)
            (piece key ∙ ap (λ (i : ℕ). part s i (w key)) first) (fec-at (fec_start laid.type) c);
        within = record {
          typed = known-octet laid.type (laid_out bits s laid e).row.known;
          distinguished = d.1;
          numbered = n.1;
          source = (omega (arith, address-short bits s laid e small source (λ y. refl)), address-ends source _ (omega (arith, all)) a);
          group = (omega (arith, address-short bits s laid e small group (λ y. refl)), address-ends group _ (omega (arith, all)) b);
          originator = (originator-short bits s laid e, omega (arith, long, all));
          key = omega (arith, long, all);
          fec_kind = ap (has_field fec) (sym (laid_out bits s laid e).body) ∙ has-fec bits s laid e;
          fec_end = fec-ends (fec_start laid.type) c;
          key_kind = ap (has_field key) (sym (laid_out bits s laid e).body) ∙ has_key bits s laid e;
        };
      }

  leaf-shaped : with_key laid.type ≡ true → Shaped laid s
  unfolding distinguisher_at source_as_at number_in
  leaf-shaped t =
      let l = leaf-sizes bits s laid e t in
      let none : with_source_as laid.type ≡ false = unnumbered bits s laid e t in
      shape (inl l.rest.2) (inl l.rest.3)
      (no-piece distinguisher l.rest.0 ∙ sym (pick_true _ _ _ t), λ n. absurd (opposite t n))
      (ap (λ (x : List ℕ). number_in x 0) (no-piece source_as l.rest.1) ∙ sym (pick-false _ _ _ none), λ n. absurd (opposite n none))
      (inl l.rest.4)

  other-shaped : with_key laid.type ≡ false → Shaped laid s
  unfolding distinguisher_at source_as_at number_in
  other-shaped t =
      let at = starts laid.body laid.sizes in
      let o = other-sizes bits s laid e t in
      let flow : (w group ≡ 0) ⊎ (3 + start group ≡ source_start laid.type + (w source - 1) + 1) =
      tested (has_field source laid.body)
      (λ yes. inr (omega (arith, o.unkeyed, flow-start bits s laid e t yes, flow-bare bits s laid e t yes, (flow-sizes bits s laid e t yes).first)))
      (λ no. inl (no_flow bits s laid e t no).1) in
      let first : (w source ≡ 0) ⊎ (3 + start source ≡ source_start laid.type) =
      tested (has_field source laid.body)
      (λ yes. inr (omega (arith, o.unkeyed, flow-start bits s laid e t yes, flow-bare bits s laid e t yes)))
      (λ no. inl (no_flow bits s laid e t no).0) in
      let number : (number_in (field source_as) 0 ≡ pick (with_source_as laid.type) (number_in (part s 10 4) 0) 0) × (with_source_as laid.type ≡ true → 14 ≤ length s) =
      tested (with_source_as laid.type)
      (λ yes.
      let four : w source_as ≡ 4 = o.numbered ∙ pick_true _ _ _ yes in
      let ten : 2 + start source_as ≡ 10 = omega (arith, o.unkeyed, o.eight) in
      (ap (λ (x : List ℕ). number_in x 0) (piece source_as ∙ ap₂ (part s) ten four) ∙ sym (pick_true _ _ _ yes), λ _. omega (arith, long, all, o.eight)))
      (λ no. (ap (λ (x : List ℕ). number_in x 0) (no-piece source_as (o.numbered ∙ pick-false _ _ _ no)) ∙ sym (pick-false _ _ _ no), λ yes. absurd (opposite yes no))) in
      let two : 2 + start distinguisher ≡ 2 = omega (arith, o.unkeyed) in
      let held : (w fec ≡ 0) ⊎ (2 + start fec ≡ fec_start laid.type) =
      tested (with_fec laid.type)
      (λ yes. inr (omega (arith, o.unkeyed, (fec-sizes bits s laid e yes).start)))
      (λ no. inl (lacked bits s laid e fec (has-fec bits s laid e ∙ no))) in
      shape first flow
      (piece distinguisher ∙ ap₂ (part s) two o.eight ∙ sym (pick-false _ _ _ t), λ _. omega (arith, long, all, o.eight))
      number
      held

pub shaped : (bits : ℕ) (s : List ℕ) (laid : Laid) → bits ≤ 128 → accepted_single bits s ≡ given laid → Shaped laid s
shaped bits s laid small e =
    let o = single-laid-out bits s laid e in
    tested (with_key laid.type) (leaf-shaped bits small s laid o.front o.all) (other-shaped bits small s laid o.front o.all)
