-- Laws of the FEC at the front of octets: the tests that it passes, and what it is.
use Prim.Native.Nat.{ℕ, ◌+◌, ◌-◌, ◌≤◌, ◌<◌}
use mathlib.Core.Path.{◌≡◌, refl, ap, ◌∙◌}
use mathlib.Core.Logic.{⊎_elim}
use mathlib.Core.Bool.{true}
use mathlib.Core.List.{List, ◌∷◌, ◌++◌, append_assoc}
use native.Mathlib.Omega.{arith}
use lib.ListN.{length, get_or, drop, length-append}
use lib.Seq.{drop-cons, drop-drop, take-append_seam, drop-append_seam, take_at, drop_at}
use borrow.Author.Tests.{eqb-true}
use Rattle.octets.specs.Choice.{both, either}
use Rattle.octets.specs.Octets.{AllOctets, one, part, number_in, big_endian}
use Rattle.octets.proofs.Choice.{both-held, either_true}
use Rattle.octets.proofs.Lists.{length_part, drop-part}
use Rattle.octets.proofs.AllOctets.{octet-at, octets-part, octets-append}
use Rattle.octets.proofs.NetworkOrder.{length-big_endian, octets-big_endian, number-of-big-endian, part-number, part-fits}
use Rattle.fec_elements.specs.Fields.{FecFields, encode_fec, Suits, ipv4, ipv6, WellFormedFec}
use Rattle.fec_elements.specs.Reading.{opaque_start, opaque_size, fec_size, fec_in, family_suits}

-- `Suits`, computed
pub suits_of : (address_family size : ℕ) → family_suits address_family size ≡ true → Suits address_family size
unfolding family_suits
suits_of address_family size h =
    ⊎_elim
    (λ p. let q = both-held _ _ p in let a = eqb-true address_family 1 q.0 in let b = eqb-true size 4 q.1 in rw (a, b) ipv4)
    (λ p. let q = both-held _ _ p in let a = eqb-true address_family 2 q.0 in let b = eqb-true size 16 q.1 in rw (a, b) ipv6)
    (either_true _ _ h)

pub suits-computed : {address_family size : ℕ} → Suits address_family size → family_suits address_family size ≡ true
unfolding family_suits both either
suits-computed ipv4 = refl
suits-computed ipv6 = refl

suits-small : {address_family size : ℕ} → Suits address_family size → address_family < 65536
suits-small ipv4 = omega arith
suits-small ipv6 = omega arith

-- the tests that the FEC at the front passes, its type apart
pub record FecTests (s : List ℕ) : Type 0 where
  pub least : 4 ≤ length s
  pub suits : Suits (number_in (part s 1 2) 0) (get_or s 3 0)
  pub whole : fec_size s ≤ length s

-- a header of 4 octets, the root and the 2 octets of the opaque length stand before the opaque value
pub start_is : (s : List ℕ) → opaque_start s ≡ 4 + get_or s 3 0 + 2
unfolding opaque_start
start_is s = refl

pub size-before : (s : List ℕ) → number_in (part s (opaque_start s - 2) 2) 0 ≡ opaque_size s
unfolding opaque_start opaque_size
size-before s = ap (λ (at : ℕ). number_in (part s at 2) 0) (omega arith)

pub start-in : (s : List ℕ) → fec_size s ≤ length s → opaque_start s ≤ length s
unfolding fec_size
start-in s h = omega arith

joined : (x : ℕ) (a : List ℕ) (y : ℕ) (b c d rest : List ℕ) → x ∷ (a ++ (y ∷ (b ++ (c ++ (d ++ rest))))) ≡ (x ∷ (a ++ (y ∷ (b ++ (c ++ d))))) ++ rest
joined x a y b c d rest = rw (append_assoc a (y ∷ (b ++ (c ++ d))) rest, append_assoc b (c ++ d) rest, append_assoc c d rest)

-- octets by the parts of the FEC at their front
fec-parts : (s : List ℕ) → 4 ≤ length s
    → s ≡ (get_or s 0 0 ∷ (part s 1 2 ++ (get_or s 3 0 ∷ (part s 4 (get_or s 3 0) ++ (part s (4 + get_or s 3 0) 2 ++ part s (opaque_start s) (opaque_size s)))))) ++ drop (fec_size s) s
unfolding opaque_start fec_size
fec-parts s h =
    let size = get_or s 3 0 in
    let n = opaque_size s in
    drop-cons s 0 0 (omega arith)
    ∙ ap (λ (l : List ℕ). get_or s 0 0 ∷ l) (drop-part s 1 2
    ∙ ap (λ (l : List ℕ). part s 1 2 ++ l) (drop-cons s 3 0 (omega arith)
    ∙ ap (λ (l : List ℕ). size ∷ l) (drop-part s 4 size
    ∙ ap (λ (l : List ℕ). part s 4 size ++ l) (drop-part s (4 + size) 2
    ∙ ap (λ (l : List ℕ). part s (4 + size) 2 ++ l) (drop-part s (4 + size + 2) n)))))
    ∙ joined (get_or s 0 0) (part s 1 2) size (part s 4 size) (part s (4 + size) 2) (part s (4 + size + 2) n) (drop (4 + size + 2 + n) s)

module _ (s : List ℕ) (h : fec_size s ≤ length s) where
  pub length-root : length (part s 4 (get_or s 3 0)) ≡ get_or s 3 0
  length-root = length_part s 4 (get_or s 3 0) (omega (arith, start-in s h, start_is s))

  pub length-opaque : length (part s (opaque_start s) (opaque_size s)) ≡ opaque_size s
  unfolding fec_size
  length-opaque = length_part s (opaque_start s) (opaque_size s) h

-- the fields of octets that pass the tests are well-formed, and the octets begin with their encoding
module _ {s : List ℕ} (a : AllOctets s) (t : FecTests s) where
  counted : 4 + get_or s 3 0 + 2 ≤ length s
  counted = omega (arith, start-in s t.whole, start_is s)

  pub fields-formed : WellFormedFec (fec_in s)
  unfolding fec_in opaque_size
  fields-formed =
      record {
        type_fits = octet-at a 0;
        root_suits = rw (length-root s t.whole) t.suits;
        root_octets = octets-part 4 (get_or s 3 0) a;
        opaque_fits = rw (length-opaque s t.whole) (part-fits a (4 + get_or s 3 0) 2 counted);
        opaque_octets = octets-part (opaque_start s) (opaque_size s) a;
      }

  pub fields-octets : s ≡ encode_fec (fec_in s) ++ drop (fec_size s) s
  unfolding fec_in encode_fec opaque_size
  fields-octets =
      rw (part-number a 1 2 (omega (arith, t.least)), length-root s t.whole, length-opaque s t.whole, part-number a (4 + get_or s 3 0) 2 counted)
      (fec-parts s t.least)

suits-octet : {address_family size : ℕ} → Suits address_family size → size < 256
suits-octet ipv4 = omega arith
suits-octet ipv6 = omega arith

-- an encoding is octets
pub octets-encode : {f : FecFields} → WellFormedFec f → AllOctets (encode_fec f)
unfolding encode_fec
octets-encode {f} w =
    one w.type_fits (octets-append (octets-big_endian 2 f.address_family)
    (one (suits-octet w.root_suits) (octets-append w.root_octets (octets-append (octets-big_endian 2 (length f.opaque_value)) w.opaque_octets))))

pub length-encode : (f : FecFields) → length (encode_fec f) ≡ 6 + length f.root + length f.opaque_value
unfolding encode_fec
length-encode f = simp (length-append, length-big_endian) (omega arith)

-- octets that begin with an encoding pass the tests, and their fields are those encoded
module _ (f : FecFields) (rest : List ℕ) (w : WellFormedFec f) where
  front : List ℕ
  front = encode_fec f ++ rest

  after_root : List ℕ
  after_root = big_endian 2 (length f.opaque_value) ++ (f.opaque_value ++ rest)

  family-front : number_in (part front 1 2) 0 ≡ f.address_family
  unfolding front encode_fec part big_endian
  family-front = number-of-big-endian 2 f.address_family (suits-small w.root_suits)

  size-front : get_or front 3 0 ≡ length f.root
  unfolding front encode_fec big_endian
  size-front = refl

  drop-front : drop 4 front ≡ f.root ++ after_root
  unfolding front encode_fec big_endian after_root
  drop-front = simp append_assoc

  drop-root : (n : ℕ) → drop (4 + length f.root + n) front ≡ drop n after_root
  drop-root n =
      rw (← drop-drop n (4 + length f.root) front, ← drop-drop (length f.root) 4 front, drop-front, drop-append_seam f.root after_root)

  opaque-front : opaque_size front ≡ length f.opaque_value
  unfolding opaque_size part after_root
  opaque-front =
      let e : 4 + length f.root ≡ 4 + length f.root + 0 = omega arith in
      rw (size-front, e, drop-root 0, take_at (big_endian 2 (length f.opaque_value)) (f.opaque_value ++ rest) 2 (length-big_endian 2 (length f.opaque_value)))
      (number-of-big-endian 2 (length f.opaque_value) w.opaque_fits)

  value-front : part front (opaque_start front) (opaque_size front) ≡ f.opaque_value
  unfolding opaque_start part after_root
  value-front =
      rw (opaque-front, size-front, drop-root 2, drop_at (big_endian 2 (length f.opaque_value)) (f.opaque_value ++ rest) 2 (length-big_endian 2 (length f.opaque_value)))
      (take-append_seam f.opaque_value rest)

  size_is : fec_size front ≡ length (encode_fec f)
  unfolding fec_size opaque_start
  size_is = rw (opaque-front, size-front) (omega (arith, length-encode f))

  length_front : length front ≡ length (encode_fec f) + length rest
  unfolding front
  length_front = length-append (encode_fec f) rest

  type-front : get_or front 0 0 ≡ f.fec_type
  unfolding front encode_fec
  type-front = refl

  root-front : part front 4 (length f.root) ≡ f.root
  unfolding part
  root-front = rw drop-front (take-append_seam f.root after_root)

  tests-front : FecTests front
  tests-front =
      record {
        least = omega (arith, length_front, length-encode f);
        suits = rw (family-front, size-front) w.root_suits;
        whole = omega (arith, length_front, size_is);
      }

  fields-front : fec_in front ≡ f
  unfolding fec_in
  fields-front = rw (value-front, family-front, size-front, root-front, type-front)

  pub encode-size : fec_size (encode_fec f ++ rest) ≡ length (encode_fec f)
  unfolding front
  encode-size = size_is

  pub encode-tests : FecTests (encode_fec f ++ rest)
  unfolding front
  encode-tests = tests-front

  pub encode-fields : fec_in (encode_fec f ++ rest) ≡ f
  unfolding front
  encode-fields = fields-front

-- the opaque value as the code cuts it
pub opaque-cut : (s : List ℕ) (start end : ℕ) → start ≡ opaque_start s → end ≡ fec_size s → part s start (end - start) ≡ part s (opaque_start s) (opaque_size s)
unfolding fec_size
opaque-cut s start end p q = let e : end - start ≡ opaque_size s = omega arith in rw (e, p)
