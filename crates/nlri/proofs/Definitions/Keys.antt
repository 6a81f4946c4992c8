-- The key of a type is read exactly where octets begin with an NLRI that may stand there, encoded and well-formed (document 01, "NLRI on the wire").
use Rattle.std.proofs.Common.{◌≡◌, ℕ, ◌+◌, ◌*◌, ◌/◌, ◌<◌, ◌≤◌, Bool, true, false, not, eqb, leb, List, ◌++◌, length, get_or, take, sym, refl, ap, ◌∙◌, subst, ⊎_elim, arith, eq-eqb, ne_eqb, eqb-true, le-leb, leb-true}
use borrow.Author.Tests.{lt-leb, not-true}
use Rattle.octets.specs.Numbers.{KEY}
use Rattle.octets.specs.Choice.{pick, both, either}
use Rattle.octets.specs.Outcome.{given, refused}
use Rattle.octets.specs.Octets.{AllOctets}
use Rattle.octets.proofs.Choice.{pick_true, both-true-left, both-true-right, either_left, either_true}
use Rattle.octets.proofs.Lists.{length_part}
use Rattle.octets.proofs.Outcome.{on-given, never, given-unless, given-same, on-given-given, refused-same, refuses-unless, turned}
use Rattle.nlri.specs.Bodies.{FieldKind, key, fec, KnownType, to_seven, mldp_s_pmsi, keyable, bodies, on_body, body_of, code_of, same_kind, has_field}
use Rattle.nlri.specs.Fields.{Fields, encode_nlri, NoKey, KeyType, leaf, mldp_leaf, KeyOf}
use Rattle.nlri.specs.Reading.{Laid, laid_with, no_key, key_field}
use Rattle.nlri.proofs.Definitions.Table.{listed, known, known-least, row_of, every, every-row, most, most_in}
use Rattle.nlri.proofs.Definitions.Judged.{Judges}
use Rattle.nlri.proofs.Definitions.Whole.{LaidOut, laid_out_lem, fields_laid, sizes-most, laid-encoded, laid-fits, laid-sound, laid-complete, octets-nlri}

-- no octets are a key
none-judges : Judges no_key NoKey
unfolding no_key
none-judges =
    record {
      within = λ type s n e. absurd (never e refl);
      sound = λ type s n a e. absurd (never e refl);
      complete = λ type k t none. absurd none;
      refuses = λ type s n e. sym (refused-same {A = ℕ} e);
    }

-- a key is laid out within the octets, takes its header and as many octets as its Length says, and is of a type that may stand there
pub record KeyLaid (bits type : ℕ) (s : List ℕ) (n : ℕ) : Type 0 where
  pub laid : Laid
  pub is : laid_with no_key bits s ≡ given laid
  pub laid_out : LaidOut no_key bits s laid
  pub may : keyable type laid.type ≡ true
  pub size : 2 + laid.size ≡ n

pub key-laid : (bits type : ℕ) (s : List ℕ) (n : ℕ) → key_field bits type s ≡ given n → KeyLaid bits type s n
unfolding key_field
key-laid bits type s n e =
    let p = on-given-given _ _ _ _ e in
    let q = given-unless _ _ _ _ p.second in
    record { laid = p.value; is = p.first; laid_out = laid_out_lem no_key bits s p.value p.first; may = q.0; size = given-same q.1 }

pub key-within : (bits type : ℕ) (s : List ℕ) (n : ℕ) → key_field bits type s ≡ given n → (2 ≤ n) × (n ≤ length s) × (n ≡ 2 + get_or s 1 0)
key-within bits type s n e = let k = key-laid bits type s n e in omega (arith, k.size, k.laid_out.fits, k.laid_out.enough, k.laid_out.sized)

-- which NLRIs may stand in a key, by the test; none of them has a key
may-stand : (type in_key : ℕ) → KeyType type in_key → keyable type in_key ≡ true
unfolding keyable both either
may-stand type in_key (leaf low high) = either_left _ _ (le-leb in_key 3 high)
may-stand type in_key mldp_leaf = refl

-- by the numbers that the functions ask
either_end : (b : Bool) → either b false ≡ b
unfolding either
either_end true = refl
either_end false = refl

keyable-leaf : (in_key : ℕ) → keyable 4 in_key ≡ leb in_key 3
unfolding keyable both
keyable-leaf in_key = either_end (leb in_key 3)

keyable-mldp : (in_key : ℕ) → keyable 68 in_key ≡ eqb in_key 67
unfolding keyable both either
keyable-mldp in_key = refl

pub leaf-takes : (in_key : ℕ) → in_key ≤ 3 → keyable 4 in_key ≡ true
leaf-takes in_key low = keyable-leaf in_key ∙ le-leb in_key 3 low

pub leaf-refuses : (in_key : ℕ) → 3 < in_key → keyable 4 in_key ≡ false
leaf-refuses in_key high = keyable-leaf in_key ∙ lt-leb in_key 3 high

pub mldp-takes : (in_key : ℕ) → in_key ≡ 67 → keyable 68 in_key ≡ true
mldp-takes in_key e = keyable-mldp in_key ∙ eq-eqb in_key 67 e

pub mldp-refuses : (in_key : ℕ) → (in_key ≡ 67 → ⊥) → keyable 68 in_key ≡ false
mldp-refuses in_key h = keyable-mldp in_key ∙ ne_eqb in_key 67 h

stands-in : (type in_key : ℕ) → KnownType in_key → keyable type in_key ≡ true → KeyType type in_key
unfolding keyable
stands-in type in_key known h =
    ⊎_elim
    (λ low.
    let four : type ≡ 4 = eqb-true _ _ (both-true-left _ _ low) in
    subst (λ (t : ℕ). KeyType t in_key) (sym four) (leaf (known-least in_key known) (leb-true _ _ (both-true-right _ _ low))))
    (λ high.
    let outer : type ≡ 68 = eqb-true _ _ (both-true-left _ _ high) in
    let inner : in_key ≡ 67 = eqb-true _ _ (both-true-right _ _ high) in
    rw (outer, inner) mldp_leaf)
    (either_true _ _ h)

key-known : (type in_key : ℕ) → KeyType type in_key → KnownType in_key
key-known type in_key (leaf low high) = to_seven low (omega arith)
key-known type in_key mldp_leaf = mldp_s_pmsi

-- what stands in a Leaf's key has no key itself, no FEC, and at most 60 octets
leaf_test : ℕ → List FieldKind → Bool
leaf_test n body = pick (leb n 3) (both (not (has_field key body)) (both (not (has_field fec body)) (leb (most_in 60 body) 58))) true

leaf-rows : every leaf_test bodies ≡ true
unfolding leaf_test every bodies both pick most_in most has_field either same_kind code_of
leaf-rows = refl

in_leaf : (in_key : ℕ) → KnownType in_key → in_key ≤ 3 → (has_field key (body_of in_key) ≡ false) × (has_field fec (body_of in_key) ≡ false) × (most_in 60 (body_of in_key) ≤ 58)
unfolding leaf_test
in_leaf in_key k low =
    let h = sym (pick_true _ _ _ (le-leb in_key 3 low)) ∙ every-row leaf_test leaf-rows in_key (known in_key k) in
    let rest = both-true-right _ _ h in
    (not-true _ (both-true-left _ _ h), not-true _ (both-true-left _ _ rest), leb-true _ _ (both-true-right _ _ rest))

key-plain : (type in_key : ℕ) → KeyType type in_key → has_field key (body_of in_key) ≡ false
unfolding body_of on_body bodies pick has_field either same_kind code_of
key-plain type in_key (leaf low high) = (in_leaf in_key (to_seven low (omega arith)) high).0
key-plain type in_key mldp_leaf = refl

pub keyable-plain : (type in_key : ℕ) → listed bodies in_key ≡ true → keyable type in_key ≡ true → has_field key (body_of in_key) ≡ false
keyable-plain type in_key l h = key-plain type in_key (stands-in type in_key (row_of in_key l).known h)

leaf-short : (type in_key : ℕ) → type ≤ 7 → KeyType type in_key → (has_field fec (body_of in_key) ≡ false) × (most_in 60 (body_of in_key) ≤ 58)
leaf-short type in_key seven (leaf low high) = let p = in_leaf in_key (to_seven low (omega arith)) high in (p.1, p.2)
leaf-short type in_key seven mldp_leaf = absurd (omega arith)

-- a Leaf's key takes at most 60 octets
pub key-most : (bits : ℕ) → bits ≤ 128 → (type : ℕ) → type ≤ 7 → (s : List ℕ) (n : ℕ) → key_field bits type s ≡ given n → n ≤ 60
unfolding no_key
key-most bits small type seven s n e =
    let k = key-laid bits type s n e in
    let l = length_part s 2 k.laid.size (omega (arith, k.laid_out.fits, k.laid_out.enough)) in
    let short = leaf-short type k.laid.type seven (stands-in type k.laid.type k.laid_out.row.known k.may) in
    let most = sizes-most no_key bits 60 k.laid.type (λ s n e. absurd (never e refl)) small (body_of k.laid.type) short.0 _ _ k.laid_out.sizes in
    omega (arith, k.size, short.1)

module _ (bits : ℕ) (whole : 8 * (bits / 8) ≡ bits) where
  key-sound : (type : ℕ) (s : List ℕ) (n : ℕ) → AllOctets s → key_field bits type s ≡ given n → (n ≤ length s) × KeyOf bits type (take n s)
  key-sound type s n a e =
      let k = key-laid bits type s n e in (
        (key-within bits type s n e).1,
        record {
          fields = fields_laid s k.laid;
          typed = stands-in type k.laid.type k.laid_out.row.known k.may;
          well_formed = laid-sound no_key NoKey none-judges bits whole s k.laid a k.is;
          fits = laid-fits no_key bits whole s k.laid a k.is;
          encoded = ap (λ (m : ℕ). take m s) (sym k.size) ∙ laid-encoded no_key bits whole s k.laid (λ _. a) k.is;
        },
      )

  key-complete : (type : ℕ) (k t : List ℕ) → KeyOf bits type k → key_field bits type (k ++ t) ≡ given (length k)
  unfolding key_field encode_nlri
  key-complete type k t of =
      let f : Fields = of.fields in
      rw of.encoded
      (sym (on-given _ _ _ _ _ (laid-complete no_key NoKey none-judges bits whole f t (key-known type f.type of.typed) of.well_formed)
      (sym (pick_true _ _ _ (may-stand type f.type of.typed) ∙ ap given (omega arith)))))

  key-refuses : (type : ℕ) (s : List ℕ) (n : ℕ) → key_field bits type s ≡ refused n → n ≡ KEY
  unfolding key_field
  key-refuses type s n e =
      turned KEY n _ (laid_with no_key bits s) (λ laid m q. (refuses-unless _ _ _ _ q).1) e

  pub key-judges : Judges (key_field bits) (KeyOf bits)
  key-judges = record { within = λ type s n e. (key-within bits type s n e).1; sound = key-sound; complete = key-complete; refuses = key-refuses }

  -- a key is octets
  pub octets-key : bits ≤ 128 → (type : ℕ) (k : List ℕ) → KeyOf bits type k → AllOctets k
  octets-key small type k of =
      let f : Fields = of.fields in
      rw of.encoded (octets-nlri no_key NoKey none-judges bits whole (λ type k none. absurd none) small f (key-known type f.type of.typed) of.well_formed of.fits)
