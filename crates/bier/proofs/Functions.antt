-- How the functions' proofs use the laws: each `return` and each turn of the loop, over variables.
use Prim.Native.Nat.{ℕ, ◌+◌, ◌*◌, ◌%◌, ◌^◌, ◌≤◌, ◌<◌}
use mathlib.Core.Path.{◌≡◌, refl, sym, ap, subst, ◌∙◌}
use mathlib.Core.Bool.{Bool, true, false}
use mathlib.Core.List.{List, [], ◌∷◌, ◌++◌}
use native.Mathlib.Nat.{one-mul}
use native.Mathlib.Omega.{arith}
use borrow.Author.Rules.{rules}
use borrow.Author.Tests.{eqb-false, eq-eqb, ne_eqb}
use lib.ListN.{length, get_or, drop}
use lib.Seq.{take_all}
use lib.Pow.{shl_exact}
use lib.Count.{ones, ones-le, ones_cat}
use Rattle.octets.specs.Numbers.{DONE}
use Rattle.octets.specs.Outcome.{Outcome, given, refused, and_then, number_of}
use Rattle.octets.specs.Octets.{low_first, AllOctets, none, one, part}
use Rattle.octets.specs.Order.{same}
use Rattle.octets.proofs.Choice.{pick_true, pick-false, pick-passed, both_true, both_left, both_right}
use Rattle.octets.proofs.AllOctets.{octets-of, octets-part}
use Rattle.octets.proofs.Lists.{length_part, part_then}
use Rattle.octets.proofs.Tests.{flags}
use Rattle.octets.proofs.Outcome.{and-goes-on, and-stops, done-given, refused-of, refuses-by, number-goes, number-refuses}
use Rattle.lists.specs.LentLists.{Item, item_field}
use Rattle.lists.proofs.Along.{turn, turned, ended}
use Rattle.nlri.specs.Reading.{read_of_type}
use Rattle.tunnel.specs.declared.bier.BierIdentifier.{BierIdentifier}
use Rattle.tunnel.specs.Attribute.{fields_in, read_attribute}
use Rattle.tunnel.specs.Bier.{bier_in}
use Rattle.tunnel.proofs.Definitions.Attributes.{read-given}
use Rattle.bier.specs.BitStrings.{is_of_set, with_id, ones_of}
use Rattle.bier.specs.LeafRoutes.{Leaf, read_leaf, bfr_id_in}
use Rattle.bier.specs.Inner.{gathered_from, key_in, KeyWithin, AttributeStands, LeafStands, standing_id}
use Rattle.bier.proofs.Leaves.{leaf-refuses, leaf-stands, id-stands, identifier-long}
use Rattle.bier.proofs.OfType.{type-refuses}

-- a one shifted within an octet
pub one_shifted : (n : ℕ) → 1 * 2 ^ (n % 8) % 256 ≡ 2 ^ (n % 8)
one_shifted n = shl_exact {a = 1} 1 (n % 8) 8 (omega arith) (omega arith) ∙ one-mul (2 ^ (n % 8))

-- a BFR-id of a set is not 0
pub of-set-some : (flag : Bool) (set_number id : ℕ) → flag ≡ is_of_set set_number id → flag ≡ true → 1 ≤ id
unfolding is_of_set
of-set-some flag set_number id e f = let n : id ≡ 0 → ⊥ = eqb-false _ _ (pick-passed _ _ (sym e ∙ f)).0 in omega arith

pub ruleset adding = (flags, of-set-some)

-- the ones of a word are those of its octets, eight of each at the most
ones_low : {xs : List ℕ} → AllOctets xs → ones (low_first xs) ≡ ones_of xs
unfolding low_first ones_of ones
ones_low none = refl
ones_low (one {x} {xs} h a) =
    let turned : x + 256 * low_first xs ≡ low_first xs * 256 + x = omega arith in
    ap ones turned ∙ ones_cat 8 (low_first xs) x h ∙ omega (arith, ones_low a)

ones-most : {xs : List ℕ} → AllOctets xs → ones_of xs ≤ 8 * length xs
unfolding ones_of
ones-most none = omega arith
ones-most (one {x} h a) = omega (arith, ones-le 8 x h, ones-most a)

pub ones-word : (s : List ℕ) (at r : ℕ) → ((i : ℕ) → get_or s i 0 < 256) → at + 8 ≤ length s → r ≡ low_first (part s at 8) → (ones r ≡ ones_of (part s at 8)) × (ones r ≤ 64)
ones-word s at r o h e =
    let octets = octets-part at 8 (octets-of s o) in
    let is : ones r ≡ ones_of (part s at 8) = ap ones e ∙ ones_low octets in
    (is, omega (arith, ones-most octets, length_part s at 8 h))

ones-append : (xs ys : List ℕ) → ones_of (xs ++ ys) ≡ ones_of xs + ones_of ys
unfolding ones_of
ones-append [] ys = omega arith
ones-append (x ∷ xs) ys = omega (arith, ones-append xs ys)

ones-then : (s : List ℕ) (at n : ℕ) → ones_of (part s 0 (at + n)) ≡ ones_of (part s 0 at) + ones_of (part s (0 + at) n)
ones-then s at n = ap ones_of (part_then s 0 at n) ∙ ones-append (part s 0 at) (part s (0 + at) n)

-- those of a string are those of its four words
pub ones-words : (s : List ℕ) (a b c d : ℕ) → length s ≡ 32 → a ≡ ones_of (part s 0 8) → b ≡ ones_of (part s 8 8) → c ≡ ones_of (part s 16 8) → d ≡ ones_of (part s 24 8) → a + b + c + d ≡ ones_of s
unfolding part
ones-words s a b c d h p q u v =
    let all : ones_of (part s 0 32) ≡ ones_of s = ap ones_of (take_all 32 s (omega arith)) in
    omega (arith, ones-then s 8 8, ones-then s 16 8, ones-then s 24 8, all)

-- an attribute that is read has a header, and, of BIER, an identifier of three octets or more
pub attribute-least : (a : List ℕ) → AttributeStands a → 5 ≤ length a
attribute-least a s = (read-given a (fields_in a) s.read).0.size.least

pub identifier-least : (a i : List ℕ) → read_attribute a ≡ given (fields_in a) → get_or a 1 0 ≡ 11 → i ≡ drop 5 a → 3 ≤ length i
unfolding fields_in
identifier-least a i e t is = rw is (identifier-long a (fields_in a) e t)

-- the BFR-id of an attribute
module _ (a : List ℕ) (sub_domain : ℕ) where
  pub bfr-none : (get_or a 1 0 ≡ 11 → ⊥) → 0 ≡ bfr_id_in sub_domain (fields_in a)
  unfolding bfr_id_in fields_in
  bfr-none other = sym (pick-false _ _ _ (both_left _ _ (ne_eqb _ _ other)))

  module _ (bier : get_or a 1 0 ≡ 11) (i : List ℕ) (is : i ≡ drop 5 a) (b : BierIdentifier) (e : b ≡ bier_in i) where
    told : b ≡ bier_in (drop 5 a)
    told = e ∙ ap bier_in is

    pub bfr-other : (b.sub_domain ≡ sub_domain → ⊥) → 0 ≡ bfr_id_in sub_domain (fields_in a)
    unfolding bfr_id_in fields_in
    bfr-other other = sym (pick-false _ _ _ (both_right _ _ (eq-eqb _ _ bier) (ne_eqb _ _ (λ q. other (ap (λ (x : BierIdentifier). x.sub_domain) told ∙ q)))))

    pub bfr-own : b.sub_domain ≡ sub_domain → b.bfr_id ≡ bfr_id_in sub_domain (fields_in a)
    unfolding bfr_id_in fields_in
    bfr-own own =
        ap (λ (x : BierIdentifier). x.bfr_id) told
        ∙ sym (pick_true _ _ _ (both_true _ _ (eq-eqb _ _ bier) (eq-eqb _ _ (ap (λ (x : BierIdentifier). x.sub_domain) (sym told) ∙ own))))

pub ruleset identified = (rules, attribute-least, identifier-least, bfr-none, bfr-other, bfr-own)

-- a Leaf's key compared
pub key-same : (leaf nlri key : List ℕ) (flag : Bool) → flag ≡ same key nlri → key ≡ part leaf 2 (2 + get_or leaf 3 0) → flag ≡ same (key_in leaf) nlri
unfolding key_in
key-same leaf nlri key flag e is = e ∙ ap (λ (k : List ℕ). same k nlri) is

-- a Leaf route's fields, cut out of the list
pub key-at : (x : Item) (leaf : List ℕ) → LeafStands x → leaf ≡ item_field 0 x → KeyWithin leaf
key-at x leaf s e = subst KeyWithin (sym e) s.key

pub attribute-at : (x : Item) (a : List ℕ) → LeafStands x → a ≡ item_field 1 x → AttributeStands a
attribute-at x a s e = subst AttributeStands (sym e) s.attribute

-- the BFR-id by which the Leaf route at a cursor counts
module _ (nlri : List ℕ) (sub_domain : ℕ) (x : Item) (flag : Bool) (leaf : List ℕ) (is : leaf ≡ item_field 0 x) (e : flag ≡ same (key_in leaf) nlri) where
  keyed : flag ≡ same (key_in (item_field 0 x)) nlri
  keyed = e ∙ ap (λ (l : List ℕ). same (key_in l) nlri) is

  pub id-none : flag ≡ false → 0 ≡ standing_id nlri sub_domain x
  unfolding standing_id
  id-none f = sym (pick-false _ _ _ (sym keyed ∙ f))

  pub id-some : flag ≡ true → (a : List ℕ) → a ≡ item_field 1 x → (r : ℕ) → r ≡ bfr_id_in sub_domain (fields_in a) → r ≡ standing_id nlri sub_domain x
  unfolding standing_id
  id-some t a own r q = q ∙ ap (λ (l : List ℕ). bfr_id_in sub_domain (fields_in l)) own ∙ sym (pick_true _ _ _ (sym keyed ∙ t))

-- the Leaf route at a cursor, by its number
module _ (afi : ℕ) (x : Item) (e : DONE ≡ number_of (read_leaf afi x)) where
  leaf-done : (leaf : Leaf) × (read_leaf afi x ≡ given leaf)
  leaf-done = done-given _ (λ n q. refuses-by _ n (leaf-refuses afi x) q) (sym e)

  pub gather-stands : LeafStands x
  gather-stands = let l = leaf-done in leaf-stands afi x l.0 l.1

-- its number, by those of its NLRI and of its attribute
number-after : {A B : Type 0} (o : Outcome A) (f : A → B) → number_of o ≡ number_of (and_then o (λ a. given (f a)))
unfolding number_of and_then
number-after (given a) f = refl
number-after (refused n) f = refl

module _ (afi : ℕ) (x : Item) (first : ℕ) (leaf : List ℕ) (is : leaf ≡ item_field 0 x) (e : first ≡ number_of (read_of_type 4 afi leaf)) where
  named : first ≡ number_of (read_of_type 4 afi (item_field 0 x))
  named = e ∙ ap (λ (l : List ℕ). number_of (read_of_type 4 afi l)) is

  pub leaf-unnamed : (first ≡ DONE → ⊥) → first ≡ number_of (read_leaf afi x)
  unfolding read_leaf
  leaf-unnamed h = number-refuses first _ _ named h

module _ (afi : ℕ) (x : Item) (leaf : List ℕ) (is : leaf ≡ item_field 0 x) (e : DONE ≡ number_of (read_of_type 4 afi leaf)) where
  pub leaf-tunnel : (a : List ℕ) → a ≡ item_field 1 x → (n : ℕ) → n ≡ number_of (read_attribute a) → n ≡ number_of (read_leaf afi x)
  unfolding read_leaf
  leaf-tunnel a own n q =
      let f = done-given _ (λ m r. refuses-by _ m (type-refuses afi (item_field 0 x)) r) (sym (e ∙ ap (λ (l : List ℕ). number_of (read_of_type 4 afi l)) is)) in
      number-goes n _ f.0 _ f.1 (q ∙ ap (λ (l : List ℕ). number_of (read_attribute l)) own ∙ number-after (read_attribute (item_field 1 x)) _)

pub ruleset counting = (rules, key-at, attribute-at, id-none, id-some)

-- the loop over Leaf routes
module _ (afi : ℕ) (nlri : List ℕ) (sub_domain set_number : ℕ) (string : List ℕ) {all : Outcome (List ℕ)} {items : List Item} (so_far : all ≡ gathered_from afi nlri sub_domain set_number string items) where
  module _ {x : Item} {rest : List Item} (here : items ≡ x ∷ rest) where
    pub gather-next : DONE ≡ number_of (read_leaf afi x) → (id : ℕ) → id ≡ standing_id nlri sub_domain x → (string' : List ℕ) → string' ≡ with_id set_number string id → all ≡ gathered_from afi nlri sub_domain set_number string' rest
    unfolding gathered_from
    gather-next e id is string' w =
        let l = leaf-done afi x e in
        turned (gathered_from afi nlri sub_domain set_number string) so_far here _
        (sym (and-goes-on _ _ l.0 _ l.1 (ap (λ (s : List ℕ). gathered_from afi nlri sub_domain set_number s rest) (w ∙ ap (with_id set_number string) (is ∙ sym (id-stands afi x l.0 l.1 nlri sub_domain))))))

    pub gather-stop : (n : ℕ) → n ≡ number_of (read_leaf afi x) → (n ≡ DONE → ⊥) → refused n ≡ all
    unfolding gathered_from
    gather-stop n e d = and-stops _ _ _ (refused-of _ n e d) ∙ sym (turn (gathered_from afi nlri sub_domain set_number string) so_far here)

  pub gather-last : items ≡ [] → given string ≡ all
  unfolding gathered_from
  gather-last end = sym (ended (gathered_from afi nlri sub_domain set_number string) so_far end)

-- where there is no id
pub with-none : (set_number : ℕ) (string : List ℕ) → string ≡ with_id set_number string 0
unfolding with_id is_of_set
with-none set_number string = sym (pick-false _ _ _ (pick_true _ _ _ refl))
