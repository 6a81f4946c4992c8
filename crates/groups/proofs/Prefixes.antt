-- Laws of `good_prefix` and `read_prefixes`: what prefixes that are read are, and why others are refused (specs/Rules/ClassRule.antt).
use Prim.Native.Nat.{ℕ, zero, suc, ◌+◌, ◌*◌, ◌-◌, ◌≤◌}
use mathlib.Core.Path.{◌≡◌, refl, sym, ◌∙◌, ap, subst}
use mathlib.Core.Bool.{Bool, true, false, not}
use mathlib.Core.List.{List, [], ◌∷◌}
use mathlib.Core.Logic.{◌⊎◌, ⊎_elim}
use native.Mathlib.Omega.{arith}
use borrow.Author.Tests.{eqb-true, eq-eqb, leb-true, leb-false, le-leb, lt-leb, not-true}
use lib.ListN.{length}
use Rattle.octets.specs.Outcome.{given, refused}
use Rattle.octets.specs.Lists.{Among, first}
use Rattle.octets.proofs.Choice.{both_true, both-held, pick_true, pick-false, picked, opposite, is_false}
use Rattle.octets.proofs.Outcome.{never, given-same, refused-same, and-stops, and-goes-on, given-unless, passed, stopped}
use Rattle.octets.proofs.Among.{among-right, among_none, among_cases}
use Rattle.lists.specs.LentLists.{Item, item_field, front_item, after_item, front_items, list_count, list_items, read_list, every_item}
use Rattle.lists.proofs.Items.{first-met, first-item-unmet, every-item-exactly, read-list-given, read-list-refused}
use Rattle.nlri.specs.Family.{family_bits}
use Rattle.nlri.proofs.Theorems.{lengths}
use Rattle.nlri.proofs.Definitions.Lengths.{family-good}
use Rattle.groups.specs.Prefixes.{good_prefix, good_item, read_prefixes}
use Rattle.groups.specs.Rules.ClassRule.{ClearPast, Prefix, GoodPrefixes, PrefixRefusal, too_many, ends_short, bad_prefix}
use Rattle.groups.proofs.Bits.{clear-bits}

-- a good prefix, of addresses of so many bits
record Good (bits : ℕ) (prefix : List ℕ) : Type 0 where
  front : ℕ
  address : List ℕ
  is : prefix ≡ front ∷ address
  sized : 8 * length address ≡ bits
  within : front ≤ bits
  clear : ClearPast front address

good-first : (bits n : ℕ) (address : List ℕ) → good_prefix bits (n ∷ address) ≡ true → Good bits (n ∷ address)
unfolding good_prefix
good-first bits n address h =
    let tests = both-held _ _ h in
    let rest = both-held _ _ tests.1 in
    let size = eqb-true (8 * length (n ∷ address)) (8 + bits) tests.0 in
    let within : n ≤ bits = leb-true _ _ rest.0 in
    record {
      front = n;
      address = address;
      is = refl;
      sized = omega arith;
      within = within;
      clear = λ i low high. (clear-bits (bits - n) n address).0 rest.1 i low (omega arith);
    }

good-there : (bits : ℕ) (prefix : List ℕ) → good_prefix bits prefix ≡ true → Good bits prefix
unfolding good_prefix
good-there bits [] h = let e : 0 ≡ 8 + bits = eqb-true 0 (8 + bits) (both-held _ _ h).0 in absurd (omega arith)
good-there bits (n ∷ address) h = good-first bits n address h

good-back : (bits n : ℕ) (address : List ℕ) → 8 * length address ≡ bits → n ≤ bits → ClearPast n address → good_prefix bits (n ∷ address) ≡ true
unfolding good_prefix
good-back bits n address size within clear =
    both_true _ _ (eq-eqb (8 * length (n ∷ address)) (8 + bits) (omega arith))
    (both_true _ _ (le-leb n bits within) ((clear-bits (bits - n) n address).1 (λ i low high. clear i low (omega arith))))

prefix-there : (afi bits : ℕ) → family_bits afi ≡ given bits → (prefix : List ℕ) → good_prefix bits prefix ≡ true → Prefix afi prefix
prefix-there afi bits of_family prefix h =
    let g = good-there bits prefix h in
    let size = g.sized in
    let within = g.within in
    subst (Prefix afi) (sym g.is)
    (⊎_elim
    (λ four. subst (λ (a : ℕ). Prefix a (g.front ∷ g.address)) (sym four.0) (Prefix.ipv4 (omega (arith, four.1)) (omega (arith, four.1)) g.clear))
    (λ six. subst (λ (a : ℕ). Prefix a (g.front ∷ g.address)) (sym six.0) (Prefix.ipv6 (omega (arith, six.1)) (omega (arith, six.1)) g.clear))
    ((lengths.families afi bits).0 of_family))

prefix_back : {afi : ℕ} {prefix : List ℕ} → Prefix afi prefix → (all : ℕ) → family_bits afi ≡ given all → good_prefix all prefix ≡ true
prefix_back (Prefix.ipv4 {bits} {address} size within clear) all of_family =
    let is : all ≡ 32 = ⊎_elim (λ four. four.1) (λ six. absurd (omega (arith, six.0))) ((lengths.families 1 all).0 of_family) in
    good-back all bits address (omega arith) (omega arith) clear
prefix_back (Prefix.ipv6 {bits} {address} size within clear) all of_family =
    let is : all ≡ 128 = ⊎_elim (λ four. absurd (omega (arith, four.0))) (λ six. six.1) ((lengths.families 2 all).0 of_family) in
    good-back all bits address (omega arith) (omega arith) clear

-- a list of items of one field gives such items
front-items-single : (count : ℕ) (s : List ℕ) (x : Item) → Among x (front_items 1 count s) → x ≡ item_field 0 x ∷ []
unfolding front_items front_item item_field
front-items-single zero s x m = absurd (among_none m)
front-items-single (suc count) s x m = ⊎_elim (λ e. rw e) (front-items-single count (after_item 1 s) x) (among_cases m)

read-list-single : (list : List ℕ) (items : List Item) → read_list 1 list ≡ given items → (x : Item) → Among x items → x ≡ item_field 0 x ∷ []
unfolding list_items
read-list-single list items e x m = front-items-single (list_count list) _ x (subst (Among x) (read-list-given 1 list items e) m)

pub item-among : (list : List ℕ) (items : List Item) → read_list 1 list ≡ given items → (x : Item) → Among x items → Among (item_field 0 x ∷ []) items
item-among list items read x m = subst (λ (y : Item). Among y items) (read-list-single list items read x m) m

-- a test of every item that fails, fails for one
not-every : (test : Item → Bool) (items : List Item) → every_item test items ≡ false → (x : Item) × Among x items × (test x ≡ false)
unfolding every_item
not-every test items h =
    ⊎_elim
    (λ p. let m = p.1 in (p.0, rw m.is (among-right m.before (first refl)), not-true _ m.met))
    (λ all. absurd (opposite (first-item-unmet (λ x. not (test x)) (λ x. false) true items all) h))
    (first-met (λ x. not (test x)) items)

module _ (afi bits : ℕ) (of_family : family_bits afi ≡ given bits) (p : List ℕ) where
  each-there : (items : List Item) → every_item (good_item bits) items ≡ true → (prefix : List ℕ) → Among (prefix ∷ []) items → Prefix afi prefix
  unfolding item_field
  each-there items h prefix m = prefix-there afi bits of_family prefix ((every-item-exactly (good_item bits) items).0 h (prefix ∷ []) m)

  each_back : (items : List Item) → read_list 1 p ≡ given items → ((prefix : List ℕ) → Among (prefix ∷ []) items → Prefix afi prefix) → every_item (good_item bits) items ≡ true
  each_back items read h = (every-item-exactly (good_item bits) items).1 (λ x m. prefix_back (h (item_field 0 x) (item-among p items read x m)) bits of_family)

  -- prefixes that are read
  pub prefixes-good : (items : List Item) → read_prefixes bits p ≡ given items → (good : GoodPrefixes afi p) × (good.items ≡ items)
  unfolding read_prefixes
  prefixes-good items e =
      let few = given-unless _ _ _ _ e in
      let list = passed _ _ _ few.1 in
      let every = given-unless _ _ _ _ list.second in
      (record { few = leb-true _ _ few.0; items = list.value; read = list.first; each = each-there list.value every.0 }, given-same every.1)

  pub good-prefixes : (good : GoodPrefixes afi p) → read_prefixes bits p ≡ given good.items
  unfolding read_prefixes
  good-prefixes good = pick_true _ _ _ (le-leb _ _ good.few) ∙ sym (and-goes-on _ _ _ _ good.read (sym (pick_true _ _ _ (each_back good.items good.read good.each))))

  -- and those that are refused
  pub prefixes-refused : (n : ℕ) → read_prefixes bits p ≡ refused n → PrefixRefusal afi p n
  unfolding read_prefixes
  prefixes-refused n e =
      ⊎_elim
      (λ yes.
      ⊎_elim
      (λ short. let is = read-list-refused 1 p n short in subst (PrefixRefusal afi p) (sym is) (ends_short (leb-true _ _ yes.0) (short ∙ ap refused is)))
      (λ l. ⊎_elim (λ good. absurd (never refl good.1))
      (λ bad. let x = not-every (good_item bits) l.value bad.0 in
      subst (PrefixRefusal afi p) (refused-same {A = List Item} bad.1)
      (bad_prefix (leb-true _ _ yes.0) l.value l.first (item_field 0 x.0) (item-among p l.value l.first x.0 x.1) (λ q. opposite (prefix_back q bits of_family) x.2)))
      (picked _ _ _ _ l.second))
      (stopped _ _ _ yes.1))
      (λ no. subst (PrefixRefusal afi p) (refused-same {A = List Item} no.1) (too_many (leb-false _ _ no.0)))
      (picked _ _ _ _ e)

  pub refused-prefixes : {n : ℕ} → PrefixRefusal afi p n → read_prefixes bits p ≡ refused n
  unfolding read_prefixes
  refused-prefixes (too_many h) = pick-false _ _ _ (lt-leb _ _ h)
  refused-prefixes (ends_short few e) = pick_true _ _ _ (le-leb _ _ few) ∙ sym (and-stops _ _ _ e)
  refused-prefixes (bad_prefix few items e prefix m bad) =
      pick_true _ _ _ (le-leb _ _ few) ∙ sym (and-goes-on _ _ _ _ e (sym (pick-false _ _ _ (is_false _ (λ t. bad (each-there items t prefix m))))))

-- prefixes are good or refused, and never both
pub prefixes-either : (afi : ℕ) → (afi ≡ 1) ⊎ (afi ≡ 2) → (p : List ℕ) {n : ℕ} → GoodPrefixes afi p → PrefixRefusal afi p n → ⊥
prefixes-either afi family p good r = let f = family-good afi family in never (good-prefixes afi f.0 f.1 p good) (refused-prefixes afi f.0 f.1 p r)
