-- The class of a group with prefixes (specs/Rules/ClassRule.antt).
use Prim.Native.Nat.{ℕ}
use mathlib.Core.Path.{◌≡◌, refl, sym, ◌∙◌, ap, subst}
use mathlib.Core.Bool.{true}
use mathlib.Core.List.{List, [], ◌∷◌}
use mathlib.Core.Logic.{◌↔◌, ◌⊎◌, inl, inr, ⊎_elim}
use native.Mathlib.Omega.{arith}
use borrow.Author.Tests.{eqb-true, eqb-false, eq-eqb, ne_eqb}
use lib.Dec.{eqb}
use lib.ListN.{length}
use Rattle.octets.specs.Numbers.{FLOW}
use Rattle.octets.specs.Choice.{pick}
use Rattle.octets.specs.Outcome.{Outcome, given, refused, on_outcome}
use Rattle.octets.specs.Rules.Answering.{Answering}
use Rattle.octets.specs.Lists.{Among}
use Rattle.octets.proofs.Choice.{pick_true, pick-false, picked, tested, opposite}
use Rattle.octets.proofs.Outcome.{never, given-same, refused-same, outcome, and-stops, and-goes-on, given-unless, passed, stopped}
use Rattle.octets.proofs.Answering.{answering}
use Rattle.octets.proofs.Among.{among_none}
use Rattle.octets.proofs.Lists.{empty-list}
use Rattle.lists.specs.LentLists.{Item, item_field, read_list, some_item}
use Rattle.lists.proofs.Items.{some-item-exactly}
use Rattle.nlri.specs.Family.{family_bits}
use Rattle.nlri.specs.Groups.{ASM, SSM, Multicast, SourceSpecific, class_under, class_of, group_of}
use Rattle.nlri.specs.Rules.NlriRules as Standard
use Rattle.nlri.proofs.Statements.Classes.{specific-multicast, group_rule as standard_rule}
use Rattle.nlri.proofs.Definitions.Lengths.{family-good, good-family}
use Rattle.nlri.proofs.Definitions.Families.{family-refused}
use Rattle.groups.specs.Prefixes.{holds_group, item_holds, read_prefixes}
use Rattle.groups.specs.Classes.{class_among, class_in, prefixes_under, class_by}
use Rattle.groups.specs.Rules.ClassRule.{Prefix, GoodPrefixes, UnderRefusal, other_family, refused_prefixes, HoldsGroup, Specific, by_standard, by_prefix, ClassRefusal, bad_family, bad_prefixes, bad_group, ClassTold, ssm, asm, ClassRule}
use Rattle.groups.proofs.Bits.{same_bits_lem}
use Rattle.groups.proofs.Prefixes.{item-among, prefixes-good, good-prefixes, prefixes-refused, refused-prefixes}
use Rattle.groups.proofs.Classes.{class-not-done}

-- a good prefix has a length in front, and holds a group bit by bit

prefix-front : {afi : ℕ} {prefix : List ℕ} → Prefix afi prefix → (bits : ℕ) × (address : List ℕ) × (prefix ≡ bits ∷ address)
prefix-front (Prefix.ipv4 {bits} {address} size within clear) = (bits, address, refl)
prefix-front (Prefix.ipv6 {bits} {address} size within clear) = (bits, address, refl)

holds-exactly : (bits : ℕ) (address g : List ℕ) → (holds_group (bits ∷ address) g ≡ true) ↔ HoldsGroup bits address g
unfolding holds_group
holds-exactly bits address g = same_bits_lem bits address g

-- the class by the standard range

standard-given : (bits class : ℕ) (g : List ℕ) → class_under bits g ≡ given class → (class ≡ SSM) ⊎ (class ≡ ASM)
unfolding class_under
standard-given bits class g e =
    let p = given-unless _ _ _ _ (given-unless _ _ _ _ e).1 in
    ⊎_elim (λ s. inl (sym (given-same s.1))) (λ a. inr (sym (given-same a.1))) (picked _ _ _ _ p.1)

standard-refused : (bits n : ℕ) (g : List ℕ) → class_under bits g ≡ refused n → n ≡ FLOW
unfolding class_under
standard-refused bits n g e =
    ⊎_elim
    (λ sized. ⊎_elim (λ multi. ⊎_elim (λ s. absurd (never refl s.1)) (λ a. absurd (never refl a.1)) (picked _ _ _ _ multi.1)) (λ other. sym (refused-same {A = ℕ} other.1)) (picked _ _ _ _ sized.1))
    (λ other. sym (refused-same {A = ℕ} other.1))
    (picked _ _ _ _ e)

pub multicast-family : {afi : ℕ} {g : List ℕ} → Multicast afi g → (afi ≡ 1) ⊎ (afi ≡ 2)
multicast-family (Multicast.ipv4 l low high) = inl refl
multicast-family (Multicast.ipv6 l h) = inr refl

multicast-taken : {afi : ℕ} {g : List ℕ} {n : ℕ} → Standard.GroupRefusal afi g n → Multicast afi g → ⊥
multicast-taken (Standard.bad_family one two) (Multicast.ipv4 l low high) = one refl
multicast-taken (Standard.bad_family one two) (Multicast.ipv6 l h) = two refl
multicast-taken (Standard.bad_group bits of_family none) m = none m

standard-under : (afi bits : ℕ) (g : List ℕ) → family_bits afi ≡ given bits → class_under bits g ≡ class_of afi g
unfolding class_of
standard-under afi bits g of_family = and-goes-on _ _ _ _ of_family refl

-- what a group's class says
pub record Classed (afi : ℕ) (p g : List ℕ) (class : ℕ) : Type 0 where
  pub multicast : Multicast afi g
  pub specific : (class ≡ SSM) ↔ Specific afi p g
  pub other : (class ≡ ASM) ↔ (Specific afi p g → ⊥)
  pub either : (class ≡ SSM) ⊎ (class ≡ ASM)

module _ (afi bits : ℕ) (of_family : family_bits afi ≡ given bits) (p : List ℕ) (items : List Item) (read : read_prefixes bits p ≡ given items) (g : List ℕ) where
  list-good : (good : GoodPrefixes afi p) × (good.items ≡ items)
  list-good = prefixes-good afi bits of_family p items read

  list_read : read_list 1 p ≡ given items
  list_read = list-good.0.read ∙ ap given list-good.1

  -- the standard class that a class comes from
  record From (class : ℕ) : Type 0 where
    standard : ℕ
    under : class_under bits g ≡ given standard
    is : class_among items g standard ≡ class

  from : (class : ℕ) → class_in bits items g ≡ given class → From class
  unfolding class_in
  from class e = let p = passed _ _ _ e in record { standard = p.value; under = p.first; is = given-same p.second }

  some-there : some_item (item_holds g) items ≡ true → Multicast afi g → Specific afi p g
  some-there h m =
      let x = (some-item-exactly (item_holds g) items).0 h in
      let among = item-among p items list_read x.0 x.1 in
      let f = prefix-front (list-good.0.each (item_field 0 x.0) (subst (Among _) (sym list-good.1) among)) in
      by_prefix items list_read f.0 f.1 (subst (λ (field : List ℕ). Among (field ∷ []) items) f.2 among)
      ((holds-exactly f.0 f.1 g).0 (ap (λ (field : List ℕ). holds_group field g) (sym f.2) ∙ x.2)) m

  some_back : Specific afi p g → (length items ≡ 0 → ⊥) → some_item (item_holds g) items ≡ true
  unfolding item_field
  some_back (by_standard e s) some = absurd (some (ap length (given-same (sym list_read ∙ e))))
  some_back (by_prefix rs e n address m h multi) some =
      (some-item-exactly (item_holds g) items).1 ((n ∷ address) ∷ [], subst (Among _) (given-same (sym e ∙ list_read)) m, (holds-exactly n address g).1 h)

  standard-back : Specific afi p g → length items ≡ 0 → SourceSpecific afi g
  standard-back (by_standard e s) none = s
  standard-back (by_prefix rs e n address m h multi) none = absurd (among_none (subst (Among _) (given-same (sym e ∙ list_read) ∙ empty-list items none) m))

  module _ (class : ℕ) (f : From class) where
    class-standard : class_of afi g ≡ given f.standard
    class-standard = sym (standard-under afi bits g of_family) ∙ f.under

    multi : Multicast afi g
    multi =
        ⊎_elim (λ s. specific-multicast ((standard_rule.ssm afi g).0 (class-standard ∙ ap given s))) (λ a. ((standard_rule.asm afi g).0 (class-standard ∙ ap given a)).0)
        (standard-given bits f.standard g f.under)

    -- none is given: the standard class
    by-none : length items ≡ 0 → Classed afi p g class
    unfolding class_among
    by-none none =
        let is : f.standard ≡ class = sym (pick_true _ _ _ (eq-eqb _ _ none)) ∙ f.is in
        let of-ssm : class ≡ SSM → SourceSpecific afi g = λ s. (standard_rule.ssm afi g).0 (class-standard ∙ ap given (is ∙ s)) in
        let nothing : read_list 1 p ≡ given [] = list_read ∙ ap given (empty-list items none) in
        record {
          multicast = multi;
          specific = (λ s. by_standard nothing (of-ssm s), λ s. sym is ∙ given-same (sym class-standard ∙ (standard_rule.ssm afi g).1 (standard-back s none)));
          other = (
            λ a s. ((standard_rule.asm afi g).0 (class-standard ∙ ap given (is ∙ a))).1 (standard-back s none),
            λ n. ⊎_elim (λ s. absurd (n (by_standard nothing (of-ssm (sym is ∙ s))))) (λ a. sym is ∙ a) (standard-given bits f.standard g f.under),
          );
          either = ⊎_elim (λ s. inl (sym is ∙ s)) (λ a. inr (sym is ∙ a)) (standard-given bits f.standard g f.under);
        }

    by-some : (length items ≡ 0 → ⊥) → Classed afi p g class
    unfolding class_among
    by-some some =
        let is : pick (some_item (item_holds g) items) SSM ASM ≡ class = sym (pick-false _ _ _ (ne_eqb _ _ some)) ∙ f.is in
        tested (some_item (item_holds g) items)
        (λ t. let k : class ≡ SSM = sym is ∙ pick_true _ _ _ t in
        record { multicast = multi; specific = (λ s. some-there t multi, λ s. k); other = (λ a. absurd (omega arith), λ n. absurd (n (some-there t multi))); either = inl k })
        (λ o. let k : class ≡ ASM = sym is ∙ pick-false _ _ _ o in
        record { multicast = multi; specific = (λ s. absurd (omega arith), λ s. absurd (opposite (some_back s some) o)); other = (λ a s. opposite (some_back s some) o, λ n. k); either = inr k })

  pub classed : (class : ℕ) → class_in bits items g ≡ given class → Classed afi p g class
  classed class e = let f = from class e in tested (eqb (length items) 0) (λ t. by-none class f (eqb-true _ _ t)) (λ o. by-some class f (eqb-false _ _ o))

  pub class-refused : (n : ℕ) → class_in bits items g ≡ refused n → (n ≡ FLOW) × (Multicast afi g → ⊥)
  unfolding class_in
  class-refused n e =
      ⊎_elim (λ r. (standard-refused bits n g r, multicast-taken ((standard_rule.refuses afi g n).0 (sym (standard-under afi bits g of_family) ∙ r)))) (λ l. absurd (never refl l.second)) (stopped _ _ _ e)

  pub multicast-classed : Multicast afi g → (class : ℕ) × (class_in bits items g ≡ given class)
  multicast-classed m = ⊎_elim (λ c. c) (λ n. absurd ((class-refused n.0 n.1).1 m)) (outcome (class_in bits items g))

  by-prefixes : class_by afi p g ≡ class_in bits items g
  unfolding class_by
  by-prefixes = sym (and-goes-on _ _ _ _ of_family (and-goes-on _ _ _ _ read refl))

pub specific-multi : {afi : ℕ} {p g : List ℕ} → Specific afi p g → Multicast afi g
specific-multi (by_standard e s) = specific-multicast s
specific-multi (by_prefix rs e n address m h multi) = multi

module _ (afi : ℕ) (p g : List ℕ) where
  -- a class comes from prefixes that are good
  record Known (class : ℕ) : Type 0 where
    good : GoodPrefixes afi p
    classed : Classed afi p g class

  known : (class : ℕ) → class_by afi p g ≡ given class → Known class
  unfolding class_by
  known class e =
      let f = passed _ _ _ e in
      let r = passed _ _ _ f.second in
      record { good = (prefixes-good afi f.value f.first p r.value r.first).0; classed = classed afi f.value f.first p r.value r.first g class r.second }

  -- and a multicast group has one
  pub has : GoodPrefixes afi p → Multicast afi g → (class : ℕ) × (class_by afi p g ≡ given class) × Classed afi p g class
  has good m =
      let f = family-good afi (multicast-family m) in
      let r = good-prefixes afi f.0 f.1 p good in
      let c = multicast-classed afi f.0 f.1 p good.items r g m in
      (c.0, by-prefixes afi f.0 f.1 p good.items r g ∙ c.1, classed afi f.0 f.1 p good.items r g c.0 c.1)

  refusal : (n : ℕ) → class_by afi p g ≡ refused n → ClassRefusal afi p g n
  unfolding class_by
  refusal n e =
      ⊎_elim
      (λ r. let q = family-refused afi n r in subst (ClassRefusal afi p g) (sym q.0) (bad_family q.1.0 q.1.1))
      (λ f.
      let family = good-family afi f.value f.first in
      ⊎_elim (λ r. bad_prefixes family (prefixes-refused afi f.value f.first p n r))
      (λ l.
      let c = class-refused afi f.value f.first p l.value l.first g n l.second in
      subst (ClassRefusal afi p g) (sym c.0) (bad_group family (prefixes-good afi f.value f.first p l.value l.first).0 c.1))
      (stopped _ _ _ f.second))
      (stopped _ _ _ e)

  refuses : {n : ℕ} → ClassRefusal afi p g n → class_by afi p g ≡ refused n
  unfolding class_by
  refuses (bad_family one two) =
      ⊎_elim (λ f. absurd (⊎_elim one two (good-family afi f.0 f.1))) (λ r. sym (and-stops _ _ _ r.1) ∙ ap refused (family-refused afi r.0 r.1).0) (outcome (family_bits afi))
  refuses (bad_prefixes family r) = let f = family-good afi family in sym (and-goes-on _ _ _ _ f.1 (and-stops _ _ _ (refused-prefixes afi f.0 f.1 p r)))
  refuses (bad_group family good none) =
      let f = family-good afi family in
      let r = good-prefixes afi f.0 f.1 p good in
      ⊎_elim (λ c. absurd (none (classed afi f.0 f.1 p good.items r g c.0 c.1).multicast))
      (λ n. sym (and-goes-on _ _ _ _ f.1 (and-goes-on _ _ _ _ r refl)) ∙ n.1 ∙ ap refused (class-refused afi f.0 f.1 p good.items r g n.0 n.1).0)
      (outcome (class_in f.0 good.items g))

-- prefixes by themselves

module _ (afi : ℕ) (p : List ℕ) where
  why-prefixes : (n : ℕ) → prefixes_under afi p ≡ refused n → UnderRefusal afi p n
  unfolding prefixes_under
  why-prefixes n e =
      ⊎_elim
      (λ r. let q = family-refused afi n r in subst (UnderRefusal afi p) (sym q.0) (other_family q.1.0 q.1.1))
      (λ f. refused_prefixes (good-family afi f.value f.first) (prefixes-refused afi f.value f.first p n f.second))
      (stopped _ _ _ e)

  prefixes-why : {n : ℕ} → UnderRefusal afi p n → prefixes_under afi p ≡ refused n
  unfolding prefixes_under
  prefixes-why (other_family one two) =
      ⊎_elim (λ f. absurd (⊎_elim one two (good-family afi f.0 f.1))) (λ r. sym (and-stops _ _ _ r.1) ∙ ap refused (family-refused afi r.0 r.1).0) (outcome (family_bits afi))
  prefixes-why (refused_prefixes family r) = let f = family-good afi family in sym (and-goes-on _ _ _ _ f.1 (sym (refused-prefixes afi f.0 f.1 p r)))

  prefixes-under : ((items : List Item) × (prefixes_under afi p ≡ given items)) ↔ (((afi ≡ 1) ⊎ (afi ≡ 2)) × GoodPrefixes afi p)
  unfolding prefixes_under
  prefixes-under = (
    λ g. let f = passed _ _ _ g.1 in (good-family afi f.value f.first, (prefixes-good afi f.value f.first p g.0 f.second).0),
    λ x. let f = family-good afi x.0 in (x.1.items, sym (and-goes-on _ _ _ _ f.1 (sym (good-prefixes afi f.0 f.1 p x.1)))),
  )

-- the class told, by what is stated of it

class-told : (afi : ℕ) (p g : List ℕ) (class : ℕ) → class_by afi p g ≡ given class → ClassTold afi p g class
class-told afi p g class e =
    let k = known afi p g class e in
    ⊎_elim (λ s. subst (ClassTold afi p g) (sym s) (ssm k.good (k.classed.specific.0 s))) (λ a. subst (ClassTold afi p g) (sym a) (asm k.good k.classed.multicast (k.classed.other.0 a)))
    k.classed.either

told-class : (afi : ℕ) (p g : List ℕ) (class : ℕ) → ClassTold afi p g class → class_by afi p g ≡ given class
told-class afi p g class (ssm good s) = let c = has afi p g good (specific-multi s) in c.1 ∙ ap given (c.2.specific.1 s)
told-class afi p g class (asm good m other) = let c = has afi p g good m in c.1 ∙ ap given (c.2.other.1 other)

answers : (afi : ℕ) (p g : List ℕ)
    → Answering (group_of (class_by afi p g)).number (ClassRefusal afi p g) (ClassTold afi p g (group_of (class_by afi p g)).group_class) ((group_of (class_by afi p g)).group_class ≡ 0)
unfolding group_of on_outcome
answers afi p g =
    answering (class_by afi p g) _ (ClassRefusal afi p g) refl (λ n. (refusal afi p g n, refuses afi p g)) (λ why. class-not-done afi p g 0 (refuses afi p g why) refl) _ _
    (λ class e. subst (λ (o : Outcome ℕ). ClassTold afi p g (group_of o).group_class) (sym e) (class-told afi p g class e))
    (λ t. (_, told-class afi p g _ t))
    (λ n e. ap (λ (o : Outcome ℕ). (group_of o).group_class) e)

pub class_rule : ClassRule
class_rule = record { prefixes_refused = λ afi p n. (why-prefixes afi p n, prefixes-why afi p); prefixes_given = prefixes-under; refuses = λ afi p g n. (refusal afi p g n, refuses afi p g); gives = λ afi p g class. (class-told afi p g class, told-class afi p g class); answers = answers }
