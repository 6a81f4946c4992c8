-- Laws of `class_by`: what it comes to where no prefix is given, and by `class_along` and `class_within`, which mirror the functions, where one is.
use Prim.Native.Nat.{ℕ, ◌*◌, ◌/◌, ◌≤◌, ◌<◌}
use mathlib.Core.Path.{◌≡◌, refl, sym, ◌∙◌, ap, ap₂}
use mathlib.Core.Bool.{Bool, true, false}
use mathlib.Core.List.{List, [], ◌∷◌}
use native.Mathlib.Omega.{arith}
use borrow.Author.Tests.{eqb-true, eq-eqb, ne_eqb, le-leb, lt-leb}
use lib.Dec.{eqb, leb}
use lib.ListN.{length, drop}
use Rattle.octets.specs.Numbers.{DONE, SHORT, RANGE}
use Rattle.octets.specs.Choice.{pick, both}
use Rattle.octets.specs.Outcome.{Outcome, given, refused, and_then, number_of}
use Rattle.octets.proofs.Choice.{pick_true, pick-false, pick-cong, tested, both-held, both_left, both-last}
use Rattle.octets.proofs.Outcome.{number-stops, number-goes, Refuses, value, number, refuses-pick, refuses-then, refuses-by, and_assoc, and-given, and-refused, and-cong, and-pick, and-goes-on, and-stops, given-unless}
use Rattle.lists.specs.LentLists.{Item, item_field, front_items, whole_items, list_count, whole_list, list_items, read_list, first_item, every_item, some_item}
use Rattle.lists.proofs.Items.{read-list-given, list-items-count}
use Rattle.lists.proofs.Along.{turned, ended}
use Rattle.nlri.specs.Family.{family_bits}
use Rattle.nlri.specs.Groups.{ASM, SSM, class_under, class_of}
use Rattle.nlri.proofs.Definitions.Lengths.{family-octets}
use Rattle.groups.specs.Prefixes.{MOST_PREFIXES, good_prefix, holds_group, good_item, item_holds, read_prefixes}
use Rattle.groups.specs.Classes.{class_among, class_in, prefixes_under, class_by}
use Rattle.groups.specs.Inner.{none_given, holds_sized, class_along, class_within}

-- no refusal is DONE

abbrev NotDone : ℕ → Type 0
NotDone n = n ≡ DONE → ⊥

list-refuses : (p : List ℕ) → Refuses NotDone (read_list 1 p)
unfolding read_list
list-refuses p = refuses-pick _ _ _ value (number (λ e. omega arith))

prefixes-refuse : (bits : ℕ) (p : List ℕ) → Refuses NotDone (read_prefixes bits p)
unfolding read_prefixes
prefixes-refuse bits p = refuses-pick _ _ _ (refuses-then _ _ (list-refuses p) (λ items. refuses-pick _ _ _ value (number (λ e. omega arith)))) (number (λ e. omega arith))

class-by-refuses : (afi : ℕ) (p g : List ℕ) → Refuses NotDone (class_by afi p g)
unfolding class_by class_in class_under family_bits
class-by-refuses afi p g =
    refuses-then _ _ (refuses-pick _ _ _ value (refuses-pick _ _ _ value (number (λ e. omega arith))))
    (λ bits. refuses-then _ _ (prefixes-refuse bits p)
    (λ items. refuses-then _ _ (refuses-pick _ _ _ (refuses-pick _ _ _ (refuses-pick _ _ _ value value) (number (λ e. omega arith))) (number (λ e. omega arith))) (λ standard. value)))

pub class-not-done : (afi : ℕ) (p g : List ℕ) (n : ℕ) → class_by afi p g ≡ refused n → n ≡ DONE → ⊥
class-not-done afi p g n e = refuses-by _ n (class-by-refuses afi p g) e

-- no prefix is given

pub none-short : (p : List ℕ) → length p < 2 → false ≡ none_given p
unfolding none_given
none-short p h = sym (both_left _ _ (lt-leb 2 (length p) h))

pub none-counted : (p : List ℕ) → 2 ≤ length p → (count : ℕ) → count ≡ list_count p → eqb count 0 ≡ none_given p
unfolding none_given
none-counted p h count e = both-last _ _ _ (le-leb 2 (length p) h) (ap (λ (n : ℕ). eqb n 0) e)

none-count : (p : List ℕ) → none_given p ≡ true → (leb 2 (length p) ≡ true) × (list_count p ≡ 0)
unfolding none_given
none-count p h = let t = both-held _ _ h in (t.0, eqb-true _ _ t.1)

none_read : (bits : ℕ) (p : List ℕ) → none_given p ≡ true → read_prefixes bits p ≡ given []
unfolding read_prefixes read_list whole_list list_items whole_items front_items every_item first_item and_then pick both
none_read bits p h =
    let two : leb 2 (length p) ≡ true = (none-count p h).0 in
    let none : list_count p ≡ 0 = (none-count p h).1 in
    let few : leb (list_count p) MOST_PREFIXES ≡ true = le-leb (list_count p) MOST_PREFIXES (omega (arith, none)) in
    rw (few, two, none)

and-itself : (o : Outcome ℕ) → and_then o given ≡ o
unfolding and_then
and-itself (given a) = refl
and-itself (refused n) = refl

none_in : (bits : ℕ) (g : List ℕ) → class_in bits [] g ≡ class_under bits g
unfolding class_in class_among pick
none_in bits g = and-itself (class_under bits g)

pub none-by : (afi : ℕ) (p g : List ℕ) (flag : Bool) → flag ≡ none_given p → flag ≡ true → class_of afi g ≡ class_by afi p g
unfolding class_by class_of
none-by afi p g flag e h = and-cong (family_bits afi) _ _ (λ bits f. and-goes-on _ _ _ _ (none_read bits p (sym e ∙ h)) (sym (none_in bits g)))

-- one after the other

module _ (size : ℕ) (g : List ℕ) (class : ℕ) {all : Outcome ℕ} {items : List Item} (so_far : all ≡ class_along size g class items) where
  module _ {x : Item} {rest : List Item} (here : items ≡ x ∷ rest) (prefix : List ℕ) (is : prefix ≡ item_field 0 x) (good : Bool) (judged : good ≡ good_prefix (8 * size) prefix) where
    pub along-stop : good ≡ false → refused RANGE ≡ all
    unfolding class_along
    along-stop bad = sym (turned (class_along size g class) so_far here _ (pick-false _ _ _ (ap (good_prefix (8 * size)) (sym is) ∙ sym judged ∙ bad)))

    module _ (well : good ≡ true) (held : Bool) (told : held ≡ holds_sized size prefix g) where
      past : all ≡ class_along size g (pick held SSM class) rest
      unfolding class_along
      past =
          turned (class_along size g class) so_far here _
          (pick_true _ _ _ (ap (good_prefix (8 * size)) (sym is) ∙ sym judged ∙ well) ∙ ap (λ (b : Bool). class_along size g (pick b SSM class) rest) (ap (λ (f : List ℕ). holds_sized size f g) (sym is) ∙ sym told))

      pub along-held : held ≡ true → all ≡ class_along size g SSM rest
      along-held h = past ∙ ap (λ (k : ℕ). class_along size g k rest) (pick_true _ _ _ h)

      pub along-other : held ≡ false → all ≡ class_along size g class rest
      along-other h = past ∙ ap (λ (k : ℕ). class_along size g k rest) (pick-false _ _ _ h)

  pub along-last : items ≡ [] → given class ≡ all
  unfolding class_along
  along-last end = sym (ended (class_along size g class) so_far end)

-- a class told before counts where none of the rest holds the group
told-so-far : (here rest : Bool) (class : ℕ) → pick rest SSM (pick here SSM class) ≡ pick (pick here true rest) SSM class
unfolding pick
told-so-far true true class = refl
told-so-far true false class = refl
told-so-far false rest class = refl

along-is : (size : ℕ) (g : List ℕ) (class : ℕ) (items : List Item)
    → class_along size g class items ≡ pick (every_item (good_item (8 * size)) items) (given (pick (some_item (λ x. holds_sized size (item_field 0 x) g) items) SSM class)) (refused RANGE)
unfolding class_along every_item some_item first_item pick
along-is size g class [] = refl
along-is size g class (x ∷ xs) =
    let later : Bool = some_item (λ y. holds_sized size (item_field 0 y) g) xs in
    tested (good_item (8 * size) x)
    (λ t. pick_true _ _ _ t ∙ along-is size g (pick (holds_sized size (item_field 0 x) g) SSM class) xs
    ∙ rw t (ap (λ (n : ℕ). pick (every_item (good_item (8 * size)) xs) (given n) (refused RANGE)) (told-so-far (holds_sized size (item_field 0 x) g) later class)))
    (λ f. pick-false _ _ _ f ∙ rw f)

-- of a group of the prefixes' size

sized-alike : (size : ℕ) (g prefix : List ℕ) → length g ≡ size → holds_sized size prefix g ≡ holds_group prefix g
unfolding holds_sized
sized-alike size g prefix sized = sym (both-last _ _ _ (eq-eqb _ _ sized) refl)

holds-alike : (size : ℕ) (g : List ℕ) → length g ≡ size → (items : List Item) → some_item (λ x. holds_sized size (item_field 0 x) g) items ≡ some_item (item_holds g) items
unfolding some_item first_item
holds-alike size g sized [] = refl
holds-alike size g sized (x ∷ xs) = ap₂ (λ (here later : Bool). pick here true later) (sized-alike size g (item_field 0 x) sized) (holds-alike size g sized xs)

-- the class under a family
module _ (afi size : ℕ) (of_family : family_bits afi ≡ given (8 * size)) (p g : List ℕ) where
  -- the class that the prefixes tell counts where there are any
  where-given : (class standard : ℕ) → ℕ
  where-given class standard = pick (eqb (list_count p) 0) standard class

  among-told : (items : List Item) → read_list 1 p ≡ given items → length g ≡ size → (standard : ℕ)
      → class_among items g standard ≡ where-given (pick (some_item (λ x. holds_sized size (item_field 0 x) g) items) SSM ASM) standard
  unfolding class_among where-given
  among-told items read sized standard =
      ap₂ (λ (n : ℕ) (b : Bool). pick (eqb n 0) standard (pick b SSM ASM)) (ap length (read-list-given 1 p items read) ∙ list-items-count 1 p) (sym (holds-alike size g sized items))

  group-sized : (standard : ℕ) → class_under (8 * size) g ≡ given standard → length g ≡ size
  unfolding class_under
  group-sized standard e = let sized : length g ≡ 8 * size / 8 = eqb-true _ _ (given-unless _ _ _ _ e).0 in omega arith

  among-is : (items : List Item) → read_list 1 p ≡ given items
      → class_in (8 * size) items g ≡ and_then (class_of afi g) (λ standard. given (where-given (pick (some_item (λ x. holds_sized size (item_field 0 x) g) items) SSM ASM) standard))
  unfolding class_in class_of
  among-is items read =
      and-cong (class_under (8 * size) g) _ _ (λ standard e. ap given (among-told items read (group-sized standard e) standard))
      ∙ ap (λ (o : Outcome ℕ). and_then o (λ standard. given (where-given (pick (some_item (λ x. holds_sized size (item_field 0 x) g) items) SSM ASM) standard))) (and-goes-on _ _ _ _ of_family refl)

  -- prefixes read and then the class, in one pass over them
  pass-is : (items : List Item) → read_list 1 p ≡ given items
      → and_then (pick (every_item (good_item (8 * size)) items) (given items) (refused RANGE)) (λ xs. class_in (8 * size) xs g)
      ≡ and_then (class_along size g ASM items) (λ class. and_then (class_of afi g) (λ standard. given (where-given class standard)))
  pass-is items read =
      and-pick _ _ _ _
      ∙ pick-cong _ _ _ _ _ (λ good. and-given _ _ ∙ among-is items read ∙ sym (and-given _ _)) (λ bad. and-refused _ _ ∙ sym (and-refused _ _))
      ∙ sym (and-pick _ _ _ _)
      ∙ ap (λ (o : Outcome ℕ). and_then o (λ class. and_then (class_of afi g) (λ standard. given (where-given class standard)))) (sym (along-is size g ASM items))

  within-is : class_by afi p g ≡ and_then (class_within size p g) (λ class. and_then (class_of afi g) (λ standard. given (where-given class standard)))
  unfolding class_by class_within read_prefixes
  within-is =
      sym (and-goes-on _ _ _ _ of_family refl)
      ∙ and-pick _ _ _ _
      ∙ pick-cong _ _ _ _ _ (λ few. and_assoc (read_list 1 p) _ _ ∙ and-cong (read_list 1 p) _ _ pass-is ∙ sym (and_assoc (read_list 1 p) _ _)) (λ many. and-refused _ _ ∙ sym (and-refused _ _))
      ∙ sym (and-pick _ _ _ _)

  -- what is answered: a refusal by the prefixes, then one by the group, then the standard class, or where prefixes are given the one that they tell
  pub class-prefixes : (n : ℕ) → refused n ≡ class_within size p g → refused n ≡ class_by afi p g
  class-prefixes n e = and-stops _ _ _ (sym e) ∙ sym within-is

  module _ (told : ℕ) (is : given told ≡ class_within size p g) where
    by-standard : class_by afi p g ≡ and_then (class_of afi g) (λ k. given (where-given told k))
    by-standard = within-is ∙ sym (and-goes-on _ _ _ _ (sym is) refl)

    pub class-flow : (n : ℕ) → refused n ≡ class_of afi g → refused n ≡ class_by afi p g
    class-flow n e = and-stops _ _ _ (sym e) ∙ sym by-standard

    module _ (standard : ℕ) (classed : given standard ≡ class_of afi g) (count : ℕ) (counted : count ≡ list_count p) where
      by_count : class_by afi p g ≡ given (where-given told standard)
      by_count = by-standard ∙ sym (and-goes-on _ _ _ _ (sym classed) refl)

      pub class-standard : count ≡ 0 → given standard ≡ class_by afi p g
      unfolding where-given
      class-standard none = sym (by_count ∙ ap given (pick_true _ _ _ (eq-eqb _ _ (sym counted ∙ none))))

      pub class-told : (count ≡ 0 → ⊥) → given told ≡ class_by afi p g
      unfolding where-given
      class-told some = sym (by_count ∙ ap given (pick-false _ _ _ (ne_eqb _ _ (λ e. some (counted ∙ e)))))

-- the number of prefixes by themselves

along-number : (size : ℕ) (g : List ℕ) (items : List Item) → number_of (class_along size g ASM items) ≡ number_of (pick (every_item (good_item (8 * size)) items) (given items) (refused RANGE))
unfolding pick number_of
along-number size g items = ap number_of (along-is size g ASM items) ∙ tested (every_item (good_item (8 * size)) items) (λ t. rw t) (λ f. rw f)

then-number : {A B C : Type 0} (o : Outcome A) (f : A → Outcome B) (h : A → Outcome C) → ((a : A) → number_of (f a) ≡ number_of (h a)) → number_of (and_then o f) ≡ number_of (and_then o h)
unfolding and_then number_of
then-number (given a) f h e = e a
then-number (refused n) f h e = refl

within-number : (size : ℕ) (p g : List ℕ) → number_of (class_within size p g) ≡ number_of (read_prefixes (8 * size) p)
unfolding class_within read_prefixes pick number_of
within-number size p g =
    tested (leb (list_count p) MOST_PREFIXES) (λ t. rw t (then-number (read_list 1 p) _ _ (along-number size g))) (λ f. rw f)

pub under-family : (afi : ℕ) (p : List ℕ) (n : ℕ) → family_bits afi ≡ refused n → n ≡ number_of (prefixes_under afi p)
unfolding prefixes_under
under-family afi p n e = number-stops n _ _ e

pub under-refused : (afi size : ℕ) (p g : List ℕ) → family_bits afi ≡ given (8 * size) → (n : ℕ) → refused n ≡ class_within size p g → n ≡ number_of (prefixes_under afi p)
unfolding prefixes_under number_of
under-refused afi size p g e n is = number-goes _ _ _ _ e (ap number_of is ∙ within-number size p g)

pub under-given : (afi size : ℕ) (p g : List ℕ) → family_bits afi ≡ given (8 * size) → (class : ℕ) → given class ≡ class_within size p g → DONE ≡ number_of (prefixes_under afi p)
unfolding prefixes_under number_of
under-given afi size p g e class is = number-goes _ _ _ _ e (ap number_of is ∙ within-number size p g)

-- the number of a list of prefixes, and each of them in turn
module _ (size : ℕ) (p g : List ℕ) (count : ℕ) (told : count ≡ list_count p) where
  pub within-many : MOST_PREFIXES < count → refused RANGE ≡ class_within size p g
  unfolding class_within
  within-many h = sym (pick-false _ _ _ (lt-leb (list_count p) MOST_PREFIXES (omega arith)))

  module _ (few : count ≤ MOST_PREFIXES) where
    within-few : class_within size p g ≡ and_then (read_list 1 p) (λ items. class_along size g ASM items)
    unfolding class_within
    within-few = pick_true _ _ _ (le-leb (list_count p) MOST_PREFIXES (omega arith))

    pub within-short : whole_list 1 p ≡ false → refused SHORT ≡ class_within size p g
    unfolding read_list
    within-short h = and-stops _ _ _ (pick-false _ _ _ h) ∙ sym within-few

    pub within-along : whole_list 1 p ≡ true → class_along size g ASM (list_items 1 p) ≡ class_within size p g
    unfolding read_list
    within-along h = and-goes-on _ _ _ _ (pick_true _ _ _ h) refl ∙ sym within-few

-- FAMILY first
pub family-told : (afi bits : ℕ) → family_bits afi ≡ given bits → (size : ℕ) → size ≡ bits / 8 → family_bits afi ≡ given (8 * size)
family-told afi bits of_family size e = of_family ∙ ap given (let all : bits ≡ 8 * size = omega (arith, (family-octets afi bits of_family).0) in all)

pub class-family : (afi : ℕ) (p g : List ℕ) (n : ℕ) → refused n ≡ family_bits afi → refused n ≡ class_by afi p g
unfolding class_by
class-family afi p g n e = and-stops _ _ _ (sym e)

-- the whole of each slice
pub whole_by : (afi : ℕ) (p q g k : List ℕ) → q ≡ drop 0 p → k ≡ drop 0 g → class_by afi q k ≡ class_by afi p g
whole_by afi p q g k e f = ap₂ (class_by afi) e f
