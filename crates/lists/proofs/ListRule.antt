-- A list is accepted exactly when it begins with the encoding of its items, and SHORT exactly when it ends before they do.
use Prim.Native.Nat.{ℕ, zero, suc, ◌+◌, ◌*◌, ◌≤◌, ◌<◌}
use mathlib.Core.Path.{◌≡◌, refl, sym, ◌∙◌, ap, ap₂, subst}
use mathlib.Core.Bool.{true}
use mathlib.Core.List.{List, [], ◌∷◌, ◌++◌, append_assoc, append-nil}
use mathlib.Core.Logic.{◌⊎◌, inl, inr, ⊎_elim}
use native.Mathlib.Nat.{mul-le-mul}
use native.Mathlib.Omega.{arith}
use borrow.Author.Tests.{leb-true, leb-false, le-leb, lt-leb}
use lib.ListN.{length, take, drop, replicate, length-append, length-drop, length-replicate, take-append-drop}
use lib.Seq.{take_at, drop_at, take-append_seam, take-append-le}
use lib.Dec.{leb}
use Rattle.octets.specs.Numbers.{SHORT}
use Rattle.octets.specs.Outcome.{given, refused}
use Rattle.octets.specs.Octets.{AllOctets, part, big_endian}
use Rattle.octets.proofs.AllOctets.{octets-take, octets-drop, octets-append, octets-zeros}
use Rattle.octets.proofs.Choice.{tested, pick_true, pick-false, both_true, both-held}
use Rattle.octets.proofs.Lists.{length_part, take-then}
use Rattle.octets.proofs.NetworkOrder.{length-big_endian, number-of-big-endian, part-number, part-fits}
use Rattle.octets.proofs.Outcome.{never, given-same, given-unless, refuses-unless}
use Rattle.lists.specs.LentLists.{Item, front_number, front_field, after_field, whole_field, front_item, after_item, whole_item, front_items, whole_items, list_count, whole_list, list_items, read_list}
use Rattle.lists.specs.Encoding.{encode_item_field, encode_item, encode_items, encode_list, FieldsFit, none, one, ItemsFit}
use Rattle.lists.specs.Rules.ListRule.{Begins, CutShort, ListRule}
use Rattle.lists.proofs.Fields.{whole-items-flat}

-- the number in two octets
front-number-octets : (s : List ℕ) → AllOctets s → 2 ≤ length s → big_endian 2 (front_number s) ≡ take 2 s
unfolding front_number part
front-number-octets s a h = part-number a 0 2 h

front-number-fits : (s : List ℕ) → AllOctets s → 2 ≤ length s → front_number s < 65536
unfolding front_number part
front-number-fits s a h = omega (arith, part-fits a 0 2 h)

front-number-of : (n : ℕ) (t : List ℕ) → n < 65536 → front_number (big_endian 2 n ++ t) ≡ n
unfolding front_number
front-number-of n t h = rw (take_at (big_endian 2 n) t 2 (length-big_endian 2 n)) (number-of-big-endian 2 n (omega arith))

-- what is whole is the encoding of what is read of it
module _ (s : List ℕ) (a : AllOctets s) (h : whole_field s ≡ true) where
  whole-field-fits : 2 + front_number s ≤ length s
  unfolding whole_field
  whole-field-fits = leb-true _ _ h

  length-front-field : length (front_field s) ≡ front_number s
  unfolding front_field
  length-front-field = length_part s 2 (front_number s) whole-field-fits

  front-field-fits : length (front_field s) < 65536
  front-field-fits = omega (arith, length-front-field, whole-field-fits, front-number-fits s a (omega (arith, whole-field-fits)))

  field-encoded : s ≡ encode_item_field (front_field s) ++ after_field s
  unfolding encode_item_field front_field after_field
  field-encoded =
      sym (rw (length-front-field, front-number-octets s a (omega (arith, whole-field-fits)), ← take-then s 2 (front_number s)) (take-append-drop (2 + front_number s) s))

after-field-octets : (s : List ℕ) → AllOctets s → AllOctets (after_field s)
unfolding after_field
after-field-octets s a = octets-drop (2 + front_number s) a

after-item-octets : (k : ℕ) (s : List ℕ) → AllOctets s → AllOctets (after_item k s)
unfolding after_item
after-item-octets zero s a = a
after-item-octets (suc k) s a = after-item-octets k (after_field s) (after-field-octets s a)

item-encoded : (k : ℕ) (s : List ℕ) → AllOctets s → whole_item k s ≡ true → (s ≡ encode_item (front_item k s) ++ after_item k s) × FieldsFit (front_item k s) × (length (front_item k s) ≡ k)
unfolding whole_item front_item after_item encode_item
item-encoded zero s a h = (refl, none, refl)
item-encoded (suc k) s a h =
    let w = both-held _ _ h in
    let later = item-encoded k (after_field s) (after-field-octets s a) w.1 in (
      field-encoded s a w.0 ∙ ap (λ (t : List ℕ). encode_item_field (front_field s) ++ t) later.0 ∙ sym (append_assoc (encode_item_field (front_field s)) _ _),
      one {f = front_field s} (front-field-fits s a w.0) later.1,
      ap suc later.2,
    )

items-encoded : (k n : ℕ) (s : List ℕ) → AllOctets s → whole_items k n s ≡ true
    → (rest : List ℕ) × (s ≡ encode_items (front_items k n s) ++ rest) × ItemsFit k (front_items k n s) × (length (front_items k n s) ≡ n)
unfolding whole_items front_items encode_items
items-encoded k zero s a h = (s, refl, none, refl)
items-encoded k (suc n) s a h =
    let w = both-held _ _ h in
    let here = item-encoded k s a w.0 in
    let later = items-encoded k n (after_item k s) (after-item-octets k s a) w.1 in (
      later.0,
      here.0 ∙ ap (λ (t : List ℕ). encode_item (front_item k s) ++ t) later.1 ∙ sym (append_assoc (encode_item (front_item k s)) _ _),
      one here.2 here.1 later.2,
      ap suc later.3,
    )

list-count-some : (list : List ℕ) → 2 ≤ length list → list_count list ≡ front_number list
unfolding list_count
list-count-some list h = pick_true _ _ _ (le-leb _ _ h)

begins : (k : ℕ) (list : List ℕ) → AllOctets list → whole_list k list ≡ true → Begins k list (list_items k list)
unfolding whole_list list_items encode_list
begins k list a h =
    let w = both-held _ _ h in
    let two : 2 ≤ length list = leb-true _ _ w.0 in
    let b = items-encoded k (list_count list) (drop 2 list) (octets-drop 2 a) w.1 in
    let count : length (list_items k list) ≡ front_number list = b.3 ∙ list-count-some list two in
    record {
      listable = record { count = omega (arith, count, front-number-fits list a two); each = b.2 };
      rest = b.0;
      is =
          sym (take-append-drop 2 list)
          ∙ ap₂ (λ (x y : List ℕ). x ++ y) (sym (front-number-octets list a two) ∙ ap (big_endian 2) (sym count)) b.1
          ∙ sym (append_assoc (big_endian 2 (length (list_items k list))) _ _);
    }

sound : (k : ℕ) (list : List ℕ) (items : List Item) → AllOctets list → read_list k list ≡ given items → Begins k list items
unfolding read_list
sound k list items a e = let w = given-unless _ _ _ _ e in subst (Begins k list) (given-same w.1) (begins k list a w.0)

-- what is read of an encoding, whatever follows it
module _ (f t : List ℕ) (h : length f < 65536) where
  front-number-encoded : front_number (encode_item_field f ++ t) ≡ length f
  unfolding encode_item_field
  front-number-encoded = rw (append_assoc (big_endian 2 (length f)) f t) (front-number-of (length f) (f ++ t) h)

  length-encoded : length (encode_item_field f) ≡ 2 + length f
  unfolding encode_item_field
  length-encoded = rw (length-append, length-big_endian)

  front-field-encoded : front_field (encode_item_field f ++ t) ≡ f
  unfolding front_field encode_item_field part
  front-field-encoded =
      rw (front-number-encoded, append_assoc (big_endian 2 (length f)) f t, drop_at (big_endian 2 (length f)) (f ++ t) 2 (length-big_endian 2 (length f))) (take-append_seam f t)

  after-field-encoded : after_field (encode_item_field f ++ t) ≡ t
  unfolding after_field
  after-field-encoded = rw front-number-encoded (drop_at (encode_item_field f) t (2 + length f) length-encoded)

  whole-field-encoded : whole_field (encode_item_field f ++ t) ≡ true
  unfolding whole_field
  whole-field-encoded = rw front-number-encoded (le-leb (2 + length f) (length (encode_item_field f ++ t)) (omega (arith, length-append (encode_item_field f) t, length-encoded)))

item-read : {x : Item} → FieldsFit x → (t : List ℕ)
    → (front_item (length x) (encode_item x ++ t) ≡ x) × (after_item (length x) (encode_item x ++ t) ≡ t) × (whole_item (length x) (encode_item x ++ t) ≡ true)
unfolding front_item after_item whole_item encode_item
item-read none t = (refl, refl, refl)
item-read (one {f} {fs} h r) t =
    let later = item-read r t in
    let x : List ℕ = encode_item fs ++ t in
    let split : (encode_item_field f ++ encode_item fs) ++ t ≡ encode_item_field f ++ x = append_assoc (encode_item_field f) (encode_item fs) t in
    let past : after_field (encode_item_field f ++ x) ≡ x = after-field-encoded f x h in (
      rw (split, front-field-encoded f x h, past, later.0),
      ap (after_item (length (f ∷ fs))) split ∙ ap (after_item (length fs)) past ∙ later.1,
      ap (whole_item (length (f ∷ fs))) split ∙ both_true _ _ (whole-field-encoded f x h) (ap (whole_item (length fs)) past ∙ later.2),
    )

items-read : {k : ℕ} {xs : List Item} → ItemsFit k xs → (t : List ℕ) → (front_items k (length xs) (encode_items xs ++ t) ≡ xs) × (whole_items k (length xs) (encode_items xs ++ t) ≡ true)
unfolding front_items whole_items encode_items
items-read none t = (refl, refl)
items-read {k} (one {x} {xs} e f r) t =
    let y : List ℕ = encode_items xs ++ t in
    let here = item-read f y in
    let later = items-read r t in
    let split : (encode_item x ++ encode_items xs) ++ t ≡ encode_item x ++ y = append_assoc (encode_item x) (encode_items xs) t in
    let front : front_item k (encode_item x ++ y) ≡ x = rw (← e) here.0 in
    let past : after_item k (encode_item x ++ y) ≡ y = rw (← e) here.1 in
    let whole : whole_item k (encode_item x ++ y) ≡ true = rw (← e) here.2 in (
      rw (split, front, past, later.0),
      rw (split, past) (both_true _ _ whole later.1),
    )

list-count-of : (n : ℕ) (t : List ℕ) → n < 65536 → list_count (big_endian 2 n ++ t) ≡ n
list-count-of n t h = list-count-some (big_endian 2 n ++ t) (omega (arith, length-append (big_endian 2 n) t, length-big_endian 2 n)) ∙ front-number-of n t h

complete : (k : ℕ) (list : List ℕ) (items : List Item) → Begins k list items → read_list k list ≡ given items
unfolding read_list whole_list list_items encode_list
complete k list items b =
    let n : ℕ = length items in
    let t : List ℕ = encode_items items ++ b.rest in
    let is : list ≡ big_endian 2 n ++ t = b.is ∙ append_assoc (big_endian 2 n) (encode_items items) b.rest in
    let two : 2 ≤ length list = rw is (omega (arith, length-append (big_endian 2 n) t, length-big_endian 2 n)) in
    let count : list_count list ≡ n = ap list_count is ∙ list-count-of n t b.listable.count in
    let later : drop 2 list ≡ t = ap (drop 2) is ∙ drop_at (big_endian 2 n) t 2 (length-big_endian 2 n) in
    let read = items-read b.listable.each b.rest in
    let whole : whole_list k list ≡ true = both_true _ _ (le-leb _ _ two) (ap₂ (λ (m : ℕ) (l : List ℕ). whole_items k m l) count later ∙ read.1) in
    pick_true _ _ _ whole ∙ ap given (ap₂ (λ (m : ℕ) (l : List ℕ). front_items k m l) count later ∙ read.0)

-- a list that is long enough is whole: a field has at most 65,537 octets
whole-item-long : (n : ℕ) (s : List ℕ) → AllOctets s → n * 65537 ≤ length s → whole_item n s ≡ true
unfolding whole_item whole_field after_field
whole-item-long zero s a h = refl
whole-item-long (suc n) s a h =
    let f = front-number-fits s a (omega arith) in
    both_true _ _ (le-leb (2 + front_number s) (length s) (omega arith)) (whole-item-long n (drop (2 + front_number s) s) (octets-drop (2 + front_number s) a) (omega (arith, length-drop (2 + front_number s) s)))

whole-list-long : (k : ℕ) (list : List ℕ) → AllOctets list → 2 + 65536 * k * 65537 ≤ length list → whole_list k list ≡ true
unfolding whole_list
whole-list-long k list a h =
    let two : 2 ≤ length list = omega arith in
    let c : list_count list < 65536 = rw (list-count-some list two) (front-number-fits list a two) in
    let m : list_count list * k ≤ 65536 * k = mul-le-mul {n₂ = 65536} {m₂ = k} (omega arith) (omega arith) in
    both_true _ _ (le-leb _ _ two) (whole-items-flat k (list_count list) (drop 2 list) ∙ whole-item-long (list_count list * k) (drop 2 list) (octets-drop 2 a) (omega (arith, length-drop 2 list)))

-- so with enough octets after it a list begins with the encoding of items, which ends in the list or past it
module _ (k : ℕ) (list : List ℕ) (a : AllOctets list) (zeros : List ℕ) (items : List Item) (b : Begins k (list ++ zeros) items) where
  in_list : length (encode_list items) ≤ length list → Begins k list items
  in_list h = record { listable = b.listable; rest = drop (length e) list; is = sym (take-append-drop (length e) list) ∙ ap (λ (x : List ℕ). x ++ drop (length e) list) front }
    where
      e : List ℕ
      e = encode_list items

      front : take (length e) list ≡ e
      front = sym (take-append-le (length e) list zeros h) ∙ ap (take (length e)) b.is ∙ take-append_seam e b.rest

  past-list : AllOctets zeros → length list < length (encode_list items) → CutShort k list
  past-list o h =
      record {
        items = items;
        listable = b.listable;
        missing = drop (length list) e;
        octets = octets-drop (length list) whole;
        some = omega (arith, length-drop (length list) e);
        is = ap (λ (x : List ℕ). x ++ drop (length list) e) (sym front) ∙ take-append-drop (length list) e;
      }
    where
      e : List ℕ
      e = encode_list items

      front : take (length list) e ≡ list
      front = sym (take-append-le (length list) e b.rest (omega arith)) ∙ ap (take (length list)) (sym b.is) ∙ take-append_seam list zeros

      whole : AllOctets e
      whole = subst AllOctets (ap (take (length e)) b.is ∙ take-append_seam e b.rest) (octets-take (length e) (octets-append a o))

decided : (k : ℕ) (list : List ℕ) → AllOctets list → ((items : List Item) × Begins k list items) ⊎ CutShort k list
decided k list a =
    let more : ℕ = 2 + 65536 * k * 65537 in
    let zeros : List ℕ = replicate more 0 in
    let o : AllOctets zeros = octets-zeros more in
    let long : more ≤ length (list ++ zeros) = omega (arith, length-append list zeros, length-replicate {A = ℕ} more 0) in
    let b = begins k (list ++ zeros) (octets-append a o) (whole-list-long k (list ++ zeros) (octets-append a o) long) in
    tested (leb (length (encode_list (list_items k (list ++ zeros)))) (length list))
    (λ t. inl (list_items k (list ++ zeros), in_list k list a zeros _ b (leb-true _ _ t)))
    (λ f. inr (past-list k list a zeros _ b o (leb-false _ _ f)))

-- a list that begins with the encoding of items, and is the front of another encoding, would begin the encoding of both
apart : (k : ℕ) (list : List ℕ) (items : List Item) → Begins k list items → CutShort k list → ⊥
apart k list items b s =
    let e : List ℕ = encode_list s.items in
    let is : e ≡ encode_list items ++ (b.rest ++ s.missing) =
    sym s.is ∙ ap (λ (x : List ℕ). x ++ s.missing) b.is ∙ append_assoc (encode_list items) b.rest s.missing in
    let one : read_list k e ≡ given items = complete k e items (record { listable = b.listable; rest = b.rest ++ s.missing; is = is }) in
    let other : read_list k e ≡ given s.items = complete k e s.items (record { listable = s.listable; rest = []; is = sym (append-nil e) }) in
    let same : items ≡ s.items = given-same (sym one ∙ other) in
    let l : length e ≡ length (encode_list items ++ (b.rest ++ s.missing)) = ap length is in
    let n : length (encode_list items) ≡ length e = ap (λ (x : List Item). length (encode_list x)) same in
    omega (arith, s.some, length-append (encode_list items) (b.rest ++ s.missing), length-append b.rest s.missing)

short : (k : ℕ) (list : List ℕ) (n : ℕ) → AllOctets list → read_list k list ≡ refused n → (n ≡ SHORT) × CutShort k list
unfolding read_list
short k list n a e =
    ((refuses-unless SHORT n _ _ e).1, ⊎_elim (λ yes. absurd (never (complete k list yes.0 yes.1) e)) (λ no. no) (decided k list a))

short-of : (k : ℕ) (list : List ℕ) (n : ℕ) → AllOctets list → (n ≡ SHORT) × CutShort k list → read_list k list ≡ refused n
unfolding read_list
short-of k list n a s =
    rw s.0
    (tested (whole_list k list)
    (λ t. absurd (apart k list _ (begins k list a t) s.1))
    (λ f. pick-false _ _ _ f))

list-count-none : (list : List ℕ) → length list < 2 → list_count list ≡ 0
unfolding list_count
list-count-none list h = pick-false _ _ _ (lt-leb _ _ h)

pub list_rule : ListRule
list_rule =
    record {
      accepted = λ k list items a. (sound k list items a, complete k list items);
      exactly = λ k list n a. (short k list n a, short-of k list n a);
      decided = decided;
      never = apart;
      count = list-count-of;
      none = list-count-none;
    }
