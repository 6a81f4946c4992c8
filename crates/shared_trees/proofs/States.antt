-- States whose source and group have a size that is known: where the next one starts, and how the end of a source tells it from another.
use Prim.Native.Nat.{ℕ, ◌+◌, ◌*◌, ◌-◌, ◌≤◌}
use mathlib.Core.Path.{◌≡◌, sym, ◌∙◌, ap, ap₂}
use mathlib.Core.Bool.{true, false}
use mathlib.Core.List.{List, ◌++◌}
use native.Mathlib.Omega.{arith}
use borrow.Author.Tests.{eqb-true, leb-true}
use lib.ListN.{length, take, drop, length-drop}
use lib.Seq.{drop-drop, drop_at, take_all}
use Rattle.octets.specs.Octets.{part, low_first}
use Rattle.octets.proofs.Choice.{both-true-left, both-true-right, both_left}
use Rattle.octets.proofs.Lists.{length_part, part_then}
use Rattle.octets.proofs.Orders.{unequal-other}
use Rattle.lists.specs.LentLists.{item_field, front_number, front_field, after_field, whole_field, front_item, after_item, whole_item}
use Rattle.nlri.specs.Standing.{source_size, group_end, standing}
use Rattle.routes.specs.SharedTree.{state_sized, is_state}
use Rattle.shared_trees.specs.Told.{FieldsWithin, Ending}
use Rattle.shared_trees.proofs.Sized.{in-octets}

-- the end of a part
end-of-part : (s : List ℕ) (start size : ℕ) → start + size ≤ length s → 4 ≤ size → part (part s start size) (size - 4) 4 ≡ part s (start + (size - 4)) 4
unfolding part
end-of-part s start size h four =
    let whole : size - 4 + 4 ≡ size = omega arith in
    let split : part s start size ≡ part s start (size - 4) ++ part s (start + (size - 4)) 4 = ap (part s start) (sym whole) ∙ part_then s start (size - 4) 4 in
    let first : length (part s start (size - 4)) ≡ size - 4 = length_part s start (size - 4) (omega arith) in
    let last : length (part s (start + (size - 4)) 4) ≡ 4 = length_part s (start + (size - 4)) 4 (omega arith) in
    let rest : List ℕ = part s (start + (size - 4)) 4 in
    ap (λ (l : List ℕ). take 4 (drop (size - 4) l)) split ∙ ap (take 4) (drop_at (part s start (size - 4)) rest (size - 4) first) ∙ take_all 4 rest (omega arith)

-- four octets of what stands behind others
part-behind : (l : List ℕ) (k start : ℕ) → part (drop k l) start 4 ≡ part l (k + start) 4
unfolding part
part-behind l k start = ap (take 4) (drop-drop start k l)

-- the size of a whole field
field-size : (s : List ℕ) → whole_field s ≡ true → (length (front_field s) ≡ front_number s) × (2 + front_number s ≤ length s)
unfolding whole_field front_field
field-size s w = let h : 2 + front_number s ≤ length s = leb-true _ _ w in (length_part s 2 (front_number s) h, h)

-- a state at a cursor, whose source and group have so many octets, four or more
pub record StateStands (size : ℕ) (s : List ℕ) : Type 0 where
  pub whole : whole_item 2 s ≡ true
  pub sized : state_sized (8 * size) (front_item 2 s) ≡ true
  pub least : 4 ≤ size

-- its two fields
module _ (size : ℕ) (s : List ℕ) (stands : StateStands size s) where
  whole-first : whole_field s ≡ true
  unfolding whole_item
  whole-first = both-true-left _ _ stands.whole

  whole-second : whole_field (after_field s) ≡ true
  unfolding whole_item
  whole-second = both-true-left _ _ (both-true-right _ _ stands.whole)

  sized-first : length (front_field s) ≡ size
  unfolding state_sized item_field front_item
  sized-first = eqb-true _ _ (sym (in-octets _ size) ∙ both-true-left _ _ stands.sized)

  sized-second : length (front_field (after_field s)) ≡ size
  unfolding state_sized item_field front_item
  sized-second = eqb-true _ _ (sym (in-octets _ size) ∙ both-true-right _ _ stands.sized)

  number-first : front_number s ≡ size
  number-first = sym (field-size s whole-first).0 ∙ sized-first

  number-second : front_number (after_field s) ≡ size
  number-second = sym (field-size (after_field s) whole-second).0 ∙ sized-second

  state-length : 4 + 2 * size ≤ length s
  unfolding after_field
  state-length =
      let l = length-drop (2 + front_number s) s in
      omega (arith, (field-size s whole-first).1, (field-size (after_field s) whole-second).1, number-first, number-second)

  state-after : after_item 2 s ≡ drop (2 + size + (2 + size)) s
  unfolding after_item after_field
  state-after = ap₂ (λ (m n : ℕ). drop (2 + m) (drop (2 + n) s)) number-second number-first ∙ drop-drop (2 + size) (2 + size) s

  first_field : front_field s ≡ part s 2 size
  unfolding front_field
  first_field = ap (part s 2) number-first

module _ (size : ℕ) (list : List ℕ) (at : ℕ) (stands : StateStands size (drop at list)) where
  pub state-within : at + 4 + 2 * size ≤ length list
  state-within = let l = length-drop at list in omega (arith, state-length size (drop at list) stands)

  pub state-next : drop (at + 4 + 2 * size) list ≡ after_item 2 (drop at list)
  state-next =
      let sum : at + (2 + size + (2 + size)) ≡ at + 4 + 2 * size = omega arith in
      sym (state-after size (drop at list) stands ∙ drop-drop (2 + size + (2 + size)) at list ∙ ap (λ (n : ℕ). drop n list) sum)

  -- the end of its source is another's
  pub state-otherwise : (source group : List ℕ) (ending x : ℕ) → Ending source ending → x ≡ low_first (part list (at + 2 + size - 4) 4) → (x ≡ ending → ⊥) → false ≡ is_state source group (front_item 2 (drop at list))
  unfolding is_state item_field front_item
  state-otherwise source group ending x e is differ =
      sym (both_left _ _ (unequal-other (front_field (drop at list)) source (λ alike.
      let n : length source ≡ size = ap length (sym alike) ∙ sized-first size (drop at list) stands in
      let four = stands.least in
      let here : at + (2 + (size - 4)) ≡ at + 2 + size - 4 = omega arith in
      let last : part source (length source - 4) 4 ≡ part list (at + 2 + size - 4) 4 =
      ap₂ (λ (l : List ℕ) (k : ℕ). part l (k - 4) 4) (sym alike ∙ first_field size (drop at list) stands) n
      ∙ end-of-part (drop at list) 2 size (omega (arith, state-length size (drop at list) stands)) four
      ∙ part-behind list at (2 + (size - 4)) ∙ ap (λ (k : ℕ). part list k 4) here in
      differ (is ∙ ap low_first (sym last) ∙ sym (e.is (omega arith))))))

-- the end of a Source Active NLRI's source
pub ending-stands : (s : List ℕ) (at r : ℕ) → FieldsWithin s → at ≡ 11 + source_size s → r ≡ low_first (part s (at - 4) 4) → Ending (standing s).source r
unfolding standing group_end
ending-stands s at r b is e =
    let within = b.within in
    let n : length (part s 11 (source_size s)) ≡ source_size s = length_part s 11 (source_size s) (omega arith) in
    record {
      is = λ four.
          let here : 11 + (source_size s - 4) ≡ at - 4 = omega arith in
          e ∙ ap low_first (sym (ap (λ (k : ℕ). part (part s 11 (source_size s)) (k - 4) 4) n ∙ end-of-part s 11 (source_size s) (omega arith) (omega arith) ∙ ap (λ (k : ℕ). part s k 4) here));
    }
