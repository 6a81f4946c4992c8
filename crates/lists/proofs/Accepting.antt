-- A list as a call takes it, where its definition tests the count and goes on by `and_then (read_list FIELDS list)`, and the code asks `count_of` and then
-- `is_whole`: with the count written as `count_of` answers it, `rw (← c .. .count_of .ensures .0)`, each number returned is `search accepting`.
use Prim.Native.Nat.{ℕ}
use mathlib.Core.Path.{◌≡◌}
use mathlib.Core.Bool.{true, false}
use mathlib.Core.List.{List}
use borrow.Author.Tests.{lt-ltb, le-ltb}
use Rattle.octets.specs.Numbers.{SHORT}
use Rattle.octets.specs.Outcome.{Outcome, and_then, number_of}
use Rattle.octets.proofs.Choice.{pick_true, pick-false, flag_off, flag-on}
use Rattle.octets.proofs.Outcome.{number-picks, number-skips, number-goes, number-stops}
use Rattle.lists.specs.LentLists.{Item, whole_list, list_items, read_list}

module _ {B : Type 0} (fields : ℕ) (list : List ℕ) (next : List Item → Outcome B) where
  pub read-list-goes : (n : ℕ) → whole_list fields list ≡ true → n ≡ number_of (next (list_items fields list)) → n ≡ number_of (and_then (read_list fields list) next)
  unfolding read_list
  read-list-goes n w e = number-goes n _ _ next (pick_true _ _ _ w) e

  pub read-list-short : whole_list fields list ≡ false → SHORT ≡ number_of (and_then (read_list fields list) next)
  unfolding read_list
  read-list-short w = number-stops _ _ next (pick-false _ _ _ w)

pub ruleset accepting = (lt-ltb, le-ltb, flag_off, flag-on, number-picks, number-skips, read-list-goes, read-list-short)
