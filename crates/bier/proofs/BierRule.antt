-- The bit string of a BIER packet (specs/Rules/BierRule.antt).
use Prim.Native.Nat.{ℕ, ◌≤◌}
use mathlib.Core.Path.{◌≡◌, refl, sym, ap, subst, ◌∙◌}
use mathlib.Core.List.{List}
use mathlib.Core.Logic.{⊎_elim}
use native.Mathlib.Omega.{arith}
use borrow.Author.Tests.{ltb-true, ltb-false, lt-ltb, le-ltb}
use lib.ListN.{length, get_or, take}
use Rattle.octets.specs.Outcome.{Outcome, given, refused, on_outcome, and_then, number_of}
use Rattle.octets.specs.Octets.{front}
use Rattle.octets.specs.Outputs.{Changed, output_of}
use Rattle.octets.specs.Rules.Answering.{Answering}
use Rattle.octets.proofs.Choice.{pick_true, pick-false}
use Rattle.octets.proofs.Outcome.{given-same, and-goes-on, and-stops, passed, stopped, given-otherwise, refuses-where, value, number, refuses-pick, refuses-then, refuses-by, on-case, number-given, number-refused}
use Rattle.octets.proofs.Answering.{answering}
use Rattle.octets.proofs.Lists.{length_front, take-front, past-front}
use Rattle.lists.proofs.Items.{read-list-pairs}
use Rattle.bier.specs.declared.Egress.{Egress}
use Rattle.bier.specs.BitStrings.{string_of, ones_of}
use Rattle.bier.specs.LeafRoutes.{Leaf, read_leaves, read_leaf_list, counting_ids}
use Rattle.bier.specs.BierString.{with_room, bier_string, refused_egress, egress_by, egress_of}
use Rattle.bier.specs.Rules.BierRule.{BierRoute, GoodLeaves, BierRefusal, bad_route, other_tunnel, long_list, short_list, bad_leaves, no_space, CountedId, StringFor, Ones, BierDone, BierNothing, BierRule}
use Rattle.bier.proofs.Strings.{string-for, only, positions}
use Rattle.bier.proofs.Counted.{string-ones, distinct-ids, every}
use Rattle.bier.proofs.Leaves.{counting-ids, leaves-refused}
use Rattle.bier.proofs.Arguments.{route-given, given-route, route-refused, bad-route, other-tunnel, route-refuses, list-given, given-list, leaves-good, list-refused, list-long, list-short, list-refuses}

-- the call
module _ (afi : ℕ) (nlri attribute : List ℕ) (set_number : ℕ) (leaves output : List ℕ) where
  abbrev outcome : Outcome (List ℕ)
  outcome = bier_string afi nlri attribute set_number leaves output

  abbrev due : Changed Egress
  due = egress_of afi nlri attribute set_number leaves output

  refusal : (n : ℕ) → outcome ≡ refused n → BierRefusal afi nlri attribute leaves output n
  unfolding bier_string with_room
  refusal n e =
      ⊎_elim (route-refused afi nlri attribute leaves output n)
      (λ l.
      let r = (route-given afi nlri attribute l.value l.first).0 in
      ⊎_elim (list-refused afi leaves nlri attribute output r n)
      (λ m.
      let q = refuses-where _ _ _ _ m.second in
      subst (BierRefusal afi nlri attribute leaves output) (sym q.1) (no_space r (list-given afi leaves m.value m.first).good (ltb-true _ _ q.0)))
      (stopped _ _ _ l.second))
      (stopped _ _ _ e)

  -- past the route, and past the Leaf routes
  past-route : BierRoute afi nlri attribute → (o : Outcome (List ℕ)) → o ≡ and_then (read_leaf_list afi leaves) (λ read. with_room (string_of set_number (counting_ids nlri (get_or attribute 5 0) read)) output) → outcome ≡ o
  unfolding bier_string
  past-route r o e = sym (and-goes-on o _ (get_or attribute 5 0) _ (given-route afi nlri attribute r) e)

  past-leaves : BierRoute afi nlri attribute → (g : GoodLeaves afi leaves) → outcome ≡ with_room (string_of set_number (counting_ids nlri (get_or attribute 5 0) (leaves-good afi leaves g).0)) output
  past-leaves r g =
      let l = leaves-good afi leaves g in
      past-route r _ (and-goes-on _ _ l.0 _ (given-list afi leaves g.few g.items g.lent _ l.1) refl)

  refuses : {n : ℕ} → BierRefusal afi nlri attribute leaves output n → outcome ≡ refused n
  unfolding bier_string with_room
  refuses (bad_route r) = sym (and-stops _ _ _ (bad-route afi nlri attribute _ r))
  refuses (other_tunnel s l o) = sym (and-stops _ _ _ (other-tunnel afi nlri attribute s l o))
  refuses (long_list r h) = past-route r _ (and-stops _ _ _ (list-long afi leaves h))
  refuses (short_list r few e) = past-route r _ (and-stops _ _ _ (list-short afi leaves few e))
  refuses (bad_leaves {n} r few items e f) = past-route r _ (and-stops _ _ _ (given-list afi leaves few items e (refused n) (leaves-refused afi items (read-list-pairs leaves items e) n f)))
  refuses (no_space r g h) = past-leaves r g ∙ pick_true _ _ _ (lt-ltb _ _ h)

  -- what is given
  record Given (string : List ℕ) : Type 0 where
    route : BierRoute afi nlri attribute
    lent : GoodLeaves afi leaves
    room : 32 ≤ length output
    read : List Leaf
    each : read_leaves afi lent.items ≡ given read
    is : string ≡ string_of set_number (counting_ids nlri (get_or attribute 5 0) read)

  string-given : (string : List ℕ) → outcome ≡ given string → Given string
  unfolding bier_string with_room
  string-given string e =
      let p = passed _ _ _ e in
      let q = passed _ _ _ p.second in
      let s = given-otherwise _ _ _ _ q.second in
      let r = route-given afi nlri attribute p.value p.first in
      let l = list-given afi leaves q.value q.first in
      record {
        route = r.0;
        lent = l.good;
        room = ltb-false _ _ s.0;
        read = q.value;
        each = l.each;
        is = sym (given-same s.1) ∙ ap (λ (d : ℕ). string_of set_number (counting_ids nlri d q.value)) r.1;
      }

  due-given : (string : List ℕ) → outcome ≡ given string → due ≡ record { answer = record { number = 0; routers = ones_of string }; octets = front string output }
  unfolding egress_of egress_by on_outcome output_of
  due-given string e = rw e

  due-refused : (n : ℕ) → outcome ≡ refused n → BierNothing output due
  unfolding egress_of egress_by on_outcome output_of
  due-refused n e = record { routers = rw e; untouched = rw e }

  done : (string : List ℕ) → outcome ≡ given string → BierDone afi nlri attribute set_number leaves output due
  done string e =
      let g = string-given string e in
      let Counting : ℕ → Type 0 = CountedId afi nlri attribute g.lent.items in
      let made : StringFor Counting set_number string =
      subst (StringFor Counting set_number) (sym g.is)
      (string-for Counting set_number (counting_ids nlri (get_or attribute 5 0) g.read)
      (counting-ids afi nlri (get_or attribute 5 0) attribute refl g.lent.items (read-list-pairs leaves g.lent.items g.lent.lent) g.read g.each)) in
      let front-is : take 32 (front string output) ≡ string = ap (λ (n : ℕ). take n (front string output)) (sym made.size) ∙ take-front string output in
      subst (BierDone afi nlri attribute set_number leaves output) (sym (due-given string e))
      (record {
        route = g.route;
        lent = g.lent;
        room = g.room;
        string = subst (StringFor Counting set_number) (sym front-is) made;
        past = λ i h. past-front string output i (omega (arith, made.size));
        size = length_front string output (omega (arith, made.size, g.room));
        routers = distinct-ids Counting set_number string made (λ id c. c.counts.some);
        ones = subst (λ (s : List ℕ). Ones s 256 (ones_of string)) (sym front-is) (string-ones Counting set_number string made);
      })

  made-given : BierDone afi nlri attribute set_number leaves output due → (string : List ℕ) × (outcome ≡ given string)
  unfolding with_room
  made-given d = (_, past-leaves d.route d.lent ∙ pick-false _ _ _ (le-ltb _ _ d.room))

  never_done : BierRefusal afi nlri attribute leaves output 0 → ⊥
  unfolding bier_string with_room
  never_done why =
      refuses-by outcome 0
      (refuses-then _ _ (route-refuses afi nlri attribute) (λ sub_domain. refuses-then _ _ (list-refuses afi leaves) (λ read. refuses-pick _ _ _ (number (λ e. omega arith)) value)))
      (refuses why) refl

  number_is : due.answer.number ≡ number_of outcome
  unfolding egress_of egress_by
  number_is = on-case (λ (a : Egress). a.number ≡ number_of outcome) outcome refused_egress _ (λ n e. sym (number-refused e)) (λ string e. sym (number-given e))

  answers : Answering due.answer.number (BierRefusal afi nlri attribute leaves output) (BierDone afi nlri attribute set_number leaves output due) (BierNothing output due)
  answers = answering outcome _ (BierRefusal afi nlri attribute leaves output) number_is (λ n. (refusal n, refuses)) never_done _ _ done made-given due-refused

pub bier_rule : BierRule
bier_rule =
    record {
      answers = answers;
      positions = positions;
      only = λ afi nlri attribute items. only (CountedId afi nlri attribute items);
      every = λ afi nlri attribute items. every (CountedId afi nlri attribute items);
    }
