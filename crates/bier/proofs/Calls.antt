-- What the call answers and leaves, by the numbers of its steps.
use Prim.Native.Nat.{ℕ, ◌≤◌, ◌<◌}
use mathlib.Core.Path.{◌≡◌, refl, sym, ap, subst, ◌∙◌}
use mathlib.Core.Bool.{true, false}
use mathlib.Core.List.{List, [], ◌∷◌}
use native.Mathlib.Omega.{arith}
use borrow.Author.Tests.{eq-eqb, ne_eqb, lt-ltb, le-ltb, le-leb, lt-leb}
use lib.ListN.{length, get_or, drop}
use lib.Dec.{leb}
use Rattle.octets.specs.Numbers.{DONE, SHORT, TUNNEL, LONG, SPACE}
use Rattle.octets.specs.Outcome.{Outcome, given, refused, on_outcome, and_then, number_of}
use Rattle.octets.specs.Outputs.{Leaves, output_of}
use Rattle.octets.specs.Order.{zeros}
use Rattle.octets.proofs.Choice.{tested, pick_true, pick-false}
use Rattle.octets.proofs.Tests.{refusals}
use borrow.Author.Rules.{rules}
use Rattle.octets.proofs.Outcome.{and-goes-on, and-stops, and-cong, and_assoc, and-given, refused-of}
use Rattle.octets.proofs.Lists.{front-is-placed}
use Rattle.lists.specs.LentLists.{Item, list_count, whole_list, list_items, read_list}
use Rattle.tunnel.specs.Attribute.{fields_in}
use Rattle.tunnel.specs.Bier.{bier_in}
use Rattle.tunnel.proofs.Definitions.Attributes.{read-given}
use Rattle.routes.specs.Route.{route}
use Rattle.routes.specs.Arguments.{read_route}
use Rattle.routes.proofs.Statements.ArgumentRules.{argument_rule}
use Rattle.places.proofs.Sounds.{route-fault-none}
use Rattle.std.proofs.Common.{Result, Ok, Err}
use Rattle.std.specs.Result.{IsErrAnd}
use Rattle.octets.specs.declared.refusal.Refusal.{Refusal}
use Rattle.octets.specs.Refusals.{refusal_number}
use Rattle.tunnel.specs.declared.bier.BierIdentifier.{BierIdentifier}
use Rattle.bier.specs.declared.Egress.{Egress}
use Rattle.bier.specs.BitStrings.{with_id, with_ids, string_of, ones_of}
use Rattle.bier.specs.LeafRoutes.{Leaf, MOST_LEAVES, read_leaves, read_leaf_list, counting_id, counting_ids}
use Rattle.bier.specs.BierString.{read_bier_route, with_room, bier_string, refused_egress, egress_by, egress_of}
use Rattle.bier.specs.Inner.{leaf_items, gathered_from, egress_in, AttributeStands}
use Rattle.octets.specs.Octets.{placed}

-- a refusal that is passed on
pub egress-passed : (result : Result ℕ Refusal) (r : Refusal) → IsErrAnd result (λ x. x ≡ r) → egress_in result ≡ refused_egress (refusal_number r)
egress-passed (Ok n) r h = absurd h
egress-passed (Err x) r h = ap (λ (y : Refusal). refused_egress (refusal_number y)) h

-- it leaves the output
module _ (o : Outcome (List ℕ)) (output : List ℕ) where
  pub egress-refused : (n : ℕ) → o ≡ refused n → Leaves (egress_by o output) (refused_egress n) output
  unfolding egress_by on_outcome output_of
  egress-refused n e = rw e (refl, refl)

-- a string, where there is room for it
pub write-small : (string output : List ℕ) → length output < 32 → Leaves (egress_by (with_room string output) output) (refused_egress SPACE) output
unfolding with_room
write-small string output h = egress-refused _ output SPACE (pick_true _ _ _ (lt-ltb _ _ h))

pub write_done : (string output : List ℕ) → 32 ≤ length output → (ones : ℕ) → ones ≡ ones_of string → (after : List ℕ) → after ≡ placed 0 string output
    → Leaves (egress_by (with_room string output) output) (record { number = DONE; routers = ones }) after
unfolding with_room egress_by on_outcome output_of
write_done string output h ones e after p =
    let room : with_room string output ≡ given string = pick-false _ _ _ (le-ltb _ _ h) in
    rw room (ap (λ (n : ℕ). record { number = DONE; routers = n }) e, p ∙ sym (front-is-placed string output))

pub ruleset writing = (rules, write-small, write_done)

-- the route, by install's number
module _ (afi : ℕ) (nlri attribute : List ℕ) where
  pub route-stops : (n : ℕ) → n ≡ number_of (read_route afi nlri attribute) → (n ≡ DONE → ⊥) → refused n ≡ read_bier_route afi nlri attribute
  unfolding read_bier_route
  route-stops n e h = and-stops _ _ _ (refused-of _ n e h)

  module _ (d : DONE ≡ number_of (read_route afi nlri attribute)) where
    pub route-stands : AttributeStands attribute
    route-stands =
        let l = ((argument_rule.accepted_route afi nlri attribute).0 (route-fault-none afi nlri attribute (sym d))).1 in
        record { read = l.read ∙ ap given (sym (read-given attribute l.fields l.read).1) }

    pub route-other : (get_or attribute 1 0 ≡ 11 → ⊥) → refused TUNNEL ≡ read_bier_route afi nlri attribute
    unfolding read_bier_route fields_in
    route-other h = and-goes-on _ _ (route nlri attribute) _ (route-fault-none afi nlri attribute (sym d)) (sym (pick-false _ _ _ (ne_eqb _ _ h)))

    pub route-bier : get_or attribute 1 0 ≡ 11 → (i : List ℕ) → i ≡ drop 5 attribute → (b : BierIdentifier) → b ≡ bier_in i → given b.sub_domain ≡ read_bier_route afi nlri attribute
    unfolding read_bier_route fields_in
    route-bier h i is b e =
        and-goes-on _ _ (route nlri attribute) _ (route-fault-none afi nlri attribute (sym d))
        (ap (λ (x : BierIdentifier). given x.sub_domain) (e ∙ ap bier_in is) ∙ sym (pick_true _ _ _ (eq-eqb _ _ h)))

-- the list as a list
module _ (leaves : List ℕ) where
  module _ (n : ℕ) (is : n ≡ list_count leaves) where
    pub list-many : 1024 < n → refused LONG ≡ leaf_items leaves
    unfolding leaf_items
    list-many h = sym (pick-false _ _ _ (lt-leb (list_count leaves) MOST_LEAVES (omega arith)))

    pub list-few : n ≤ 1024 → (o : Outcome (List Item)) → o ≡ read_list 2 leaves → o ≡ leaf_items leaves
    unfolding leaf_items
    list-few h o e = e ∙ sym (pick_true _ _ _ (le-leb (list_count leaves) MOST_LEAVES (omega arith)))

  pub list-short : whole_list 2 leaves ≡ false → refused SHORT ≡ read_list 2 leaves
  unfolding read_list
  list-short h = sym (pick-false _ _ _ h)

  pub list-whole : whole_list 2 leaves ≡ true → given (list_items 2 leaves) ≡ read_list 2 leaves
  unfolding read_list
  list-whole h = sym (pick_true _ _ _ h)

  -- read as the call reads it
  list-reads : (afi : ℕ) → read_leaf_list afi leaves ≡ and_then (leaf_items leaves) (λ items. read_leaves afi items)
  unfolding read_leaf_list leaf_items
  list-reads afi =
      tested (leb (list_count leaves) MOST_LEAVES)
      (λ few. pick_true _ _ _ few ∙ ap (λ (o : Outcome (List Item)). and_then o (λ items. read_leaves afi items)) (sym (pick_true _ _ _ few)))
      (λ many. pick-false _ _ _ many ∙ and-stops _ _ _ (pick-false _ _ _ many))

pub ruleset listing = (refusals, list-many, list-few, list-short, list-whole)

-- the string gathered is that of the Leaf routes read
gathered_from-is : (afi : ℕ) (nlri : List ℕ) (sub_domain set_number : ℕ) (string : List ℕ) (items : List Item)
    → gathered_from afi nlri sub_domain set_number string items ≡ and_then (read_leaves afi items) (λ leaves. given (with_ids set_number string (counting_ids nlri sub_domain leaves)))
unfolding gathered_from read_leaves with_ids counting_ids
gathered_from-is afi nlri sub_domain set_number string [] = sym (and-given _ _)
gathered_from-is afi nlri sub_domain set_number string (x ∷ xs) =
    and-cong _ _ _ (λ leaf e. gathered_from-is afi nlri sub_domain set_number (with_id set_number string (counting_id nlri sub_domain leaf)) xs ∙ and-cong _ _ _ (λ leaves f. sym (and-given _ _)) ∙ sym (and_assoc _ _ _))
    ∙ sym (and_assoc _ _ _)

-- the call
module _ (afi : ℕ) (nlri attribute : List ℕ) (set_number : ℕ) (leaves output : List ℕ) where
  pub call-unrouted : (n : ℕ) → refused n ≡ read_bier_route afi nlri attribute → Leaves (egress_of afi nlri attribute set_number leaves output) (refused_egress n) output
  unfolding egress_of bier_string
  call-unrouted n e = egress-refused _ output n (sym (and-stops _ _ _ (sym e)))

  module _ (sub_domain : ℕ) (on_route : given sub_domain ≡ read_bier_route afi nlri attribute) where
    pub call-unlisted : (n : ℕ) → refused n ≡ leaf_items leaves → Leaves (egress_of afi nlri attribute set_number leaves output) (refused_egress n) output
    unfolding egress_of bier_string
    call-unlisted n e = egress-refused _ output n (sym (and-goes-on _ _ _ _ (sym on_route) (and-stops _ _ _ (list-reads leaves afi ∙ sym (and-stops _ _ _ (sym e))))))

    module _ (items : List Item) (listed : given items ≡ leaf_items leaves) where
      string-due : bier_string afi nlri attribute set_number leaves output ≡ and_then (gathered_from afi nlri sub_domain set_number (zeros 32) items) (λ string. with_room string output)
      unfolding bier_string string_of
      string-due =
          sym (
          and-goes-on _ _ sub_domain _ (sym on_route)
          (ap (λ (o : Outcome (List ℕ)). and_then o (λ string. with_room string output)) (gathered_from-is afi nlri sub_domain set_number (zeros 32) items)
          ∙ and_assoc _ _ _ ∙ and-cong _ _ _ (λ read q. and-given _ _)
          ∙ ap (λ (o : Outcome (List Leaf)). and_then o (λ read. with_room (with_ids set_number (zeros 32) (counting_ids nlri sub_domain read)) output)) (and-goes-on _ _ items _ (sym listed) refl ∙ sym (list-reads leaves afi)))
          )

      pub call-ungathered : (n : ℕ) → refused n ≡ gathered_from afi nlri sub_domain set_number (zeros 32) items → Leaves (egress_of afi nlri attribute set_number leaves output) (refused_egress n) output
      unfolding egress_of
      call-ungathered n e = egress-refused _ output n (string-due ∙ sym (and-stops _ _ _ (sym e)))

      pub call-written : (string : List ℕ) → given string ≡ gathered_from afi nlri sub_domain set_number (zeros 32) items → (r : Egress) (after : List ℕ)
          → Leaves (egress_by (with_room string output) output) r after → Leaves (egress_of afi nlri attribute set_number leaves output) r after
      unfolding egress_of
      call-written string e r after l = subst (λ (o : Outcome (List ℕ)). Leaves (egress_by o output) r after) (and-goes-on _ _ string _ (sym e) refl ∙ sym string-due) l
