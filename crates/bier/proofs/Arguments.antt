-- The call's arguments: the route and the list of Leaf routes, each accepted and each refused exactly when.
use Prim.Native.Nat.{ℕ, ◌≤◌, ◌<◌}
use mathlib.Core.Path.{◌≡◌, refl, sym, ap, subst, ◌∙◌}
use mathlib.Core.List.{List}
use mathlib.Core.Logic.{◌≢◌, ⊎_elim}
use native.Mathlib.Omega.{arith}
use borrow.Author.Tests.{eqb-true, eqb-false, eq-eqb, ne_eqb, leb-true, leb-false, le-leb, lt-leb}
use lib.ListN.{get_or}
use lib.Seq.{get_or-drop}
use Rattle.octets.specs.Numbers.{DONE, SHORT, TUNNEL, LONG}
use Rattle.octets.specs.Outcome.{Outcome, given, refused}
use Rattle.octets.proofs.Choice.{picked, pick_true, pick-false}
use Rattle.octets.proofs.Outcome.{given-same, refused-same, and-goes-on, and-stops, passed, stopped, given-unless, refuses-unless, Refuses, value, number, refuses-pick, refuses-then}
use Rattle.lists.specs.LentLists.{Item, list_count, read_list}
use Rattle.lists.proofs.Items.{read-list-pairs, read-list-refused}
use Rattle.tunnel.specs.Attribute.{fields_in}
use Rattle.tunnel.specs.Bier.{bier_in}
use Rattle.routes.specs.Route.{Route, route}
use Rattle.routes.specs.Arguments.{read_route}
use Rattle.routes.specs.Rules.ArgumentRules.{SPmsi, Labelled, RouteRefusal}
use Rattle.routes.proofs.Definitions.Bounds.{route-read}
use Rattle.routes.proofs.Definitions.ByArguments.{number-route}
use Rattle.routes.proofs.Statements.ArgumentRules.{argument_rule}
use Rattle.bier.specs.LeafRoutes.{Leaf, read_leaves, read_leaf_list}
use Rattle.bier.specs.BierString.{read_bier_route}
use Rattle.bier.specs.Rules.BierRule.{BierRoute, GoodLeaves, BierRefusal, bad_route, other_tunnel, long_list, short_list, bad_leaves}
use Rattle.bier.proofs.Leaves.{leaves-refuse, leaves-read, read-leaves, first-refused}

refuses-as : {P : ℕ → Type 0} {A : Type 0} (o : Outcome A) → ((n : ℕ) → o ≡ refused n → P n) → Refuses P o
refuses-as (given a) h = value
refuses-as (refused n) h = number (h n refl)

-- the route
module _ (afi : ℕ) (nlri attribute : List ℕ) where
  taken : (r : Route) → read_route afi nlri attribute ≡ given r → SPmsi afi nlri × Labelled attribute
  taken r e = (argument_rule.accepted_route afi nlri attribute).0 (e ∙ ap given (route-read afi nlri attribute r e))

  pub own : (bier_in (fields_in attribute).identifier).sub_domain ≡ get_or attribute 5 0
  unfolding bier_in fields_in
  own = get_or-drop 5 attribute 0 0

  pub route-given : (sub_domain : ℕ) → read_bier_route afi nlri attribute ≡ given sub_domain → BierRoute afi nlri attribute × (sub_domain ≡ get_or attribute 5 0)
  unfolding read_bier_route fields_in
  route-given sub_domain e =
      let p = passed _ _ _ e in
      let q = given-unless _ _ _ _ p.second in
      let t = taken p.value p.first in
      (record { named = t.0; labelled = t.1; bier = eqb-true _ _ q.0 }, sym (given-same q.1) ∙ own)

  pub given-route : BierRoute afi nlri attribute → read_bier_route afi nlri attribute ≡ given (get_or attribute 5 0)
  unfolding read_bier_route fields_in
  given-route r = sym (and-goes-on _ _ (route nlri attribute) _ ((argument_rule.accepted_route afi nlri attribute).1 (r.named, r.labelled)) (ap given (sym own) ∙ sym (pick_true _ _ _ (eq-eqb _ _ r.bier))))

  pub route-refused : (leaves output : List ℕ) (n : ℕ) → read_bier_route afi nlri attribute ≡ refused n → BierRefusal afi nlri attribute leaves output n
  unfolding read_bier_route fields_in
  route-refused leaves output n e =
      ⊎_elim (λ r. bad_route ((argument_rule.refused_route afi nlri attribute n).0 r))
      (λ l.
      let q = refuses-unless _ _ _ _ l.second in
      let t = taken l.value l.first in
      subst (BierRefusal afi nlri attribute leaves output) (sym q.1) (other_tunnel t.0 t.1 (eqb-false _ _ q.0)))
      (stopped _ _ _ e)

  pub bad-route : (n : ℕ) → RouteRefusal afi nlri attribute n → read_bier_route afi nlri attribute ≡ refused n
  unfolding read_bier_route
  bad-route n r = sym (and-stops _ _ _ ((argument_rule.refused_route afi nlri attribute n).1 r))

  pub other-tunnel : SPmsi afi nlri → Labelled attribute → get_or attribute 1 0 ≢ 11 → read_bier_route afi nlri attribute ≡ refused TUNNEL
  unfolding read_bier_route fields_in
  other-tunnel s l o = sym (and-goes-on _ _ (route nlri attribute) _ ((argument_rule.accepted_route afi nlri attribute).1 (s, l)) (sym (pick-false _ _ _ (ne_eqb _ _ o))))

  pub route-refuses : Refuses (λ n. n ≡ DONE → ⊥) (read_bier_route afi nlri attribute)
  unfolding read_bier_route
  route-refuses = refuses-then _ _ (refuses-as (read_route afi nlri attribute) (λ n e. (number-route afi nlri attribute n e).0)) (λ r. refuses-pick _ _ _ value (number (λ e. omega arith)))

-- the Leaf routes
module _ (afi : ℕ) (leaves : List ℕ) where
  -- a list that is read
  pub record Read (read : List Leaf) : Type 0 where
    pub good : GoodLeaves afi leaves
    pub each : read_leaves afi good.items ≡ given read

  pub list-given : (read : List Leaf) → read_leaf_list afi leaves ≡ given read → Read read
  unfolding read_leaf_list
  list-given read e =
      let p = given-unless _ _ _ _ e in
      let q = passed _ _ _ p.1 in
      record { good = record { few = leb-true _ _ p.0; items = q.value; lent = q.first; read = read-leaves afi q.value read q.second }; each = q.second }

  pub given-list : list_count leaves ≤ 1024 → (items : List Item) → read_list 2 leaves ≡ given items → (o : Outcome (List Leaf)) → read_leaves afi items ≡ o → read_leaf_list afi leaves ≡ o
  unfolding read_leaf_list
  given-list few items e o r = pick_true _ _ _ (le-leb _ _ few) ∙ sym (and-goes-on o _ items _ e (sym r))

  pub leaves-good : (g : GoodLeaves afi leaves) → (read : List Leaf) × (read_leaves afi g.items ≡ given read)
  leaves-good g = leaves-read afi g.items (read-list-pairs leaves g.items g.lent) g.read

  pub list-refused : (nlri attribute output : List ℕ) → BierRoute afi nlri attribute → (n : ℕ) → read_leaf_list afi leaves ≡ refused n → BierRefusal afi nlri attribute leaves output n
  unfolding read_leaf_list
  list-refused nlri attribute output r n e =
      ⊎_elim
      (λ few.
      let most = leb-true _ _ few.0 in
      ⊎_elim
      (λ s. let is = read-list-refused 2 leaves n s in subst (BierRefusal afi nlri attribute leaves output) (sym is) (short_list r most (s ∙ ap refused is)))
      (λ l. bad_leaves r most l.value l.first (first-refused afi l.value (read-list-pairs leaves l.value l.first) n l.second))
      (stopped _ _ _ few.1))
      (λ many. subst (BierRefusal afi nlri attribute leaves output) (refused-same {A = List Leaf} many.1) (long_list r (leb-false _ _ many.0)))
      (picked _ _ _ _ e)

  pub list-long : 1024 < list_count leaves → read_leaf_list afi leaves ≡ refused LONG
  unfolding read_leaf_list
  list-long h = pick-false _ _ _ (lt-leb _ _ h)

  pub list-short : list_count leaves ≤ 1024 → read_list 2 leaves ≡ refused SHORT → read_leaf_list afi leaves ≡ refused SHORT
  unfolding read_leaf_list
  list-short few e = pick_true _ _ _ (le-leb _ _ few) ∙ sym (and-stops _ _ _ e)

  pub list-refuses : Refuses (λ n. n ≡ DONE → ⊥) (read_leaf_list afi leaves)
  unfolding read_leaf_list
  list-refuses =
      refuses-pick _ _ _ (refuses-then _ _ (refuses-as (read_list 2 leaves) (λ n e z. let s = read-list-refused 2 leaves n e in omega arith)) (λ items. leaves-refuse afi items)) (number (λ e. omega arith))
