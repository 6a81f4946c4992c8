-- The shared trees that a match takes, and why others are refused (specs/SharedTree.antt), by what the lent lists hold; and what a tree asks.
use Prim.Native.Nat.{ℕ, ◌≤◌, ◌<◌}
use mathlib.Core.Path.{◌≡◌, refl, sym, ◌∙◌, ap, subst}
use mathlib.Core.Bool.{Bool, true, false, not}
use mathlib.Core.List.{List, [], ◌∷◌, ◌++◌}
use mathlib.Core.Logic.{◌↔◌, ◌⊎◌, inl, inr, ⊎_elim}
use lib.ListN.{length}
use lib.Dec.{leb, eqb}
use borrow.Author.Tests.{eqb-true, eqb-false, eq-eqb, ne_eqb, ltb-true, ltb-false, lt-ltb, le-ltb, leb-true, leb-false, le-leb, lt-leb, not-true, not-false}
use Rattle.octets.specs.Numbers.{DONE, LONG, SHORT, FLOW, SPACE}
use Rattle.octets.specs.Choice.{pick}
use Rattle.octets.specs.Outcome.{Outcome, given, refused, unless, and_then, number_of}
use Rattle.octets.specs.Lists.{Among, first}
use Rattle.octets.proofs.Choice.{opposite, tested, pick_true, pick-false, pick-case, both-held, both_true}
use Rattle.octets.proofs.Outcome.{given-same, refused-same, given-otherwise, refuses-where, passed, stopped, and-goes-on, and-stops, and-case, outcome, refused-of, number-given, number-refused, done-given}
use Rattle.octets.proofs.Among.{among-left, among-right}
use Rattle.lists.specs.LentLists.{Item, item_field, list_count, read_list, every_item}
use Rattle.lists.proofs.Items.{first-met, first-item-met, first-item-unmet, read-list-refused, Pairs, pairs-each, every-pair, read-list-pairs}
use Rattle.nlri.specs.Family.{family_bits, is_originator_size}
use Rattle.groups.specs.Prefixes.{read_prefixes}
use Rattle.groups.specs.Classes.{class_in}
use Rattle.groups.specs.Rules.ClassRule.{GoodPrefixes}
use Rattle.groups.proofs.Prefixes.{prefixes-good, good-prefixes, prefixes-refused, refused-prefixes, prefixes-either}
use Rattle.groups.proofs.ClassRule.{Classed, classed, class-refused, multicast-family}
use Rattle.nlri.proofs.Theorems.{lengths}
use Rattle.nlri.proofs.Definitions.Lengths.{family-good, good-family}
use Rattle.routes.specs.Query.{Query}
use Rattle.routes.specs.SharedTree.{SharedTree, originator_sized, state_sized, read_source_active, source_active_fault, judged_tree, tree_query, read_tree}
use Rattle.routes.specs.Rules.ArgumentRules.{KnownFamily, RouterSized, FamilySized}
use Rattle.routes.specs.Rules.SharedTreeRule.{SourceActive, Lent, FewItems, Addressed, AllRead, GoodTree, FirstRefused, SharedTreeRefusal, bad_tree_prefixes, long_list, short_list, bad_address, bad_source_active, too_small}
use Rattle.routes.proofs.Definitions.Matching.Flows.{family-sized}
use Rattle.routes.proofs.Definitions.ByArguments.{number-source-active}
use Rattle.routes.proofs.Statements.ArgumentRules.{type-exactly, type-refused-exactly}

-- sizes

originator-says : (originator nlri : List ℕ) → (originator_sized (originator ∷ (nlri ∷ [])) ≡ true) ↔ RouterSized originator
unfolding originator_sized item_field
originator-says originator nlri = lengths.originators (length originator)

state-says : (afi bits : ℕ) → family_bits afi ≡ given bits → (source group : List ℕ) → (state_sized bits (source ∷ (group ∷ [])) ≡ true) ↔ (FamilySized afi source × FamilySized afi group)
unfolding state_sized item_field
state-says afi bits of_family source group = (
  λ h. let b = both-held _ _ h in ((family-sized afi bits source of_family).0 (eqb-true _ _ b.0), (family-sized afi bits group of_family).0 (eqb-true _ _ b.1)),
  λ h. both_true _ _ (eq-eqb _ _ ((family-sized afi bits source of_family).1 h.0)) (eq-eqb _ _ ((family-sized afi bits group of_family).1 h.1)),
)

-- Source Active routes in turn

module _ (afi : ℕ) where
  abbrev faulty : Item → Bool
  faulty x = not (eqb (number_of (read_source_active afi x)) DONE)

  -- an item has no fault exactly when its NLRI is a well-formed Source Active NLRI
  read-faultless : (originator nlri : List ℕ) → (faulty (originator ∷ (nlri ∷ [])) ≡ false) ↔ SourceActive afi nlri
  unfolding read_source_active item_field
  read-faultless originator nlri = (
    λ h.
        let p = done-given _ (λ n r. (number-source-active afi (originator ∷ (nlri ∷ [])) n r).0) (eqb-true _ _ (not-false _ h)) in
        let q = (type-exactly 5 afi nlri p.0).0 p.1 in
        record { fields = p.0; read = q.0; kind = q.1 },
    λ s. ap not (eq-eqb _ _ (number-given ((type-exactly 5 afi nlri s.fields).1 (s.read, s.kind)))),
  )

  -- what follows the judging of addresses, of a group of a class
  abbrev in_turn : List Item → (class : ℕ) → Outcome ℕ
  in_turn items class = pick (eqb (source_active_fault afi items) DONE) (given class) (refused (source_active_fault afi items))

  module _ (items : List Item) (pairs : Pairs items) where
    refused-fault : (n : ℕ) → FirstRefused afi items n → (source_active_fault afi items ≡ n) × (n ≡ DONE → ⊥)
    unfolding source_active_fault read_source_active item_field
    refused-fault n r =
        let x : Item = r.originator ∷ (r.nlri ∷ []) in
        let e : read_source_active afi x ≡ refused n = (type-refused-exactly 5 afi r.nlri n).1 r.refuses in
        let some : n ≡ DONE → ⊥ = (number-source-active afi x n e).0 in
        let earlier : Pairs r.earlier = λ y m. pairs y (subst (λ (l : List Item). Among y l) (sym r.is) (among-left (x ∷ r.later) m)) in (
          ap (source_active_fault afi) r.is
              ∙ first-item-met faulty (λ y. number_of (read_source_active afi y)) DONE r.earlier x r.later
              (pairs-each (λ y. faulty y ≡ false) r.earlier earlier (λ a b m. (read-faultless a b).1 (r.read a b m)))
              (ap not (ne_eqb _ _ (λ z. some (sym (number-refused e) ∙ z))))
              ∙ number-refused e,
          some,
        )

    pub in-turn-refused : (class n : ℕ) → FirstRefused afi items n → in_turn items class ≡ refused n
    in-turn-refused class n r = let f = refused-fault n r in pick-false _ _ _ (ne_eqb _ _ (λ z. f.1 (sym f.0 ∙ z))) ∙ ap refused f.0

    pub in-turn-read : (class : ℕ) → AllRead afi items → in_turn items class ≡ given class
    unfolding source_active_fault
    in-turn-read class h =
        pick_true _ _ _ (eq-eqb _ _ (first-item-unmet faulty (λ y. number_of (read_source_active afi y)) DONE items (pairs-each (λ y. faulty y ≡ false) items pairs (λ a b m. (read-faultless a b).1 (h a b m)))))

    -- the first one that is refused, or all are read
    pub in-turn : ((n : ℕ) × FirstRefused afi items n) ⊎ AllRead afi items
    unfolding read_source_active
    in-turn =
        ⊎_elim
        (λ p.
        let x : Item = p.0 in
        let m = p.1 in
        let n : ℕ = number_of (read_source_active afi x) in
        let e : read_source_active afi x ≡ refused n = refused-of _ n refl (eqb-false _ _ (not-true _ m.met)) in
        let pair = pairs x (subst (λ (l : List Item). Among x l) (sym m.is) (among-right m.before (first refl))) in
        inl (
          n,
          record {
            earlier = m.before;
            originator = item_field 0 x;
            nlri = item_field 1 x;
            later = m.after;
            is = m.is ∙ ap (λ (z : Item). m.before ++ (z ∷ m.after)) pair;
            read = λ a b k. (read-faultless a b).0 (m.unmet _ k);
            refuses = (type-refused-exactly 5 afi (item_field 1 x) n).0 e;
          },
        ))
        (λ none. inr (λ a b k. (read-faultless a b).0 (none _ k)))
        (first-met faulty items)

-- judging a shared tree

module _ (afi : ℕ) (tree : SharedTree) where
  pub routes-pairs : (lent : Lent tree) → Pairs lent.source_actives
  routes-pairs lent = read-list-pairs _ _ lent.routes_read

  pub states-pairs : (lent : Lent tree) → Pairs lent.states
  states-pairs lent = read-list-pairs _ _ lent.states_read

  module _ (bits : ℕ) (of_family : family_bits afi ≡ given bits) (items : List Item) (prefixed : read_prefixes bits tree.prefixes ≡ given items) where
    good-prefixed : GoodPrefixes afi tree.prefixes
    good-prefixed = (prefixes-good afi bits of_family tree.prefixes items prefixed).0

    -- what follows the reading of both lists
    abbrev addresses : (source_actives states : List Item) → Outcome ℕ
    addresses source_actives states =
        unless (is_originator_size (length tree.router)) FLOW
        (unless (every_item originator_sized source_actives) FLOW
        (unless (every_item (state_sized bits) states) FLOW
        (and_then (class_in bits items tree.group) (λ class. in_turn afi source_actives class))))

    addresses-case : (P : Outcome ℕ → Type 0) (lent : Lent tree) → ((Addressed afi tree lent → ⊥) → P (refused FLOW))
        → (Addressed afi tree lent → (class : ℕ) → Classed afi tree.prefixes tree.group class → P (in_turn afi lent.source_actives class)) → P (addresses lent.source_actives lent.states)
    addresses-case P lent bad good =
        pick-case P _ _ _
        (λ r. pick-case P _ _ _
        (λ o. pick-case P _ _ _
        (λ s. and-case P _ _
        (λ n e. subst (λ (k : ℕ). P (refused k)) (sym (class-refused afi bits of_family tree.prefixes items prefixed tree.group n e).0) (bad (λ a. (class-refused afi bits of_family tree.prefixes items prefixed tree.group n e).1 a.multicast)))
        (λ class e.
        let k = classed afi bits of_family tree.prefixes items prefixed tree.group class e in
        good (record { router = (lengths.originators (length tree.router)).0 r; originators = routes.0 o; states = states.0 s; multicast = k.multicast }) class k))
        (λ f. bad (λ a. opposite (states.1 a.states) f)))
        (λ f. bad (λ a. opposite (routes.1 a.originators) f)))
        (λ f. bad (λ a. opposite ((lengths.originators (length tree.router)).1 a.router) f))
      where
        routes : (every_item originator_sized lent.source_actives ≡ true) ↔ ((originator nlri : List ℕ) → Among (originator ∷ (nlri ∷ [])) lent.source_actives → RouterSized originator)
        routes = every-pair originator_sized (λ originator nlri. RouterSized originator) originator-says lent.source_actives (routes-pairs lent)

        states : (every_item (state_sized bits) lent.states ≡ true) ↔ ((source group : List ℕ) → Among (source ∷ (group ∷ [])) lent.states → FamilySized afi source × FamilySized afi group)
        states = every-pair (state_sized bits) (λ source group. FamilySized afi source × FamilySized afi group) (state-says afi bits of_family) lent.states (states-pairs lent)

    -- what follows the counts
    abbrev lists : Outcome ℕ
    lists = and_then (read_list 2 tree.source_actives) (λ source_actives. and_then (read_list 2 tree.states) (λ states. addresses source_actives states))

    judged-few : FewItems tree → judged_tree afi tree ≡ lists
    unfolding judged_tree
    judged-few few = sym (and-goes-on _ _ _ _ of_family (and-goes-on _ _ _ _ prefixed (sym (pick_true _ _ _ (le-leb _ _ few.source_actives) ∙ pick_true _ _ _ (le-leb _ _ few.states)))))

    judged-lent : FewItems tree → (lent : Lent tree) → judged_tree afi tree ≡ addresses lent.source_actives lent.states
    judged-lent few lent = judged-few few ∙ sym (and-goes-on _ _ _ _ lent.routes_read (and-goes-on _ _ _ _ lent.states_read refl))

    judged-long : (256 < list_count tree.source_actives) ⊎ (256 < list_count tree.states) → judged_tree afi tree ≡ refused LONG
    unfolding judged_tree
    judged-long h = sym (and-goes-on _ _ _ _ of_family (and-goes-on _ _ _ _ prefixed (sym (⊎_elim (λ routes. pick-false _ _ _ (lt-leb _ _ routes)) (λ states. pick-case (λ o. o ≡ refused LONG) _ _ _ (λ few. pick-false _ _ _ (lt-leb _ _ states)) (λ many. refl)) h))))

    judged-short : FewItems tree → (read_list 2 tree.source_actives ≡ refused SHORT) ⊎ (read_list 2 tree.states ≡ refused SHORT) → judged_tree afi tree ≡ refused SHORT
    judged-short few h =
        judged-few few
        ∙ ⊎_elim (λ routes. sym (and-stops _ _ _ routes))
        (λ states. and-case (λ o. o ≡ refused SHORT) _ _ (λ n e. ap refused (read-list-refused 2 tree.source_actives n e)) (λ routes e. sym (and-stops _ _ _ states)))
        h

    pub judged-refuses : {output : List ℕ} {n : ℕ} → SharedTreeRefusal afi tree output n → (judged_tree afi tree ≡ refused n) ⊎ (GoodTree afi tree × (length output < 124) × (n ≡ SPACE))
    judged-refuses (bad_tree_prefixes r) = absurd (prefixes-either afi (good-family afi bits of_family) tree.prefixes good-prefixed r)
    judged-refuses (long_list ok h) = inl (judged-long h)
    judged-refuses (short_list ok few h) = inl (judged-short few h)
    judged-refuses (bad_address ok few lent bad) = inl (judged-lent few lent ∙ addresses-case (λ o. o ≡ refused FLOW) lent (λ none. refl) (λ a. absurd (bad a)))
    judged-refuses (bad_source_active {n} ok few lent good r) =
        inl (judged-lent few lent
        ∙ addresses-case (λ o. o ≡ refused n) lent (λ bad. absurd (bad good)) (λ a class k. in-turn-refused afi lent.source_actives (routes-pairs lent) class n r))
    judged-refuses (too_small good less) = inr (good, less, refl)

    pub judged-given : (g : GoodTree afi tree) → (class : ℕ) × (judged_tree afi tree ≡ given class)
    judged-given g =
        let lent = g.lent in
        let o = addresses-case (λ o. (class : ℕ) × (o ≡ given class)) lent (λ bad. absurd (bad g.addressed)) (λ a class k. (class, in-turn-read afi lent.source_actives (routes-pairs lent) class g.read)) in
        (o.0, judged-lent g.few lent ∙ o.1)

    -- what judging comes to
    pub data Judged (output : List ℕ) : Outcome ℕ → Type 0 where
      refuses : {n : ℕ} → SharedTreeRefusal afi tree output n → Judged output (refused n)
      takes : {class : ℕ} → GoodTree afi tree → Classed afi tree.prefixes tree.group class → Judged output (given class)

    pub judged-is : (output : List ℕ) → Judged output (judged_tree afi tree)
    judged-is output =
        tested (leb (list_count tree.source_actives) 256)
        (λ r. tested (leb (list_count tree.states) 256) (λ s. read (record { source_actives = leb-true _ _ r; states = leb-true _ _ s })) (λ s. long (inr (leb-false _ _ s))))
        (λ r. long (inl (leb-false _ _ r)))
      where
        long : (256 < list_count tree.source_actives) ⊎ (256 < list_count tree.states) → Judged output (judged_tree afi tree)
        long h = subst (Judged output) (sym (judged-long h)) (refuses (long_list good-prefixed h))

        short : FewItems tree → (read_list 2 tree.source_actives ≡ refused SHORT) ⊎ (read_list 2 tree.states ≡ refused SHORT) → Judged output (judged_tree afi tree)
        short few h = subst (Judged output) (sym (judged-short few h)) (refuses (short_list good-prefixed few h))

        whole : FewItems tree → (lent : Lent tree) → Judged output (judged_tree afi tree)
        whole few lent =
            subst (Judged output) (sym (judged-lent few lent))
            (addresses-case (Judged output) lent (λ bad. refuses (bad_address good-prefixed few lent bad))
            (λ a class k. ⊎_elim
            (λ r. subst (Judged output) (sym (in-turn-refused afi lent.source_actives (routes-pairs lent) class r.0 r.1)) (refuses (bad_source_active good-prefixed few lent a r.1)))
            (λ all. subst (Judged output) (sym (in-turn-read afi lent.source_actives (routes-pairs lent) class all)) (takes (record { prefixed = good-prefixed; few = few; lent = lent; addressed = a; read = all }) k))
            (in-turn afi lent.source_actives (routes-pairs lent))))

        read : FewItems tree → Judged output (judged_tree afi tree)
        read few =
            ⊎_elim
            (λ routes. ⊎_elim
            (λ states. whole few (record { source_actives = routes.0; states = states.0; routes_read = routes.1; states_read = states.1 }))
            (λ n. short few (inr (n.1 ∙ ap refused (read-list-refused 2 _ _ n.1))))
            (outcome (read_list 2 tree.states)))
            (λ n. short few (inl (n.1 ∙ ap refused (read-list-refused 2 _ _ n.1))))
            (outcome (read_list 2 tree.source_actives))

-- a shared tree that is taken, and what it asks
pub record AskedTree (afi : ℕ) (tree : SharedTree) (output : List ℕ) (q : Query) : Type 0 where
  pub good : GoodTree afi tree
  pub enough : 124 ≤ length output
  pub class : ℕ
  pub classes : Classed afi tree.prefixes tree.group class
  pub is : q ≡ tree_query afi tree class

pub asked-tree-router : {afi : ℕ} {tree : SharedTree} {output : List ℕ} {q : Query} → AskedTree afi tree output q → q.router ≡ tree.router
unfolding tree_query
asked-tree-router a = ap (λ (x : Query). x.router) a.is

module _ (afi : ℕ) (tree : SharedTree) (output : List ℕ) where
  -- a refusal by judging, and a class that it gives
  judged-refused : (bits : ℕ) (of_family : family_bits afi ≡ given bits) (items : List Item) (prefixed : read_prefixes bits tree.prefixes ≡ given items) {n : ℕ} → Judged afi tree bits of_family items prefixed output (refused n) → SharedTreeRefusal afi tree output n
  judged-refused bits of_family items prefixed (refuses r) = r

  judged-taken : (bits : ℕ) (of_family : family_bits afi ≡ given bits) (items : List Item) (prefixed : read_prefixes bits tree.prefixes ≡ given items) {class : ℕ} → Judged afi tree bits of_family items prefixed output (given class) → GoodTree afi tree × Classed afi tree.prefixes tree.group class
  judged-taken bits of_family items prefixed (takes g k) = (g, k)

  judged-good : (class : ℕ) → judged_tree afi tree ≡ given class → GoodTree afi tree × Classed afi tree.prefixes tree.group class
  unfolding judged_tree
  judged-good class e =
      let p = passed _ _ _ e in
      let l = passed _ _ _ p.second in
      judged-taken p.value p.first l.value l.first (subst (Judged afi tree p.value p.first l.value l.first output) e (judged-is afi tree p.value p.first l.value l.first output))

  pub tree-asked : (q : Query) → read_tree afi tree output ≡ given q → AskedTree afi tree output q
  unfolding read_tree
  tree-asked q e =
      let p = passed _ _ _ e in
      let g = given-otherwise _ _ _ _ p.second in
      let j = judged-good p.value p.first in
      record { good = j.0; enough = ltb-false _ _ g.0; class = p.value; classes = j.1; is = sym (given-same g.1) }

  pub tree-given : GoodTree afi tree → 124 ≤ length output → (q : Query) × (read_tree afi tree output ≡ given q)
  unfolding read_tree
  tree-given g enough =
      let bits = family-good afi (multicast-family g.addressed.multicast) in
      let j = judged-given afi tree bits.0 bits.1 g.prefixed.items (good-prefixes afi bits.0 bits.1 tree.prefixes g.prefixed) g in
      (tree_query afi tree j.0, sym (and-goes-on _ _ _ _ j.1 (sym (pick-false _ _ _ (le-ltb (length output) 124 enough)))))

  -- the refusals by the prefixes, and those that follow
  module _ (bits : ℕ) (of_family : family_bits afi ≡ given bits) where
    prefixes-refuse : (n : ℕ) → read_prefixes bits tree.prefixes ≡ refused n → judged_tree afi tree ≡ refused n
    unfolding judged_tree
    prefixes-refuse n e = sym (and-goes-on _ _ _ _ of_family (and-stops _ _ _ e))

    refusal : (n : ℕ) → judged_tree afi tree ≡ refused n → SharedTreeRefusal afi tree output n
    refusal n e =
        ⊎_elim (λ l. judged-refused bits of_family l.0 l.1 (subst (Judged afi tree bits of_family l.0 l.1 output) e (judged-is afi tree bits of_family l.0 l.1 output)))
        (λ r. bad_tree_prefixes (prefixes-refused afi bits of_family tree.prefixes n (r.1 ∙ refused-alike (sym (prefixes-refuse r.0 r.1) ∙ e))))
        (outcome (read_prefixes bits tree.prefixes))
      where
        refused-alike : {m : ℕ} → ◌≡◌ {A = Outcome ℕ} (refused m) (refused n) → ◌≡◌ {A = Outcome (List Item)} (refused m) (refused n)
        refused-alike q = ap refused (refused-same {A = ℕ} q)

    with-prefixes : GoodPrefixes afi tree.prefixes → {n : ℕ} → SharedTreeRefusal afi tree output n → (judged_tree afi tree ≡ refused n) ⊎ (GoodTree afi tree × (length output < 124) × (n ≡ SPACE))
    with-prefixes ok r = judged-refuses afi tree bits of_family ok.items (good-prefixes afi bits of_family tree.prefixes ok) r

    refuses-by : {n : ℕ} → SharedTreeRefusal afi tree output n → (judged_tree afi tree ≡ refused n) ⊎ (GoodTree afi tree × (length output < 124) × (n ≡ SPACE))
    refuses-by (bad_tree_prefixes r) = inl (prefixes-refuse _ (refused-prefixes afi bits of_family tree.prefixes r))
    refuses-by (long_list ok h) = with-prefixes ok (long_list ok h)
    refuses-by (short_list ok few h) = with-prefixes ok (short_list ok few h)
    refuses-by (bad_address ok few lent bad) = with-prefixes ok (bad_address ok few lent bad)
    refuses-by (bad_source_active ok few lent good r) = with-prefixes ok (bad_source_active ok few lent good r)
    refuses-by (too_small good less) = inr (good, less, refl)

  pub tree-refused : (n : ℕ) → KnownFamily afi → (read_tree afi tree output ≡ refused n) ↔ SharedTreeRefusal afi tree output n
  unfolding read_tree
  tree-refused n known =
      let bits = family-good afi known in (
        λ e.
            ⊎_elim (λ r. refusal bits.0 bits.1 n r)
            (λ later.
            let p = refuses-where SPACE n _ _ later.second in
            subst (SharedTreeRefusal afi tree output) (sym p.1) (too_small (judged-good later.value later.first).0 (ltb-true _ _ p.0)))
            (stopped _ _ _ e),
        λ r.
            ⊎_elim (λ j. sym (and-stops _ _ _ j))
            (λ s. sym (and-goes-on _ _ _ _ (judged-given afi tree bits.0 bits.1 s.0.prefixed.items (good-prefixes afi bits.0 bits.1 tree.prefixes s.0.prefixed) s.0).1 (sym (pick_true _ _ _ (lt-ltb (length output) 124 s.1) ∙ ap refused (sym s.2)))))
            (refuses-by bits.0 bits.1 r),
      )
