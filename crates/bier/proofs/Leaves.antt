-- Leaf routes: what one that is read says of its octets, by which BFR-id it counts, and the BFR-ids of them all.
use Prim.Native.Nat.{ℕ, ◌+◌, ◌*◌, ◌≤◌}
use mathlib.Core.Path.{◌≡◌, refl, sym, ap, subst, ◌∙◌}
use mathlib.Core.List.{List, [], ◌∷◌, ◌++◌}
use mathlib.Core.Logic.{◌↔◌, ◌≢◌, ⊎_elim}
use native.Mathlib.Omega.{arith}
use borrow.Author.Tests.{eqb-true, eq-eqb}
use lib.ListN.{length, get_or, drop}
use lib.Seq.{get_or-drop}
use Rattle.octets.specs.Numbers.{DONE}
use Rattle.octets.specs.Choice.{pick}
use Rattle.octets.specs.Outcome.{given, refused}
use Rattle.octets.specs.Lists.{Among, first, later}
use Rattle.octets.proofs.Choice.{picked, pick_true, both-held, both_true}
use Rattle.octets.proofs.Outcome.{never, given-same, and-goes-on, and-stops, passed, stopped, Refuses, value, refuses-then}
use Rattle.octets.proofs.NetworkOrder.{number-two}
use Rattle.octets.proofs.Orders.{same-equal, same-of-equal}
use Rattle.octets.proofs.Among.{among_none, among_cases, among-left}
use Rattle.lists.specs.LentLists.{Item, item_field}
use Rattle.lists.proofs.Items.{Pairs, pairs-each}
use Rattle.nlri.specs.Fields.{Fields}
use Rattle.nlri.specs.Reading.{read_nlri}
use Rattle.nlri.specs.declared.layout.Layout.{Layout}
use Rattle.nlri.specs.Inner.{layout_with, leaf_layout, layout_in, fields_at}
use Rattle.nlri.proofs.Functions.Singles.{ReadAt, read_at}
use Rattle.tunnel.specs.Attribute.{AttributeFields, fields_in, read_attribute}
use Rattle.tunnel.specs.Bier.{bier_in}
use Rattle.tunnel.proofs.Definitions.Attributes.{read-given, refuses-read}
use Rattle.tunnel.proofs.Theorems.{bier_identifier_rule}
use Rattle.bier.specs.LeafRoutes.{Leaf, read_leaf, read_leaves, bfr_id_in, counting_id, counting_ids}
use Rattle.bier.specs.Inner.{key_in, KeyWithin, LeafStands, standing_id}
use Rattle.bier.specs.Rules.BierRule.{LeafRoute, LeafRefusal, bad_leaf, bad_tunnel, AllLeaves, FirstRefusedLeaf, CountingLeaf, CountedId}
use Rattle.bier.proofs.OfType.{of-type-given, given-of-type, of-type-refused, refused-of-type, type-refuses}

-- a Leaf route: of an NLRI of type 4 and of an attribute, both read
module _ (afi : ℕ) (x : Item) where
  pub record ReadLeaf (leaf : Leaf) : Type 0 where
    pub fields : Fields
    pub read : read_nlri afi (item_field 0 x) ≡ given fields
    pub kind : fields.type ≡ 4
    pub key : leaf.key ≡ fields.key
    pub attribute : read_attribute (item_field 1 x) ≡ given leaf.attribute

  pub leaf-given : (leaf : Leaf) → read_leaf afi x ≡ given leaf → ReadLeaf leaf
  unfolding read_leaf
  leaf-given leaf e =
      let p = passed _ _ _ e in
      let q = passed _ _ _ p.second in
      let is : record { key = p.value.key; attribute = q.value } ≡ leaf = given-same q.second in
      let t = of-type-given 4 afi (item_field 0 x) p.value p.first in
      record {
        fields = p.value;
        read = t.0;
        kind = t.1;
        key = ap (λ (l : Leaf). l.key) (sym is);
        attribute = q.first ∙ ap (λ (l : Leaf). given l.attribute) is;
      }

  pub given-leaf : (f : Fields) (g : AttributeFields) → read_nlri afi (item_field 0 x) ≡ given f → f.type ≡ 4 → read_attribute (item_field 1 x) ≡ given g
      → read_leaf afi x ≡ given (record { key = f.key; attribute = g })
  unfolding read_leaf
  given-leaf f g e t a = sym (and-goes-on _ _ f _ (given-of-type 4 afi (item_field 0 x) f e t) (and-goes-on _ _ g _ a refl))

  leaf-refused : (n : ℕ) → read_leaf afi x ≡ refused n → LeafRefusal afi (item_field 0 x) (item_field 1 x) n
  unfolding read_leaf
  leaf-refused n e =
      ⊎_elim (λ r. bad_leaf (of-type-refused 4 afi (item_field 0 x) n r))
      (λ l.
      let t = of-type-given 4 afi (item_field 0 x) l.value l.first in
      ⊎_elim (λ r. bad_tunnel (record { fields = l.value; read = t.0; kind = t.1 }) r) (λ m. absurd (never refl m.second)) (stopped _ _ _ l.second))
      (stopped _ _ _ e)

  refused-leaf : (n : ℕ) → LeafRefusal afi (item_field 0 x) (item_field 1 x) n → read_leaf afi x ≡ refused n
  unfolding read_leaf
  refused-leaf n (bad_leaf r) = sym (and-stops _ _ _ (refused-of-type 4 afi (item_field 0 x) n r))
  refused-leaf n (bad_tunnel t r) = sym (and-goes-on _ _ t.fields _ (given-of-type 4 afi (item_field 0 x) t.fields t.read t.kind) (and-stops _ _ _ r))

  -- no refusal of one is DONE
  pub leaf-refuses : Refuses (λ n. n ≡ DONE → ⊥) (read_leaf afi x)
  unfolding read_leaf
  leaf-refuses = refuses-then _ _ (type-refuses afi (item_field 0 x)) (λ f. refuses-then _ _ (refuses-read (item_field 1 x)) (λ g. value))

  -- where its fields stand
  module _ (leaf : Leaf) (e : read_leaf afi x ≡ given leaf) where
    named : ReadLeaf leaf
    named = leaf-given leaf e

    at : ReadAt (item_field 0 x) named.fields
    at = read_at afi (item_field 0 x) named.fields named.read

    typed : get_or (item_field 0 x) 0 0 ≡ 4
    typed = at.typed ∙ named.kind

    layout : layout_in (item_field 0 x) ≡ leaf_layout 4 (item_field 0 x)
    unfolding layout_in pick
    layout = rw typed

    key-stands : leaf.key ≡ key_in (item_field 0 x)
    unfolding fields_at leaf_layout layout_with key_in
    key-stands = named.key ∙ ap (λ (f : Fields). f.key) (sym at.fields ∙ ap (λ (l : Layout). fields_at l (item_field 0 x)) layout)

    key-within : KeyWithin (item_field 0 x)
    key-within = let k = at.stands.leaf typed in record { within = omega (arith, k.0, k.1, at.long.0, at.long.1) }

    attribute-stands : fields_in (item_field 1 x) ≡ leaf.attribute
    attribute-stands = (read-given (item_field 1 x) leaf.attribute named.attribute).1

    pub leaf-stands : LeafStands x
    leaf-stands = record { key = key-within; attribute = record { read = named.attribute ∙ ap given (sym attribute-stands) } }

    pub id-stands : (nlri : List ℕ) (sub_domain : ℕ) → counting_id nlri sub_domain leaf ≡ standing_id nlri sub_domain x
    unfolding counting_id standing_id
    id-stands nlri sub_domain = rw (key-stands, ← attribute-stands)

-- the identifier of a BIER attribute, by the octets of the attribute
module _ (a : List ℕ) (f : AttributeFields) (e : read_attribute a ≡ given f) where
  stand : fields_in a ≡ f
  stand = (read-given a f e).1

  tunnel-is : f.tunnel_type ≡ get_or a 1 0
  unfolding fields_in
  tunnel-is = ap (λ (g : AttributeFields). g.tunnel_type) (sym stand)

  identifier-is : f.identifier ≡ drop 5 a
  unfolding fields_in
  identifier-is = ap (λ (g : AttributeFields). g.identifier) (sym stand)

  pub sub-domain-is : (bier_in f.identifier).sub_domain ≡ get_or a 5 0
  unfolding bier_in
  sub-domain-is = ap (λ (i : List ℕ). get_or i 0 0) identifier-is ∙ get_or-drop 5 a 0 0

  pub identifier-long : f.tunnel_type ≡ 11 → 3 ≤ length f.identifier
  identifier-long t = let o = bier_identifier_rule.octets a f e t in rw o.is (omega arith)

  bfr-id-is : f.tunnel_type ≡ 11 → (bier_in f.identifier).bfr_id ≡ 256 * get_or a 6 0 + get_or a 7 0
  unfolding bier_in
  bfr-id-is t =
      let high : get_or f.identifier 1 0 ≡ get_or a 6 0 = ap (λ (i : List ℕ). get_or i 1 0) identifier-is ∙ get_or-drop 5 a 1 0 in
      let low : get_or f.identifier 2 0 ≡ get_or a 7 0 = ap (λ (i : List ℕ). get_or i 2 0) identifier-is ∙ get_or-drop 5 a 2 0 in
      sym (number-two f.identifier 1 (identifier-long t)) ∙ omega arith

-- the BFR-id by which a Leaf route counts
module _ (afi : ℕ) (nlri attribute : List ℕ) (sub_domain : ℕ) (own : sub_domain ≡ get_or attribute 5 0) (x : Item) (leaf : Leaf) (e : read_leaf afi x ≡ given leaf) (id : ℕ) where
  counts-there : id ≢ 0 → id ≡ counting_id nlri sub_domain leaf → CountingLeaf afi nlri attribute (item_field 0 x) (item_field 1 x) id
  unfolding counting_id bfr_id_in
  counts-there some is =
      let l = leaf-given afi x leaf e in
      let k = ⊎_elim (λ p. p) (λ p. absurd (some (sym p.1))) (picked _ _ _ id (sym is)) in
      let b = ⊎_elim (λ p. p) (λ p. absurd (some (sym p.1))) (picked _ _ _ id k.1) in
      let t = both-held _ _ b.0 in
      let bier : leaf.attribute.tunnel_type ≡ 11 = eqb-true _ _ t.0 in
      record {
        named = record { fields = l.fields; read = l.read; kind = l.kind };
        key = sym l.key ∙ same-equal _ _ k.0;
        bier = sym (tunnel-is (item_field 1 x) leaf.attribute l.attribute) ∙ bier;
        sub_domain = sym (sub-domain-is (item_field 1 x) leaf.attribute l.attribute) ∙ eqb-true _ _ t.1 ∙ own;
        bfr_id = sym b.1 ∙ bfr-id-is (item_field 1 x) leaf.attribute l.attribute bier;
        some = some;
      }

  counts-back : CountingLeaf afi nlri attribute (item_field 0 x) (item_field 1 x) id → id ≡ counting_id nlri sub_domain leaf
  unfolding counting_id bfr_id_in
  counts-back c =
      let l = leaf-given afi x leaf e in
      let one : l.fields ≡ c.named.fields = given-same (sym l.read ∙ c.named.read) in
      let bier : leaf.attribute.tunnel_type ≡ 11 = tunnel-is (item_field 1 x) leaf.attribute l.attribute ∙ c.bier in
      let sub : (bier_in leaf.attribute.identifier).sub_domain ≡ sub_domain = sub-domain-is (item_field 1 x) leaf.attribute l.attribute ∙ c.sub_domain ∙ sym own in
      c.bfr_id ∙ sym (bfr-id-is (item_field 1 x) leaf.attribute l.attribute bier)
      ∙ sym (pick_true _ _ _ (both_true _ _ (eq-eqb _ _ bier) (eq-eqb _ _ sub)))
      ∙ sym (pick_true _ _ _ (same-of-equal _ _ (l.key ∙ ap (λ (f : Fields). f.key) one ∙ c.key)))

-- Leaf routes one after the other
module _ (afi : ℕ) where
  -- each is read where all are
  module _ (nlri : List ℕ) (sub_domain : ℕ) where
    pub each-given : (items : List Item) (leaves : List Leaf) → read_leaves afi items ≡ given leaves → (x : Item) → Among x items
        → (leaf : Leaf) × (read_leaf afi x ≡ given leaf) × Among (counting_id nlri sub_domain leaf) (counting_ids nlri sub_domain leaves)
    unfolding read_leaves counting_ids
    each-given [] leaves e x m = absurd (among_none m)
    each-given (y ∷ ys) leaves e x m =
        let p = passed _ _ _ e in
        let q = passed _ _ _ p.second in
        let is : p.value ∷ q.value ≡ leaves = given-same q.second in
        ⊎_elim
        (λ here. (p.value, ap (read_leaf afi) here ∙ p.first, subst (λ (l : List Leaf). Among (counting_id nlri sub_domain p.value) (counting_ids nlri sub_domain l)) is (first refl)))
        (λ behind. let r = each-given ys q.value q.first x behind in (r.0, r.1, subst (λ (l : List Leaf). Among (counting_id nlri sub_domain r.0) (counting_ids nlri sub_domain l)) is (later r.2)))
        (among_cases m)

    -- and every BFR-id is that of one
    ids-there : (items : List Item) (leaves : List Leaf) → read_leaves afi items ≡ given leaves → (id : ℕ) → Among id (counting_ids nlri sub_domain leaves)
        → (x : Item) × Among x items × ((leaf : Leaf) × (read_leaf afi x ≡ given leaf) × (id ≡ counting_id nlri sub_domain leaf))
    unfolding read_leaves counting_ids
    ids-there [] leaves e id m = absurd (among_none (subst (λ (l : List Leaf). Among id (counting_ids nlri sub_domain l)) (sym (given-same e)) m))
    ids-there (y ∷ ys) leaves e id m =
        let p = passed _ _ _ e in
        let q = passed _ _ _ p.second in
        let is : p.value ∷ q.value ≡ leaves = given-same q.second in
        ⊎_elim
        (λ here. (y, first refl, (p.value, p.first, here)))
        (λ behind. let r = ids-there ys q.value q.first id behind in (r.0, later r.1, r.2))
        (among_cases (subst (λ (l : List Leaf). Among id (counting_ids nlri sub_domain l)) (sym is) m))

    pub counting-ids : (attribute : List ℕ) → sub_domain ≡ get_or attribute 5 0 → (items : List Item) → Pairs items → (leaves : List Leaf) → read_leaves afi items ≡ given leaves
        → (id : ℕ) → (Among id (counting_ids nlri sub_domain leaves) × (id ≢ 0)) ↔ CountedId afi nlri attribute items id
    unfolding item_field
    counting-ids attribute own items pairs leaves e id = (
      λ h.
          let r = ids-there items leaves e id h.0 in
          let l = r.2 in
          record {
            leaf_nlri = item_field 0 r.0;
            leaf_attribute = item_field 1 r.0;
            among = subst (λ (x : Item). Among x items) (pairs r.0 r.1) r.1;
            counts = counts-there afi nlri attribute sub_domain own r.0 l.0 l.1 id h.1 l.2;
          },
      λ c.
          let r = each-given items leaves e (c.leaf_nlri ∷ (c.leaf_attribute ∷ [])) c.among in (
            subst (λ (i : ℕ). Among i (counting_ids nlri sub_domain leaves)) (sym (counts-back afi nlri attribute sub_domain own (c.leaf_nlri ∷ (c.leaf_attribute ∷ [])) r.0 r.1 id c.counts)) r.2,
            c.counts.some,
          ),
    )

  all-given : (items : List Item) → ((x : Item) → Among x items → (leaf : Leaf) × (read_leaf afi x ≡ given leaf)) → (leaves : List Leaf) × (read_leaves afi items ≡ given leaves)
  unfolding read_leaves
  all-given [] h = ([], refl)
  all-given (x ∷ xs) h =
      let l = h x (first refl) in
      let ls = all-given xs (λ y m. h y (later m)) in
      (l.0 ∷ ls.0, sym (and-goes-on _ _ l.0 _ l.1 (and-goes-on _ _ ls.0 _ ls.1 refl)))

  pub leaves-refuse : (items : List Item) → Refuses (λ n. n ≡ DONE → ⊥) (read_leaves afi items)
  unfolding read_leaves
  leaves-refuse [] = value
  leaves-refuse (x ∷ xs) = refuses-then _ _ (leaf-refuses afi x) (λ leaf. refuses-then _ _ (leaves-refuse xs) (λ leaves. value))

  -- a well-formed Leaf route is one that is read
  leaf-route : (x : Item) (leaf : Leaf) → read_leaf afi x ≡ given leaf → LeafRoute afi (item_field 0 x) (item_field 1 x)
  leaf-route x leaf e = let l = leaf-given afi x leaf e in record { named = record { fields = l.fields; read = l.read; kind = l.kind }; fields = leaf.attribute; read = l.attribute }

  route-leaf : (x : Item) → LeafRoute afi (item_field 0 x) (item_field 1 x) → (leaf : Leaf) × (read_leaf afi x ≡ given leaf)
  route-leaf x r = (_, given-leaf afi x r.named.fields r.fields r.named.read r.named.kind r.read)

  pub leaves-read : (items : List Item) → Pairs items → AllLeaves afi items → (leaves : List Leaf) × (read_leaves afi items ≡ given leaves)
  unfolding item_field
  leaves-read items pairs all = all-given items (pairs-each (λ x. (leaf : Leaf) × (read_leaf afi x ≡ given leaf)) items pairs (λ n a m. route-leaf (n ∷ (a ∷ [])) (all n a m)))

  pub read-leaves : (items : List Item) (leaves : List Leaf) → read_leaves afi items ≡ given leaves → AllLeaves afi items
  unfolding item_field
  read-leaves items leaves e n a m = let r = each-given [] 0 items leaves e (n ∷ (a ∷ [])) m in leaf-route (n ∷ (a ∷ [])) r.0 r.1

  -- the first that is refused decides
  pub first-refused : (items : List Item) → Pairs items → (n : ℕ) → read_leaves afi items ≡ refused n → FirstRefusedLeaf afi items n
  unfolding read_leaves item_field
  first-refused [] pairs n e = absurd (never refl e)
  first-refused (x ∷ xs) pairs n e =
      ⊎_elim
      (λ r.
      record {
        earlier = [];
        nlri = item_field 0 x;
        attribute = item_field 1 x;
        later = xs;
        is = ap (λ (y : Item). y ∷ xs) (pairs x (first refl));
        read = λ a b m. absurd (among_none m);
        refuses = leaf-refused afi x n r;
      })
      (λ l.
      ⊎_elim
      (λ r.
      let f = first-refused xs (λ y m. pairs y (later m)) n r in
      record {
        earlier = x ∷ f.earlier;
        nlri = f.nlri;
        attribute = f.attribute;
        later = f.later;
        is = ap (λ (ys : List Item). x ∷ ys) f.is;
        read = λ a b m. ⊎_elim (λ here. leaf-route (a ∷ (b ∷ [])) l.value (ap (read_leaf afi) here ∙ l.first)) (f.read a b) (among_cases m);
        refuses = f.refuses;
      })
      (λ m. absurd (never refl m.second))
      (stopped _ _ _ l.second))
      (stopped _ _ _ e)

  refused-first : (earlier : List Item) (x : Item) (later : List Item) (n : ℕ) → ((y : Item) → Among y earlier → (leaf : Leaf) × (read_leaf afi y ≡ given leaf)) → read_leaf afi x ≡ refused n
      → read_leaves afi (earlier ++ (x ∷ later)) ≡ refused n
  unfolding read_leaves
  refused-first [] x behind n h e = sym (and-stops _ _ _ e)
  refused-first (y ∷ ys) x behind n h e = let l = h y (first refl) in sym (and-goes-on _ _ l.0 _ l.1 (and-stops _ _ _ (refused-first ys x behind n (λ z m. h z (later m)) e)))

  pub leaves-refused : (items : List Item) → Pairs items → (n : ℕ) → FirstRefusedLeaf afi items n → read_leaves afi items ≡ refused n
  unfolding item_field
  leaves-refused items pairs n f =
      let before : (y : Item) → Among y f.earlier → Among y items = λ y m. subst (λ (ys : List Item). Among y ys) (sym f.is) (among-left _ m) in
      ap (read_leaves afi) f.is
      ∙ refused-first f.earlier (f.nlri ∷ (f.attribute ∷ [])) f.later n
      (pairs-each (λ x. (leaf : Leaf) × (read_leaf afi x ≡ given leaf)) f.earlier (λ y m. pairs y (before y m)) (λ a b m. route-leaf (a ∷ (b ∷ [])) (f.read a b m)))
      (refused-leaf afi (f.nlri ∷ (f.attribute ∷ [])) n f.refuses)
