-- The bodies of the route types, and fields without those that their type lacks.
use Rattle.std.proofs.Common.{◌≡◌, Bool, true, false, List, [], ◌∷◌, refl, ap, ◌∙◌}
use Rattle.octets.specs.Choice.{pick, either}
use Rattle.octets.specs.Lists.{Among, first, later}
use Rattle.octets.proofs.Choice.{opposite}
use Rattle.nlri.specs.Bodies.{FieldKind, distinguisher, source_as, source, group, originator, key, fec, bodies, on_body, body_of, same_kind, has_field}
use Rattle.nlri.specs.Fields.{restricted}
use Rattle.nlri.specs.Rules.NlriRules.{KeptIf, has, lacks, BodyRule}
use Rattle.nlri.proofs.Definitions.Table.{same_kind_lem, has_first, has-later}

has-among : (kind : FieldKind) (body : List FieldKind) → has_field kind body ≡ true → Among kind body
unfolding has_field either
has-among kind [] e = absurd (opposite e refl)
has-among kind (k ∷ body) e = go (same_kind kind k) refl e (has-among kind body)
  where
    go : (b : Bool) → same_kind kind k ≡ b → either b (has_field kind body) ≡ true → (has_field kind body ≡ true → Among kind body) → Among kind (k ∷ body)
    go true same e behind = first (same_kind_lem kind k same)
    go false other e behind = later (behind e)

among-has : (kind : FieldKind) (body : List FieldKind) → Among kind body → has_field kind body ≡ true
among-has kind body (first {y} {ys} e) = ap (λ (k : FieldKind). has_field k (y ∷ ys)) e ∙ has_first y ys
among-has kind body (later {y} {ys} a) = has-later kind y ys (among-has kind ys a)

-- a field by the test of its kind
kept_if : {A : Type 0} (kind : FieldKind) (body : List FieldKind) (field empty : A) → KeptIf (Among kind body) field empty (pick (has_field kind body) field empty)
unfolding pick
kept_if {A} kind body field empty = go (has_field kind body) refl
  where
    go : (b : Bool) → has_field kind body ≡ b → KeptIf (Among kind body) field empty (pick b field empty)
    go true e = has (has-among kind body e)
    go false e = lacks (λ a. opposite (among-has kind body a) e)

pub body_rule : BodyRule
unfolding body_of on_body bodies restricted pick
body_rule =
    record {
      one = refl;
      two = refl;
      three = refl;
      four = refl;
      five = refl;
      six = refl;
      seven = refl;
      mldp_s_pmsi = refl;
      mldp_leaf = refl;
      mldp_source_tree_join = refl;
      has = λ kind body. (has-among kind body, among-has kind body);
      restricts = λ f.
          let body : List FieldKind = body_of f.type in
          record {
            type = refl;
            distinguisher = kept_if distinguisher body f.distinguisher [];
            source_as = kept_if source_as body f.source_as 0;
            source = kept_if source body f.source [];
            group = kept_if group body f.group [];
            originator = kept_if originator body f.originator [];
            key = kept_if key body f.key [];
            fec = kept_if fec body f.fec [];
          };
    }
