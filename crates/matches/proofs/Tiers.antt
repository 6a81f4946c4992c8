-- The tier of a route by the octets of its NLRI.
use Prim.Native.Nat.{ℕ, ◌+◌, ◌-◌, ◌≤◌, ◌<◌}
use mathlib.Core.Path.{◌≡◌, refl, sym, ◌∙◌, ap, ap₂}
use mathlib.Core.Bool.{Bool, true, false}
use mathlib.Core.List.{List, [], ◌∷◌}
use borrow.Author.Tests.{eq-eqb, ne_eqb, eqb-true}
use native.Mathlib.Omega.{arith}
use lib.ListN.{length, take, drop, length-drop}
use lib.Seq.{drop-drop}
use Rattle.octets.specs.Octets.{part, low_first}
use Rattle.octets.specs.Choice.{pick, both}
use Rattle.octets.specs.Outcome.{given}
use Rattle.octets.specs.Order.{same}
use Rattle.octets.proofs.Choice.{opposite, picks, skips}
use Rattle.octets.proofs.Orders.{unequal-other}
use lib.Dec.{eqb}
use denote.Enum.Declared.{tag_of}
use Rattle.nlri.specs.declared.group.GroupClass.{GroupClass}
use Rattle.nlri.specs.declared.group.GroupClass.TheVariants.{Asm, Ssm}
use Rattle.nlri.specs.contracts.group.GroupClass.{the_type as the_class}
use Rattle.nlri.specs.Groups.{class_number}
use Rattle.nlri.specs.Fields.{Fields}
use Rattle.nlri.specs.Standing.{group_end, standing}
use Rattle.routes.specs.Route.{Route, nlri_of}
use Rattle.routes.specs.Query.{Wanted, no_route, meets, tiers_of}
use Rattle.routes.specs.Arguments.{read_s_pmsi}
use Rattle.routes.specs.Matching.{names_tunnel, candidate, eligible, distinguisher_of}
use Rattle.routes.specs.OnePass.{tier_from, tier_of}
use Rattle.routes.proofs.Definitions.Matching.Conditions.{fields-of, distinguisher-is}
use Rattle.places.proofs.FieldStarts.{fields-stand}
use Rattle.places.specs.Readable.{Bounded}
use Rattle.std.proofs.Common.{Option, None}
use Rattle.routes.specs.declared.Tier.{Tier}
use Rattle.routes.specs.declared.Tier.TheVariants.{Exact, AnyGroup, AnySource, Any}
use Rattle.routes.specs.Answers.{tier_number}
use Rattle.matches.specs.Scanning.{Sought, open_tiers, tier_or_0, where_open, open_query, wildcard, source_tier, any_source_tier, flow_tier, tier_at}
use Rattle.matches.specs.declared.tier.Tiers.{Tiers}

-- what the branches of the function that finds the tier show
module _ (source group : List ℕ) (tiers : Tiers) (f : Fields) (route_source : List ℕ) (empty : Bool) (stands_source : route_source ≡ f.source) (e : empty ≡ eqb (length route_source) 0) where
  wild-is : (b : Bool) → empty ≡ b → wildcard f.source ≡ b
  unfolding wildcard
  wild-is b is = ap (λ (s : List ℕ). eqb (length s) 0) (sym stands_source) ∙ sym e ∙ is

  module _ (route_group : List ℕ) (tier : Option Tier) where
    pub tier-any-source : empty ≡ true → route_group ≡ f.group → tier ≡ any_source_tier group tiers route_group → tier ≡ flow_tier source group tiers f
    unfolding flow_tier
    tier-any-source wild g t = picks _ _ _ _ (wild-is true wild) (t ∙ ap (any_source_tier group tiers) g)

    pub tier-source : empty ≡ false → (flag : Bool) → flag ≡ same route_source source → flag ≡ true → route_group ≡ f.group → tier ≡ source_tier group tiers route_group
        → tier ≡ flow_tier source group tiers f
    unfolding flow_tier
    tier-source tame flag is holds g t =
        skips _ _ _ _ (wild-is false tame) (picks _ _ _ _ (ap (λ (x : List ℕ). same x source) (sym stands_source) ∙ sym is ∙ holds) (t ∙ ap (source_tier group tiers) g))

  pub tier-none : empty ≡ false → (flag : Bool) → flag ≡ same route_source source → flag ≡ false → None ≡ flow_tier source group tiers f
  unfolding flow_tier
  tier-none tame flag is fails = skips _ _ _ _ (wild-is false tame) (skips _ _ _ _ (ap (λ (x : List ℕ). same x source) (sym stands_source) ∙ sym is ∙ fails) refl)

-- the tiers of a class, by the number that a cast gives it
pub class-opens : (class : GroupClass) (tiers : Tiers) → tiers ≡ open_tiers (tag_of the_class class + 1) → tiers ≡ open_tiers (class_number class)
class-opens Asm tiers e = e
class-opens Ssm tiers e = e

-- the last four octets of what stands behind others, and of all
end-of-rest : (s : List ℕ) (start : ℕ) → start + 4 ≤ length s → part (drop start s) (length (drop start s) - 4) 4 ≡ part s (length s - 4) 4
unfolding part
end-of-rest s start h =
    let e : start + (length (drop start s) - 4) ≡ length s - 4 = simp length-drop (omega arith) in
    ap (take 4) (drop-drop (length (drop start s) - 4) start s ∙ ap (λ (k : ℕ). drop k s) e)

-- an NLRI whose last four octets are not the router's is another router's
pub other-end : (nlri router : List ℕ) (x y : ℕ) → Bounded nlri → x ≡ low_first (part nlri (length nlri - 4) 4) → y ≡ low_first (part router (length router - 4) 4) → (x ≡ y → ⊥)
    → same (standing nlri).originator router ≡ false
unfolding standing
other-end nlri router x y b p q differ =
    unequal-other (drop (group_end nlri) nlri) router
    (λ e.
    differ
    (p ∙ ap low_first (sym (end-of-rest nlri (group_end nlri) b.within)) ∙ ap (λ (s : List ℕ). low_first (part s (length s - 4) 4)) e ∙ sym q))

pub other-router : (sought : Sought) (tiers : Tiers) (nlri : List ℕ) → same (standing nlri).originator sought.router ≡ false → None ≡ tier_at sought tiers nlri
unfolding tier_at
other-router sought tiers nlri fails = skips _ _ _ _ fails refl

-- a route of the router asked about, and one of another
module _ (sought : Sought) (tiers : Tiers) (nlri originator : List ℕ) (flag : Bool) (stands : originator ≡ (standing nlri).originator) (is : flag ≡ same originator sought.router) where
  pub own-tier : (tier : Option Tier) → flag ≡ true → tier ≡ flow_tier sought.source sought.group tiers (standing nlri) → tier ≡ tier_at sought tiers nlri
  unfolding tier_at
  own-tier tier holds e = picks _ _ _ _ (ap (λ (x : List ℕ). same x sought.router) (sym stands) ∙ sym is ∙ holds) e

  pub other-tier : flag ≡ false → None ≡ tier_at sought tiers nlri
  other-tier fails = other-router sought tiers nlri (ap (λ (x : List ℕ). same x sought.router) (sym stands) ∙ sym is ∙ fails)

-- a tier behind two tests
one-test : (second first : Bool) (tier : Option Tier) → pick second (tier_or_0 (pick first tier None)) 0 ≡ tier_or_0 (pick (both first second) tier None)
unfolding pick both
one-test true true tier = refl
one-test true false tier = refl
one-test false true tier = refl
one-test false false tier = refl

opened : (b : Bool) (tier : Tier) → tier_or_0 (where_open b tier) ≡ pick b (tier_number tier) 0
unfolding pick
opened true tier = refl
opened false tier = refl

-- the tiers in order, by the tests of a candidate, source and group (same, wildcard), and which of them are open
in_order : (candidate same_source wild_source same_group wild_group : Bool) (tiers : Tiers) → (wild_source ≡ true → same_source ≡ false) → (wild_group ≡ true → same_group ≡ false)
    → tier_or_0 (pick candidate (pick wild_source (pick wild_group (where_open tiers.any Any) (pick same_group (where_open tiers.any_source AnySource) None))
    (pick same_source (pick same_group (where_open tiers.exact Exact) (pick wild_group (where_open tiers.any_group AnyGroup) None)) None)) None)
    ≡ pick (both candidate (both (both same_source same_group) tiers.exact)) 1 (pick (both candidate (both (both same_source wild_group) tiers.any_group)) 2
    (pick (both candidate (both (both wild_source same_group) tiers.any_source)) 3 (pick (both candidate (both (both wild_source wild_group) tiers.any)) 4 0)))
unfolding pick both
in_order false s w g v tiers p q = refl
in_order true true true g v tiers p q = absurd (opposite {b = true} refl (p refl))
in_order true true false true true tiers p q = absurd (opposite {b = true} refl (q refl))
in_order true false true true true tiers p q = absurd (opposite {b = true} refl (q refl))
in_order true false true false true tiers p q = opened tiers.any Any
in_order true false true true false tiers p q = opened tiers.any_source AnySource
in_order true false true false false tiers p q = refl
in_order true true false true false tiers p q = opened tiers.exact Exact
in_order true true false false true tiers p q = opened tiers.any_group AnyGroup
in_order true true false false false tiers p q = refl
in_order true false false g v tiers p q = refl

-- a wildcard is no octets, and no address of a flow
wild-same : (address : List ℕ) → same address [] ≡ wildcard address
unfolding same wildcard
wild-same [] = sym (eq-eqb 0 0 refl)
wild-same (x ∷ address) = sym (ne_eqb (length (x ∷ address)) 0 (λ e. omega arith))

wild-other : (address flow : List ℕ) → 0 < length flow → wildcard address ≡ true → same address flow ≡ false
unfolding wildcard
wild-other address flow h w =
    let none : length address ≡ 0 = eqb-true _ _ w in
    unequal-other address flow (λ e. let l : length address ≡ length flow = ap length e in omega arith)

both-turned : (a b : Bool) → both a b ≡ both b a
unfolding both
both-turned true true = refl
both-turned true false = refl
both-turned false true = refl
both-turned false false = refl

-- what a tier wants where it is open
meets-open : (f : Fields) (b : Bool) (w : Wanted) → meets (pick b w no_route) f ≡ both (meets w f) b
unfolding pick meets both
meets-open f true w = both-turned true (meets w f)
meets-open f false w = both-turned false (meets w f)

module _ (afi : ℕ) (r : Route) (f : Fields) (read : read_s_pmsi afi (nlri_of r) ≡ given f) where
  pub distinguisher-stands : distinguisher_of afi r ≡ (standing (nlri_of r)).distinguisher
  distinguisher-stands = distinguisher-is afi r f read ∙ ap (λ (x : Fields). x.distinguisher) (fields-stand afi (nlri_of r) f read)

  eligible-open : (router : List ℕ) (b : Bool) (w : Wanted) → eligible afi router (pick b w no_route) r ≡ both (both (same f.originator router) (names_tunnel r)) (both (meets w f) b)
  unfolding eligible candidate
  eligible-open router b w = ap₂ both (ap (λ (own : Bool). both own (names_tunnel r)) (fields-of afi r _ f read)) (fields-of afi r _ f read ∙ meets-open f b w)

  -- the tier by the octets, where the route names a tunnel, is the first of which it is a candidate
  pub tier-stands : (sought : Sought) (tiers : Tiers) → 0 < length sought.source → 0 < length sought.group → pick (names_tunnel r) (tier_or_0 (tier_at sought tiers (nlri_of r))) 0 ≡ tier_of afi (open_query sought tiers) r
  unfolding tier_at flow_tier source_tier any_source_tier tier_from open_query tiers_of meets
  tier-stands sought tiers hs hg =
      let router : List ℕ = sought.router in
      ap (λ (x : Fields). pick (names_tunnel r) (tier_or_0 (pick (same x.originator router) (flow_tier sought.source sought.group tiers x) None)) 0) (sym (fields-stand afi (nlri_of r) f read))
      ∙ one-test (names_tunnel r) (same f.originator router) _
      ∙ rw (eligible-open router tiers.exact, eligible-open router tiers.any_group, eligible-open router tiers.any_source, eligible-open router tiers.any, wild-same f.source, wild-same f.group)
      (in_order (both (same f.originator router) (names_tunnel r)) (same f.source sought.source) (wildcard f.source) (same f.group sought.group) (wildcard f.group) tiers
      (wild-other f.source sought.source hs) (wild-other f.group sought.group hg))
