-- What is known of a candidate of a tier, whatever a match asks.
use Prim.Native.Nat.{ℕ}
use mathlib.Core.Path.{◌≡◌, refl, sym, ◌∙◌, ap}
use mathlib.Core.Bool.{Bool, true, false, not}
use mathlib.Core.List.{List}
use mathlib.Core.Logic.{◌↔◌}
use lib.Dec.{eqb}
use borrow.Author.Tests.{eqb-false, ne_eqb, not-true}
use Rattle.octets.specs.Outcome.{Outcome, given, refused, on_outcome}
use Rattle.octets.proofs.Choice.{opposite, both-held, both_true}
use Rattle.octets.proofs.Orders.{same-equal, same-of-equal}
use Rattle.nlri.specs.Fields.{Fields}
use Rattle.tunnel.specs.Attribute.{AttributeFields, read_attribute}
use Rattle.routes.specs.Route.{Route, nlri_of, attribute_of}
use Rattle.routes.specs.Query.{Wanted, no_route, these, meets}
use Rattle.routes.specs.Arguments.{read_s_pmsi}
use Rattle.routes.specs.Matching.{of_fields, names_tunnel, candidate, eligible, distinguisher_of}
use Rattle.routes.specs.Rules.MatchRule.{NamesTunnel}
use Rattle.routes.proofs.Definitions.SPmsi.{same-s-pmsi}

-- fields are of a tier exactly when source and group are those wanted
pub meets-exactly : (source group : List ℕ) (f : Fields) → (meets (these source group) f ≡ true) ↔ ((f.source ≡ source) × (f.group ≡ group))
unfolding meets
meets-exactly source group f = (
  λ h. let b = both-held _ _ h in (same-equal _ _ b.0, same-equal _ _ b.1),
  λ h. both_true _ _ (same-of-equal _ _ h.0) (same-of-equal _ _ h.1),
)

-- fields of one tier have one source and one group
meets-same : (w : Wanted) (f g : Fields) → meets w f ≡ true → meets w g ≡ true → (f.source ≡ g.source) × (f.group ≡ g.group)
unfolding meets
meets-same no_route f g h k = absurd (opposite {b = false} h refl)
meets-same (these source group) f g h k =
    let a = (meets-exactly source group f).0 h in
    let b = (meets-exactly source group g).0 k in
    (a.0 ∙ sym b.0, a.1 ∙ sym b.1)

-- a test that holds of what is given: something is
tested-given : {A : Type 0} (test : A → Bool) (o : Outcome A) → on_outcome (λ number. false) test o ≡ true → (a : A) × (o ≡ given a) × (test a ≡ true)
unfolding on_outcome
tested-given test (given a) h = (a, refl, h)
tested-given test (refused n) h = absurd (opposite h refl)

-- a test of fields that holds of a route: its NLRI is a well-formed S-PMSI NLRI
pub of-fields : (afi : ℕ) (r : Route) (test : Fields → Bool) → of_fields afi r test ≡ true → (f : Fields) × (read_s_pmsi afi (nlri_of r) ≡ given f) × (test f ≡ true)
unfolding of_fields
of-fields afi r test h = tested-given test (read_s_pmsi afi (nlri_of r)) h

pub fields-of : (afi : ℕ) (r : Route) (test : Fields → Bool) (f : Fields) → read_s_pmsi afi (nlri_of r) ≡ given f → of_fields afi r test ≡ test f
unfolding of_fields on_outcome
fields-of afi r test f e = rw e

pub distinguisher-is : (afi : ℕ) (r : Route) (f : Fields) → read_s_pmsi afi (nlri_of r) ≡ given f → distinguisher_of afi r ≡ f.distinguisher
unfolding distinguisher_of on_outcome
distinguisher-is afi r f e = rw e

-- the tunnel type by the attribute's fields
pub tunnel-of : (r : Route) (f : AttributeFields) → read_attribute (attribute_of r) ≡ given f → names_tunnel r ≡ not (eqb f.tunnel_type 0)
unfolding names_tunnel on_outcome
tunnel-of r f e = rw e

-- a route names a tunnel exactly when its attribute does
names-exactly : (r : Route) → (names_tunnel r ≡ true) ↔ NamesTunnel (attribute_of r)
unfolding names_tunnel
names-exactly r = (
  λ h. let x = tested-given _ (read_attribute (attribute_of r)) h in record { fields = x.0; read = x.1; some = eqb-false _ _ (not-true _ x.2) },
  λ x. tunnel-of r x.fields x.read ∙ ap not (ne_eqb _ _ x.some),
)

-- what is known of a candidate of a tier
pub record Qualified (afi : ℕ) (router : List ℕ) (w : Wanted) (r : Route) : Type 0 where
  pub fields : Fields
  pub read : read_s_pmsi afi (nlri_of r) ≡ given fields
  pub own : fields.originator ≡ router
  pub tunnel : NamesTunnel (attribute_of r)
  pub met : meets w fields ≡ true

module _ (afi : ℕ) (router : List ℕ) (w : Wanted) where
  pub qualified : (r : Route) → eligible afi router w r ≡ true → Qualified afi router w r
  unfolding eligible candidate
  qualified r h =
      let b = both-held _ _ h in
      let k = both-held _ _ b.0 in
      let c = of-fields afi r _ k.0 in
      record { fields = c.0; read = c.1; own = same-equal _ _ c.2; tunnel = (names-exactly r).0 k.1; met = sym (fields-of afi r (meets w) c.0 c.1) ∙ b.1 }

  pub qualifies : (r : Route) → Qualified afi router w r → eligible afi router w r ≡ true
  unfolding eligible candidate
  qualifies r x =
      both_true _ _ (both_true _ _ (fields-of afi r _ x.fields x.read ∙ same-of-equal _ _ x.own) ((names-exactly r).1 x.tunnel))
      (fields-of afi r _ x.fields x.read ∙ x.met)

  -- candidates of one tier, with one route distinguisher, have one NLRI
  pub same-nlri : (r u : Route) → eligible afi router w r ≡ true → eligible afi router w u ≡ true → distinguisher_of afi r ≡ distinguisher_of afi u → nlri_of r ≡ nlri_of u
  same-nlri r u h k d =
      let x = qualified r h in
      let y = qualified u k in
      let flow = meets-same w x.fields y.fields x.met y.met in
      same-s-pmsi afi (nlri_of r) (nlri_of u) x.fields y.fields x.read y.read
      (sym (distinguisher-is afi r x.fields x.read) ∙ d ∙ distinguisher-is afi u y.fields y.read) flow.0 flow.1 (x.own ∙ sym y.own)
