-- Sizes of what install accepts: an S-PMSI NLRI has 2 to 60 octets, an attribute at most 64, so that a place holds both.
use Prim.Native.Nat.{ℕ, ◌≤◌}
use mathlib.Core.Path.{◌≡◌, refl, sym, ap}
use mathlib.Core.Bool.{true, false}
use mathlib.Core.List.{List}
use native.Mathlib.Omega.{arith}
use borrow.Author.Tests.{eqb-true, ltb-false}
use lib.ListN.{length}
use Rattle.octets.specs.Choice.{pick, either}
use Rattle.octets.specs.Outcome.{Outcome, given, refused, on_outcome}
use Rattle.octets.proofs.Choice.{opposite}
use Rattle.octets.proofs.Outcome.{given-otherwise, given-unless, passed, given-same}
use Rattle.nlri.specs.Bodies.{key, bodies, on_body, body_of, code_of, same_kind, has_field}
use Rattle.nlri.specs.Fields.{Fields}
use Rattle.nlri.proofs.Statements.Acceptance.{read_short}
use Rattle.tunnel.specs.Attribute.{read_attribute}
use Rattle.tunnel.specs.Attribute.{AttributeFields}
use Rattle.routes.specs.Route.{Route, route, nlri_of, attribute_of}
use Rattle.routes.specs.Arguments.{read_s_pmsi, read_labelled, read_route}
use Rattle.routes.specs.Place.{acceptable}

pub attribute-size : (s : List ℕ) (f : AttributeFields) → read_attribute s ≡ given f → length s ≤ 64
unfolding read_attribute
attribute-size s f e = let p = given-otherwise _ _ _ _ e in omega (arith, ltb-false)

-- what install would accept: how its NLRI and its attribute read
pub record Accepted (afi : ℕ) (nlri attribute : List ℕ) : Type 0 where
  pub fields : Fields
  pub attribute_fields : AttributeFields
  pub read : read_s_pmsi afi nlri ≡ given fields
  pub labelled : read_labelled attribute ≡ given attribute_fields

pub route-accepted : (afi : ℕ) (nlri attribute : List ℕ) (r : Route) → read_route afi nlri attribute ≡ given r → Accepted afi nlri attribute × (r ≡ route nlri attribute)
unfolding read_route
route-accepted afi nlri attribute r e =
    let p = passed _ _ _ e in
    let q = passed _ _ _ p.second in
    (record { fields = p.value; attribute_fields = q.value; read = p.first; labelled = q.first }, sym (given-same q.second))

-- a route that reading gives is the one that was read
pub route-read : (afi : ℕ) (nlri attribute : List ℕ) (r : Route) → read_route afi nlri attribute ≡ given r → r ≡ route nlri attribute
route-read afi nlri attribute r e = (route-accepted afi nlri attribute r e).1

accepts : (afi : ℕ) (nlri attribute : List ℕ) (o : Outcome Route) → read_route afi nlri attribute ≡ o → on_outcome (λ number. false) (λ accepted. true) o ≡ true → Accepted afi nlri attribute
unfolding on_outcome
accepts afi nlri attribute (given r) e h = (route-accepted afi nlri attribute r e).0
accepts afi nlri attribute (refused n) e h = absurd (opposite {b = true} refl (sym h))

pub accepted : (afi : ℕ) (r : Route) → acceptable afi r ≡ true → Accepted afi (nlri_of r) (attribute_of r)
unfolding acceptable
accepted afi r h = accepts afi (nlri_of r) (attribute_of r) (read_route afi (nlri_of r) (attribute_of r)) refl h

-- acceptable is what reading accepts
pub read-acceptable : (afi : ℕ) (r q : Route) → read_route afi (nlri_of r) (attribute_of r) ≡ given q → acceptable afi r ≡ true
unfolding acceptable on_outcome
read-acceptable afi r q e = rw e

-- sizes of an acceptable route
pub record Sized (r : Route) : Type 0 where
  pub least : 2 ≤ length (nlri_of r)
  pub nlri : length (nlri_of r) ≤ 60
  pub attribute : length (attribute_of r) ≤ 64

pub nlri-size : (afi : ℕ) (nlri : List ℕ) (f : Fields) → read_s_pmsi afi nlri ≡ given f → (2 ≤ length nlri) × (length nlri ≤ 60)
unfolding read_s_pmsi body_of on_body bodies pick has_field same_kind code_of either
nlri-size afi nlri f e =
    let p = passed _ _ _ e in
    let three : p.value.type ≡ 3 = eqb-true _ _ (given-unless _ _ _ _ p.second).0 in
    read_short afi nlri p.value p.first (omega arith) (ap (λ (n : ℕ). has_field key (body_of n)) three)

labelled-size : (attribute : List ℕ) (f : AttributeFields) → read_labelled attribute ≡ given f → length attribute ≤ 64
unfolding read_labelled
labelled-size attribute f e = let p = passed _ _ _ e in attribute-size attribute p.value p.first

pub sizes-of : (afi : ℕ) (r : Route) → acceptable afi r ≡ true → Sized r
sizes-of afi r h =
    let a = accepted afi r h in
    let n = nlri-size afi (nlri_of r) a.fields a.read in
    record { least = n.0; nlri = n.1; attribute = labelled-size (attribute_of r) a.attribute_fields a.labelled }
