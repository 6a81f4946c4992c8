-- What calls come to by their arguments: whose act it is, and what is known of it.
use Prim.Native.Nat.{ℕ}
use mathlib.Core.Path.{◌≡◌, refl, sym, ap, subst, ◌∙◌}
use mathlib.Core.Bool.{true}
use mathlib.Core.List.{List}
use Rattle.octets.specs.Outcome.{Outcome, given, refused}
use Rattle.octets.proofs.Outcome.{given-same, passed}
use Rattle.octets.specs.Lists.{Among}
use Rattle.routes.specs.Route.{Route, nlri_of}
use Rattle.routes.specs.Query.{Query}
use Rattle.routes.specs.Asked.{asked_router}
use Rattle.routes.specs.Place.{acceptable}
use Rattle.routes.specs.Restart.{RestartCall}
use Rattle.routes.specs.Call.{Call, install, withdraw, restart, match, owner, originator_of, owner_of, Act, enter, leave, renew, ask, argued}
use Rattle.routes.specs.Run.{named_in}
use Rattle.routes.proofs.Definitions.Bounds.{route-accepted, route-read}
use Rattle.routes.proofs.Statements.ArgumentRules.{nlri-accepted}
use Rattle.routes.proofs.Definitions.Named.{named-in}
use Rattle.routes.proofs.Definitions.Ownership.{route-acceptable, owner-read, address-owner, match-owner, query-router, router-read}

-- what is known of an act that a router's call comes to
pub data Known (afi : ℕ) (c : Call) (router : List ℕ) : Act → Type 0 where
  enters : {r : Route} → acceptable afi r ≡ true → originator_of afi (nlri_of r) ≡ owner router → Among (nlri_of r) (named_in afi c) → Known afi c router (enter r)
  leaves : {nlri : List ℕ} → originator_of afi nlri ≡ owner router → Known afi c router (leave nlri)
  renews : {which : RestartCall} → Known afi c router (renew which router)
  asks : {q : Query} {output : List ℕ} → q.router ≡ router → Known afi c router (ask q output)

-- an act is a router's
pub record Owned (afi : ℕ) (c : Call) (act : Act) : Type 0 where
  pub router : List ℕ
  pub own : owner_of afi c ≡ owner router
  pub known : Known afi c router act

pub owned : (afi : ℕ) (c : Call) (act : Act) → argued afi c ≡ given act → Owned afi c act
unfolding argued owner_of nlri_of
owned afi (install nlri attribute) act e =
    let p = passed _ _ _ e in
    let a = (route-accepted afi nlri attribute p.value p.first).0 in
    let own : originator_of afi nlri ≡ owner a.fields.originator = owner-read afi nlri a.fields a.read in
    let is : nlri_of p.value ≡ nlri = ap nlri_of (route-read afi nlri attribute p.value p.first) in
    let named : Among (nlri_of p.value) (named_in afi (install nlri attribute)) =
    rw is (named-in afi nlri attribute (nlri-accepted afi nlri a.fields a.read)) in
    subst (Owned afi (install nlri attribute)) (given-same p.second)
    (record { router = a.fields.originator; own = own; known = enters (route-acceptable afi nlri attribute p.value p.first) (ap (originator_of afi) is ∙ own) named })
owned afi (withdraw nlri) act e =
    let p = passed _ _ _ e in
    let own : originator_of afi nlri ≡ owner p.value.originator = owner-read afi nlri p.value p.first in
    subst (Owned afi (withdraw nlri)) (given-same p.second) (record { router = p.value.originator; own = own; known = leaves own })
owned afi (restart which router) act e =
    let p = passed _ _ _ e in
    let q = router-read router p.value p.first in
    subst (Owned afi (restart which router)) (ap (renew which) (sym q.0) ∙ given-same p.second) (record { router = router; own = address-owner router q.1; known = renews })
owned afi (match asked output) act e =
    let p = passed _ _ _ e in
    let q = query-router afi asked output p.value p.first in
    subst (Owned afi (match asked output)) (given-same p.second)
    (record { router = asked_router asked; own = match-owner afi asked output q.1; known = asks q.0 })

-- by what arguments come to
pub argued-cases : (P : Outcome Act → Type 0) (afi : ℕ) (c : Call) → ((n : ℕ) → argued afi c ≡ refused n → P (refused n)) → ((act : Act) → argued afi c ≡ given act → Owned afi c act → P (given act)) → P (argued afi c)
argued-cases P afi c bad good = go (argued afi c) refl
  where
    go : (o : Outcome Act) → argued afi c ≡ o → P o
    go (given act) e = good act e (owned afi c act e)
    go (refused n) e = bad n e
