-- What a call's arguments come to: what is known of a route, an NLRI or a query that was read, and whom the call belongs to.
use Prim.Native.Nat.{ℕ}
use mathlib.Core.Path.{◌≡◌, refl, sym, ap, ◌∙◌}
use mathlib.Core.Bool.{true, false}
use mathlib.Core.List.{List, []}
use native.Mathlib.Omega.{arith}
use lib.ListN.{length}
use Rattle.octets.specs.Outcome.{Outcome, given, refused, on_outcome}
use Rattle.octets.specs.Order.{before}
use Rattle.octets.proofs.Choice.{pick_true, opposite}
use Rattle.octets.proofs.Outcome.{given-unless, given-same}
use Rattle.octets.proofs.Orders.{same-equal, same-of-equal, before-none}
use Rattle.nlri.specs.Family.{is_originator_size}
use Rattle.nlri.specs.Fields.{Fields}
use Rattle.routes.specs.Route.{Route, route, nlri_of, attribute_of}
use Rattle.routes.specs.Query.{Query}
use Rattle.routes.specs.Arguments.{read_s_pmsi, read_route}
use Rattle.routes.specs.Asked.{Asked, of_flow, of_shared_tree, asked_router, read_asked}
use Rattle.routes.specs.Place.{acceptable}
use Rattle.routes.specs.Restart.{read_router}
use Rattle.routes.specs.Call.{match, Owner, nobody, owner, originator_of, address_owner, owner_of, owned_by}
use Rattle.routes.specs.Rules.ArgumentRules.{SPmsiOf}
use Rattle.nlri.proofs.Theorems.{lengths}
use Rattle.routes.proofs.Definitions.Matching.Flows.{asked-router, flow-asked}
use Rattle.routes.proofs.Definitions.Matching.SharedTrees.{asked-tree-router, tree-asked}
use Rattle.routes.proofs.Statements.ArgumentRules.{argument_rule, nlri-accepts, flow-passed}
use Rattle.routes.proofs.Definitions.Bounds.{accepted, route-read, read-acceptable, nlri-size}

-- an accepted install
pub route-acceptable : (afi : ℕ) (nlri attribute : List ℕ) (r : Route) → read_route afi nlri attribute ≡ given r → acceptable afi r ≡ true
unfolding nlri_of attribute_of
route-acceptable afi nlri attribute r e = rw (route-read afi nlri attribute r e) (read-acceptable afi (route nlri attribute) r e)

-- no well-formed S-PMSI NLRI is empty
pub named-after-none : (afi : ℕ) (nlri : List ℕ) (f : Fields) → read_s_pmsi afi nlri ≡ given f → before [] nlri ≡ true
named-after-none afi nlri f e = before-none nlri (omega (arith, nlri-size afi nlri f e))

pub acceptable-after-none : (afi : ℕ) (r : Route) → acceptable afi r ≡ true → before [] (nlri_of r) ≡ true
acceptable-after-none afi r h = let a = accepted afi r h in named-after-none afi (nlri_of r) a.fields a.read

-- whom an NLRI belongs to

pub owner-read : (afi : ℕ) (nlri : List ℕ) (f : Fields) → read_s_pmsi afi nlri ≡ given f → originator_of afi nlri ≡ owner f.originator
unfolding originator_of on_outcome
owner-read afi nlri f e = rw e

pub owned-itself : (router : List ℕ) (o : Owner) → o ≡ owner router → owned_by router o ≡ true
unfolding owned_by
owned-itself router o e = rw e (same-of-equal router router refl)

pub owned-nobody : (router : List ℕ) (o : Owner) → o ≡ nobody → owned_by router o ≡ false
unfolding owned_by
owned-nobody router o e = rw e

pub owned-by : (router : List ℕ) (o : Owner) → owned_by router o ≡ true → o ≡ owner router
unfolding owned_by
owned-by router nobody h = absurd (opposite {b = false} h refl)
owned-by router (owner other) h = ap owner (sym (same-equal router other h))

pub owner-nobody : {o : Owner} {router : List ℕ} → o ≡ nobody → o ≡ owner router → ⊥
owner-nobody p q = let z : ◌≡◌ {A = ℕ} 0 1 = cc in omega arith

pub owners-same : {x y : List ℕ} {o : Owner} → o ≡ owner x → o ≡ owner y → x ≡ y
owners-same p q = cc

-- a query that was read asks of the router given, whose address has 4 or 16 octets
pub query-router : (afi : ℕ) (asked : Asked) (output : List ℕ) (q : Query) → read_asked afi asked output ≡ given q → (q.router ≡ asked_router asked) × (is_originator_size (length (asked_router asked)) ≡ true)
unfolding read_asked asked_router
query-router afi (of_flow flow) output q e = let a = flow-asked afi flow q (flow-passed afi flow output q e).0 in (asked-router a, (lengths.originators (length flow.router)).1 a.good.addressed)
query-router afi (of_shared_tree tree) output q e = let a = tree-asked afi tree output q e in (asked-tree-router a, (lengths.originators (length tree.router)).1 a.good.addressed.router)

-- the owner of a router address
pub address-owner : (router : List ℕ) → is_originator_size (length router) ≡ true → address_owner router ≡ owner router
unfolding address_owner
address-owner router h = pick_true _ _ _ h

pub match-owner : (afi : ℕ) (asked : Asked) (output : List ℕ) → is_originator_size (length (asked_router asked)) ≡ true → owner_of afi (match asked output) ≡ owner (asked_router asked)
unfolding owner_of
match-owner afi asked output h = address-owner (asked_router asked) h

-- a router that was read is the one given, whose address has 4 or 16 octets
pub router-read : (router named : List ℕ) → read_router router ≡ given named → (named ≡ router) × (is_originator_size (length router) ≡ true)
unfolding read_router
router-read router named e = let p = given-unless _ _ _ _ e in (sym (given-same p.1), p.0)

-- a router's NLRIs, by the rules on arguments

-- an owned NLRI is well-formed S-PMSI of its router
pub originated : (afi : ℕ) (router nlri : List ℕ) → originator_of afi nlri ≡ owner router → SPmsiOf afi router nlri
unfolding originator_of on_outcome
originated afi router nlri h = go (read_s_pmsi afi nlri) refl
  where
    go : (o : Outcome Fields) → read_s_pmsi afi nlri ≡ o → SPmsiOf afi router nlri
    go (given f) e =
        let p = (argument_rule.accepted_nlri afi nlri f).0 e in
        record { named = record { fields = f; read = p.0; kind = p.1 }; originator = owners-same (owner-read afi nlri f e) h }
    go (refused n) e = absurd (owner-nobody refl (rw e at h))

-- and the other way
pub originator : (afi : ℕ) (router nlri : List ℕ) → SPmsiOf afi router nlri → originator_of afi nlri ≡ owner router
originator afi router nlri s = owner-read afi nlri s.named.fields (nlri-accepts afi nlri s.named) ∙ ap owner s.originator
