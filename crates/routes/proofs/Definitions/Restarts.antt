-- Laws of routes of which a router's are marked or swept (specs/Restart.antt): what they hold, their order, and how many went.
use Prim.Native.Nat.{ℕ, suc, ◌+◌}
use mathlib.Core.Path.{◌≡◌, refl, sym, ap, ◌∙◌}
use mathlib.Core.Bool.{Bool, true, false}
use mathlib.Core.List.{List, [], ◌∷◌}
use mathlib.Core.Logic.{◌↔◌}
use native.Mathlib.Omega.{arith}
use lib.ListN.{length}
use Rattle.octets.specs.Choice.{pick, both}
use Rattle.octets.specs.Outcome.{Outcome, given, refused, on_outcome}
use Rattle.octets.specs.Order.{same}
use Rattle.octets.specs.Lists.{Among, chosen}
use Rattle.octets.proofs.Choice.{tested, is_false, pick_true, pick-false, pick-case, both_true, both_left, both_right}
use Rattle.octets.proofs.Orders.{same-equal, same-swapped}
use Rattle.octets.proofs.Chosen.{chosen-first, chosen-later}
use Rattle.nlri.specs.Fields.{Fields}
use Rattle.routes.specs.Route.{Route, entry, nlri_of, attribute_of, stale_of, with_mark, Held, absent, held, lookup, removed, Distinct, none, one, Increasing, last, next}
use Rattle.routes.specs.Arguments.{read_s_pmsi}
use Rattle.routes.specs.Place.{acceptable, AllAcceptable}
use Rattle.routes.specs.Matching.{of_fields, of_router}
use Rattle.routes.specs.Restart.{RestartCall, mark_left, renewed, gone_of}
use Rattle.routes.specs.Call.{nobody, owner, originator_of, owned_by}
use Rattle.routes.specs.Rules.ArgumentRules.{SPmsiOf}
use Rattle.routes.specs.Rules.CallRules.{Renewed}
use Rattle.routes.proofs.Definitions.Lookups.{held-absent, lookup-none, lookup_first, lookup-later, lookup-own, holds-held, lookup-removed, lookup-member, lookup-of-member, distinct-removed}
use Rattle.routes.proofs.Definitions.Increases.{increasing-from, length-removed-held}
use Rattle.routes.proofs.Definitions.Ownership.{owned-by, owned-itself, originated, originator}

-- an NLRI is of a router
abbrev pub mine : ℕ → (router nlri : List ℕ) → Bool
mine afi router nlri = owned_by router (originator_of afi nlri)

-- a route is of a router where its NLRI is
pub router-owned : (afi : ℕ) (router : List ℕ) (r : Route) → of_router afi router r ≡ mine afi router (nlri_of r)
unfolding of_fields originator_of owned_by on_outcome
router-owned afi router r = go (read_s_pmsi afi (nlri_of r))
  where
    go : (o : Outcome Fields) → on_outcome (λ number. false) (λ f. same f.originator router) o ≡ owned_by router (on_outcome (λ number. nobody) (λ f. owner f.originator) o)
    go (given f) = same-swapped f.originator router
    go (refused n) = refl

-- what is held of a router's NLRI after a mark or a sweep, by what was held before
unfoldable pub renewed_held : RestartCall → Held → Held
renewed_held which absent = absent
renewed_held which (held r) = pick (stale_of r) absent (held (with_mark (mark_left which) r))

-- and of any NLRI
abbrev pub held_renewed : (afi : ℕ) (which : RestartCall) (router nlri : List ℕ) → Held → Held
held_renewed afi which router nlri h = pick (mine afi router nlri) (renewed_held which h) h

-- what is not held stays so
pub renewed-absent : (afi : ℕ) (which : RestartCall) (router nlri : List ℕ) → held_renewed afi which router nlri absent ≡ absent
unfolding renewed_held
renewed-absent afi which router nlri = pick-case (λ (h : Held). h ≡ absent) (mine afi router nlri) absent absent (λ t. refl) (λ f. refl)

-- what is still held was not marked
pub renewed-held : (which : RestartCall) (h : Held) (n a : List ℕ) (s : Bool) → renewed_held which h ≡ held (entry n a s) → (s ≡ mark_left which) × (h ≡ held (entry n a false))
unfolding renewed_held stale_of pick nlri_of attribute_of
renewed-held which absent n a s e = absurd (held-absent e refl)
renewed-held which (held (entry x y true)) n a s e = absurd (held-absent e refl)
renewed-held which (held (entry x y false)) n a s e = (cc, cc)

module _ (afi : ℕ) (which : RestartCall) (router : List ℕ) where
  -- by what becomes of the first route
  pub renewed-case : (P : List Route → Type 0) (r : Route) (rs : List Route)
      → (of_router afi router r ≡ true → stale_of r ≡ true → P (renewed afi which router rs))
      → (of_router afi router r ≡ true → stale_of r ≡ false → P (with_mark (mark_left which) r ∷ renewed afi which router rs))
      → (of_router afi router r ≡ false → P (r ∷ renewed afi which router rs)) → P (renewed afi which router (r ∷ rs))
  unfolding renewed
  renewed-case P r rs x y z = pick-case P _ _ _ (λ t. pick-case P _ _ _ (x t) (y t)) z

  -- the first route is of another NLRI
  behind : (nlri : List ℕ) (r : Route) (rs : List Route) → same nlri (nlri_of r) ≡ false → lookup nlri (renewed afi which router (r ∷ rs)) ≡ lookup nlri (renewed afi which router rs)
  unfolding nlri_of
  behind nlri r rs f =
      renewed-case (λ l. lookup nlri l ≡ lookup nlri (renewed afi which router rs)) r rs (λ t s. refl)
      (λ t s. lookup-later nlri (with_mark (mark_left which) r) (renewed afi which router rs) f) (λ t. lookup-later nlri r (renewed afi which router rs) f)

  -- the first route is of the NLRI, and none behind it
  here : (nlri : List ℕ) (r : Route) (rs : List Route) → same nlri (nlri_of r) ≡ true → lookup nlri (renewed afi which router rs) ≡ absent
      → lookup nlri (renewed afi which router (r ∷ rs)) ≡ held_renewed afi which router nlri (held r)
  unfolding nlri_of renewed_held
  here nlri r rs t gone =
      let own : mine afi router nlri ≡ of_router afi router r = ap (mine afi router) (same-equal nlri (nlri_of r) t) ∙ sym (router-owned afi router r) in
      renewed-case (λ l. lookup nlri l ≡ held_renewed afi which router nlri (held r)) r rs
      (λ o s. gone ∙ sym (pick_true _ _ _ (own ∙ o) ∙ pick_true _ _ _ s))
      (λ o s. lookup_first nlri (with_mark (mark_left which) r) (renewed afi which router rs) t ∙ sym (pick_true _ _ _ (own ∙ o) ∙ pick-false _ _ _ s))
      (λ o. lookup_first nlri r (renewed afi which router rs) t ∙ sym (pick-false _ _ _ (own ∙ o)))

  -- what is held of an NLRI afterwards
  pub lookup-renewed : (nlri : List ℕ) {rs : List Route} → Distinct rs → lookup nlri (renewed afi which router rs) ≡ held_renewed afi which router nlri (lookup nlri rs)
  unfolding renewed
  lookup-renewed nlri none = lookup-none nlri ∙ sym (ap (held_renewed afi which router nlri) (lookup-none nlri) ∙ renewed-absent afi which router nlri)
  lookup-renewed nlri (one {r} {rs} h d) =
      let rest = lookup-renewed nlri d in
      tested (same nlri (nlri_of r))
      (λ t.
      let missing : lookup nlri rs ≡ absent = ap (λ (x : List ℕ). lookup x rs) (same-equal nlri (nlri_of r) t) ∙ h in
      here nlri r rs t (rest ∙ ap (held_renewed afi which router nlri) missing ∙ renewed-absent afi which router nlri)
      ∙ ap (held_renewed afi which router nlri) (sym (lookup_first nlri r rs t)))
      (λ f. behind nlri r rs f ∙ rest ∙ ap (held_renewed afi which router nlri) (sym (lookup-later nlri r rs f)))

  -- what was not held is not held afterwards
  still-absent : (nlri : List ℕ) {rs : List Route} → Distinct rs → lookup nlri rs ≡ absent → lookup nlri (renewed afi which router rs) ≡ absent
  still-absent nlri d h = lookup-renewed nlri d ∙ ap (held_renewed afi which router nlri) h ∙ renewed-absent afi which router nlri

  -- no NLRI twice
  pub distinct-renewed : {rs : List Route} → Distinct rs → Distinct (renewed afi which router rs)
  unfolding renewed nlri_of
  distinct-renewed none = none
  distinct-renewed (one {r} {rs} h d) =
      let gone = still-absent (nlri_of r) d h in
      let rest = distinct-renewed d in
      renewed-case Distinct r rs (λ o s. rest) (λ o s. one {r = with_mark (mark_left which) r} gone rest) (λ o. one gone rest)

  -- NLRIs in order
  pub increasing-renewed : {p : List ℕ} {rs : List Route} → Increasing p rs → Increasing p (renewed afi which router rs)
  unfolding renewed nlri_of
  increasing-renewed last = last
  increasing-renewed {p} (next {r} {rs} b i) =
      let rest = increasing-renewed i in
      renewed-case (Increasing p) r rs (λ o s. increasing-from p (nlri_of r) b rest) (λ o s. next {r = with_mark (mark_left which) r} b rest) (λ o. next b rest)

  -- routes stay acceptable, whatever their marks
  pub acceptable-renewed : {rs : List Route} → AllAcceptable afi rs → AllAcceptable afi (renewed afi which router rs)
  unfolding renewed nlri_of attribute_of acceptable
  acceptable-renewed AllAcceptable.none = AllAcceptable.none
  acceptable-renewed (AllAcceptable.one {r} {rs} h a) =
      let rest = acceptable-renewed a in
      renewed-case (AllAcceptable afi) r rs (λ o s. rest) (λ o s. AllAcceptable.one {r = with_mark (mark_left which) r} h rest) (λ o. AllAcceptable.one h rest)

  -- one more goes
  gone_one : (r : Route) (rs : List Route) → of_router afi router r ≡ true → stale_of r ≡ true → gone_of afi router (r ∷ rs) ≡ suc (gone_of afi router rs)
  unfolding gone_of
  gone_one r rs o s = ap length (chosen-first _ r rs (both_true _ _ o s))

  -- one that does not go
  gone-none : (r : Route) (rs : List Route) → both (of_router afi router r) (stale_of r) ≡ false → gone_of afi router (r ∷ rs) ≡ gone_of afi router rs
  unfolding gone_of
  gone-none r rs f = ap length (chosen-later _ r rs f)

  -- those left and those gone are all
  pub length-renewed : (rs : List Route) → length (renewed afi which router rs) + gone_of afi router rs ≡ length rs
  unfolding renewed gone_of chosen
  length-renewed [] = refl
  length-renewed (r ∷ rs) =
      let rest = length-renewed rs in
      renewed-case (λ l. length l + gone_of afi router (r ∷ rs) ≡ suc (length rs)) r rs
      (λ o s. omega (arith, gone_one r rs o s, rest))
      (λ o s. omega (arith, gone-none r rs (both_right _ _ o s), rest))
      (λ o. omega (arith, gone-none r rs (both_left _ _ o), rest))

  -- members, by what is held
  module _ {rs : List Route} (d : Distinct rs) where
    -- the router's own
    own-renewed : (n a : List ℕ) (s : Bool) → SPmsiOf afi router n → Among (entry n a s) (renewed afi which router rs) ↔ ((s ≡ mark_left which) × Among (entry n a false) rs)
    unfolding nlri_of attribute_of renewed_held stale_of pick
    own-renewed n a s m =
        let own : mine afi router n ≡ true = owned-itself router (originator_of afi n) (originator afi router n m) in
        let now : lookup n (renewed afi which router rs) ≡ renewed_held which (lookup n rs) = lookup-renewed n d ∙ pick_true _ _ _ own in (
          λ x.
              let p = renewed-held which (lookup n rs) n a s (sym now ∙ lookup-of-member (distinct-renewed d) x) in
              (p.0, (lookup-member rs p.1).0),
          λ x.
              let was : lookup n rs ≡ held (entry n a false) = lookup-of-member d x.1 in
              rw x.0 (lookup-member (renewed afi which router rs) (now ∙ ap (renewed_held which) was)).0,
        )

    -- another router's
    other-renewed : (r : Route) → (SPmsiOf afi router (nlri_of r) → ⊥) → Among r (renewed afi which router rs) ↔ Among r rs
    other-renewed r foreign =
        let not : mine afi router (nlri_of r) ≡ false = is_false _ (λ t. foreign (originated afi router (nlri_of r) (owned-by router (originator_of afi (nlri_of r)) t))) in
        let now : lookup (nlri_of r) (renewed afi which router rs) ≡ lookup (nlri_of r) rs = lookup-renewed (nlri_of r) d ∙ pick-false _ _ _ not in (
          λ x. (lookup-member rs (sym now ∙ lookup-of-member (distinct-renewed d) x)).0,
          λ x. (lookup-member (renewed afi which router rs) (now ∙ lookup-of-member d x)).0,
        )

    -- as the rule says it
    pub is-renewed : Renewed afi router (mark_left which) rs (renewed afi which router rs) (gone_of afi router rs)
    is-renewed = record { own = own-renewed; others = other-renewed; went = length-renewed rs }

-- how many went depends only on what routes hold under the router's NLRIs

-- routes with no NLRI twice that hold the same are as many
length-alike : {rs us : List Route} → Distinct rs → Distinct us → ((nlri : List ℕ) → lookup nlri rs ≡ lookup nlri us) → length rs ≡ length us
length-alike none none h = refl
length-alike none (one {r} {rs} k e) h = absurd (held-absent (lookup-own r rs) (sym (h (nlri_of r)) ∙ lookup-none (nlri_of r)))
length-alike {us = us} (one {r} {rs} k d) e h =
    let was : lookup (nlri_of r) us ≡ held r = sym (h (nlri_of r)) ∙ lookup-own r rs in
    let rest : length rs ≡ length (removed (nlri_of r) us) =
    length-alike d (distinct-removed (nlri_of r) e)
    (λ nlri.
    tested (same nlri (nlri_of r))
    (λ t. ap (λ (x : List ℕ). lookup x rs) (same-equal nlri (nlri_of r) t) ∙ k ∙ sym (lookup-removed nlri (nlri_of r) e ∙ pick_true _ _ _ t))
    (λ f. sym (lookup-later nlri r rs f) ∙ h nlri ∙ sym (lookup-removed nlri (nlri_of r) e ∙ pick-false _ _ _ f))) in
    omega (arith, rest, length-removed-held (nlri_of r) us (holds-held (nlri_of r) us r was))

-- what is held, if a test chooses it
unfoldable held_if : (Route → Bool) → Held → Held
held_if test absent = absent
held_if test (held r) = pick (test r) (held r) absent

module _ (test : Route → Bool) where
  -- by whether the first is chosen
  chosen-case : (P : List Route → Type 0) (r : Route) (rs : List Route) → (test r ≡ true → P (r ∷ chosen test rs)) → (test r ≡ false → P (chosen test rs)) → P (chosen test (r ∷ rs))
  unfolding chosen
  chosen-case P r rs x y = pick-case P _ _ _ x y

  -- what is held among those chosen
  lookup-chosen : (nlri : List ℕ) {rs : List Route} → Distinct rs → lookup nlri (chosen test rs) ≡ held_if test (lookup nlri rs)
  unfolding chosen held_if
  lookup-chosen nlri none = lookup-none nlri ∙ sym (ap (held_if test) (lookup-none nlri))
  lookup-chosen nlri (one {r} {rs} h d) =
      let rest = lookup-chosen nlri d in
      tested (same nlri (nlri_of r))
      (λ t.
      let gone : lookup nlri (chosen test rs) ≡ absent = rest ∙ ap (held_if test) (ap (λ (x : List ℕ). lookup x rs) (same-equal nlri (nlri_of r) t) ∙ h) in
      chosen-case (λ l. lookup nlri l ≡ held_if test (held r)) r rs (λ y. lookup_first nlri r (chosen test rs) t ∙ sym (pick_true _ _ _ y)) (λ n. gone ∙ sym (pick-false _ _ _ n))
      ∙ ap (held_if test) (sym (lookup_first nlri r rs t)))
      (λ f.
      chosen-case (λ l. lookup nlri l ≡ lookup nlri (chosen test rs)) r rs (λ y. lookup-later nlri r (chosen test rs) f) (λ n. refl)
      ∙ rest ∙ ap (held_if test) (sym (lookup-later nlri r rs f)))

  -- no NLRI twice among them
  distinct-chosen : {rs : List Route} → Distinct rs → Distinct (chosen test rs)
  unfolding chosen held_if
  distinct-chosen none = none
  distinct-chosen (one {r} {rs} h d) =
      let rest = distinct-chosen d in
      chosen-case Distinct r rs (λ y. one (lookup-chosen (nlri_of r) d ∙ ap (held_if test) h) rest) (λ n. rest)

module _ (afi : ℕ) (router : List ℕ) where
  -- a route that goes
  abbrev goes : Route → Bool
  goes r = both (of_router afi router r) (stale_of r)

  -- no route of another router goes
  none-goes : (nlri : List ℕ) (h : Held) (rs : List Route) → lookup nlri rs ≡ h → mine afi router nlri ≡ false → held_if goes h ≡ absent
  unfolding held_if
  none-goes nlri absent rs e f = refl
  none-goes nlri (held r) rs e f = pick-false _ _ _ (both_left _ _ (router-owned afi router r ∙ ap (mine afi router) (lookup-member rs e).1 ∙ f))

  -- so as many go of two lists that hold the same of the router
  pub gone_same : (rs us : List Route) → Distinct rs → Distinct us → ((nlri : List ℕ) → mine afi router nlri ≡ true → lookup nlri rs ≡ lookup nlri us) → gone_of afi router rs ≡ gone_of afi router us
  unfolding gone_of
  gone_same rs us d e alike =
      length-alike (distinct-chosen goes d) (distinct-chosen goes e)
      (λ nlri.
      lookup-chosen goes nlri d
      ∙ tested (mine afi router nlri)
      (λ t. ap (held_if goes) (alike nlri t))
      (λ f. none-goes nlri (lookup nlri rs) rs refl f ∙ sym (none-goes nlri (lookup nlri us) us refl f))
      ∙ sym (lookup-chosen goes nlri e))
