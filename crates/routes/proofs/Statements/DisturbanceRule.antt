-- What one change of a table can disturb (specs/Rules/DisturbanceRule.antt).
use Prim.Native.Nat.{ℕ, ◌≤◌, ◌<◌}
use mathlib.Core.Path.{◌≡◌, refl, sym, ◌∙◌, ap, subst}
use mathlib.Core.Bool.{true, false}
use mathlib.Core.List.{List, [], ◌++◌, append_assoc}
use mathlib.Core.Logic.{◌↔◌, ◌⊎◌, inl, inr, ⊎_elim}
use native.Mathlib.Omega.{arith}
use lib.ListN.{length, drop}
use lib.Seq.{take-append_seam}
use lib.Dec.{ltb, eqb}
use borrow.Author.Tests.{ltb-true, ltb-false, eqb-true, eqb-false}
use Rattle.octets.specs.Numbers.{DONE}
use Rattle.octets.specs.Outcome.{given, on_outcome}
use Rattle.octets.specs.Octets.{part, front}
use Rattle.octets.specs.Order.{same}
use Rattle.octets.specs.Lists.{Among, first}
use Rattle.octets.proofs.Choice.{opposite, tested, is_true}
use Rattle.octets.proofs.Orders.{same-equal, same-of-equal}
use Rattle.octets.proofs.Among.{among_none}
use Rattle.nlri.specs.Fields.{Fields}
use Rattle.routes.specs.declared.Matched.{Matched}
use Rattle.routes.specs.Route.{Route, entry, route, nlri_of, attribute_of, stale_of, lookup, inserted, Distinct}
use Rattle.routes.specs.Query.{Query}
use Rattle.routes.specs.Asked.{Asked, asked_router, read_asked}
use Rattle.routes.specs.Table.{afi_in, places_in, routes_of, sound_of}
use Rattle.routes.specs.Matching.{Found, found, match_in}
use Rattle.routes.specs.Restart.{RestartCall}
use Rattle.octets.specs.Outputs.{Changed}
use Rattle.routes.specs.Answers.{found_answer, found_output, matched_by}
use Rattle.routes.specs.Calls.{make_of, install_of, withdraw_of, restart_of, match_of}
use Rattle.routes.specs.Rules.ArgumentRules.{SPmsiOf}
use Rattle.routes.specs.Rules.Images.{TableOf}
use Rattle.routes.specs.Rules.CallRules.{IsHeld, Installable, InstallDone, is_replaced, is_new}
use Rattle.routes.specs.Rules.MatchRule.{NamesTunnel, Eligible, Told, Untold, MatchAnswer, one_told, none_told}
use Rattle.routes.specs.Rules.DisturbanceRule.{IsAnswered, Conditions, RouteAnswered, Effect, unchanged, replaces, becomes, Undisturbed, DisturbanceRule}
use Rattle.routes.proofs.Definitions.Lookups.{held-absent, held_same, lookup-of-member, one-member}
use Rattle.routes.proofs.Definitions.Increases.{distinct-increasing}
use Rattle.routes.proofs.Definitions.Ownership.{owners-same, originator}
use Rattle.routes.proofs.Definitions.Matching.First.{First, first-is, first-least, first_range}
use Rattle.routes.proofs.Definitions.Matching.Without.{TakesOther, match-removed, match-inserted, stays_at, stays-not, matched-renewed}
use Rattle.routes.proofs.Statements.Images.{sound-holdable}
use Rattle.routes.proofs.Statements.MakeRules.{make_rule}
use Rattle.routes.proofs.Statements.InstallRules.{install_rule}
use Rattle.routes.proofs.Statements.WithdrawRules.{withdraw_rule}
use Rattle.routes.proofs.Statements.RestartRules.{restart_rule}
use Rattle.routes.proofs.Statements.MatchOver.{over-table, over-query, tables-same}
use Rattle.routes.proofs.Statements.AskedRules.{some-tier, table-answers, table-untold, table-sound, table_done}

-- with another attribute that names a tunnel a route is as eligible
eligible-named : {afi : ℕ} {router : List ℕ} {In : (tier : ℕ) → Fields → Type 0} {tier : ℕ} (r : Route) {attribute : List ℕ} → NamesTunnel attribute → Eligible afi router In tier r
    → Eligible afi router In tier (route (nlri_of r) attribute)
unfolding nlri_of attribute_of
eligible-named r tunnel e = record { candidate = record { own = e.candidate.own; tunnel = tunnel }; met = e.met }

-- what a caller sees

told-answered : {tier : ℕ} {r : Route} {output : List ℕ} {c : Changed Matched} → 0 < tier → Told tier r output c → IsAnswered (nlri_of r) c
told-answered {c = c} some told =
    record { some = rw told.of_tier some; named = ap (λ (n : ℕ). part c.octets 0 n) told.sizes.0 ∙ told.nlri }

-- a route that is found is seen
found-answered : (output : List ℕ) (tier : ℕ) (r : Route) → 0 < tier → IsAnswered (nlri_of r) (matched_by (given (found tier r)) output)
unfolding matched_by on_outcome found_answer found_output front part
found-answered output tier r some =
    record { some = some; named = rw append_assoc (take-append_seam (nlri_of r) (attribute_of r ++ drop (length (nlri_of r ++ attribute_of r)) output)) }

-- it is seen, or not
answered-or-not : (nlri : List ℕ) (c : Changed Matched) → IsAnswered nlri c ⊎ (IsAnswered nlri c → ⊥)
answered-or-not nlri c =
    tested (ltb 0 c.answer.tier)
    (λ t.
    tested (same (part c.octets 0 c.answer.nlri_size) nlri) (λ is. inl (record { some = ltb-true _ _ t; named = same-equal _ _ is }))
    (λ no. inr (λ x. opposite (same-of-equal _ _ x.named) no)))
    (λ f. inr (λ x. omega (arith, x.some, ltb-false 0 c.answer.tier f)))

module _ (asked : Asked) (output : List ℕ) where
  route-answered : (t : List ℕ) (r : Route) → RouteAnswered t asked output r → IsAnswered (nlri_of r) (match_of t asked output)
  route-answered t r a = told-answered (some-tier (afi_in t) asked a.tier _ a.taken.eligible.met) a.told

  -- what is seen is taken and told
  answering : (t nlri : List ℕ) → IsAnswered nlri (match_of t asked output) → ((match_of t asked output).answer.number ≡ DONE) × ((r : Route) × (nlri_of r ≡ nlri) × RouteAnswered t asked output r)
  answering t nlri x =
      tested (eqb (match_of t asked output).answer.number DONE) (λ d. let e = eqb-true _ _ d in (e, go (table-answers asked t output e)))
      (λ f. absurd (untold (table-untold asked t output (eqb-false _ _ f))))
    where
      untold : Untold output (match_of t asked output) → ⊥
      untold u = omega (arith, x.some, u.tierless)

      go : MatchAnswer (afi_in t) (asked_router asked) (Conditions (afi_in t) asked) output (routes_of t) (match_of t asked output) → (r : Route) × (nlri_of r ≡ nlri) × RouteAnswered t asked output r
      go (one_told tier r taken told) =
          let a : RouteAnswered t asked output r = record { tier = tier; taken = taken; told = told } in
          (r, sym (route-answered t r a).named ∙ x.named, a)
      go (none_told none done u) = absurd (untold u)

  -- on a sound table alone
  sound-answered : (t nlri : List ℕ) → IsAnswered nlri (match_of t asked output) → sound_of t ≡ true
  sound-answered t nlri x = (table-sound asked t output (answering t nlri x).0).0

  module _ (t : List ℕ) (sound : sound_of t ≡ true) where
    distinct : Distinct (routes_of t)
    distinct = distinct-increasing (sound-holdable t sound).increasing

    -- a route that is found, whatever the query, is seen
    seen : (q : Query) (tier : ℕ) (r : Route) → read_asked (afi_in t) asked output ≡ given q → match_in (afi_in t) q (routes_of t) ≡ found tier r → IsAnswered (nlri_of r) (match_of t asked output)
    seen q tier r e f =
        let some = first_range (subst (First (afi_in t) q.router (routes_of t) 1 q.tiers) f (first-is (afi_in t) q (routes_of t))) in
        subst (IsAnswered (nlri_of r)) (sym (over-table asked output t sound ∙ over-query asked output (afi_in t) (routes_of t) q e ∙ ap (λ (x : Found). matched_by (given x) output) f))
        (found-answered output tier r some)

    takes-other : (nlri : List ℕ) (q : Query) → read_asked (afi_in t) asked output ≡ given q → (IsAnswered nlri (match_of t asked output) → ⊥) → TakesOther (afi_in t) q nlri (routes_of t)
    takes-other nlri q e other tier r f is = other (subst (λ (n : List ℕ). IsAnswered n (match_of t asked output)) is (seen q tier r e f))

    -- the table holds it
    answered-held : (nlri : List ℕ) → IsAnswered nlri (match_of t asked output) → IsHeld nlri (routes_of t)
    answered-held nlri x =
        let a = (answering t nlri x).1 in
        (a.0, ap (λ (n : List ℕ). lookup n (routes_of t)) (sym a.1) ∙ lookup-of-member distinct a.2.taken.member)

  -- withdrawals
  module _ (t nlri : List ℕ) where
    not-answered : (withdraw_of t nlri).answer ≡ DONE → IsAnswered nlri (match_of (withdraw_of t nlri).octets asked output) → ⊥
    not-answered e x =
        let h = answered-held (withdraw_of t nlri).octets (withdraw_rule.after t nlri e).sound nlri x in
        held-absent h.1 (withdraw_rule.withdrawn t nlri e).own

    withdrawn : (IsAnswered nlri (match_of t asked output) → ⊥) → match_of (withdraw_of t nlri).octets asked output ≡ match_of t asked output
    withdrawn other =
        tested (eqb (withdraw_of t nlri).answer DONE)
        (λ d.
        let e = eqb-true _ _ d in
        let s = ((withdraw_rule.done t nlri).0 e).0.sound in
        let u = withdraw_rule.after t nlri e in
        tables-same asked output (withdraw_of t nlri).octets t u.sound s u.family
        (λ q r. rw u.routes (ap (λ (x : Found). matched_by (given x) output) (sym (match-removed (afi_in t) q nlri (routes_of t) (takes-other t s nlri q r other))))))
        (λ f. ap (λ (x : List ℕ). match_of x asked output) (withdraw_rule.untouched t nlri (eqb-false _ _ f)))

    gone : IsAnswered nlri (match_of t asked output) → ((withdraw_of t nlri).answer ≡ DONE) × (IsAnswered nlri (match_of (withdraw_of t nlri).octets asked output) → ⊥)
    gone x =
        let s = sound-answered t nlri x in
        let a = (answering t nlri x).1 in
        let own = subst (SPmsiOf (afi_in t) (asked_router asked)) a.1 a.2.taken.eligible.candidate.own in
        let e = (withdraw_rule.done t nlri).1 (record { sound = s; named = own.named }, answered-held t s nlri x) in
        (e, not-answered e)

  -- installs
  module _ (t nlri attribute : List ℕ) where
    abbrev after : List ℕ
    after = (install_of t nlri attribute).octets

    installable : {o : ℕ} → InstallDone t nlri attribute o → Installable t nlri attribute
    installable (is_replaced a h) = a
    installable (is_new a h) = a

    module _ (e : (install_of t nlri attribute).answer.number ≡ DONE) where
      taken_in : Installable t nlri attribute
      taken_in = installable ((install_rule.done t nlri attribute (install_of t nlri attribute).answer.outcome).0 (ap (λ (n : ℕ). record { number = n; outcome = (install_of t nlri attribute).answer.outcome }) e))

      -- its NLRI was answered
      replacing : IsAnswered nlri (match_of t asked output) → (install_of t nlri attribute).answer ≡ record { number = DONE; outcome = 2 }
      replacing x = (install_rule.done t nlri attribute 2).1 (is_replaced taken_in (answered-held t taken_in.sound nlri x))

      -- its NLRI is answered
      becoming : IsAnswered nlri (match_of after asked output) → RouteAnswered after asked output (route nlri attribute)
      becoming x =
          let a = (answering after nlri x).1 in
          let was = lookup-of-member (distinct after (install_rule.after t nlri attribute e).sound) a.2.taken.member in
          subst (RouteAnswered after asked output) (held_same was (ap (λ (n : List ℕ). lookup n (routes_of after)) a.1 ∙ (install_rule.installed t nlri attribute e).own)) a.2

      -- neither
      left : (IsAnswered nlri (match_of t asked output) → ⊥) → (IsAnswered nlri (match_of after asked output) → ⊥) → match_of after asked output ≡ match_of t asked output
      unfolding nlri_of
      left was is =
          let s = taken_in.sound in
          let u = install_rule.after t nlri attribute e in
          tables-same asked output after t u.sound s u.family
          (λ q r.
          let other : TakesOther (afi_in t) q nlri (inserted (route nlri attribute) (routes_of t)) =
          subst (λ (rs : List Route). TakesOther (afi_in t) q nlri rs) u.routes
          (subst (λ (n : ℕ). TakesOther n q nlri (routes_of after)) u.family (takes-other after u.sound nlri q (rw u.family r) is)) in
          rw u.routes (ap (λ (x : Found). matched_by (given x) output) (match-inserted (afi_in t) q (route nlri attribute) (sound-holdable t s).increasing (takes-other t s nlri q r was) other)))

    effect : Effect t nlri attribute asked output
    effect =
        tested (eqb (install_of t nlri attribute).answer.number DONE)
        (λ d.
        let e = eqb-true _ _ d in
        ⊎_elim (λ x. replaces x (replacing e x))
        (λ was. ⊎_elim (λ y. becomes e (becoming e y)) (λ is. unchanged (left e was is)) (answered-or-not nlri (match_of after asked output)))
        (answered-or-not nlri (match_of t asked output)))
        (λ f. unchanged (ap (λ (x : List ℕ). match_of x asked output) (install_rule.untouched t nlri attribute (eqb-false _ _ f))))

  -- marks and sweeps
  module _ (which : RestartCall) (t router : List ℕ) where
    restarted : ((r : Route) → RouteAnswered t asked output r → router ≡ asked_router asked → stale_of r ≡ true → ⊥) → match_of (restart_of which t router).octets asked output ≡ match_of t asked output
    restarted stays =
        tested (eqb (restart_of which t router).answer.number DONE)
        (λ d.
        let e = eqb-true _ _ d in
        let s = (((restart_rule which).done t router).0 e).0 in
        let u = (restart_rule which).after t router e in
        tables-same asked output (restart_of which t router).octets t u.sound s u.family
        (λ q read. rw u.routes (matched-renewed (afi_in t) which router q (routes_of t) output (λ tier r f. is_true _ (λ g. goes s q read tier r f g)))))
        (λ f. ap (λ (x : List ℕ). match_of x asked output) ((restart_rule which).untouched t router (eqb-false _ _ f)))
      where
        goes : sound_of t ≡ true → (q : Query) → read_asked (afi_in t) asked output ≡ given q → (tier : ℕ) (r : Route) → match_in (afi_in t) q (routes_of t) ≡ found tier r → stays_at (afi_in t) router r ≡ false → ⊥
        goes s q read tier r f g =
            let a = (answering t (nlri_of r) (seen t s q tier r read f)).1 in
            let member = (first-least (subst (First (afi_in t) q.router (routes_of t) 1 q.tiers) f (first-is (afi_in t) q (routes_of t)))).member in
            let is = one-member a.0 r (distinct t s) a.2.taken.member member a.1 in
            let answered = subst (RouteAnswered t asked output) is a.2 in
            let leaves = stays-not (afi_in t) router r g in
            stays r answered (owners-same leaves.0 (originator (afi_in t) (asked_router asked) (nlri_of r) answered.taken.eligible.candidate.own)) leaves.1

  went : (which : RestartCall) (t : List ℕ) (r : Route) → RouteAnswered t asked output r → stale_of r ≡ true
      → ((restart_of which t (asked_router asked)).answer.number ≡ DONE) × (IsAnswered (nlri_of r) (match_of (restart_of which t (asked_router asked)).octets asked output) → ⊥)
  unfolding nlri_of stale_of
  went which t r a stale =
      let good = table-sound asked t output a.told.number in
      let e = ((restart_rule which).done t (asked_router asked)).1 good in
      (e, λ x. let b = (answering (restart_of which t (asked_router asked)).octets (nlri_of r) x).1 in not_there e good.0 b.0 b.1 b.2.taken.member)
    where
      not_there : (restart_of which t (asked_router asked)).answer.number ≡ DONE → sound_of t ≡ true → (u : Route) → nlri_of u ≡ nlri_of r → Among u (routes_of (restart_of which t (asked_router asked)).octets) → ⊥
      not_there e s (entry n b mark) is m =
          let own = subst (SPmsiOf (afi_in t) (asked_router asked)) (sym is) a.taken.eligible.candidate.own in
          let was = ((((restart_rule which).renews t (asked_router asked) e).own n b mark own).0 m).1 in
          opposite stale (sym (ap stale_of (one-member (entry n b false) r (distinct t s) was a.taken.member is)))

  -- an empty table
  none_told_lem : (t : List ℕ) → routes_of t ≡ [] → (match_of t asked output).answer.tier ≡ 0
  none_told_lem t none = tested (eqb (match_of t asked output).answer.number DONE) (λ d. go (table-answers asked t output (eqb-true _ _ d))) (λ f. (table-untold asked t output (eqb-false _ _ f)).tierless)
    where
      go : MatchAnswer (afi_in t) (asked_router asked) (Conditions (afi_in t) asked) output (routes_of t) (match_of t asked output) → (match_of t asked output).answer.tier ≡ 0
      go (one_told tier r taken told) = absurd (among_none (subst (Among r) none taken.member))
      go (none_told n done u) = u.tierless

-- an NLRI alone in a table
module _ (afi : ℕ) (memory nlri attribute : List ℕ) (asked : Asked) (output : List ℕ) (room : 124 ≤ length output)
    (made : (make_of afi memory).answer ≡ DONE) (put : (install_of (make_of afi memory).octets nlri attribute).answer.number ≡ DONE) (tunnel : NamesTunnel attribute) where
  abbrev empty : List ℕ
  empty = (make_of afi memory).octets

  abbrev alone : List ℕ
  alone = (install_of empty nlri attribute).octets

  of-empty : TableOf afi (places_in memory) [] empty
  of-empty = make_rule.made afi memory made

  of-alone : TableOf (afi_in empty) (places_in empty) (inserted (route nlri attribute) (routes_of empty)) alone
  of-alone = install_rule.after empty nlri attribute put

  in-alone : Among (route nlri attribute) (routes_of alone)
  unfolding inserted
  in-alone = subst (Among (route nlri attribute)) (sym (of-alone.routes ∙ ap (inserted (route nlri attribute)) of-empty.routes)) (first refl)

  -- no tier there: it is answered on no table
  never-answered : (match_of alone asked output).answer.tier ≡ 0 → (t other : List ℕ) → afi_in t ≡ afi → IsAnswered nlri (match_of t asked other) → ⊥
  never-answered zero t other family x =
      let a = answering asked other t nlri x in
      let r = a.1.2 in
      let same-family : afi_in t ≡ afi_in alone = family ∙ sym (of-alone.family ∙ of-empty.family) in
      go r.tier
      (subst (λ (n : ℕ). Eligible n (asked_router asked) (Conditions n asked) r.tier (route nlri attribute)) same-family
      (subst (λ (n : List ℕ). Eligible (afi_in t) (asked_router asked) (Conditions (afi_in t) asked) r.tier (route n attribute)) a.1.1 (eligible-named a.1.0 tunnel r.taken.eligible)))
      (table-answers asked alone output (table_done asked t alone other output same-family of-alone.sound room a.0))
    where
      go : (tier : ℕ) → Eligible (afi_in alone) (asked_router asked) (Conditions (afi_in alone) asked) tier (route nlri attribute)
          → MatchAnswer (afi_in alone) (asked_router asked) (Conditions (afi_in alone) asked) output (routes_of alone) (match_of alone asked output) → ⊥
      go tier e (one_told told-tier r taken told) = omega (arith, zero, told.of_tier, some-tier (afi_in alone) asked told-tier _ taken.eligible.met)
      go tier e (none_told none done u) = none tier (route nlri attribute) in-alone e

  ask-again : ((match_of alone asked output).answer.tier ≡ 0) ↔ Undisturbed afi nlri asked
  ask-again = (
    λ zero.
        record {
          withdrawn = λ t other s family. withdrawn asked other t nlri (never-answered zero t other family);
          installed = λ t a other s family.
              tested (eqb (install_of t nlri a).answer.number DONE)
              (λ d.
              let e = eqb-true _ _ d in
              left asked other t nlri a e (never-answered zero t other family) (never-answered zero (install_of t nlri a).octets other ((install_rule.after t nlri a e).family ∙ family)))
              (λ f. ap (λ (x : List ℕ). match_of x asked other) (install_rule.untouched t nlri a (eqb-false _ _ f)));
        },
    λ quiet. ap (λ (c : Changed Matched). c.answer.tier) (quiet.installed empty attribute output of-empty.sound of-empty.family) ∙ none_told_lem asked output empty of-empty.routes,
  )

pub disturbance_rule : DisturbanceRule
disturbance_rule =
    record {
      answered = λ t nlri asked output. (λ x. (answering asked output t nlri x).1, λ a. subst (λ (n : List ℕ). IsAnswered n (match_of t asked output)) a.1 (route-answered asked output t a.0 a.2));
      withdrawn = λ t nlri asked output. withdrawn asked output t nlri;
      gone = λ t nlri asked output. gone asked output t nlri;
      installed = λ t nlri attribute asked output. effect asked output t nlri attribute;
      restarted = λ which t router asked output. restarted asked output which t router;
      went = λ which t asked output. went asked output which t;
      ask_again = ask-again;
    }
