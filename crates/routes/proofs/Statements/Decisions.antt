-- The last accepted install among calls, by what each call leaves of its NLRI (specs/Rules/LastInstalled.antt).
use Prim.Native.Nat.{ℕ}
use mathlib.Core.Path.{◌≡◌, refl, sym, ap, subst, ◌∙◌}
use mathlib.Core.Bool.{Bool, true, false}
use mathlib.Core.Logic.{◌↔◌, ◌≢◌, ◌⊎◌, inl, inr, ⊎_elim}
use mathlib.Core.List.{List, [], ◌∷◌}
use borrow.Author.Tests.{eqb-true, eqb-false}
use lib.Dec.{eqb}
use Rattle.octets.specs.Numbers.{DONE}
use Rattle.octets.specs.Choice.{pick}
use Rattle.octets.specs.Order.{same}
use Rattle.octets.proofs.Choice.{opposite, test-same, tested, is_false, pick_true, pick-false}
use Rattle.octets.proofs.Orders.{same-equal, other-unequal}
use Rattle.routes.specs.Route.{entry, route, nlri_of, attribute_of, stale_of, Held, absent, held, lookup}
use Rattle.routes.specs.Table.{afi_in, routes_of}
use Rattle.routes.specs.Restart.{RestartCall, marking, sweeping, mark_left}
use Rattle.routes.specs.Asked.{Asked}
use Rattle.routes.specs.Calls.{install_of, withdraw_of, restart_of}
use Rattle.routes.specs.Call.{Call, install, withdraw, restart, match, originator_of}
use Rattle.routes.specs.Run.{step_of, end_of}
use Rattle.routes.specs.Rules.ArgumentRules.{SPmsiOf}
use Rattle.routes.specs.Rules.CallRules.{HeldNow}
use Rattle.routes.specs.Rules.LastInstalled.{Came, here, behind, Restarts, is_accepted, Ends, by_install, by_withdrawal, by_restart, LastInstall}
use Rattle.routes.proofs.Definitions.Lookups.{held-absent}
use Rattle.routes.proofs.Definitions.Increases.{distinct-increasing}
use Rattle.routes.proofs.Definitions.Ownership.{owned-by, owned-itself, originated, originator}
use Rattle.routes.proofs.Definitions.Restarts.{mine, renewed_held, renewed-held, lookup-renewed}
use Rattle.routes.proofs.Statements.Images.{sound-holdable}
use Rattle.routes.proofs.Statements.InstallRules.{install_rule}
use Rattle.routes.proofs.Statements.RestartRules.{restart_rule}
use Rattle.routes.proofs.Statements.WithdrawRules.{withdraw_rule}

-- what a call makes of what is held of an NLRI: an install of it sets it, a withdrawal takes it out, a mark or sweep of its router renews it, any other call
-- leaves it
data Becomes (nlri t : List ℕ) (c : Call) (was now : Held) : Type 0 where
  is_set : {attribute : List ℕ} → c ≡ install nlri attribute → (install_of t nlri attribute).answer.number ≡ DONE → now ≡ held (route nlri attribute) → Becomes nlri t c was now
  is_taken : c ≡ withdraw nlri → (withdraw_of t nlri).answer ≡ DONE → now ≡ absent → Becomes nlri t c was now
  is_renewed : (which : RestartCall) → ((later : List Call) → Restarts which nlri t c later) → now ≡ renewed_held which was → Becomes nlri t c was now
  is_left : ((later : List Call) → Ends nlri t c later → ⊥) → ((which : RestartCall) (later : List Call) → Restarts which nlri t c later → ⊥) → now ≡ was → Becomes nlri t c was now

-- what ends a route, by the call
module _ {nlri t : List ℕ} {later : List Call} where
  -- an install
  ends-install : {other attribute : List ℕ} → Ends nlri t (install other attribute) later → (nlri ≡ other) × ((install_of t other attribute).answer.number ≡ DONE)
  ends-install (by_install e) = (refl, e)
  ends-install (by_restart r again) = absurd (elim r [ ])

  -- a withdrawal
  ends-withdraw : {other : List ℕ} → Ends nlri t (withdraw other) later → (nlri ≡ other) × ((withdraw_of t other).answer ≡ DONE)
  ends-withdraw (by_withdrawal e) = (refl, e)
  ends-withdraw (by_restart r again) = absurd (elim r [ ])

  -- a mark with another mark, or a sweep, behind it
  ends-restart : {which : RestartCall} {router : List ℕ} → Ends nlri t (restart which router) later
      → Restarts marking nlri t (restart which router) later × ((w : RestartCall) × Came (Restarts w nlri) (step_of t (restart which router)).octets later)
  ends-restart (by_restart {which} r again) = (r, (which, again))

  -- no match
  ends-match : {asked : Asked} {output : List ℕ} → Ends nlri t (match asked output) later → ⊥
  ends-match (by_restart r again) = elim r [ ]

  -- a mark or sweep is accepted, and of the router of the NLRI
  restarts-own : {w which : RestartCall} {router : List ℕ} → Restarts w nlri t (restart which router) later → SPmsiOf (afi_in t) router nlri × ((restart_of which t router).answer.number ≡ DONE)
  restarts-own (is_accepted s d) = (s, d)

  -- a route that a mark ends has another, or a sweep, behind it
  marked-again : {c : Call} → Restarts marking nlri t c later → Ends nlri t c later → (w : RestartCall) × Came (Restarts w nlri) (step_of t c).octets later
  marked-again (is_accepted s d) e = (ends-restart e).1

-- what an NLRI has after a call of another or the same NLRI, by the number that the call answers
decided : {P : Type 0} (nlri other : List ℕ) (left : Held) (number : ℕ) (t u : List ℕ) → (number ≡ DONE → HeldNow other left (routes_of t) (routes_of u)) → (number ≢ DONE → u ≡ t)
    → (nlri ≡ other → number ≡ DONE → lookup nlri (routes_of u) ≡ left → P) → (((nlri ≡ other) × (number ≡ DONE) → ⊥) → lookup nlri (routes_of u) ≡ lookup nlri (routes_of t) → P) → P
decided nlri other left number t u set untouched own others =
    tested (eqb number DONE)
    (λ done.
    let d = eqb-true number DONE done in
    tested (same nlri other)
    (λ y. let e = same-equal nlri other y in own e d (ap (λ (x : List ℕ). lookup x (routes_of u)) e ∙ (set d).own))
    (λ n. let e = other-unequal nlri other n in others (λ p. e p.0) ((set d).others nlri e)))
    (λ bad. let b = eqb-false number DONE bad in others (λ p. b p.1) (ap (λ (x : List ℕ). lookup nlri (routes_of x)) (untouched b)))

-- what each call makes of it
step-becomes : (nlri t : List ℕ) (c : Call) → Becomes nlri t c (lookup nlri (routes_of t)) (lookup nlri (routes_of (step_of t c).octets))
unfolding step_of
step-becomes nlri t (install other attribute) =
    decided nlri other (held (route other attribute)) (install_of t other attribute).answer.number t (install_of t other attribute).octets
    (install_rule.installed t other attribute) (install_rule.untouched t other attribute)
    (λ e d now.
    let o = sym e in
    is_set (ap (λ (x : List ℕ). install x attribute) o) (subst (λ (x : List ℕ). (install_of t x attribute).answer.number ≡ DONE) o d) (now ∙ ap (λ (x : List ℕ). held (route x attribute)) o))
    (λ not now. is_left (λ later e. not (ends-install e)) (λ which later r. elim r [ ]) now)
step-becomes nlri t (withdraw other) =
    decided nlri other absent (withdraw_of t other).answer t (withdraw_of t other).octets (withdraw_rule.withdrawn t other) (withdraw_rule.untouched t other)
    (λ e d now. is_taken (ap withdraw (sym e)) (subst (λ (x : List ℕ). (withdraw_of t x).answer ≡ DONE) (sym e) d) now)
    (λ not now. is_left (λ later e. not (ends-withdraw e)) (λ which later r. elim r [ ]) now)
step-becomes nlri t (restart which router) =
    let left : ((SPmsiOf (afi_in t) router nlri × ((restart_of which t router).answer.number ≡ DONE)) → ⊥) → lookup nlri (routes_of (restart_of which t router).octets) ≡ lookup nlri (routes_of t)
    → Becomes nlri t (restart which router) (lookup nlri (routes_of t)) (lookup nlri (routes_of (restart_of which t router).octets)) =
    λ not now. is_left (λ later e. not (restarts-own (ends-restart e).0)) (λ w later r. not (restarts-own r)) now in
    tested (eqb (restart_of which t router).answer.number DONE)
    (λ done.
    let d = eqb-true _ DONE done in
    let order = (sound-holdable t (((restart_rule which).done t router).0 d).0).increasing in
    let now = ap (lookup nlri) ((restart_rule which).after t router d).routes ∙ lookup-renewed (afi_in t) which router nlri (distinct-increasing order) in
    tested (mine (afi_in t) router nlri)
    (λ y. is_renewed which (λ later. is_accepted (originated (afi_in t) router nlri (owned-by router (originator_of (afi_in t) nlri) y)) d) (now ∙ pick_true _ _ _ y))
    (λ n. left (λ p. opposite (owned-itself router (originator_of (afi_in t) nlri) (originator (afi_in t) router nlri p.0)) n) (now ∙ pick-false _ _ _ n)))
    (λ bad. let b = eqb-false _ DONE bad in left (λ p. b p.1) (ap (λ (x : List ℕ). lookup nlri (routes_of x)) ((restart_rule which).untouched t router b)))
step-becomes nlri t (match asked output) = is_left (λ later e. ends-match e) (λ which later r. elim r [ ]) refl

-- among no calls there is none
came-none : {Is : List ℕ → Call → List Call → Type 0} {t : List ℕ} → Came Is t [] → ⊥
came-none m = elim m [ ]

-- where it is not the first
came-behind : {Is : List ℕ → Call → List Call → Type 0} {t : List ℕ} {c : Call} {later : List Call} → (Is t c later → ⊥) → Came Is t (c ∷ later) → Came Is (step_of t c).octets later
came-behind not (here i) = absurd (not i)
came-behind not (behind m) = m

module _ (nlri : List ℕ) (stale : Bool) where
  -- a route with this mark stays through calls, marked at their end as told
  record Stays (mark : Bool) (t : List ℕ) (calls : List Call) : Type 0 where
    unended : Came (Ends nlri) t calls → ⊥
    unswept : mark ≡ true → (which : RestartCall) → Came (Restarts which nlri) t calls → ⊥
    marked : (stale ≡ true) ↔ ((mark ≡ true) ⊎ Came (Restarts marking nlri) t calls)

  -- a call through which it stays with its mark
  record Passes (mark : Bool) (t : List ℕ) (c : Call) (later : List Call) : Type 0 where
    unended : Ends nlri t c later → ⊥
    unswept : mark ≡ true → (which : RestartCall) → Restarts which nlri t c later → ⊥
    unmarked : Restarts marking nlri t c later → ⊥

  -- one such call more in front
  module _ {mark : Bool} {t : List ℕ} {c : Call} {later : List Call} (p : Passes mark t c later) where
    -- and so through that call too
    stays-more : Stays mark (step_of t c).octets later → Stays mark t (c ∷ later)
    stays-more s =
        record {
          unended = λ e. s.unended (came-behind p.unended e);
          unswept = λ y which r. s.unswept y which (came-behind (p.unswept y which) r);
          marked = (λ e. ⊎_elim inl (λ m. inr (behind m)) (s.marked.0 e), λ e. s.marked.1 (⊎_elim inl (λ m. inr (came-behind p.unmarked m)) e));
        }

    -- and the other way
    stays-fewer : Stays mark t (c ∷ later) → Stays mark (step_of t c).octets later
    stays-fewer s =
        record {
          unended = λ e. s.unended (behind e);
          unswept = λ y which r. s.unswept y which (behind r);
          marked = (λ e. ⊎_elim inl (λ m. inr (came-behind p.unmarked m)) (s.marked.0 e), λ e. s.marked.1 (⊎_elim inl (λ m. inr (behind m)) e));
        }

  -- a mark in front of the calls through which a marked one stays
  module _ {t : List ℕ} {c : Call} {later : List Call} (r : Restarts marking nlri t c later) where
    -- then it stays through the mark, unmarked before
    marks-more : Stays true (step_of t c).octets later → Stays false t (c ∷ later)
    marks-more s =
        record {
          unended = λ e. s.unended (came-behind (λ i. let again = marked-again r i in s.unswept refl again.0 again.1) e);
          unswept = λ y. absurd (opposite {b = false} y refl);
          marked = (λ e. inr (here r), λ e. s.marked.1 (inl refl));
        }

    -- and the other way
    marks-fewer : Stays false t (c ∷ later) → Stays true (step_of t c).octets later
    marks-fewer s =
        record { unended = λ e. s.unended (behind e); unswept = λ y which again. s.unended (here (by_restart r again)); marked = (λ e. inl refl, λ e. s.marked.1 (inr (here r))) }

  -- a sweep leaves one that is not marked
  sweep-passes : {t : List ℕ} {c : Call} {later : List Call} → Restarts sweeping nlri t c later → Passes false t c later
  sweep-passes (is_accepted s d) = record { unended = λ e. elim (ends-restart e).0 [ ]; unswept = λ y. absurd (opposite {b = false} y refl); unmarked = λ r. elim r [ ] }

  -- a mark or a sweep in front of the calls through which one with the mark that it leaves stays
  renewed-more : (which : RestartCall) {t : List ℕ} {c : Call} {later : List Call} → Restarts which nlri t c later → Stays (mark_left which) (step_of t c).octets later → Stays false t (c ∷ later)
  unfolding mark_left
  renewed-more marking r s = marks-more r s
  renewed-more sweeping r s = stays-more (sweep-passes r) s

  -- and the other way
  renewed-fewer : (which : RestartCall) {t : List ℕ} {c : Call} {later : List Call} → Restarts which nlri t c later → Stays false t (c ∷ later) → Stays (mark_left which) (step_of t c).octets later
  unfolding mark_left
  renewed-fewer marking r s = marks-fewer r s
  renewed-fewer sweeping r s = stays-fewer (sweep-passes r) s

module _ (nlri attribute : List ℕ) (stale : Bool) where
  -- what is held at first with this mark stays through calls
  record HeldThrough (t : List ℕ) (calls : List Call) : Type 0 where
    mark : Bool
    was : lookup nlri (routes_of t) ≡ held (entry nlri attribute mark)
    stays : Stays nlri stale mark t calls

  -- what is held after calls was set by the last install, or was held before them and stayed
  abbrev From : (t : List ℕ) → List Call → Type 0
  From t calls = Came (LastInstall nlri attribute stale) t calls ⊎ HeldThrough t calls

  -- by the first call
  from_first : (t : List ℕ) (c : Call) (later : List Call) → HeldThrough (step_of t c).octets later → Becomes nlri t c (lookup nlri (routes_of t)) (lookup nlri (routes_of (step_of t c).octets)) → From t (c ∷ later)
  from_first t c later h (is_set {attribute = a} is d e) =
      let now = h.was in
      let x : a ≡ attribute = cc in
      let unmarked : h.mark ≡ false = cc in
      inl (here (record {
        is = is ∙ ap (install nlri) x;
        done = subst (λ (y : List ℕ). (install_of t nlri y).answer.number ≡ DONE) x d;
        last = h.stays.unended;
        mark = (λ y. ⊎_elim (λ m. absurd (opposite m unmarked)) (λ m. m) (h.stays.marked.0 y), λ m. h.stays.marked.1 (inr m));
      }))
  from_first t c later h (is_taken is d e) = absurd (held-absent h.was e)
  from_first t c later h (is_renewed which r e) =
      let p = renewed-held which (lookup nlri (routes_of t)) nlri attribute h.mark (sym e ∙ h.was) in
      inr (record { mark = false; was = p.1; stays = renewed-more nlri stale which (r later) (subst (λ (m : Bool). Stays nlri stale m (step_of t c).octets later) p.0 h.stays) })
  from_first t c later h (is_left ends restarts e) =
      inr (record { mark = h.mark; was = sym e ∙ h.was; stays = stays-more nlri stale (record { unended = ends later; unswept = λ y which. restarts which later; unmarked = restarts marking later }) h.stays })

  -- what is held after calls
  came_from : (calls : List Call) (t : List ℕ) → lookup nlri (routes_of (end_of t calls)) ≡ held (entry nlri attribute stale) → From t calls
  unfolding end_of
  came_from [] t e =
      inr (record { mark = stale; was = e; stays = record { unended = came-none; unswept = λ y which r. came-none r; marked = (λ y. inl y, ⊎_elim (λ y. y) (λ m. absurd (came-none m))) } })
  came_from (c ∷ cs) t e = ⊎_elim (λ m. inl (behind m)) (λ h. from_first t c cs h (step-becomes nlri t c)) (came_from cs (step_of t c).octets e)

  -- what stays through calls stays through those after the first
  through-first : (t : List ℕ) (c : Call) (later : List Call) → HeldThrough t (c ∷ later) → Becomes nlri t c (lookup nlri (routes_of t)) (lookup nlri (routes_of (step_of t c).octets)) → HeldThrough (step_of t c).octets later
  unfolding renewed_held stale_of nlri_of attribute_of pick
  through-first t c later h (is_set is d e) = absurd (h.stays.unended (here (subst (λ (x : Call). Ends nlri t x later) (sym is) (by_install d))))
  through-first t c later h (is_taken is d e) = absurd (h.stays.unended (here (subst (λ (x : Call). Ends nlri t x later) (sym is) (by_withdrawal d))))
  through-first t c later h (is_renewed which r e) =
      let unmarked : h.mark ≡ false = is_false h.mark (λ y. h.stays.unswept y which (here (r later))) in
      record {
        mark = mark_left which;
        was = e ∙ ap (renewed_held which) (h.was ∙ ap (λ (m : Bool). held (entry nlri attribute m)) unmarked);
        stays = renewed-fewer nlri stale which (r later) (subst (λ (m : Bool). Stays nlri stale m t (c ∷ later)) unmarked h.stays);
      }
  through-first t c later h (is_left ends restarts e) =
      record { mark = h.mark; was = e ∙ h.was; stays = stays-fewer nlri stale (record { unended = ends later; unswept = λ y which. restarts which later; unmarked = restarts marking later }) h.stays }

  -- what stays through calls is held after them
  through : (calls : List Call) (t : List ℕ) → HeldThrough t calls → lookup nlri (routes_of (end_of t calls)) ≡ held (entry nlri attribute stale)
  unfolding end_of
  through [] t h =
      h.was ∙ ap (λ (m : Bool). held (entry nlri attribute m)) (test-same h.mark stale (λ y. h.stays.marked.1 (inl y)) (λ y. ⊎_elim (λ m. m) (λ m. absurd (came-none m)) (h.stays.marked.0 y)))
  through (c ∷ cs) t h = through cs (step_of t c).octets (through-first t c cs h (step-becomes nlri t c))

  -- the route of the last install is held
  last-held : {calls : List Call} {t : List ℕ} → Came (LastInstall nlri attribute stale) t calls → lookup nlri (routes_of (end_of t calls)) ≡ held (entry nlri attribute stale)
  unfolding end_of step_of
  last-held (here {t} {c} {later} l) =
      through later (step_of t c).octets (record {
        mark = false;
        was = subst (λ (x : Call). lookup nlri (routes_of (step_of t x).octets) ≡ held (route nlri attribute)) (sym l.is) (install_rule.installed t nlri attribute l.done).own;
        stays = record {
          unended = l.last;
          unswept = λ y. absurd (opposite {b = false} y refl);
          marked = (λ y. inr (l.mark.0 y), ⊎_elim (λ y. absurd (opposite {b = false} y refl)) l.mark.1);
        };
      })
  last-held (behind m) = last-held m

  -- after calls on a table that held nothing of the NLRI
  pub last-exactly : (t : List ℕ) (calls : List Call) → lookup nlri (routes_of t) ≡ absent
      → (lookup nlri (routes_of (end_of t calls)) ≡ held (entry nlri attribute stale)) ↔ Came (LastInstall nlri attribute stale) t calls
  last-exactly t calls e = (λ h. ⊎_elim (λ m. m) (λ s. absurd (held-absent s.was e)) (came_from calls t h), last-held)
