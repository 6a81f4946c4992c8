-- Mark and sweep (specs/Rules/CallRules.antt, `RestartRule`).
use Prim.Native.Nat.{ℕ}
use mathlib.Core.Path.{◌≡◌, refl, sym, ap, subst, ◌∙◌}
use mathlib.Core.Bool.{true, false}
use mathlib.Core.Logic.{◌≢◌, ⊎_elim}
use mathlib.Core.List.{List}
use native.Mathlib.Omega.{arith}
use lib.ListN.{length}
use Rattle.octets.specs.Numbers.{DONE, FLOW}
use Rattle.octets.specs.Outcome.{Outcome, given, refused, on_outcome, number_of}
use Rattle.octets.proofs.Choice.{opposite, is_false, pick_true, pick-false, picked}
use Rattle.octets.proofs.Outcome.{never, given-unless, passed, outcome, stopped, refused-same, refuses-unless, and-goes-on, and-stops, refused-of, number-refused, number-given, done-given}
use Rattle.nlri.proofs.Theorems.{lengths}
use Rattle.routes.specs.Route.{Route}
use Rattle.routes.specs.Table.{image_of, afi_in, places_in, routes_of, sound_of}
use Rattle.routes.specs.Restart.{RestartCall, marking, sweeping, mark_left, renewed, gone_of, read_router}
use Rattle.routes.specs.Answers.{restarted_of}
use Rattle.routes.specs.Calls.{restart_outcome, restart_of}
use Rattle.routes.specs.Rules.ArgumentRules.{RouterSized}
use Rattle.routes.specs.Rules.Images.{Holdable, TableOf}
use Rattle.routes.specs.Rules.CallRules.{Renewed, RestartRefusal, restart_unsound, bad_router, RestartRule}
use Rattle.routes.proofs.Definitions.Ownership.{router-read}
use Rattle.routes.proofs.Definitions.Increases.{distinct-increasing}
use Rattle.routes.proofs.Definitions.Restarts.{increasing-renewed, acceptable-renewed, length-renewed, is-renewed}
use Rattle.routes.proofs.Statements.Images.{images, sound, sound-holdable, length-image}

-- a table can hold the routes that are left
holdable-renewed : (afi places : ℕ) (which : RestartCall) (router : List ℕ) (rs : List Route) → Holdable afi places rs → Holdable afi places (renewed afi which router rs)
holdable-renewed afi places which router rs h =
    record {
      family = h.family;
      most = h.most;
      within = omega (arith, length-renewed afi which router rs, h.within);
      acceptable = acceptable-renewed afi which router h.acceptable;
      increasing = increasing-renewed afi which router h.increasing;
    }

-- a call that is not refused
pub record Restartable (t router : List ℕ) : Type 0 where
  pub sound : sound_of t ≡ true
  pub sized : RouterSized router

module _ (t router : List ℕ) where
  -- then it gives how many went
  gives : Restartable t router → restart_outcome t router ≡ given (gone_of (afi_in t) router (routes_of t))
  unfolding restart_outcome read_router
  gives h = pick_true _ _ _ h.sound ∙ sym (and-goes-on _ _ _ _ (pick_true _ _ _ ((lengths.originators (length router)).1 h.sized)) refl)

  -- what gives a number is not refused
  restart-given : (g : ℕ) → restart_outcome t router ≡ given g → Restartable t router
  unfolding restart_outcome
  restart-given g e =
      let p = given-unless _ _ _ _ e in
      let q = passed _ _ _ p.1 in
      record { sound = p.0; sized = (lengths.originators (length router)).0 (router-read router q.value q.first).1 }

  -- a refusal, and why
  refusal : (n : ℕ) → restart_outcome t router ≡ refused n → RestartRefusal t router n
  unfolding restart_outcome read_router
  refusal n e =
      ⊎_elim
      (λ yes.
      ⊎_elim
      (λ first.
      let p = refuses-unless FLOW n _ _ first in
      subst (RestartRefusal t router) (sym p.1) (bad_router yes.0 (λ s. opposite ((lengths.originators (length router)).1 s) p.0)))
      (λ later. absurd (never refl later.second)) (stopped _ _ _ yes.1))
      (λ no. subst (RestartRefusal t router) (refused-same {A = ℕ} no.1) (restart_unsound no.0))
      (picked _ _ _ _ e)

  -- why, and the refusal
  refuses : {n : ℕ} → RestartRefusal t router n → restart_outcome t router ≡ refused n
  unfolding restart_outcome read_router
  refuses (restart_unsound h) = pick-false _ _ _ h
  refuses (bad_router s b) = pick_true _ _ _ s ∙ sym (and-stops _ _ _ (pick-false _ _ _ (is_false _ (λ y. b ((lengths.originators (length router)).0 y)))))

  -- no refusal is DONE
  not_done : {n : ℕ} → RestartRefusal t router n → n ≢ DONE
  not_done (restart_unsound h) e = omega arith
  not_done (bad_router s b) e = omega arith

  module _ (which : RestartCall) where
    -- the number answered is the outcome's
    number : (restart_of which t router).answer.number ≡ number_of (restart_outcome t router)
    unfolding restart_of restarted_of number_of on_outcome
    number = go (restart_outcome t router)
      where
        go : (o : Outcome ℕ) → (restarted_of o).number ≡ number_of o
        go (given g) = refl
        go (refused n) = refl

    -- DONE is not refused
    restartable : (restart_of which t router).answer.number ≡ DONE → Restartable t router
    restartable e = let p = done-given _ (λ n r. not_done (refusal n r)) (sym number ∙ e) in restart-given p.0 p.1

    -- how many went
    gone-given : Restartable t router → (restart_of which t router).answer.gone ≡ gone_of (afi_in t) router (routes_of t)
    unfolding restart_of restarted_of on_outcome
    gone-given h = rw (gives h)

    -- the octets left
    octets-given : Restartable t router → (restart_of which t router).octets ≡ image_of (afi_in t) (places_in t) (renewed (afi_in t) which router (routes_of t))
    unfolding restart_of on_outcome
    octets-given h = rw (gives h)

    -- and where the answer is DONE
    pub restart-octets : (restart_of which t router).answer.number ≡ DONE → (restart_of which t router).octets ≡ image_of (afi_in t) (places_in t) (renewed (afi_in t) which router (routes_of t))
    restart-octets e = octets-given (restartable e)

    -- a refusal leaves the octets
    leaves : (n : ℕ) → restart_outcome t router ≡ refused n → (restart_of which t router).octets ≡ t
    unfolding restart_of on_outcome
    leaves n e = rw e

    -- and has empty fields
    empty-given : (n : ℕ) → restart_outcome t router ≡ refused n → (restart_of which t router).answer.gone ≡ 0
    unfolding restart_of restarted_of on_outcome
    empty-given n e = rw e

    -- by what the outcome is
    either-outcome : {P : Type 0} → (Restartable t router → P) → ((n : ℕ) → restart_outcome t router ≡ refused n → P) → P
    either-outcome good bad = ⊎_elim (λ p. good (restart-given p.0 p.1)) (λ p. bad p.0 p.1) (outcome (restart_outcome t router))

    -- the routes that are left can be held
    holdable : Restartable t router → Holdable (afi_in t) (places_in t) (renewed (afi_in t) which router (routes_of t))
    holdable h = holdable-renewed (afi_in t) (places_in t) which router (routes_of t) (sound-holdable t h.sound)

    -- the table left
    after : Restartable t router → TableOf (afi_in t) (places_in t) (renewed (afi_in t) which router (routes_of t)) (restart_of which t router).octets
    after h = subst (TableOf _ _ _) (sym (octets-given h)) (images.imaged (afi_in t) (places_in t) (renewed (afi_in t) which router (routes_of t)) (holdable h))

    -- and its routes
    renews : Restartable t router → Renewed (afi_in t) router (mark_left which) (routes_of t) (routes_of (restart_of which t router).octets) (restart_of which t router).answer.gone
    renews h = rw ((after h).routes, gone-given h) (is-renewed (afi_in t) which router (distinct-increasing (sound-holdable t h.sound).increasing))

    -- of the same size
    size : length (restart_of which t router).octets ≡ length t
    size =
        either-outcome
        (λ h. ap length (octets-given h) ∙ length-image (afi_in t) (places_in t) (renewed (afi_in t) which router (routes_of t)) (holdable h) ∙ sym (sound t h.sound).size.is)
        (λ n e. ap length (leaves n e))

    -- what is not DONE is refused
    not-refused : (restart_of which t router).answer.number ≢ DONE → Restartable t router → ⊥
    not-refused h r = h (number ∙ number-given (gives r))

-- either, by the mark that it leaves
pub restart_rule : (which : RestartCall) → RestartRule which (mark_left which)
restart_rule which =
    record {
      refuses = λ t router n h. (λ e. refusal t router n (refused-of _ n (sym e ∙ number t router which) h), λ r. number t router which ∙ number-refused (refuses t router r));
      done = λ t router. (
        λ e. let p = restartable t router which e in (p.sound, p.sized),
        λ h. number t router which ∙ number-given (gives t router (record { sound = h.0; sized = h.1 })),
      );
      renews = λ t router e. renews t router which (restartable t router which e);
      after = λ t router e. after t router which (restartable t router which e);
      size = λ t router. size t router which;
      empty = λ t router h. either-outcome t router which (λ r. absurd (not-refused t router which h r)) (empty-given t router which);
      untouched = λ t router h. either-outcome t router which (λ r. absurd (not-refused t router which h r)) (leaves t router which);
    }

-- a mark leaves the mark
pub mark_rule : RestartRule marking true
unfolding mark_left
mark_rule = restart_rule marking

-- a sweep leaves none
pub sweep_rule : RestartRule sweeping false
unfolding mark_left
sweep_rule = restart_rule sweeping
