-- What a turn of the walk comes to, and how the walk by its mode, and the NLRIs that it reads, go on by it.
use mathlib.Core.Path.{◌≡◌, refl, sym, ◌∙◌, ap, ap₂, subst}
use mathlib.Core.Bool.{true, false}
use mathlib.Core.List.{List, [], ◌∷◌}
use mathlib.Core.Logic.{inl, inr, ⊎_elim}
use Prim.Native.Nat.{ℕ, suc, ◌+◌, ◌-◌, ◌≤◌, ◌<◌}
use native.Mathlib.Omega.{arith}
use borrow.Author.Tests.{eqb-true, eqb-false, ltb-false}
use lib.Dec.{eqb}
use lib.ListN.{length, get_or, drop, length-drop}
use lib.Seq.{get_or-drop}
use Rattle.octets.specs.Numbers.{DONE, SHORT, TYPE, LONG, FAMILY, GROUP}
use Rattle.octets.specs.Choice.{both, either}
use Rattle.octets.specs.Outcome.{given, refused}
use Rattle.octets.specs.Octets.{part}
use Rattle.octets.proofs.Choice.{tested, opposite, is_false, both-held, either_true, picked, pick_true, pick-false}
use Rattle.octets.proofs.Outcome.{never, stopped, refused-same}
use Rattle.nlri.specs.declared.layout.Layout.{Layout}
use Rattle.nlri.specs.Reading.{Laid, key_field, laid_with, laid_at, accepted_at}
use Rattle.nlri.specs.Layouts.{layout_at}
use Rattle.nlri.specs.Rules.NlriRules.{BodyFault}
use Rattle.nlri.proofs.Definitions.Families.{family-refused}
use Rattle.nlri.proofs.Definitions.Whole.{laid_out_lem}
use Rattle.runs.specs.declared.mode.Mode.{Mode}
use Rattle.runs.specs.declared.stepping.Cursor.{Cursor}
use Rattle.runs.specs.Walking.{StepTaken, read_to, ended_at, refused_at, step_from, walked_with}
use Rattle.runs.specs.Modes.{Read, Skipped, Stopped, SKIP, mode_number, mode_by, SkippableNumber, is_skipped, past_nlri, turn_from, on_turn, walk_by_from, nlris_by_from}
use Rattle.runs.proofs.Steps.{Stops, Comes, family, too_long, end, beyond, unaccepted, accepted, comes-step_from}

-- the refusals that are skipped
pub skips : (n : ℕ) → SkippableNumber n → is_skipped SKIP n ≡ true
unfolding is_skipped both either
skips n (inl e) = ap (is_skipped SKIP) e
skips n (inr e) = ap (is_skipped SKIP) e

pub skipped-number : (mode number : ℕ) → is_skipped mode number ≡ true → (mode ≡ SKIP) × SkippableNumber number
unfolding is_skipped
skipped-number mode number h =
    let b = both-held _ _ h in
    (eqb-true _ _ b.0, ⊎_elim (λ t. inl (eqb-true _ _ t)) (λ t. inr (eqb-true _ _ t)) (either_true _ _ b.1))

-- they are none of those that come before a type is looked at
pub skippable-apart : (n : ℕ) → SkippableNumber n → (n ≡ DONE → ⊥) × (n ≡ SHORT → ⊥) × (n ≡ LONG → ⊥) × (n ≡ FAMILY → ⊥)
skippable-apart n (inl e) = (λ z. omega arith, λ z. omega arith, λ z. omega arith, λ z. omega arith)
skippable-apart n (inr e) = (λ z. omega arith, λ z. omega arith, λ z. omega arith, λ z. omega arith)

pub not-skipped : (mode number : ℕ) → (mode ≡ SKIP → SkippableNumber number → ⊥) → is_skipped mode number ≡ false
not-skipped mode number h = is_false _ (λ t. let s = skipped-number mode number t in h s.0 s.1)

pub never-skipped : (mode number : ℕ) → (number ≡ TYPE → ⊥) → (number ≡ GROUP → ⊥) → is_skipped mode number ≡ false
never-skipped mode number t g = not-skipped mode number (λ _. ⊎_elim t g)

-- a mode skips what its number does
pub skipped-by : (mode number : ℕ) → is_skipped (mode_number (mode_by mode)) number ≡ is_skipped mode number
unfolding is_skipped both
skipped-by mode number =
    tested (eqb mode SKIP) (λ t. ap (λ (m : Mode). is_skipped (mode_number m) number) (pick_true _ _ _ t) ∙ ap (λ (m : ℕ). is_skipped m number) (sym (eqb-true mode SKIP t)))
    (λ f. ap (λ (m : Mode). is_skipped (mode_number m) number) (pick-false _ _ _ f) ∙ sym (not-skipped mode number (λ e _. eqb-false mode SKIP f e)))

-- the numbers of bodies come behind SHORT and TYPE and before GROUP: they stop the walk
pub body_fault-between : (n : ℕ) → BodyFault n → (TYPE < n) × (n < GROUP)
body_fault-between n = ⊎_elim (λ a. (omega arith, omega arith)) (⊎_elim (λ b. (omega arith, omega arith)) (⊎_elim (λ c. (omega arith, omega arith)) (⊎_elim (λ d. (omega arith, omega arith)) (λ g. (omega arith, omega arith)))))

pub body_fault-stops : (n : ℕ) → BodyFault n → SkippableNumber n → ⊥
body_fault-stops n fault = let between = body_fault-between n fault in ⊎_elim (λ t. omega (arith, between.0)) (λ g. omega (arith, between.1))

-- an NLRI that is laid out, or refused otherwise than by SHORT, is whole
laid-whole : (bits : ℕ) (s : List ℕ) (l : Laid) → laid_at bits s ≡ given l → 2 + get_or s 1 0 ≤ length s
unfolding laid_at
laid-whole bits s l e = let o = laid_out_lem (key_field bits) bits s l e in omega (arith, o.fits, o.enough, o.sized)

unlaid-whole : (bits : ℕ) (s : List ℕ) (n : ℕ) → laid_at bits s ≡ refused n → (n ≡ SHORT → ⊥) → 2 + get_or s 1 0 ≤ length s
unfolding laid_at laid_with
unlaid-whole bits s n why other =
    ⊎_elim (λ few. absurd (other (sym (refused-same {A = Laid} few.1))))
    (λ enough.
    ⊎_elim (λ few. absurd (other (sym (refused-same {A = Laid} few.1))))
    (λ all. omega (arith, ltb-false (length s) 2 enough.0, ltb-false (length s - 2) (get_or s 1 0) all.0)) (picked _ _ _ _ enough.1))
    (picked _ _ _ _ why)

pub refused-whole : (bits : ℕ) (s : List ℕ) (n : ℕ) → layout_at bits s ≡ refused n → (n ≡ SHORT → ⊥) → 2 + get_or s 1 0 ≤ length s
unfolding layout_at accepted_at
refused-whole bits s n e other =
    let why : accepted_at bits s ≡ refused n = ⊎_elim (λ p. p) (λ later. absurd (never refl later.second)) (stopped _ _ _ e) in
    ⊎_elim (λ unlaid. unlaid-whole bits s n unlaid other) (λ later. laid-whole bits s later.value later.first) (stopped _ _ _ why)

module _ (afi : ℕ) (run : List ℕ) (at : ℕ) where
  -- where a step refuses with TYPE or GROUP the NLRI lies within the run, which is not too long
  within-refused : {s : StepTaken} → Comes afi run at s → SkippableNumber s.number → (past_nlri run at ≤ length run) × (length run ≤ 4096)
  unfolding ended_at refused_at read_to
  within-refused (family n e) t = absurd ((skippable-apart n t).3 (family-refused afi n e).0)
  within-refused (too_long bits f h) t = absurd ((skippable-apart LONG t).2 refl)
  within-refused (end bits f few last) t = absurd ((skippable-apart DONE t).0 refl)
  within-refused (beyond bits f few far) t = absurd ((skippable-apart SHORT t).1 refl)
  within-refused (unaccepted bits f few before n e) t =
      (omega (arith, refused-whole bits (drop at run) n e (skippable-apart n t).1, get_or-drop at run 1 0, length-drop at run), few)
  within-refused (accepted bits f few before l e) t = absurd ((skippable-apart DONE t).0 refl)

  pub within-skipped : (mode n : ℕ) → Stops (step_from afi run at) n → is_skipped mode n ≡ true → (past_nlri run at ≤ length run) × (length run ≤ 4096)
  within-skipped mode n s h = within-refused (comes-step_from afi run at) (subst SkippableNumber (sym s.numbered) (skipped-number mode n h).1)

  read_is : {s : StepTaken} → Comes afi run at s → s.read ≡ true → s ≡ read_to s.layout s.cursor
  unfolding ended_at refused_at read_to
  read_is (family n e) r = absurd (opposite r refl)
  read_is (too_long bits f h) r = absurd (opposite r refl)
  read_is (end bits f few last) r = absurd (opposite r refl)
  read_is (beyond bits f few far) r = absurd (opposite r refl)
  read_is (unaccepted bits f few before n e) r = absurd (opposite r refl)
  read_is (accepted bits f few before l e) r = refl

  -- a turn by its step
  module _ (mode : ℕ) where
    pub turn-read : (step_from afi run at).read ≡ true → turn_from afi mode run at ≡ Read (step_from afi run at).layout (record { at = (step_from afi run at).cursor })
    unfolding turn_from
    turn-read r = pick_true _ _ _ r

    pub turn-reads : (l : Layout) (c : ℕ) → step_from afi run at ≡ read_to l c → turn_from afi mode run at ≡ Read l (record { at = c })
    unfolding read_to
    turn-reads l c e = turn-read (ap (λ (s : StepTaken). s.read) e) ∙ ap (λ (s : StepTaken). Read s.layout (record { at = s.cursor })) e

    module _ (n : ℕ) (s : Stops (step_from afi run at) n) where
      pub turn-skips : is_skipped mode n ≡ true → turn_from afi mode run at ≡ Skipped (record { at = past_nlri run at })
      unfolding turn_from
      turn-skips h = pick-false _ _ _ s.unread ∙ pick_true _ _ _ (ap (is_skipped mode) s.numbered ∙ h)

      pub turn-stops : is_skipped mode n ≡ false → turn_from afi mode run at ≡ Stopped n
      unfolding turn_from
      turn-stops h = pick-false _ _ _ s.unread ∙ pick-false _ _ _ (ap (is_skipped mode) s.numbered ∙ h) ∙ ap Stopped s.numbered

    -- and a step by its turn
    pub read_step : (l : Layout) (c : Cursor) → turn_from afi mode run at ≡ Read l c → step_from afi run at ≡ read_to l c.at
    unfolding turn_from
    read_step l c e =
        ⊎_elim (λ y. read_is (comes-step_from afi run at) y.0 ∙ ap₂ read_to (let same : (step_from afi run at).layout ≡ l = cc in same) (let same : (step_from afi run at).cursor ≡ c.at = cc in same))
        (λ y. ⊎_elim (λ z. let no-turn : ◌≡◌ {A = ℕ} 0 1 = cc in absurd (omega arith)) (λ z. let no-turn : ◌≡◌ {A = ℕ} 0 1 = cc in absurd (omega arith)) (picked _ _ _ _ y.1))
        (picked _ _ _ _ e)

    pub skipped-moves : (c : Cursor) → turn_from afi mode run at ≡ Skipped c → (at + 2 ≤ c.at) × (c.at ≤ length run) × (length run ≤ 4096)
    unfolding turn_from
    skipped-moves c e =
        ⊎_elim (λ y. let no-turn : ◌≡◌ {A = ℕ} 0 1 = cc in absurd (omega arith))
        (λ y.
        ⊎_elim
        (λ z.
        let h = within-skipped mode _ (record { unread = y.0; numbered = refl }) z.0 in
        let same : past_nlri run at ≡ c.at = cc in
        (omega arith, omega arith, h.1))
        (λ z. let no-turn : ◌≡◌ {A = ℕ} 0 1 = cc in absurd (omega arith)) (picked _ _ _ _ y.1))
        (picked _ _ _ _ e)

    pub stopped-number : (n : ℕ) → turn_from afi mode run at ≡ Stopped n → (step_from afi run at).number ≡ n
    unfolding turn_from
    stopped-number n e =
        ⊎_elim (λ y. let no-turn : ◌≡◌ {A = ℕ} 0 1 = cc in absurd (omega arith))
        (λ y. ⊎_elim (λ z. let no-turn : ◌≡◌ {A = ℕ} 0 1 = cc in absurd (omega arith)) (λ z. cc) (picked _ _ _ _ y.1)) (picked _ _ _ _ e)

    -- a mode turns as its number does
    pub turns-by : turn_from afi (mode_number (mode_by mode)) run at ≡ turn_from afi mode run at
    unfolding turn_from
    turns-by = rw (skipped-by mode (step_from afi run at).number)

    -- how the walk goes on by a turn
    module _ (left : ℕ) where
      pub walk_by_from-read : (count skipped : ℕ) (l : Layout) (c : Cursor) → turn_from afi mode run at ≡ Read l c
          → walk_by_from (suc left) afi mode run at count skipped ≡ walk_by_from left afi mode run c.at (count + 1) skipped
      unfolding walk_by_from on_turn
      walk_by_from-read count skipped l c e = ap (on_turn _ _ _) e

      pub walk_by_from-skipped : (count skipped : ℕ) (c : Cursor) → turn_from afi mode run at ≡ Skipped c
          → walk_by_from (suc left) afi mode run at count skipped ≡ walk_by_from left afi mode run c.at count (skipped + 1)
      unfolding walk_by_from on_turn
      walk_by_from-skipped count skipped c e = ap (on_turn _ _ _) e

      pub walk_by_from-stopped : (count skipped n : ℕ) → turn_from afi mode run at ≡ Stopped n → walk_by_from (suc left) afi mode run at count skipped ≡ walked_with n count at skipped
      unfolding walk_by_from on_turn
      walk_by_from-stopped count skipped n e = ap (on_turn _ _ _) e

      pub nlris_by_from-read : (l : Layout) (c : Cursor) → turn_from afi mode run at ≡ Read l c
          → nlris_by_from (suc left) afi mode run at ≡ record { offset = at; octets = part run at (c.at - at) } ∷ nlris_by_from left afi mode run c.at
      unfolding nlris_by_from on_turn
      nlris_by_from-read l c e = ap (on_turn _ _ _) e

      pub nlris_by_from-skipped : (c : Cursor) → turn_from afi mode run at ≡ Skipped c → nlris_by_from (suc left) afi mode run at ≡ nlris_by_from left afi mode run c.at
      unfolding nlris_by_from on_turn
      nlris_by_from-skipped c e = ap (on_turn _ _ _) e

      pub nlris_by_from-stopped : (n : ℕ) → turn_from afi mode run at ≡ Stopped n → nlris_by_from (suc left) afi mode run at ≡ []
      unfolding nlris_by_from on_turn
      nlris_by_from-stopped n e = ap (on_turn _ _ _) e
