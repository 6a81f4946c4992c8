-- `runs::walking::walk` meets its contract: the mode of a number walks as the number does.
use mathlib.Core.Path.{◌≡◌, sym, ◌∙◌, ap}
use mathlib.Core.List.{List}
use Prim.Native.Nat.{ℕ}
use borrow.Author.Tests.{eqb-true, eqb-false}
use lib.Dec.{eqb}
use native.Mathlib.Omega.{arith}
use Rattle.octets.proofs.Choice.{tested, pick_true, pick-false}
use Rattle.runs.specs.declared.mode.Mode.{Mode}
use Rattle.runs.specs.Walking.{walked_with}
use Rattle.runs.specs.Modes.{SKIP, OLD, mode_number, mode_by, walk_by}
use Rattle.runs.proofs.ModeRule.{mode_rule}
use Rattle.runs.proofs.walking.walk.Goals as goal

walked-by : (afi mode : ℕ) (run : List ℕ) → walk_by afi (mode_number (mode_by mode)) run ≡ walk_by afi mode run
walked-by afi mode run =
    let by : Mode → ℕ = mode_number in
    tested (eqb mode SKIP) (λ t. ap (λ m. walk_by afi (mode_number m) run) (pick_true _ _ _ t) ∙ ap (λ m. walk_by afi m run) (sym (eqb-true mode SKIP t)))
    (λ f. ap (λ m. walk_by afi (mode_number m) run) (pick-false _ _ _ f) ∙ (mode_rule.old afi OLD run (λ e. omega arith)).0 ∙ sym (mode_rule.old afi mode run (eqb-false mode SKIP f)).0)

pub returns : goal.returns
returns c =
    ap (λ n. walked_with n c.go_on.new.self.count c.go_on.new.self.offset c.go_on.new.self.skipped) c.number_of.ensures
    ∙ c.go_on.ensures ∙ ap (λ m. walk_by c.args.afi (mode_number m) c.args.run.now) c.from.ensures ∙ walked-by _ _ _
