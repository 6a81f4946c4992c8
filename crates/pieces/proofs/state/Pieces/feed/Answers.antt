-- `pieces::state::Pieces::feed` meets its contract.
use mathlib.Core.Path.{◌≡◌, refl, sym, ◌∙◌}
use mathlib.Core.Bool.{Bool, false}
use Prim.Native.Nat.{ℕ, ◌≤◌}
use borrow.Author.Tests.{eq-eqb}
use denote.Enum.Bare.{sameb}
use borrow.Author.Rules.{rules}
use lib.ListN.{length}
use Rattle.pieces.proofs.Feeds.{stage-is, stage-other, stage-reading, stage-finished, stage-going, within-not-over, feed-finished, feed-over, feed-reads, feed-counts}
use Rattle.octets.proofs.Choice.{pick_true}
use Rattle.pieces.specs.contracts.state.Stage.{the_type}
use Rattle.pieces.specs.declared.state.Stage.{Stage}
use Rattle.pieces.specs.declared.state.Stage.TheVariants.{Finished}
use Rattle.pieces.specs.Feeding.{READING, STOPPED, stage_by}
use Rattle.pieces.proofs.Functions.{answers-as, passes-as}
use Rattle.pieces.proofs.state.Pieces.feed.Goals as goal

-- a stage that is not `Finished`
going : (n : ℕ) (stage : Stage) (t : Bool) → stage ≡ stage_by n → t ≡ sameb the_type stage Finished → t ≡ false → n ≤ STOPPED
going n stage t is test f = stage-going n (λ e. stage-other stage Finished (sym test ∙ f) (is ∙ e))

pub read_on-requires : goal.read_on-requires
read_on-requires c =
    let a = c.args in
    (search rules, within-not-over a.self (length a.piece.now) (sym c.is_over.ensures ∙ c.if-is_over.false))

pub counted-requires : goal.counted-requires
counted-requires c =
    let a = c.args in
    (within-not-over a.self (length a.piece.now) (sym c.is_over.ensures ∙ c.if-is_over.false)).total

pub returns-then-eq : goal.returns-then-eq
returns-then-eq c =
    let a = c.args in
    passes-as a.unfinished.now a.piece.now _ _ _ _ (feed-finished a.self _ _ (stage-finished a.self.stage (sym c.from-stage.ensures ∙ stage-is _ _ (sym c.eq.ensures ∙ c.if-eq.true)))) c.passed.ensures refl

pub returns-then-is_over : goal.returns-then-is_over
returns-then-is_over c =
    let a = c.args in
    passes-as a.unfinished.now a.piece.now _ _ _ _
    (feed-over a.self _ _ (going a.self.stage _ _ c.from-stage.ensures c.eq.ensures c.if-eq.false) (sym c.is_over.ensures ∙ c.if-is_over.true))
    c.passed-then-is_over.ensures c.too_long.ensures

pub returns-then-eq-2 : goal.returns-then-eq-2
returns-then-eq-2 c =
    let a = c.args in
    answers-as _ _ _ _
    (feed-reads a.self _ _ (going a.self.stage _ _ c.from-stage.ensures c.eq.ensures c.if-eq.false) (sym c.is_over.ensures ∙ c.if-is_over.false)
    (stage-reading a.self.stage (sym c.from-stage.ensures ∙ stage-is _ _ (sym c.eq-2.ensures ∙ c.if-eq-2.true))))
    c.read_on.ensures

pub returns : goal.returns
returns c =
    let a = c.args in
    passes-as a.unfinished.now a.piece.now _ _ _ _
    (feed-counts a.self _ _ (going a.self.stage _ _ c.from-stage.ensures c.eq.ensures c.if-eq.false) (sym c.is_over.ensures ∙ c.if-is_over.false)
    (λ z. stage-other _ _ (sym c.eq-2.ensures ∙ c.if-eq-2.false) (c.from-stage.ensures ∙ pick_true _ _ _ (eq-eqb a.self.stage READING z))))
    c.passed-2.ensures c.counted.ensures
