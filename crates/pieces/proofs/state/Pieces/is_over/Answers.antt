-- `pieces::state::Pieces::is_over` meets its contract.
use mathlib.Core.Path.{◌≡◌, refl, sym, ◌∙◌}
use Prim.Native.Nat.{◌-◌}
use borrow.Author.Tests.{lt-ltb, le-ltb}
use lib.Dec.{ltb}
use Rattle.octets.specs.Choice.{either}
use Rattle.octets.proofs.Choice.{either_left, either-last}
use Rattle.pieces.proofs.Functions.{over-by}
use Rattle.pieces.proofs.state.Pieces.is_over.Goals as goal
use Rattle.pieces.proofs.state.Pieces.is_over.Goals.{then-size-gt-RUN, else-size-gt-RUN, then-size-self, else-size-self, then-self-gt-RUN, else-self-gt-RUN}

pub returns-then-self-gt-RUN-2 : goal.returns-then-self-gt-RUN-2
returns-then-self-gt-RUN-2 c =
    let p = c.args.self in
    let size = c.args.size in
    let a : c.if-size-gt-RUN.value ≡ either (ltb 4096 size) (ltb (4096 - size) p.total) = elim c.if-size-gt-RUN.branch [
      | then-size-gt-RUN w ↦ w.value-is ∙ lt-ltb _ _ w.if-size-gt-RUN.true ∙ sym (either_left _ _ (lt-ltb _ _ w.if-size-gt-RUN.true))
      | else-size-gt-RUN w ↦ either-last _ _ _ (le-ltb _ _ w.if-size-gt-RUN.false) w.value-is
    ] in
    let b : c.if-size-self.value ≡ either c.if-size-gt-RUN.value (ltb 4096 p.walked.count) = elim c.if-size-self.branch [
      | then-size-self w ↦ w.value-is ∙ w.if-size-self.true ∙ sym (either_left _ _ w.if-size-self.true)
      | else-size-self w ↦ either-last _ _ _ w.if-size-self.false w.value-is
    ] in
    let d : c.if-self-gt-RUN.value ≡ either c.if-size-self.value (ltb 4096 p.walked.skipped) = elim c.if-self-gt-RUN.branch [
      | then-self-gt-RUN w ↦ w.value-is ∙ w.if-self-gt-RUN.true ∙ sym (either_left _ _ w.if-self-gt-RUN.true)
      | else-self-gt-RUN w ↦ either-last _ _ _ w.if-self-gt-RUN.false w.value-is
    ] in
    c.if-self-gt-RUN-2.true ∙ sym (either_left _ _ c.if-self-gt-RUN-2.true) ∙ over-by p size _ _ _ a b d

pub returns-else-self-gt-RUN-2 : goal.returns-else-self-gt-RUN-2
returns-else-self-gt-RUN-2 c =
    let p = c.args.self in
    let size = c.args.size in
    let a : c.if-size-gt-RUN.value ≡ either (ltb 4096 size) (ltb (4096 - size) p.total) = elim c.if-size-gt-RUN.branch [
      | then-size-gt-RUN w ↦ w.value-is ∙ lt-ltb _ _ w.if-size-gt-RUN.true ∙ sym (either_left _ _ (lt-ltb _ _ w.if-size-gt-RUN.true))
      | else-size-gt-RUN w ↦ either-last _ _ _ (le-ltb _ _ w.if-size-gt-RUN.false) w.value-is
    ] in
    let b : c.if-size-self.value ≡ either c.if-size-gt-RUN.value (ltb 4096 p.walked.count) = elim c.if-size-self.branch [
      | then-size-self w ↦ w.value-is ∙ w.if-size-self.true ∙ sym (either_left _ _ w.if-size-self.true)
      | else-size-self w ↦ either-last _ _ _ w.if-size-self.false w.value-is
    ] in
    let d : c.if-self-gt-RUN.value ≡ either c.if-size-self.value (ltb 4096 p.walked.skipped) = elim c.if-self-gt-RUN.branch [
      | then-self-gt-RUN w ↦ w.value-is ∙ w.if-self-gt-RUN.true ∙ sym (either_left _ _ w.if-self-gt-RUN.true)
      | else-self-gt-RUN w ↦ either-last _ _ _ w.if-self-gt-RUN.false w.value-is
    ] in
    either-last _ _ _ c.if-self-gt-RUN-2.false refl ∙ over-by p size _ _ _ a b d
