-- `pieces::reading::wanted` meets its contract.
use Prim.Native.Nat.{◌-◌}
use native.Mathlib.Omega.{arith}
use borrow.Author.Rules.{rules}
use Rattle.pieces.proofs.Functions.{want-few, want-later, want_kept}
use Rattle.pieces.proofs.reading.wanted.Goals as goal

pub returns-then-kept-piece-lt-HEADER : goal.returns-then-kept-piece-lt-HEADER
returns-then-kept-piece-lt-HEADER c = (want-few _ _ _ (search rules) c.if-kept-piece-lt-HEADER.true, search rules)

pub returns-then-kept-lt-HEADER : goal.returns-then-kept-lt-HEADER
returns-then-kept-lt-HEADER c = (want-later _ _ _ (search rules) c.if-kept-lt-HEADER.true c.if-kept-piece-lt-HEADER.false, omega (arith, c.type_inv.piece (1 - c.args.kept)))

pub returns : goal.returns
returns c = (want_kept _ _ _ (search rules) c.if-kept-lt-HEADER.false, omega (arith, c.type_inv.unfinished 1))
