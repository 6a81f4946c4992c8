-- `mvpn_list::listing::Stop::fmt` meets its contract.
use mathlib.Core.Path.{refl}
use native.Mathlib.Omega.{arith}
use Rattle.std.proofs.Output.{has_written_of_eq}
use Rattle.mvpn_list.proofs.Texts.{Opens, opens-end, opens-stop, skipping-text, old-text}
use Rattle.mvpn_list.proofs.listing.StopDisplay.fmt.Goals as goal
use Rattle.mvpn_list.proofs.listing.StopDisplay.fmt.Goals.{in-Ok, in-Err}

pub returns-in-Skip-clause-writes : goal.returns-in-Skip-clause-writes
returns-in-Skip-clause-writes g c =
    let s = c.args.self.now in
    let n = c.number_of-number.result in
    let opens : Opens c.match-self.word.now n = rw c.number_of-number.ensures (elim c.match-self.branch [
      | in-Ok w ↦ opens-end s.judgement c.match-self.word.now _ w.in-Ok.is (rw w.word-is refl)
      | in-Err w ↦ opens-stop s.judgement c.match-self.word.now _ w.in-Err.is (rw w.word-is refl)
    ]) in
    λ p ok. has_written_of_eq _ _ _ _ _ (rw (c.in-Skip.is, ← c.number_of-number.ensures) (skipping-text c.match-self.word.now n s.offset s.skipped opens (omega arith) (omega arith) (omega arith))) (c.writeln.ensures.writes p ok)

pub returns-in-Old-clause-writes : goal.returns-in-Old-clause-writes
returns-in-Old-clause-writes g c =
    let s = c.args.self.now in
    let n = c.number_of-number.result in
    let opens : Opens c.match-self.word.now n = rw c.number_of-number.ensures (elim c.match-self.branch [
      | in-Ok w ↦ opens-end s.judgement c.match-self.word.now _ w.in-Ok.is (rw w.word-is refl)
      | in-Err w ↦ opens-stop s.judgement c.match-self.word.now _ w.in-Err.is (rw w.word-is refl)
    ]) in
    λ p ok. has_written_of_eq _ _ _ _ _ (rw (c.in-Old.is, ← c.number_of-number.ensures) (old-text c.match-self.word.now n s.offset s.skipped opens (omega arith) (omega arith))) (c.writeln-in-Old.ensures.writes p ok)
