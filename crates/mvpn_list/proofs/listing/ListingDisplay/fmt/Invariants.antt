-- The text so far: what is written is the header and the lines of the NLRIs before the cursor.
use Prim.Native.Nat.{◌-◌}
use lib.ListN.{length}
use Rattle.std.specs.Fmt.{HasWritten, IsPlainFormatter}
use Rattle.runs.specs.Modes.{mode_number}
use Rattle.mvpn_list.proofs.Lines.{Listed}
use Rattle.mvpn_list.proofs.listing.ListingDisplay.fmt.Given as goal

abbrev pub invariant-loop-turn : goal.invariant-loop-turn
invariant-loop-turn g l =
    Listed (mode_number l.self.mode) l.self.run.now l.cursor.at l.skipped (λ bs. IsPlainFormatter l.fn.f → HasWritten g.W.Write.write_str_gives l.fn.f bs l.f)

abbrev pub decreases-loop-turn : goal.decreases-loop-turn
decreases-loop-turn g l = length l.self.run.now - l.cursor.at
