-- `octets::parts::place` meets its contract.
use Rattle.octets.proofs.Lists.{copied-placed}
use borrow.Author.Rules.{rules}
use Rattle.octets.proofs.parts.place.Goals as goal

pub returns : goal.returns
returns c =
    let a = c.args in
    (search rules, copied-placed a.at a.octets.now a.output.now _ c.copy_from_slice.ensures.after)
