-- `nlri_writing::put::put_originator` meets its contract.
use mathlib.Core.List.{[]}
use Rattle.octets.proofs.Outputs.{put-none, put-picks, put-skips, room-picks}
use Rattle.nlri.specs.Answers.{address_octets}
use Rattle.nlri_writing.specs.Inner.{end_octets}
use Rattle.nlri_writing.proofs.put.put_originator.Goals as goal

pub put_octets-requires : goal.put_octets-requires
unfolding end_octets
put_octets-requires c =
    let a = c.args in
    let has = c.if-originated.true in
    (c.requires.0 has, room-picks a.at a.originated (address_octets a.nlri.originator) [] a.output.now has c.requires.1)

pub returns-then-originated : goal.returns-then-originated
unfolding end_octets
returns-then-originated c = put-picks _ _ _ _ _ _ _ c.if-originated.true c.put_octets.ensures

pub returns : goal.returns
unfolding end_octets
returns c = put-skips _ _ _ _ _ _ _ c.if-originated.false (put-none _ _)
