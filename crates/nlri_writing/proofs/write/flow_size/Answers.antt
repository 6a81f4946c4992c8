-- `nlri_writing::write::flow_size` meets its contract.
use mathlib.Core.Path.{◌≡◌}
use native.Mathlib.Omega.{arith}
use lib.ListN.{length}
use lib.Dec.{ltb, eqb}
use Rattle.nlri_writing.specs.Inner.{flow_octets, flow_body}
use Rattle.nlri_writing.proofs.Puts.{length-with, length-flow, front-most, end-most}
use borrow.Author.Rules.{rules}
use Rattle.nlri_writing.proofs.write.flow_size.Goals as goal

pub overflow_add-result : goal.overflow_add-result
overflow_add-result c =
    let n = c.args.nlri in
    omega (arith, c.front_size-front.ensures, front-most (ltb 5 n.route_type))

pub overflow_add-result-2 : goal.overflow_add-result-2
overflow_add-result-2 c =
    let n = c.args.nlri in
    omega (arith, c.front_size-front.ensures, c.end_size.ensures, front-most (ltb 5 n.route_type), end-most (eqb n.route_type 3) n.originator.size)

pub returns : goal.returns
unfolding flow_body
returns c =
    let n = c.args.nlri in
    let eight : length n.distinguisher.octets ≡ 8 = search rules in
    omega (arith, c.front_size-front.ensures, c.end_size.ensures, length-flow n, length-with (ltb 5 n.route_type) (eqb n.route_type 3) n (flow_octets n) eight)
