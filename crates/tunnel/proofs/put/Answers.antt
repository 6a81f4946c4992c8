-- `tunnel::put` meets its contract: it goes by the first fault.
use mathlib.Core.Path.{sym, refl}
use lib.ListN.{length}
use native.Mathlib.Omega.{arith}
use Rattle.octets.proofs.Refusals.{refusal_number-not_done, refused-by}
use Rattle.octets.proofs.Outcome.{refused-of}
use Rattle.octets.proofs.Outputs.{wrote_as, wrote-put, wrote-refused}
use Rattle.tunnel.proofs.Definitions.Attributes.{length-attribute, write_done}
use Rattle.tunnel.specs.Answers.{argument_fields}
use Rattle.tunnel.proofs.put.Goals as goal

pub returns-in_err-check_writing : goal.returns-in_err-check_writing
returns-in_err-check_writing c =
    let a = c.args in
    let n = c.in_err-check_writing in
    wrote-refused _ _ _ _ (sym (refused-of _ _ (n.ensures a.flags) (refusal_number-not_done _))) (refused-by _ _ c.from_residual.ensures.1)

pub put-requires : goal.put-requires
put-requires c =
    let a = c.args in
    let f = argument_fields a.flags a.tunnel_type a.label_field a.identifier.now in
    let w = (write_done f (length a.output.now) _ (c.in_ok-check_writing.ensures a.flags) refl).0 in
    (w.most, omega (arith, length-attribute f, w.room))

pub returns : goal.returns
returns c =
    let a = c.args in
    let f = argument_fields a.flags a.tunnel_type a.label_field a.identifier.now in
    let put = c.put.ensures in
    wrote_as _ _ _ _ _ (sym (write_done f (length a.output.now) _ (c.in_ok-check_writing.ensures a.flags) refl).1) (wrote-put _ _ _ _ _ (omega (arith, put.0)) put)
