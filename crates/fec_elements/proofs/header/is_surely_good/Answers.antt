-- `fec_elements::header::is_surely_good` meets its contract.
use Rattle.std.proofs.Common.{sym, ◌∙◌, arith}
use Rattle.fec_elements.proofs.Shorts.{surely-good, family-cast}
use Rattle.fec_elements.proofs.header.is_surely_good.Goals as goal

pub returns-then-takes_family : goal.returns-then-takes_family
returns-then-takes_family c t =
    surely-good c.args.s.now _ c.in-Some.ensures (omega arith) _ (sym c.is_fec_type.ensures ∙ c.if-not-is_fec_type.false) (rw (← family-cast c.in-Some.family) (sym c.takes_family.ensures ∙ c.if-takes_family.true)) (rw c.opaque_start.ensures at (c.ends_well.ensures t))
