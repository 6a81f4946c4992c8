-- `plan::proposal::is_served` meets its contract.
use Rattle.plan.specs.Inner.{vrf_in}
use Rattle.plan.proofs.JudgedPlaces.{served-none, best-within, best-ends, served-some}
use Rattle.plan.proofs.proposal.is_served.Goals as goal

pub returns-in_default : goal.returns-in_default
returns-in_default c = served-none _ _ _ _ _ c.in_default.ensures

pub between-place-requires : goal.between-place-requires
between-place-requires c = best-within _ (vrf_in c.args.vrf.now) c.args.flow.now _ _ _ c.in-Some.ensures

pub attribute_in-requires : goal.attribute_in-requires
attribute_in-requires c = best-ends _ (vrf_in c.args.vrf.now) c.args.flow.now _ _ _ c.in-Some.ensures _ c.between-place.ensures

pub returns : goal.returns
returns c = served-some _ _ _ _ _ _ c.in-Some.ensures _ _ _ c.between-place.ensures c.attribute_in.ensures c.wanted.ensures _ c.is_same.ensures
