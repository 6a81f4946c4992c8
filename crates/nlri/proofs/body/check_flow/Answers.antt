-- `nlri::body::check_flow` meets its contract.
use Rattle.std.proofs.Common.{refl, ◌∙◌, arith, rules}
use Rattle.nlri.specs.Bodies.{source}
use Rattle.nlri.specs.Reading.{field_size}
use Rattle.nlri.proofs.Functions.Ends.{left-missing, left-wide, left-allowed}
use Rattle.std.proofs.Common.{sym}
use Rattle.nlri.proofs.body.check_flow.Goals as goal

pub returns-then-s-at : goal.returns-then-s-at
unfolding field_size
returns-then-s-at c = left-missing _ _ source (λ y. refl) _ _ _ c.if-s-at.true

pub returns-then-not-is_allowed : goal.returns-then-not-is_allowed
unfolding field_size
returns-then-not-is_allowed c = left-wide _ _ source (λ y. refl) _ _ _ (search rules) (sym c.is_allowed.ensures ∙ c.if-not-is_allowed.true)

pub overflow_add-at-2 : goal.overflow_add-at-2
unfolding field_size
overflow_add-at-2 c = omega (arith, c.type_inv.s c.args.at)

pub check_group_field-requires : goal.check_group_field-requires
unfolding field_size
check_group_field-requires c = omega (arith, c.type_inv.s c.args.at)

pub returns : goal.returns
unfolding field_size
returns c = c.check_group_field.ensures ∙ left-allowed _ _ source (λ y. refl) _ _ _ (search rules) (sym c.is_allowed.ensures ∙ c.if-not-is_allowed.false)
