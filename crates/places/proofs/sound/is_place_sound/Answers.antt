-- `places::sound::is_place_sound` meets its contract.
use mathlib.Core.Path.{ap, sym, ◌∙◌}
use native.Mathlib.Omega.{arith}
use lib.ListN.{length}
use Rattle.octets.proofs.Lists.{length_part}
use Rattle.routes.specs.Place.{end_in}
use Rattle.places.proofs.Judgements.{number-refused, number-accepted}
use Rattle.places.proofs.Sounds.{attribute-refused, place-over, place-mismarked, place_other, place-refused, place-accepted}
use Rattle.places.proofs.sound.is_place_sound.Goals as goal

pub overflow_cast-nlri_size : goal.overflow_cast-nlri_size
overflow_cast-nlri_size c = omega (arith, c.type_inv.place 0)

pub overflow_cast-attribute_size : goal.overflow_cast-attribute_size
overflow_cast-attribute_size c = omega (arith, c.type_inv.place 1)

pub overflow_add-end : goal.overflow_add-end
overflow_add-end c = omega (arith, c.type_inv.place 0, c.type_inv.place 1)

pub overflow_add-end-2 : goal.overflow_add-end-2
overflow_add-end-2 c = omega (arith, c.type_inv.place 0, c.type_inv.place 1)

pub returns-then-end-gt-MARK : goal.returns-then-end-gt-MARK
unfolding end_in
returns-then-end-gt-MARK c = place-over _ _ c.if-end-gt-MARK.true

pub returns-then-place-gt1 : goal.returns-then-place-gt1
unfolding end_in
returns-then-place-gt1 c = place-mismarked _ _ c.if-end-gt-MARK.false c.if-place-gt1.true

pub returns-then-not-is_s_pmsi : goal.returns-then-not-is_s_pmsi
unfolding end_in
returns-then-not-is_s_pmsi c =
    place_other _ _ c.if-end-gt-MARK.false c.if-place-gt1.false _ c.between.ensures _ c.is_s_pmsi.ensures
    c.if-not-is_s_pmsi.true

pub check_label-requires : goal.check_label-requires
check_label-requires c = sym c.check.ensures ∙ number-accepted _ (sym c.is_err.ensures.value ∙ c.if-is_err.false)

pub returns-then-is_err : goal.returns-then-is_err
unfolding end_in
returns-then-is_err c =
    let refused = number-refused _ (sym c.is_err.ensures.value ∙ c.if-is_err.true) in
    place-refused _ _ c.if-end-gt-MARK.false c.if-place-gt1.false _ c.between.ensures _ c.is_s_pmsi.ensures
    c.if-not-is_s_pmsi.false _ _ c.between-attribute.ensures (attribute-refused _ _ c.check.ensures refused) refused

pub returns-then-is_err-2 : goal.returns-then-is_err-2
unfolding end_in
returns-then-is_err-2 c =
    place-refused _ _ c.if-end-gt-MARK.false c.if-place-gt1.false _ c.between.ensures _ c.is_s_pmsi.ensures
    c.if-not-is_s_pmsi.false _ _ c.between-attribute.ensures c.check_label.ensures (number-refused _ (sym c.is_err-2.ensures.value ∙ c.if-is_err-2.true))

pub is_tail_zero-requires : goal.is_tail_zero-requires
is_tail_zero-requires c =
    (ap length c.between-2.ensures ∙ length_part _ 0 127 (omega (arith, c.requires)), c.if-end-gt-MARK.false)

pub returns : goal.returns
unfolding end_in
returns c =
    place-accepted _ _ c.if-end-gt-MARK.false c.if-place-gt1.false _ c.between.ensures _ c.is_s_pmsi.ensures
    c.if-not-is_s_pmsi.false _ _ c.between-attribute.ensures c.check_label.ensures (number-accepted _ (sym c.is_err-2.ensures.value ∙ c.if-is_err-2.false)) _ _
    c.between-2.ensures c.is_tail_zero.ensures
