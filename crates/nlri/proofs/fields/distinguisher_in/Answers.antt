-- `nlri::fields::distinguisher_in` meets its contract.
use Rattle.std.proofs.Common.{length, sym, ap, ◌∙◌}
use Rattle.octets.proofs.Choice.{pick_true, pick-false}
use Rattle.nlri.specs.Answers.{distinguisher_struct}
use Rattle.nlri.specs.Inner.{distinguisher_at}
use Rattle.nlri.proofs.Functions.Copies.{no-distinguisher, distinguisher-whole}
use Rattle.octets.proofs.Lists.{length_part}
use Rattle.nlri.proofs.fields.distinguisher_in.Goals as goal

pub returns-then-has_key : goal.returns-then-has_key
unfolding distinguisher_at
returns-then-has_key c = no-distinguisher ∙ ap distinguisher_struct (sym (pick_true _ _ _ (sym c.has_key.ensures ∙ c.if-has_key.true)))

pub between-requires : goal.between-requires
between-requires c = c.requires (sym c.has_key.ensures ∙ c.if-has_key.false)

pub copy_from_slice-requires : goal.copy_from_slice-requires
copy_from_slice-requires c =
    sym (ap length c.between.ensures ∙ length_part c.args.s.now 2 8 (c.requires (sym c.has_key.ensures ∙ c.if-has_key.false)))

pub returns : goal.returns
unfolding distinguisher_at
returns c =
    let unkeyed = sym c.has_key.ensures ∙ c.if-has_key.false in
    distinguisher-whole _ c.between.result.now c.copy_from_slice.ensures.after (ap length c.between.ensures ∙ length_part c.args.s.now 2 8 (c.requires unkeyed))
    ∙ ap distinguisher_struct (c.between.ensures ∙ sym (pick-false _ _ _ unkeyed))
