-- `nlri::fields::nlri_in` meets its contract.
use Rattle.std.proofs.Common.{ℕ, ◌+◌, refl, ap, ◌∙◌, arith}
use Rattle.octets.specs.Octets.{part}
use Rattle.nlri.specs.Answers.{nlri_struct, address_struct}
use Rattle.nlri.specs.Inner.{fields_at}
use Rattle.nlri.proofs.Functions.Singles.{nlri-same}
use Rattle.nlri.proofs.Functions.Ends.{start-most}
use Rattle.nlri.proofs.fields.nlri_in.Goals as goal

pub address_at-source-requires : goal.address_at-source-requires
address_at-source-requires c =
    let w = c.requires in
    (w.source.0, λ q. rw c.source_start-start.ensures (w.source.1 q))

pub overflow_add-start : goal.overflow_add-start
overflow_add-start c = omega (arith, c.requires.source.0, c.source_start-start.ensures, start-most c.args.layout.route_type)

pub overflow_add-start-2 : goal.overflow_add-start-2
overflow_add-start-2 c = omega (arith, c.requires.source.0, c.source_start-start.ensures, start-most c.args.layout.route_type)

pub address_at-group-requires : goal.address_at-group-requires
address_at-group-requires c =
    let w = c.requires in
    (w.group.0, λ q. rw c.source_start-start.ensures (w.group.1 q))

pub returns : goal.returns
unfolding nlri_struct fields_at
returns c =
    let a = c.args in
    nlri-same _ _ _ _ _ _ _ _ _ _ _ _
    c.distinguisher_in-distinguisher.ensures
    (c.address_at-source.ensures ∙ ap (λ (n : ℕ). address_struct (part a.s.now n a.layout.source)) c.source_start-start.ensures)
    (c.address_at-group.ensures ∙ ap (λ (n : ℕ). address_struct (part a.s.now (n + a.layout.source + 1) a.layout.group)) c.source_start-start.ensures)
    c.address_at-originator.ensures
    c.source_as_in.ensures
    refl
