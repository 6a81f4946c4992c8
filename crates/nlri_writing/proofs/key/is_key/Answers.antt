-- `nlri_writing::key::is_key` meets its contract.
use mathlib.Core.Path.{sym, ◌∙◌, ap}
use Prim.Native.Nat.{ℕ}
use Rattle.nlri.specs.Writing.{is_key}
use Rattle.nlri_writing.proofs.KeyTests.{key-type}
use Rattle.nlri_writing.proofs.key.is_key.Goals as goal

pub returns-then-route_type-eq-LEAF : goal.returns-then-route_type-eq-LEAF
returns-then-route_type-eq-LEAF c = c.is_leaf_key.ensures ∙ ap (λ (n : ℕ). is_key c.args.kind.bits n c.args.key.now) (sym c.if-route_type-eq-LEAF.true)

pub returns : goal.returns
returns c =
    let a = c.args in
    c.is_mldp_key.ensures ∙ ap (λ (n : ℕ). is_key a.kind.bits n a.key.now) (sym (key-type _ c.requires c.if-route_type-eq-LEAF.false))
