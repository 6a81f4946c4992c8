-- `nlri_writing::write::write_leaf` meets its contract.
use Rattle.nlri_writing.proofs.Puts.{wrote-err}
use mathlib.Core.Path.{◌≡◌, refl, sym, subst}
use mathlib.Core.Bool.{true, false}
use Prim.Native.Nat.{ℕ}
use native.Mathlib.Omega.{arith}
use lib.Dec.{ltb}
use Rattle.octets.specs.Choice.{both}
use Rattle.octets.proofs.Outputs.{wrote_as}
use Rattle.octets.proofs.Choice.{flag_true, flag-false}
use Rattle.nlri_writing.specs.Inner.{leaf_written}
use Rattle.nlri_writing.proofs.Puts.{length-leaf}
use Rattle.nlri_writing.proofs.Sizes.{originator-octets, leaf-short}
use Rattle.nlri_writing.proofs.Families.{no-width, too_long, no_key, no-space, all-given}
use Rattle.std.proofs.Common.{◌∙◌}
use Rattle.nlri_writing.proofs.write.write_leaf.Goals as goal

pub returns-then-not-is_originator_size : goal.returns-then-not-is_originator_size
unfolding leaf_written
returns-then-not-is_originator_size c = wrote-err _ _ _ (no-width _ _ _ _ _ _ _ _ (sym c.is_originator_size.ensures ∙ c.if-not-is_originator_size.true))

pub is_leaf_long-requires : goal.is_leaf_long-requires
is_leaf_long-requires c =
    let fits = sym c.is_originator_size.ensures ∙ c.if-not-is_originator_size.false in
    (originator-octets _ fits).0

pub returns-then-is_leaf_long : goal.returns-then-is_leaf_long
unfolding leaf_written
returns-then-is_leaf_long c =
    let a = c.args in
    let all = length-leaf a.nlri a.key.now in
    let fits = sym c.is_originator_size.ensures ∙ c.if-not-is_originator_size.false in
    wrote-err _ _ _ (too_long _ _ _ _ _ _ _ _ fits refl (subst (λ (m : ℕ). both (ltb 7 a.nlri.route_type) (ltb 255 m) ≡ true) (sym all) (flag_true _ _ c.is_leaf_long.ensures c.if-is_leaf_long.true)))

pub is_key-requires : goal.is_key-requires
is_key-requires c = c.requires.route_type_value

pub returns-then-not-is_key : goal.returns-then-not-is_key
unfolding leaf_written
returns-then-not-is_key c =
    let a = c.args in
    let all = length-leaf a.nlri a.key.now in
    let fits = sym c.is_originator_size.ensures ∙ c.if-not-is_originator_size.false in
    wrote-err _ _ _ (no_key _ _ _ _ _ _ _ _ fits refl (subst (λ (m : ℕ). both (ltb 7 a.nlri.route_type) (ltb 255 m) ≡ false) (sym all) (flag-false _ _ c.is_leaf_long.ensures c.if-is_leaf_long.false)) (sym c.is_key.ensures ∙ c.if-not-is_key.true))

pub returns-then-output-key : goal.returns-then-output-key
unfolding leaf_written
returns-then-output-key c =
    let a = c.args in
    let all = length-leaf a.nlri a.key.now in
    let fits = sym c.is_originator_size.ensures ∙ c.if-not-is_originator_size.false in
    wrote-err _ _ _ (no-space _ _ _ _ _ _ _ _ fits refl (subst (λ (m : ℕ). both (ltb 7 a.nlri.route_type) (ltb 255 m) ≡ false) (sym all) (flag-false _ _ c.is_leaf_long.ensures c.if-is_leaf_long.false)) (sym c.is_key.ensures ∙ c.if-not-is_key.false) refl (omega (arith, c.if-output-key.true)))

pub put_leaf-requires : goal.put_leaf-requires
put_leaf-requires c =
    let a = c.args in
    let all = length-leaf a.nlri a.key.now in
    let fits = sym c.is_originator_size.ensures ∙ c.if-not-is_originator_size.false in
    let short = leaf-short a.kind.bits a.nlri.route_type a.key.now a.nlri.originator.size c.requires.fact c.requires.route_type_value (originator-octets _ fits).0 (flag-false _ _ c.is_leaf_long.ensures c.if-is_leaf_long.false) (sym c.is_key.ensures ∙ c.if-not-is_key.false) in
    (originator-octets _ fits, record { exact = sym all; short = short; room = omega (arith, c.if-output-key.false) })

pub returns : goal.returns
unfolding leaf_written
returns c =
    let a = c.args in
    let all = length-leaf a.nlri a.key.now in
    let fits = sym c.is_originator_size.ensures ∙ c.if-not-is_originator_size.false in
    wrote_as _ _ _ _ _ (all-given _ _ _ _ _ _ _ _ fits refl (subst (λ (m : ℕ). both (ltb 7 a.nlri.route_type) (ltb 255 m) ≡ false) (sym all) (flag-false _ _ c.is_leaf_long.ensures c.if-is_leaf_long.false)) (sym c.is_key.ensures ∙ c.if-not-is_key.false) refl (omega (arith, c.if-output-key.false))) c.put_leaf.ensures
