-- `nlri_writing::write::write_i_pmsi` meets its contract.
use Rattle.nlri_writing.proofs.Puts.{wrote-err}
use mathlib.Core.Path.{◌≡◌, refl}
use mathlib.Core.Bool.{true}
use mathlib.Core.List.{List, []}
use Prim.Native.Nat.{ℕ, ◌+◌, ◌≤◌}
use native.Mathlib.Omega.{arith}
use lib.ListN.{length}
use lib.Dec.{eqb}
use Rattle.octets.proofs.Outputs.{wrote_as}
use Rattle.nlri.specs.declared.fields.Nlri.{Nlri}
use Rattle.nlri_writing.specs.Inner.{front_size, end_size, body_with, originator_fits, i_pmsi_written}
use Rattle.nlri_writing.proofs.Puts.{length-with, front-most}
use Rattle.nlri_writing.proofs.Sizes.{originator-sized, end_short}
use Rattle.nlri_writing.proofs.Families.{no-width, no-space, all-given}
use borrow.Author.Rules.{rules}
use Rattle.std.proofs.Common.{sym, ◌∙◌}
use Rattle.nlri_writing.proofs.write.write_i_pmsi.Goals as goal

-- the body that is put, and its octets
abbrev body : Nlri → List ℕ
body nlri = body_with (eqb nlri.route_type 2) (eqb nlri.route_type 1) nlri []

sized : (nlri : Nlri) (front back : ℕ) → length nlri.distinguisher.octets ≡ 8 → originator_fits (eqb nlri.route_type 1) nlri.originator.size ≡ true
    → front ≡ front_size (eqb nlri.route_type 2) → back ≡ end_size (eqb nlri.route_type 1) nlri.originator.size → (front + back ≡ length (body nlri)) × (front + back ≤ 28)
sized nlri front back eight fits f b =
    let all = length-with (eqb nlri.route_type 2) (eqb nlri.route_type 1) nlri [] eight in
    let most = front-most (eqb nlri.route_type 2) in
    let short = end_short (eqb nlri.route_type 1) nlri.originator.size fits in
    (omega arith, omega arith)

pub returns-then-not-originator_fits : goal.returns-then-not-originator_fits
unfolding i_pmsi_written
returns-then-not-originator_fits c = wrote-err _ _ _ (no-width _ _ _ _ _ _ _ _ (sym c.originator_fits.ensures ∙ c.if-not-originator_fits.true))

pub overflow_add-size : goal.overflow_add-size
overflow_add-size c =
    let size = sized c.args.nlri _ _ (search rules) (sym c.originator_fits.ensures ∙ c.if-not-originator_fits.false) c.front_size.ensures c.end_size.ensures in
    omega (arith, size.1)

pub overflow_add-size-2 : goal.overflow_add-size-2
overflow_add-size-2 c =
    let size = sized c.args.nlri _ _ (search rules) (sym c.originator_fits.ensures ∙ c.if-not-originator_fits.false) c.front_size.ensures c.end_size.ensures in
    omega (arith, size.1)

pub returns-then-output-size : goal.returns-then-output-size
unfolding i_pmsi_written
returns-then-output-size c =
    let fits = sym c.originator_fits.ensures ∙ c.if-not-originator_fits.false in
    let size = sized c.args.nlri _ _ (search rules) fits c.front_size.ensures c.end_size.ensures in
    wrote-err _ _ _ (no-space _ _ _ _ _ _ _ _ fits refl refl refl refl (omega (arith, size.0, c.if-output-size.true)))

pub put_between-requires : goal.put_between-requires
put_between-requires c =
    let fits = sym c.originator_fits.ensures ∙ c.if-not-originator_fits.false in
    let size = sized c.args.nlri _ _ (search rules) fits c.front_size.ensures c.end_size.ensures in
    (originator-sized _ _ fits, record { exact = omega (arith, size.0); short = omega (arith, size.1); room = c.if-output-size.false })

pub returns : goal.returns
unfolding i_pmsi_written
returns c =
    let fits = sym c.originator_fits.ensures ∙ c.if-not-originator_fits.false in
    let size = sized c.args.nlri _ _ (search rules) fits c.front_size.ensures c.end_size.ensures in
    wrote_as _ _ _ _ _ (all-given _ _ _ _ _ _ _ _ fits refl refl refl refl (omega (arith, size.0, c.if-output-size.false))) c.put_between.ensures
