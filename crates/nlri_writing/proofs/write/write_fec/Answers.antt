-- `nlri_writing::write::write_fec` meets its contract.
use Rattle.octets.proofs.Refusals.{refusal_number-not_done}
use Rattle.nlri_writing.proofs.Puts.{wrote-err, wrote_passed_on}
use mathlib.Core.Path.{◌≡◌, refl, sym, ◌∙◌, ap}
use mathlib.Core.Bool.{true}
use mathlib.Core.List.{List}
use Prim.Native.Nat.{ℕ, ◌+◌, ◌≤◌}
use native.Mathlib.Omega.{arith}
use lib.ListN.{length}
use lib.Dec.{eqb}
use borrow.Author.Tests.{lt-ltb, le-ltb}
use Rattle.octets.specs.Outcome.{refused, number_of}
use Rattle.fec_elements.specs.declared.Standing.TheVariants.{Lent}
use Rattle.fec_elements.specs.Reading.{read_fec}
use Rattle.nlri.specs.Family.{root_family}
use Rattle.octets.proofs.Outputs.{wrote_as}
use Rattle.nlri.specs.declared.fields.Nlri.{Nlri}
use Rattle.nlri_writing.specs.Inner.{front_size, end_size, body_with, originator_fits, fec_written}
use Rattle.nlri_writing.proofs.Puts.{length-with, front-most}
use Rattle.nlri_writing.proofs.Sizes.{originator-sized, end_short}
use Rattle.nlri_writing.proofs.Families.{no-width, no-fec, too_long, no-space, all-given}
use borrow.Author.Rules.{rules}
use Rattle.nlri_writing.proofs.write.write_fec.Goals as goal

-- the body that is put, and its octets
abbrev body : Nlri → List ℕ → List ℕ
body nlri fec = body_with (eqb nlri.route_type 71) (eqb nlri.route_type 67) nlri fec

sized : (nlri : Nlri) (fec : List ℕ) (front back : ℕ) → length nlri.distinguisher.octets ≡ 8 → originator_fits (eqb nlri.route_type 67) nlri.originator.size ≡ true
    → front ≡ front_size (eqb nlri.route_type 71) → back ≡ end_size (eqb nlri.route_type 67) nlri.originator.size
    → (front + back + length fec ≡ length (body nlri fec)) × (front + back ≤ 28)
sized nlri fec front back eight fits f b =
    let all = length-with (eqb nlri.route_type 71) (eqb nlri.route_type 67) nlri fec eight in
    let most = front-most (eqb nlri.route_type 71) in
    let short = end_short (eqb nlri.route_type 67) nlri.originator.size fits in
    (omega arith, omega arith)

-- the FEC's number
number : (bits family n : ℕ) (fec : List ℕ) → family ≡ root_family bits → n ≡ number_of (read_fec (Lent family) fec) → n ≡ number_of (read_fec (Lent (root_family bits)) fec)
number bits family n fec e f = f ∙ ap (λ (x : ℕ). number_of (read_fec (Lent x) fec)) e

pub returns-then-not-originator_fits : goal.returns-then-not-originator_fits
unfolding fec_written
returns-then-not-originator_fits c = wrote-err _ _ _ (no-width _ _ _ _ _ _ _ _ (sym c.originator_fits.ensures ∙ c.if-not-originator_fits.true))

pub returns-in_err-check : goal.returns-in_err-check
unfolding fec_written
returns-in_err-check c =
    let fits = sym c.originator_fits.ensures ∙ c.if-not-originator_fits.false in
    let same = number c.args.kind.bits _ _ c.args.fec.now c.root_family.ensures c.in_err-check.ensures in
    wrote_passed_on _ _ _ _ c.from_residual.ensures.1 (ap refused same ∙ no-fec _ _ _ _ _ _ _ _ fits (λ done. refusal_number-not_done _ (same ∙ done)))

pub overflow_add-ends : goal.overflow_add-ends
overflow_add-ends c =
    let size = sized c.args.nlri c.args.fec.now _ _ (search rules) (sym c.originator_fits.ensures ∙ c.if-not-originator_fits.false) c.front_size.ensures c.end_size.ensures in
    omega (arith, size.1)

pub overflow_sub-ends : goal.overflow_sub-ends
overflow_sub-ends c =
    let size = sized c.args.nlri c.args.fec.now _ _ (search rules) (sym c.originator_fits.ensures ∙ c.if-not-originator_fits.false) c.front_size.ensures c.end_size.ensures in
    omega (arith, size.1)

pub returns-then-ends-fec : goal.returns-then-ends-fec
unfolding fec_written
returns-then-ends-fec c =
    let fits = sym c.originator_fits.ensures ∙ c.if-not-originator_fits.false in
    let same = number c.args.kind.bits _ _ c.args.fec.now c.root_family.ensures c.in_ok-check.ensures in
    let size = sized c.args.nlri c.args.fec.now _ _ (search rules) fits c.front_size.ensures c.end_size.ensures in
    wrote-err _ _ _ (too_long _ _ _ _ _ _ _ _ fits (sym same) (lt-ltb 255 (length (body c.args.nlri c.args.fec.now)) (omega (arith, size.0, c.if-ends-fec.true))))

pub overflow_add-ends-2 : goal.overflow_add-ends-2
overflow_add-ends-2 c =
    let size = sized c.args.nlri c.args.fec.now _ _ (search rules) (sym c.originator_fits.ensures ∙ c.if-not-originator_fits.false) c.front_size.ensures c.end_size.ensures in
    omega (arith, size.1)

pub overflow_add-ends-3 : goal.overflow_add-ends-3
overflow_add-ends-3 c =
    let size = sized c.args.nlri c.args.fec.now _ _ (search rules) (sym c.originator_fits.ensures ∙ c.if-not-originator_fits.false) c.front_size.ensures c.end_size.ensures in
    omega (arith, size.1, c.if-ends-fec.false)

pub returns-then-output-ends : goal.returns-then-output-ends
unfolding fec_written
returns-then-output-ends c =
    let fits = sym c.originator_fits.ensures ∙ c.if-not-originator_fits.false in
    let same = number c.args.kind.bits _ _ c.args.fec.now c.root_family.ensures c.in_ok-check.ensures in
    let size = sized c.args.nlri c.args.fec.now _ _ (search rules) fits c.front_size.ensures c.end_size.ensures in
    wrote-err _ _ _ (no-space _ _ _ _ _ _ _ _ fits (sym same) (le-ltb 255 (length (body c.args.nlri c.args.fec.now)) (omega (arith, size.0, c.if-ends-fec.false))) refl refl (omega (arith, size.0, c.if-output-ends.true)))

pub put_between-requires : goal.put_between-requires
put_between-requires c =
    let fits = sym c.originator_fits.ensures ∙ c.if-not-originator_fits.false in
    let size = sized c.args.nlri c.args.fec.now _ _ (search rules) fits c.front_size.ensures c.end_size.ensures in
    (originator-sized _ _ fits, record { exact = size.0; short = omega (arith, size.1, c.if-ends-fec.false); room = omega (arith, c.if-output-ends.false) })

pub returns : goal.returns
unfolding fec_written
returns c =
    let fits = sym c.originator_fits.ensures ∙ c.if-not-originator_fits.false in
    let same = number c.args.kind.bits _ _ c.args.fec.now c.root_family.ensures c.in_ok-check.ensures in
    let size = sized c.args.nlri c.args.fec.now _ _ (search rules) fits c.front_size.ensures c.end_size.ensures in
    wrote_as _ _ _ _ _ (all-given _ _ _ _ _ _ _ _ fits (sym same) (le-ltb 255 (length (body c.args.nlri c.args.fec.now)) (omega (arith, size.0, c.if-ends-fec.false))) refl refl (omega (arith, size.0, c.if-output-ends.false))) c.put_between.ensures
