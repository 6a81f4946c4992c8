-- What the length octets show of an NLRI that is accepted by them.
use Rattle.std.proofs.Common.{◌≡◌, ℕ, ◌+◌, ◌-◌, ◌*◌, ◌/◌, ◌%◌, ◌^◌, ◌<◌, ◌≤◌, Bool, true, eqb, List, [], ◌∷◌, length, get_or, take, drop, sym, refl, ap, ◌∙◌, subst, mod-eq_of_lt, arith, get_or-drop, drop-drop, eq-eqb}
use mathlib.Core.Path.{subst⁻¹}
use borrow.Author.Tests.{eqb-false}
use Rattle.octets.specs.Numbers.{DONE}
use Rattle.octets.specs.Choice.{pick, either}
use Rattle.octets.specs.Outcome.{given, number_of}
use Rattle.octets.specs.Octets.{part}
use Rattle.octets.proofs.Choice.{pick_true, tested, either_left, either_second, flag_true}
use Rattle.octets.proofs.Lists.{length_part}
use Rattle.nlri.specs.Family.{allowed, is_originator_size}
use Rattle.nlri.specs.Bodies.{FieldKind, distinguisher, source_as, source, group, originator, bodies, on_body}
use Rattle.nlri.specs.Reading.{field_size, key_field}
use Rattle.nlri.specs.Layouts.{layout_at}
use Rattle.nlri.specs.Inner.{left_fault, body_fault, after_flow, header_at, with_key, source_start, SurelyRead}
use Rattle.nlri.proofs.Definitions.Lengths.{originator-sized}
use Rattle.nlri.proofs.Definitions.Keys.{leaf-takes}
use Rattle.nlri.proofs.Definitions.Sizes.{header-stands}
use Rattle.nlri.proofs.Functions.Ends.{left-fixed, left-allowed, left-none, left-originator, left-keyed, body-flow}
use Rattle.nlri.proofs.Functions.Fronts.{key-typed}
use Rattle.nlri.proofs.Functions.Leaves.{leaf-body}
use Rattle.nlri.proofs.Functions.Shapes.{part-part, body-octet}
use Rattle.nlri.proofs.Functions.Discards.{accepted-typed, accepted-other}

-- an originator stands between `at` and `size`, by the difference, which wraps where `at` is past `size`
pub originator-from : (at size left : ℕ) (r : Bool) → at < 512 → (left + at) % 2 ^ 64 ≡ size → r ≡ is_originator_size left → r ≡ true → (at ≤ size) × (is_originator_size (size - at) ≡ true)
originator-from at size left r low wraps e t =
    let is = flag_true _ _ e t in
    let most = originator-sized left is in
    let sum : left + at ≡ size = sym (mod-eq_of_lt {m = 2 ^ 64} (omega arith)) ∙ wraps in
    let rest : size - at ≡ left = omega arith in
    (omega arith, subst⁻¹ (λ (n : ℕ). is_originator_size n ≡ true) rest is)

-- the number of what follows source and group is theirs, where both lengths are allowed
flow-left : (bits type at : ℕ) (s : List ℕ) (kinds : List FieldKind) (n a g : ℕ) → length (part s 2 n) ≡ n → a ≡ get_or s (2 + at) 0 → g ≡ get_or s (3 + at + a / 8) 0 → allowed bits type a ≡ true → allowed bits type g ≡ true
    → at + 1 + a / 8 < n → left_fault bits type kinds (at + 1 + a / 8 + 1 + g / 8) (part s 2 n) ≡ left_fault bits type (source ∷ group ∷ kinds) at (part s 2 n)
unfolding field_size
flow-left bits type at s kinds n a g l ea eg wide-a wide-g inside =
    let here : 2 + (at + 1 + a / 8) ≡ 3 + at + a / 8 = omega arith in
    let first : a ≡ get_or (part s 2 n) at 0 = ea ∙ sym (body-octet s n at (omega arith)) in
    let second : g ≡ get_or (part s 2 n) (at + 1 + a / 8) 0 = eg ∙ sym (body-octet s n (at + 1 + a / 8) inside ∙ ap (λ (i : ℕ). get_or s i 0) here) in
    ap (λ (k : ℕ). left_fault bits type kinds (at + 1 + a / 8 + 1 + k / 8) (part s 2 n)) second
    ∙ left-allowed bits type group (λ y. refl) kinds (at + 1 + a / 8) (part s 2 n) (omega arith) (subst (λ (k : ℕ). allowed bits type k ≡ true) second wide-g)
    ∙ ap (λ (k : ℕ). left_fault bits type (group ∷ kinds) (at + 1 + k / 8) (part s 2 n)) first
    ∙ left-allowed bits type source (λ y. refl) (group ∷ kinds) at (part s 2 n) (omega arith) (subst (λ (k : ℕ). allowed bits type k ≡ true) first wide-a)

-- types 1, 2 and 3
module _ (bits : ℕ) (s : List ℕ) (enough : 90 ≤ length s) where
  pub s-pmsi-sure : (a g : ℕ) → a ≡ get_or s 10 0 → g ≡ get_or s (11 + a / 8) 0 → a < 256 → g < 256 → allowed bits 3 a ≡ true → allowed bits 3 g ≡ true
      → (11 + a / 8 - 1 + g / 8 ≤ get_or s 1 0) × (is_originator_size (get_or s 1 0 - (11 + a / 8 - 1 + g / 8)) ≡ true) → SurelyRead bits 3 88 s
  unfolding body_fault on_body bodies pick field_size
  s-pmsi-sure a g ea eg octet-a octet-g wide-a wide-g o =
      let size = originator-sized _ o.1 in
      let short : get_or s 1 0 ≤ 88 = omega (arith, o.0) in
      let l : length (part s 2 (get_or s 1 0)) ≡ get_or s 1 0 = length_part s 2 (get_or s 1 0) (omega arith) in
      record {
        short = short;
        good = sym (left-originator bits 3 (8 + 1 + a / 8 + 1 + g / 8) (part s 2 (get_or s 1 0)) (get_or s 1 0 - (11 + a / 8 - 1 + g / 8)) (omega (arith, o.0)) o.1
            ∙ flow-left bits 3 8 s (originator ∷ []) (get_or s 1 0) a g l ea eg wide-a wide-g (omega (arith, o.0))
            ∙ left-fixed bits 3 distinguisher _ 8 0 (part s 2 (get_or s 1 0)) (λ y. refl));
      }

  pub intra-as-sure : (8 ≤ get_or s 1 0) × (is_originator_size (get_or s 1 0 - 8) ≡ true) → SurelyRead bits 1 88 s
  unfolding body_fault on_body bodies pick field_size
  intra-as-sure o =
      let size = originator-sized _ o.1 in
      let l : length (part s 2 (get_or s 1 0)) ≡ get_or s 1 0 = length_part s 2 (get_or s 1 0) (omega arith) in
      record {
        short = omega arith;
        good = sym (left-originator bits 1 8 (part s 2 (get_or s 1 0)) (get_or s 1 0 - 8) (omega (arith, o.0)) o.1 ∙ left-fixed bits 1 distinguisher _ 8 0 (part s 2 (get_or s 1 0)) (λ y. refl));
      }

  pub inter-as-sure : get_or s 1 0 ≡ 12 → SurelyRead bits 2 88 s
  unfolding body_fault on_body bodies pick field_size
  inter-as-sure is =
      let l : length (part s 2 (get_or s 1 0)) ≡ get_or s 1 0 = length_part s 2 (get_or s 1 0) (omega arith) in
      record {
        short = omega arith;
        good = sym (left-none bits 2 12 (part s 2 (get_or s 1 0)) (l ∙ is) ∙ left-fixed bits 2 source_as _ 4 8 (part s 2 (get_or s 1 0)) (λ y. refl) ∙ left-fixed bits 2 distinguisher _ 8 0 (part s 2 (get_or s 1 0)) (λ y. refl));
      }

  pub keyable-sure : (type : ℕ) → get_or s 0 0 ≡ type → type ≤ 3 → SurelyRead bits type 88 s → (get_or s 0 0 ≤ 3) × SurelyRead bits (get_or s 0 0) 88 s
  keyable-sure type e low sure = (omega arith, subst⁻¹ (λ (k : ℕ). SurelyRead bits k 88 s) e sure)

-- types 4, 6 and 7
module _ (bits : ℕ) (s : List ℕ) (enough : 108 ≤ length s) where
  pub leaf-sure : (keyed : List ℕ) → keyed ≡ drop 2 s → (2 + get_or s 3 0 ≤ get_or s 1 0) × (is_originator_size (get_or s 1 0 - (2 + get_or s 3 0)) ≡ true)
      → (get_or keyed 0 0 ≤ 3) × SurelyRead bits (get_or keyed 0 0) 88 keyed → SurelyRead bits 4 106 s
  unfolding part with_key either
  leaf-sure keyed e o sure =
      let n : ℕ = get_or s 1 0 in
      let k : ℕ = get_or s 3 0 in
      let body : List ℕ = part s 2 n in
      let size = originator-sized _ o.1 in
      let type : get_or keyed 0 0 ≡ get_or s 2 0 = ap (λ (x : List ℕ). get_or x 0 0) e ∙ get_or-drop 2 s 0 0 in
      let length-is : get_or keyed 1 0 ≡ k = ap (λ (x : List ℕ). get_or x 1 0) e ∙ get_or-drop 2 s 1 0 in
      let short : n ≤ 106 = omega (arith, o.0, sure.1.short) in
      let l : length body ≡ n = length_part s 2 n (omega arith) in
      let octets : part body 2 k ≡ part keyed 2 (get_or keyed 1 0) =
      part-part s 2 n 2 k (omega (arith, o.0)) ∙ sym (ap (λ (x : List ℕ). take k (drop 2 x)) e ∙ ap (take k) (drop-drop 2 2 s)) ∙ ap (λ (m : ℕ). part keyed 2 m) (sym length-is) in
      let header : header_at body ≡ given (get_or s 2 0, k) = header-stands body _ _ (body-octet s n 0 (omega (arith, o.0))) (body-octet s n 1 (omega (arith, o.0))) (omega (arith, o.0)) in
      let low : get_or s 2 0 ≤ 3 = omega (arith, sure.0) in
      let good : body_fault bits (get_or s 2 0) (part body 2 k) ≡ DONE = ap (body_fault bits (get_or s 2 0)) octets ∙ ap (λ (t : ℕ). body_fault bits t (part keyed 2 (get_or keyed 1 0))) (sym type) ∙ sure.1.good in
      let key : given (2 + k) ≡ key_field bits 4 body = key-typed bits 4 body (get_or s 2 0) k header (leaf-takes _ low) (part body 2 k) DONE refl (sym good) refl in
      record {
        short = short;
        good = sym (left-originator bits 4 (2 + k) body (n - (2 + k)) (omega (arith, o.0)) o.1 ∙ left-keyed bits 4 (originator ∷ []) body (2 + k) (omega (arith, o.0)) (sym key) ∙ leaf-body bits 4 body refl);
      }

  pub join-sure : bits < 256 → get_or s 14 0 ≡ bits → get_or s (15 + bits / 8) 0 ≡ bits → get_or s 1 0 ≡ 14 + 2 * (bits / 8) → (type : ℕ) → 5 < type → type ≤ 7 → SurelyRead bits type 76 s
  unfolding allowed after_flow pick source_start
  join-sure octet source_is group-is sized type low high =
      let n : ℕ = get_or s 1 0 in
      let body : List ℕ = part s 2 n in
      let l : length body ≡ n = length_part s 2 n (omega arith) in
      let wide : allowed bits 5 bits ≡ true = either_left _ _ (eq-eqb bits bits refl) in
      let joins : either (eqb type 6) (eqb type 7) ≡ true = tested (eqb type 6) (λ t. either_left _ _ t) (λ f. either_second _ _ (eq-eqb type 7 (omega (arith, eqb-false type 6 f)))) in
      let start : source_start type ≡ 15 = pick_true (either (eqb type 6) (eqb type 7)) 15 11 joins in
      record {
        short = omega arith;
        good = sym (left-none bits 5 (12 + 1 + bits / 8 + 1 + bits / 8) body (omega arith)
            ∙ flow-left bits 5 12 s [] n bits bits l (sym source_is) (sym group-is) wide wide (omega arith)
            ∙ ap (λ (k : ℕ). left_fault bits 5 (source ∷ group ∷ []) (k - 3) body) (sym start) ∙ body-flow bits type body (omega arith) high);
      }

-- the number of the NLRI at the front
pub sure-number : (bits type most : ℕ) (s : List ℕ) → SurelyRead bits type most s → get_or s 0 0 ≡ type → 2 + most ≤ length s → (type ≡ 5 → ⊥) → number_of (layout_at bits s) ≡ DONE
sure-number bits type most s sure e enough other =
    sym (accepted-other bits type _ other ∙ accepted-typed bits s type (get_or s 1 0) (header-stands s type (get_or s 1 0) e refl (omega (arith, sure.short)))) ∙ sure.good
