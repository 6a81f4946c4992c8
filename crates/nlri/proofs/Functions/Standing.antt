-- An accepted NLRI is laid out as its octets say.
use Rattle.std.proofs.Common.{◌≡◌, ℕ, ◌+◌, ◌-◌, ◌/◌, ◌<◌, ◌≤◌, true, false, not, eqb, ltb, List, length, get_or, sym, refl, ap, ◌∙◌, ⊎_elim, arith, ltb-false, ltb-true, le-ltb, ne_eqb, eqb-true}
use borrow.Author.Tests.{eqb-false}
use Rattle.octets.specs.Choice.{pick, either, both}
use Rattle.octets.specs.Numbers.{DONE}
use Rattle.octets.specs.Outcome.{given, number_of}
use Rattle.octets.proofs.Choice.{picks, skips, tested, either-false}
use Rattle.octets.proofs.Outcome.{passed, given-same}
use Rattle.fec_elements.specs.Reading.{fec_size}
use Rattle.nlri.specs.Bodies.{FieldKind, distinguisher, source_as, source, group, originator, key, fec, bodies, on_body, body_of, code_of, same_kind, has_field}
use Rattle.nlri.specs.Reading.{Laid, laid_at}
use Rattle.nlri.specs.Layouts.{layout_of, laid_layout}
use Rattle.nlri.specs.Inner.{layout_with, with_key, with_fec, with_source_as, source_start, size_at, flow_layout, leaf_layout, fec_start, from_fec, fec_layout, mldp_layout, layout_in, FlowStands, FecStands, KeyStands, MldpStands, Stands}
use Rattle.nlri.proofs.Definitions.Table.{every, agree, known-above}
use Rattle.nlri.proofs.Definitions.ReadNumbers.{laying, refuses-done, refuses-laid-layout}
use Rattle.nlri.proofs.Definitions.Starts.{size_in}
use Rattle.nlri.proofs.Functions.Shapes.{laid_out, total, has-is, lacked, leaf-sizes, other-sizes, flow-start, flow-bare, flow-sizes, unkeyed-fec, fec-sizes, no_flow}

module _ (bits : ℕ) (s : List ℕ) (laid : Laid) (e : laid_at bits s ≡ given laid) where
  abbrev z : FieldKind → ℕ
  z k = size_in laid.body laid.sizes k

  type : laid.type ≡ get_or s 0 0
  type = (laid_out bits s laid e).typed

  size : laid.size ≡ get_or s 1 0
  size = (laid_out bits s laid e).sized

  long : 2 + laid.size ≤ length s
  long = omega (arith, (laid_out bits s laid e).enough, (laid_out bits s laid e).fits)

  all : z key + (z distinguisher + (z source_as + (z fec + (z source + (z group + z originator))))) ≡ laid.size
  all = total bits s laid e

  -- every other type has a source and a group
  flowing : (laid.type ≡ 1 → ⊥) → (laid.type ≡ 2 → ⊥) → (laid.type ≡ 4 → ⊥) → laid.type ≤ 7 → has_field source laid.body ≡ true
  unfolding every bodies both agree pick has_field same_kind code_of either
  flowing one two four low =
      has-is bits s laid e source (λ n. not (either (eqb n 1) (either (eqb n 2) (either (eqb n 4) (ltb 7 n))))) refl
      ∙ ap not (either-false _ _ (ne_eqb laid.type 1 one) (either-false _ _ (ne_eqb laid.type 2 two) (either-false _ _ (ne_eqb laid.type 4 four) (le-ltb 7 laid.type low))))

  flow-stands : with_key laid.type ≡ false → has_field source laid.body ≡ true → FlowStands (source_start laid.type - 1) s × (layout_of laid ≡ flow_layout laid.type (source_start laid.type - 1) s)
  unfolding flow_layout layout_with layout_of size_at
  flow-stands n f =
      let o = other-sizes bits s laid e n in
      let w = flow-sizes bits s laid e n f in
      let bare = flow-bare bits s laid e n f in
      let at : ℕ = source_start laid.type - 1 in
      let next : at + z source ≡ at + 1 + get_or s at 0 / 8 = omega (arith, w.first) in
      let second : z group ≡ 1 + get_or s (at + 1 + get_or s at 0 / 8) 0 / 8 = w.second ∙ ap (λ (i : ℕ). 1 + get_or s i 0 / 8) next in
      let a : z source - 1 ≡ get_or s at 0 / 8 = omega (arith, w.first) in
      let b : z group - 1 ≡ get_or s (at + 1 + get_or s at 0 / 8) 0 / 8 = omega arith in
      let start = flow-start bits s laid e n f in
      let rest : z originator ≡ get_or s 1 0 - at - get_or s at 0 / 8 - get_or s (at + 1 + get_or s at 0 / 8) 0 / 8 = omega (arith, o.unkeyed, start, w.first, all, size) in (
        record { group = omega (arith, start, w.first, all, long); sizes = omega (arith, o.unkeyed, start, w.first, all, size) },
        λ i. record { route_type = laid.type; length = size i; source = a i; group = b i; originator = rest i; key = o.unkeyed i; fec = bare i },
      )

  -- the layout of a type without source and group
  plain-layout : (n o : ℕ) → laid.type ≡ n → (z source ≡ 0) × (z group ≡ 0) → z originator ≡ o → (k : ℕ) → z key ≡ k → (c : ℕ) → z fec ≡ c → layout_of laid ≡ layout_with n (get_or s 1 0) 0 0 o k c
  unfolding layout_with layout_of
  plain-layout n o t f p k q c r = λ i. record { route_type = t i; length = size i; source = f.0 i - 1; group = f.1 i - 1; originator = p i; key = q i; fec = r i }

  -- the body of a type that is given
  body-of : (n : ℕ) → laid.type ≡ n → (k : FieldKind) → has_field k laid.body ≡ has_field k (body_of n)
  body-of n t k = ap (has_field k) ((laid_out bits s laid e).body ∙ ap body_of t)

  fec-stands : with_fec laid.type ≡ true → FecStands laid.type s × (layout_of laid ≡ fec_layout laid.type s)
  unfolding fec_layout
  fec-stands h =
      let c = fec-sizes bits s laid e h in
      let key : z key ≡ 0 = (other-sizes bits s laid e (unkeyed-fec laid.type h)).unkeyed in
      let left : z originator ≡ 2 + get_or s 1 0 - fec_start laid.type - fec_size (from_fec laid.type s) = omega (arith, c.none, c.start, c.size, all, size) in (
        record { body = omega (arith, long, size); start = omega (arith, c.start, all, size); opaque = c.opaque; sizes = omega (arith, c.start, c.size, all, size) },
        plain-layout laid.type _ refl c.none left 0 key _ (sym c.size),
      )

  leaf-stands : with_key laid.type ≡ true → KeyStands s × (layout_of laid ≡ leaf_layout laid.type s)
  unfolding leaf_layout
  leaf-stands h =
      let l = leaf-sizes bits s laid e h in (
        (omega (arith, l.keyed, all, long), omega (arith, l.keyed, all, size)),
        plain-layout laid.type _ refl (l.rest.2, l.rest.3) (omega (arith, l.rest, l.keyed.0, all, size)) _ l.keyed.0 0 l.rest.4,
      )

  -- a type above 7 has a key or a FEC
  mldp-stands : 7 < laid.type → MldpStands laid.type s × (layout_of laid ≡ mldp_layout laid.type s)
  unfolding mldp_layout with_key with_fec either
  mldp-stands h =
      let held : (laid.type ≡ 68 → ⊥) → with_fec laid.type ≡ true = λ other. ⊎_elim (ap with_fec) (⊎_elim (λ q. absurd (other q)) (ap with_fec)) (known-above _ (laid_out bits s laid e).row.known h) in (
        record { leaf = λ q. (leaf-stands (ap with_key q)).0; held = held; fec = λ other. (fec-stands (held other)).0 },
        tested (eqb laid.type 68) (λ t. let q : laid.type ≡ 68 = eqb-true _ _ t in picks _ _ _ _ t (leaf-stands (ap with_key q)).1) (λ n. skips _ _ _ _ n (fec-stands (held (eqb-false _ _ n))).1),
      )

  -- a type up to 7 has no key, but for 4
  unkeyed : (laid.type ≡ 4 → ⊥) → laid.type ≤ 7 → with_key laid.type ≡ false
  unfolding with_key
  unkeyed four low = either-false _ _ (ne_eqb laid.type 4 four) (ne_eqb laid.type 68 (λ q. omega arith))

  pub stands : Stands s
  unfolding with_key either
  stands =
      record {
        header = (laid_out bits s laid e).enough;
        intra_as = λ q. omega (arith, (other-sizes bits s laid e (ap with_key (type ∙ q))).eight, all, size);
        leaf = λ q. (leaf-stands (ap with_key (type ∙ q))).0;
        mldp = λ h. rw type at (mldp-stands (omega (arith, type))).0;
        flow = λ one two four low.
            let at-four : laid.type ≡ 4 → ⊥ = λ q. four (sym type ∙ q) in
            let to-seven : laid.type ≤ 7 = omega (arith, type) in
            rw type at (flow-stands (unkeyed at-four to-seven) (flowing (λ q. one (sym type ∙ q)) (λ q. two (sym type ∙ q)) at-four to-seven)).0;
      }

  pub laid_as : layout_of laid ≡ layout_in s
  unfolding layout_in with_key with_source_as either pick body_of bodies on_body has_field same_kind code_of
  laid_as =
      tested (eqb (get_or s 0 0) 1)
      (λ t₁. let t : laid.type ≡ 1 = type ∙ eqb-true _ _ t₁ in let o = other-sizes bits s laid e (ap with_key t) in let f = no_flow bits s laid e (ap with_key t) (body-of 1 t source) in
      picks _ _ _ _ t₁ (plain-layout 1 (get_or s 1 0 - 8) t f (omega (arith, o.unkeyed, o.eight, o.numbered ∙ ap (λ (n : ℕ). pick (with_source_as n) 4 0) t, f.0, f.1, lacked bits s laid e fec (body-of 1 t fec), all, size)) 0 o.unkeyed 0 (lacked bits s laid e fec (body-of 1 t fec))))
      (λ n₁. tested (eqb (get_or s 0 0) 2)
      (λ t₂. let t : laid.type ≡ 2 = type ∙ eqb-true _ _ t₂ in skips _ _ _ _ n₁ (picks _ _ _ _ t₂ (plain-layout 2 0 t (no_flow bits s laid e (ap with_key t) (body-of 2 t source)) (lacked bits s laid e originator (body-of 2 t originator)) 0 (other-sizes bits s laid e (ap with_key t)).unkeyed 0 (lacked bits s laid e fec (body-of 2 t fec)))))
      (λ n₂. skips _ _ _ _ n₁ (skips _ _ _ _ n₂ (tested (eqb (get_or s 0 0) 4)
      (λ t₄. let t : laid.type ≡ 4 = type ∙ eqb-true _ _ t₄ in picks _ _ _ _ t₄ ((leaf-stands (ap with_key t)).1 ∙ ap (λ (k : ℕ). leaf_layout k s) t))
      (λ n₄. skips _ _ _ _ n₄ (tested (ltb 7 (get_or s 0 0))
      (λ high. picks _ _ _ _ high ((mldp-stands (omega (arith, type, ltb-true 7 (get_or s 0 0) high))).1 ∙ ap (λ (k : ℕ). mldp_layout k s) type))
      (λ low.
      let four : laid.type ≡ 4 → ⊥ = λ q. eqb-false _ _ n₄ (sym type ∙ q) in
      let to-seven : laid.type ≤ 7 = omega (arith, type, ltb-false 7 (get_or s 0 0) low) in
      skips _ _ _ _ low ((flow-stands (unkeyed four to-seven) (flowing (λ q. eqb-false _ _ n₁ (sym type ∙ q)) (λ q. eqb-false _ _ n₂ (sym type ∙ q)) four to-seven)).1
      ∙ ap (λ (k : ℕ). flow_layout k (source_start k - 1) s) type))))))))

-- in types 3 and 5 the source stands straight behind the route distinguisher
pub s-pmsi-layout : (s : List ℕ) → get_or s 0 0 ≡ 3 → layout_in s ≡ flow_layout 3 10 s
unfolding layout_in source_start either pick
s-pmsi-layout s t = rw t

pub source-active-layout : (s : List ℕ) → get_or s 0 0 ≡ 5 → layout_in s ≡ flow_layout 5 10 s
unfolding layout_in source_start either pick
source-active-layout s t = rw t

pub s-pmsi-stands : (s : List ℕ) → get_or s 0 0 ≡ 3 → Stands s → FlowStands 10 s
unfolding source_start either pick
s-pmsi-stands s t b = rw t at (b.flow (λ q. omega arith) (λ q. omega arith) (λ q. omega arith) (omega arith))

pub source-active-stands : (s : List ℕ) → get_or s 0 0 ≡ 5 → Stands s → FlowStands 10 s
unfolding source_start either pick
source-active-stands s t b = rw t at (b.flow (λ q. omega arith) (λ q. omega arith) (λ q. omega arith) (omega arith))

-- by the number
pub laid_in : (bits : ℕ) (s : List ℕ) (n : ℕ) → n ≡ number_of (laid_layout bits s) → n ≡ DONE → Stands s × (given (layout_in s) ≡ laid_layout bits s)
unfolding laid_layout
laid_in bits s n p q =
    let r = refuses-done _ (laying (refuses-laid-layout bits s)) (sym p ∙ q) in
    let w = passed _ _ _ r.1 in
    (stands bits s w.value w.first, ap given (sym (laid_as bits s w.value w.first) ∙ given-same w.second) ∙ sym r.1)
