-- Where the fields of an NLRI of type 3 or 5 stand: by the place of the group's length octet, and of one that is read.
use Rattle.std.proofs.Common.{◌≡◌, ℕ, ◌+◌, ◌-◌, ◌/◌, ◌≤◌, ◌⊎◌, List, length, get_or, drop, sym, refl, ap, ◌∙◌, ⊎_elim, arith, length-drop, take_all, eqb-true}
use Rattle.octets.specs.Choice.{pick, either}
use Rattle.octets.specs.Outcome.{given}
use Rattle.octets.specs.Octets.{part}
use Rattle.octets.proofs.Outcome.{given-unless, passed, given-same}
use Rattle.nlri.specs.declared.layout.Layout.{Layout}
use Rattle.nlri.specs.Bodies.{originator, bodies, on_body, body_of, code_of, same_kind, has_field}
use Rattle.nlri.specs.Fields.{Fields}
use Rattle.nlri.specs.Reading.{read_of_type}
use Rattle.nlri.specs.Inner.{layout_with, size_at, flow_layout, layout_in, with_key, with_source_as, source_start, distinguisher_at, source_as_at, fields_at, FlowStands}
use Rattle.nlri.specs.Standing.{source_size, group_size, group_end, standing}
use Rattle.nlri.proofs.Definitions.FieldRecords.{fields-same}
use Rattle.nlri.proofs.Functions.Standing.{s-pmsi-layout, s-pmsi-stands, source-active-layout, source-active-stands}
use Rattle.nlri.proofs.Functions.Singles.{ReadAt, read_at}

-- where the group and the originator stand, by the place of the group's length octet
module _ (s : List ℕ) (at : ℕ) (is : at ≡ 11 + source_size s) where
  size_is : get_or s at 0 / 8 ≡ group_size s
  unfolding group_size size_at
  size_is = rw is

  pub group-within : group_end s ≤ length s → at + 1 + get_or s at 0 / 8 ≤ length s
  unfolding group_end
  group-within within = omega (arith, size_is)

  pub group-stands : part s (at + 1) (get_or s at 0 / 8) ≡ (standing s).group
  unfolding standing
  group-stands = let next : at + 1 ≡ 12 + source_size s = omega arith in rw (size_is, next)

  pub originator-stands : drop (at + 1 + get_or s at 0 / 8) s ≡ (standing s).originator
  unfolding standing group_end
  originator-stands = let next : at + 1 + get_or s at 0 / 8 ≡ 12 + source_size s + group_size s = omega (arith, size_is) in rw next

-- of an NLRI of either type that is read
module _ (type : ℕ) (either-type : (type ≡ 3) ⊎ (type ≡ 5)) (afi : ℕ) (s : List ℕ) (f : Fields) (e : read_of_type type afi s ≡ given f) where
  read : ReadAt s f × (f.type ≡ type)
  read =
      let p = passed _ _ _ e in
      let q = given-unless _ _ _ _ p.second in
      let same : p.value ≡ f = given-same q.1 in
      (read_at afi s f (p.first ∙ ap given same), ap (λ (x : Fields). x.type) (sym same) ∙ eqb-true _ _ q.0)

  typed : get_or s 0 0 ≡ type
  typed = read.0.typed ∙ read.1

  -- what is the same of both types
  of-both : {A : Type 0} (g : ℕ → A) (x : A) → g 3 ≡ x → g 5 ≡ x → g type ≡ x
  of-both g x p q = ⊎_elim (λ is. ap g is ∙ p) (λ is. ap g is ∙ q) either-type

  layout_is : layout_in s ≡ flow_layout type 10 s
  layout_is =
      ⊎_elim (λ is. s-pmsi-layout s (typed ∙ is) ∙ ap (λ (k : ℕ). flow_layout k 10 s) (sym is))
      (λ is. source-active-layout s (typed ∙ is) ∙ ap (λ (k : ℕ). flow_layout k 10 s) (sym is)) either-type

  stands : FlowStands 10 s
  stands = ⊎_elim (λ is. s-pmsi-stands s (typed ∙ is) read.0.stands) (λ is. source-active-stands s (typed ∙ is) read.0.stands) either-type

  -- they lie within it
  pub fields_within_lem : group_end s ≤ length s
  unfolding group_end source_size group_size
  fields_within_lem = omega (arith, stands.group, stands.sizes, read.0.long)

  -- the originator is what remains
  rest : (flow_layout type 10 s).originator ≡ length s - group_end s
  unfolding flow_layout layout_with group_end source_size group_size
  rest = left (length s) (get_or s 1 0) _ _ read.0.long.1
    where
      left : (n m a b : ℕ) → n - 2 ≡ m → m - 10 - a - b ≡ n - (12 + a + b)
      left n m a b e = omega arith

  -- in type 3 it has four octets or more
  pub originator-within : type ≡ 3 → group_end s + 4 ≤ length s
  unfolding body_of on_body bodies pick has_field same_kind code_of either
  originator-within third =
      let four = read.0.originator (ap (λ (n : ℕ). has_field originator (body_of n)) (read.1 ∙ third)) in
      let o : (layout_in s).originator ≡ length s - group_end s = ap (λ (l : Layout). l.originator) layout_is ∙ rest in
      omega (arith, fields_within_lem)

  fields-standing : fields_at (flow_layout type 10 s) s ≡ standing s
  unfolding fields_at flow_layout layout_with standing distinguisher_at with_key source_as_at with_source_as source_start pick either part source_size group_size
  fields-standing =
      let next : 11 + source_size s + 1 ≡ 12 + source_size s = omega arith in
      let start : length s - (length s - group_end s) ≡ group_end s = omega (arith, fields_within_lem) in
      fields-same (sym typed) (of-both (λ k. distinguisher_at k s) _ refl refl) (of-both (λ k. source_as_at k s) _ refl refl)
      (of-both (λ k. part s (source_start k) (source_size s)) _ refl refl)
      (of-both (λ k. part s (source_start k + source_size s + 1) (group_size s)) _ (ap (λ (k : ℕ). part s k (group_size s)) next) (ap (λ (k : ℕ). part s k (group_size s)) next))
      (ap (λ (o : ℕ). part s (length s - o) o) rest ∙ ap (λ (k : ℕ). part s k (length s - group_end s)) start ∙ take_all (length s - group_end s) (drop (group_end s) s) (rw length-drop (omega arith))) refl refl

  -- its fields are those that stand in it
  pub fields-stand : f ≡ standing s
  fields-stand = sym read.0.fields ∙ ap (λ (l : Layout). fields_at l s) layout_is ∙ fields-standing

  -- its Length octet tells its size
  pub length-told : get_or s 1 0 ≡ length s - 2
  length-told = sym read.0.long.1
