-- What is written by the family of a type is document 01's: type by type, by computing both. And what it is by the writer's tests.
use mathlib.Core.Path.{◌≡◌, refl, sym, ◌∙◌, ap, subst}
use mathlib.Core.Bool.{Bool, true, false}
use mathlib.Core.List.{List, [], ◌++◌, append-nil, append_assoc}
use Prim.Native.Nat.{ℕ, ◌+◌, ◌*◌, ◌≤◌, ◌<◌}
use native.Mathlib.Omega.{arith}
use borrow.Author.Tests.{eqb-true, eqb-false, eq-eqb, ne_eqb, lt-ltb, le-ltb}
use lib.ListN.{length}
use lib.Dec.{eqb, ltb}
use Rattle.octets.specs.Numbers.{DONE, TYPE, WIDTH, KEY, LONG, SPACE, GROUP}
use Rattle.octets.specs.Choice.{pick, both, either}
use Rattle.octets.specs.Outcome.{given, refused, and_then}
use Rattle.octets.specs.Octets.{big_endian}
use Rattle.octets.proofs.Choice.{tested, opposite, pick_true, pick-false, either-false}
use Rattle.nlri.specs.declared.address.Address.{Address}
use Rattle.nlri.specs.declared.fields.Nlri.{Nlri}
use Rattle.nlri.specs.Family.{family_bits, allowed, is_originator_size}
use Rattle.nlri.specs.Bodies.{KnownType, to_seven, mldp_s_pmsi, mldp_leaf, mldp_source_tree_join, bodies, on_body, body_of, code_of, same_kind, has_field}
use Rattle.nlri.specs.Fields.{Fields, encode_address, encode_field, encode_body, encode_nlri, is_discarded}
use Rattle.nlri.specs.Writing.{width_fits, widths_fit, fec_number, is_long, key_fits, keys_fit, write_nlri}
use Rattle.nlri.specs.Answers.{address_octets}
use Rattle.nlri.specs.Inner.{with_key, with_fec}
use Rattle.nlri_writing.specs.Inner.{in_order, write_under, framed, front_octets, flow_octets, end_octets, body_with, leaf_body, originator_fits, flow_body, addresses_fit, i_pmsi_written, flow_written, fec_written, leaf_written}
use Rattle.nlri.proofs.Definitions.Table.{on-body, unlisted}
use Rattle.nlri_writing.proofs.Puts.{length-octets, length-framed}

same-order : (space : ℕ) {e e' : List ℕ} {w w' : Bool} {n n' : ℕ} {l l' k k' d d' : Bool} → e ≡ e' → w ≡ w' → n ≡ n' → l ≡ l' → k ≡ k' → d ≡ d' → in_order space e w n l k d ≡ in_order space e' w' n' l' k' d'
same-order space p q r s t u = λ i. in_order space (p i) (q i) (r i) (s i) (t i) (u i)

both_end : (b : Bool) → b ≡ both b true
unfolding both
both_end true = refl
both_end false = refl

origin-last : (a : Address) → is_originator_size a.size ≡ both (is_originator_size (length (address_octets a))) true
origin-last a = ap is_originator_size (sym (length-octets a)) ∙ both_end _

end-joined : (b : Bool) (e : List ℕ) → pick b e [] ≡ pick b (e ++ []) []
unfolding pick
end-joined true e = sym (append-nil e)
end-joined false e = refl

-- a type is a number, or another
at-type : (P : ℕ → Type 0) (type n : ℕ) → P n → ((type ≡ n → ⊥) → P type) → P type
at-type P type n p other = tested (eqb type n) (λ y. subst P (sym (eqb-true type n y)) p) (λ no. other (eqb-false type n no))

module _ (bits : ℕ) (nlri : Nlri) (key_octets fec_octets : List ℕ) (space : ℕ) where
  -- the fields with another type
  abbrev fields : ℕ → Fields
  fields type =
      record {
        type = type;
        distinguisher = nlri.distinguisher.octets;
        source_as = nlri.source_as;
        source = address_octets nlri.source;
        group = address_octets nlri.group;
        originator = address_octets nlri.originator;
        key = key_octets;
        fec = fec_octets;
      }

  -- a body joined as the writer joins it, and as document 01 does
  ends : (numbered originated : Bool) (m : List ℕ) → body_with numbered originated nlri m ≡ nlri.distinguisher.octets ++ (pick numbered (big_endian 4 nlri.source_as) [] ++ (m ++ pick originated (address_octets nlri.originator ++ []) []))
  unfolding body_with front_octets end_octets
  ends numbered originated m =
      append_assoc nlri.distinguisher.octets (pick numbered (big_endian 4 nlri.source_as) []) _
      ∙ ap (λ (x : List ℕ). nlri.distinguisher.octets ++ (pick numbered (big_endian 4 nlri.source_as) [] ++ (m ++ x))) (end-joined originated (address_octets nlri.originator))

  ends-flow : (numbered originated : Bool) → body_with numbered originated nlri (flow_octets nlri) ≡ nlri.distinguisher.octets ++ (pick numbered (big_endian 4 nlri.source_as) [] ++ (encode_address (address_octets nlri.source) ++ (encode_address (address_octets nlri.group) ++ pick originated (address_octets nlri.originator ++ []) [])))
  unfolding flow_octets
  ends-flow numbered originated =
      ends numbered originated (flow_octets nlri)
      ∙ ap (λ (x : List ℕ). nlri.distinguisher.octets ++ (pick numbered (big_endian 4 nlri.source_as) [] ++ x)) (append_assoc (encode_address (address_octets nlri.source)) (encode_address (address_octets nlri.group)) _)

  flow-widths : (type : ℕ) {x y : Bool} → x ≡ y → both (allowed bits type (8 * nlri.source.size)) (both (allowed bits type (8 * nlri.group.size)) x) ≡ both (allowed bits type (8 * length (address_octets nlri.source))) (both (allowed bits type (8 * length (address_octets nlri.group))) y)
  flow-widths type p = λ i. both (allowed bits type (8 * sym (length-octets nlri.source) i)) (both (allowed bits type (8 * sym (length-octets nlri.group) i)) (p i))

  leaf-ends : key_octets ++ address_octets nlri.originator ≡ key_octets ++ (address_octets nlri.originator ++ [])
  leaf-ends = ap (λ (x : List ℕ). key_octets ++ x) (sym (append-nil (address_octets nlri.originator)))

  pub i-pmsi-is : (type : ℕ) → 1 ≤ type → type ≤ 2 → i_pmsi_written type nlri space ≡ write_under bits (fields type) space
  unfolding i_pmsi_written write_under on_body bodies pick both either body_with front_octets end_octets originator_fits framed encode_nlri body_of encode_body encode_field widths_fit width_fits fec_number has_field same_kind code_of is_long keys_fit key_fits is_discarded
  i-pmsi-is type low high =
      let P : ℕ → Type 0 = λ t. i_pmsi_written t nlri space ≡ write_under bits (fields t) space in
      at-type P type 1 (same-order space (ap (framed 1) (ends false true [])) (origin-last nlri.originator) refl refl refl refl)
      (λ other. at-type P type 2 (same-order space (ap (framed 2) (ends true false [])) refl refl refl refl refl) (λ none. absurd (omega arith)))

  pub flow-is : (type : ℕ) → 2 < type → type ≤ 7 → (type ≡ 4 → ⊥) → flow_written bits type nlri space ≡ write_under bits (fields type) space
  unfolding flow_written flow_body flow_octets addresses_fit write_under on_body bodies pick both either body_with front_octets end_octets originator_fits framed encode_nlri body_of encode_body encode_field widths_fit width_fits fec_number has_field same_kind code_of is_long keys_fit key_fits is_discarded
  flow-is type low high leaf =
      let P : ℕ → Type 0 = λ t. flow_written bits t nlri space ≡ write_under bits (fields t) space in
      at-type P type 3 (same-order space (ap (framed 3) (ends-flow false true)) (flow-widths 3 (origin-last nlri.originator)) refl refl refl refl)
      (λ other. at-type P type 5 (same-order space (ap (framed 5) (ends-flow false false)) (flow-widths 5 refl) refl refl refl refl)
      (λ another. at-type P type 6 (same-order space (ap (framed 6) (ends-flow true false)) (flow-widths 6 refl) refl refl refl refl)
      (λ more. at-type P type 7 (same-order space (ap (framed 7) (ends-flow true false)) (flow-widths 7 refl) refl refl refl refl) (λ none. absurd (omega arith)))))

  pub fec-is : (type : ℕ) → with_fec type ≡ true → fec_written bits type nlri fec_octets space ≡ write_under bits (fields type) space
  unfolding fec_written write_under on_body bodies pick both either body_with front_octets end_octets originator_fits framed encode_nlri body_of encode_body encode_field widths_fit width_fits fec_number has_field same_kind code_of is_long keys_fit key_fits is_discarded with_fec
  fec-is type has =
      let P : ℕ → Type 0 = λ t. fec_written bits t nlri fec_octets space ≡ write_under bits (fields t) space in
      at-type P type 67 (same-order space (ap (framed 67) (ends false true fec_octets)) (origin-last nlri.originator) refl (ap (λ (x : List ℕ). ltb 255 (length x)) (ends false true fec_octets)) refl refl)
      (λ other. at-type P type 71 (same-order space (ap (framed 71) (ends true false fec_octets)) refl refl (ap (λ (x : List ℕ). ltb 255 (length x)) (ends true false fec_octets)) refl refl)
      (λ none. absurd (opposite has (either-false _ _ (ne_eqb type 67 other) (ne_eqb type 71 none)))))

  pub leaf-is : (type : ℕ) → with_key type ≡ true → leaf_written bits type nlri key_octets space ≡ write_under bits (fields type) space
  unfolding leaf_written write_under on_body bodies pick both either framed encode_nlri body_of encode_body encode_field widths_fit width_fits fec_number has_field same_kind code_of is_long keys_fit key_fits is_discarded leaf_body with_key
  leaf-is type has =
      let P : ℕ → Type 0 = λ t. leaf_written bits t nlri key_octets space ≡ write_under bits (fields t) space in
      at-type P type 4 (same-order space (ap (framed 4) leaf-ends) (origin-last nlri.originator) refl refl (both_end _) refl)
      (λ other. at-type P type 68 (same-order space (ap (framed 68) leaf-ends) (origin-last nlri.originator) refl (ap (λ (x : List ℕ). ltb 255 (length x)) leaf-ends) (both_end _) refl)
      (λ none. absurd (opposite has (either-false _ _ (ne_eqb type 4 other) (ne_eqb type 68 none)))))

-- a type that there is not
pub type-refused : (bits : ℕ) (f : Fields) (space : ℕ) → (KnownType f.type → ⊥) → refused TYPE ≡ write_under bits f space
unfolding write_under
type-refused bits f space h = sym (on-body f.type _ _ ∙ pick-false _ _ _ (unlisted f.type h))

pub no-mldp : (type : ℕ) → with_key type ≡ false → with_fec type ≡ false → 7 < type → KnownType type → ⊥
unfolding with_key with_fec either
no-mldp type k c high (to_seven low most) = omega arith
no-mldp type k c high mldp_s_pmsi = opposite {b = true} refl c
no-mldp type k c high mldp_leaf = opposite {b = true} refl k
no-mldp type k c high mldp_source_tree_join = opposite {b = true} refl c

-- under a family known by its AFI
pub write-by : (afi : ℕ) (f : Fields) (space : ℕ) → and_then (family_bits afi) (λ bits. write_under bits f space) ≡ write_nlri afi f space
unfolding write_under in_order write_nlri
write-by afi f space = refl

-- what the order of writing comes to, by its tests
module _ (space type : ℕ) (body : List ℕ) (w : Bool) (n : ℕ) (l k d : Bool) where
  pub no-width : w ≡ false → refused WIDTH ≡ in_order space (framed type body) w n l k d
  unfolding in_order
  no-width p = sym (pick-false w _ _ p)

  pub no-fec : w ≡ true → (n ≡ DONE → ⊥) → refused n ≡ in_order space (framed type body) w n l k d
  unfolding in_order
  no-fec p q = sym (pick_true w _ _ p ∙ pick-false _ _ _ (ne_eqb n DONE q))

  pub too_long : w ≡ true → n ≡ DONE → l ≡ true → refused LONG ≡ in_order space (framed type body) w n l k d
  unfolding in_order
  too_long p q r = sym (pick_true w _ _ p ∙ pick_true _ _ _ (eq-eqb n DONE q) ∙ pick_true l _ _ r)

  pub no_key : w ≡ true → n ≡ DONE → l ≡ false → k ≡ false → refused KEY ≡ in_order space (framed type body) w n l k d
  unfolding in_order
  no_key p q r s = sym (pick_true w _ _ p ∙ pick_true _ _ _ (eq-eqb n DONE q) ∙ pick-false l _ _ r ∙ pick-false k _ _ s)

  module _ (p : w ≡ true) (q : n ≡ DONE) (r : l ≡ false) (s : k ≡ true) where
    keyed : in_order space (framed type body) w n l k d ≡ pick d (refused GROUP) (pick (ltb space (length (framed type body))) (refused SPACE) (given (framed type body)))
    unfolding in_order
    keyed = pick_true w _ _ p ∙ pick_true _ _ _ (eq-eqb n DONE q) ∙ pick-false l _ _ r ∙ pick_true k _ _ s

    pub discards : d ≡ true → refused GROUP ≡ in_order space (framed type body) w n l k d
    discards t = sym (keyed ∙ pick_true d _ _ t)

    pub no-space : d ≡ false → space < 2 + length body → refused SPACE ≡ in_order space (framed type body) w n l k d
    no-space t h = let e = length-framed type body in sym (keyed ∙ pick-false d _ _ t ∙ pick_true _ _ _ (lt-ltb space (length (framed type body)) (omega arith)))

    pub all-given : d ≡ false → 2 + length body ≤ space → given (framed type body) ≡ in_order space (framed type body) w n l k d
    all-given t h = let e = length-framed type body in sym (keyed ∙ pick-false d _ _ t ∙ pick-false _ _ _ (le-ltb space (length (framed type body)) (omega arith)))
