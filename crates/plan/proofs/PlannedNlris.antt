-- The NLRI of a planned route: well-formed, and read back.
use Prim.Native.Nat.{ℕ, ◌+◌, ◌*◌, ◌<◌, ◌≤◌}
use mathlib.Core.Path.{◌≡◌, refl, ap, ◌∙◌}
use mathlib.Core.Bool.{true}
use mathlib.Core.List.{List, []}
use mathlib.Core.Logic.{◌⊎◌, inl, inr, ⊎_elim}
use native.Mathlib.Omega.{arith}
use lib.ListN.{length, length-append}
use Rattle.octets.specs.Choice.{pick, either}
use Rattle.octets.specs.Outcome.{given}
use Rattle.octets.specs.Octets.{AllOctets}
use Rattle.nlri.specs.Family.{family_bits, allowed, is_originator_size}
use Rattle.nlri.specs.Bodies.{bodies, on_body, body_of, has_field, same_kind, code_of, to_seven}
use Rattle.nlri.specs.Fields.{Fields, encode_field, encode_address, encode_body, WellFormed, restricted}
use Rattle.nlri.specs.Reading.{read_nlri}
use Rattle.nlri.specs.Groups.{Multicast}
use Rattle.nlri.proofs.Theorems.{lengths, acceptance}
use Rattle.routes.specs.Route.{nlri_of}
use Rattle.routes.specs.Query.{Flow}
use Rattle.routes.specs.Rules.ArgumentRules.{FamilySized, SPmsi}
use Rattle.routes.specs.Rules.MatchRule.{InTier, both_equal, source_equal, group_equal, both_wildcard}
use Rattle.plan.specs.Flows.{Vrf, ListedFlow}
use Rattle.plan.specs.Planning.{fields_for, route_for}
use Rattle.plan.proofs.Counts.{SameFlow}

-- the fields have nothing that type 3 lacks
for-whole : (vrf : Vrf) (f : ListedFlow) → restricted (fields_for vrf f) ≡ fields_for vrf f
unfolding restricted fields_for body_of bodies on_body has_field same_kind code_of pick either
for-whole vrf f = refl

-- what a route is for: an originator, an RD and two addresses of which an NLRI is well-formed
pub record Entry (afi : ℕ) (vrf : Vrf) (f : ListedFlow) : Type 0 where
  pub family : ℕ
  pub bits : family_bits afi ≡ given family
  pub well_formed : WellFormed family (fields_for vrf f)

pub for-nlri : (afi : ℕ) (vrf : Vrf) (f : ListedFlow) → Entry afi vrf f → read_nlri afi (nlri_of (route_for vrf f)) ≡ given (fields_for vrf f)
unfolding route_for nlri_of
for-nlri afi vrf f e = acceptance.encoded afi e.family (fields_for vrf f) e.bits e.well_formed ∙ ap given (for-whole vrf f)

pub for-typed : (vrf : Vrf) (f : ListedFlow) → (fields_for vrf f).type ≡ 3
unfolding fields_for
for-typed vrf f = refl

unfoldable pub for-s-pmsi : (afi : ℕ) (vrf : Vrf) (f : ListedFlow) → Entry afi vrf f → SPmsi afi (nlri_of (route_for vrf f))
for-s-pmsi afi vrf f e = record { fields = fields_for vrf f; read = for-nlri afi vrf f e; kind = for-typed vrf f }

-- sizes

pub multicast-sized : {afi : ℕ} {g : List ℕ} → Multicast afi g → FamilySized afi g
multicast-sized (Multicast.ipv4 l a b) = inl (refl, l)
multicast-sized (Multicast.ipv6 l a) = inr (refl, l)

pub sized-some : {afi : ℕ} (x : List ℕ) → FamilySized afi x → x ≡ [] → ⊥
sized-some x s e = let n : length x ≡ 0 = ap length e in ⊎_elim (λ a. omega (arith, a.1)) (λ a. omega (arith, a.1)) s

-- an address of the family's size, or a wildcard
pub address-allowed : (afi family : ℕ) (x : List ℕ) → family_bits afi ≡ given family → FamilySized afi x ⊎ (x ≡ []) → allowed family 3 (8 * length x) ≡ true
address-allowed afi family x bits s =
    (lengths.addresses family 3 (8 * length x)).1
    (⊎_elim
    (λ a. inl (⊎_elim
    (λ f. ⊎_elim (λ b. omega (arith, f.1, b.1)) (λ b. absurd (omega (arith, f.0, b.0))) a)
    (λ f. ⊎_elim (λ b. absurd (omega (arith, f.0, b.0))) (λ b. omega (arith, f.1, b.1)) a)
    ((lengths.families afi family).0 bits)))
    (λ e. let n : length x ≡ 0 = ap length e in inr (refl, omega arith))
    s)

body-length : (vrf : Vrf) (f : ListedFlow) → length (encode_body (fields_for vrf f) (body_of (fields_for vrf f).type)) ≡ length vrf.distinguisher + (1 + length f.source) + (1 + length f.group) + length vrf.originator
unfolding fields_for body_of bodies on_body pick encode_body encode_field encode_address
body-length vrf f = simp (length-append) (omega arith)

pub well-formed : (family : ℕ) (vrf : Vrf) (f : ListedFlow) → (length vrf.distinguisher ≡ 8) × AllOctets vrf.distinguisher → (is_originator_size (length vrf.originator) ≡ true) × AllOctets vrf.originator
    → (allowed family 3 (8 * length f.source) ≡ true) × AllOctets f.source → (allowed family 3 (8 * length f.group) ≡ true) × AllOctets f.group
    → length f.source ≤ 16 → length f.group ≤ 16 → length vrf.originator ≤ 16
    → WellFormed family (fields_for vrf f)
unfolding fields_for body_of bodies on_body pick
well-formed family vrf f d o s g sl gl ol =
    let l = body-length vrf f in
    record { encodable = record { typed = to_seven {type = 3} (omega arith) (omega arith); body = (d, (s, (g, (o, tt)))); fits = omega (arith, l) }; not_discarded = λ x. let t = x.source_active in absurd (omega arith) }

pub flow-equal : (h k : ListedFlow) → SameFlow h k → h.wanted ≡ k.wanted → h ≡ k
flow-equal h k s w = λ i. record { source = s.source i; group = s.group i; wanted = w i }

-- an address of a family or a wildcard has at most 16 octets
pub address-most : {afi : ℕ} (x : List ℕ) → FamilySized afi x ⊎ (x ≡ []) → length x ≤ 16
address-most x s = ⊎_elim (λ a. ⊎_elim (λ b. omega (arith, b.1)) (λ b. omega (arith, b.1)) a) (λ e. let n : length x ≡ 0 = ap length e in omega arith) s

-- no tier comes before the first
pub in-some-tier : {afi tier : ℕ} {flow : Flow} {f : Fields} → InTier afi flow tier f → tier < 1 → ⊥
in-some-tier (both_equal p q) h = omega arith
in-some-tier (source_equal p q ssm) h = omega arith
in-some-tier (group_equal p q asm) h = omega arith
in-some-tier (both_wildcard p q) h = omega arith
