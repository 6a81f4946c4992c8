-- The flows that a match takes (document 01, "The numbers a call gives back", FLOW).
use Prim.Native.Nat.{ℕ, ◌*◌}
use mathlib.Core.Path.{◌≡◌, refl, sym, ◌∙◌, ap}
use mathlib.Core.List.{List}
use mathlib.Core.Logic.{◌↔◌, ◌⊎◌, inl, inr, ⊎_elim}
use native.Mathlib.Omega.{arith}
use lib.ListN.{length}
use borrow.Author.Tests.{eqb-true, eq-eqb}
use Rattle.octets.specs.Numbers.{FLOW}
use Rattle.octets.specs.Outcome.{given, refused}
use Rattle.octets.proofs.Choice.{pick_true, picked}
use Rattle.octets.proofs.Outcome.{never, given-unless, passed, given-same, stopped, refused-same, and-goes-on, and-stops}
use Rattle.nlri.specs.Family.{family_bits}
use Rattle.nlri.specs.Groups.{ASM, SSM}
use Rattle.nlri.proofs.Theorems.{lengths}
use Rattle.groups.specs.Rules.ClassRule.{GoodPrefixes, PrefixRefusal, Specific}
use Rattle.groups.proofs.Prefixes.{prefixes-good, good-prefixes, prefixes-refused, refused-prefixes}
use Rattle.groups.proofs.ClassRule.{classed, class-refused, multicast-classed, multicast-family}
use Rattle.nlri.proofs.Definitions.Lengths.{family-good}
use Rattle.routes.specs.Query.{Query, Flow, flow_query}
use Rattle.routes.specs.Arguments.{read_flow}
use Rattle.routes.specs.Rules.ArgumentRules.{KnownFamily, FamilySized, GoodFlow}

-- what a match asks of a flow that it takes: the flow's query, by the class of its group
pub record AskedFlow (afi : ℕ) (flow : Flow) (q : Query) : Type 0 where
  pub good : GoodFlow afi flow
  pub class : ℕ
  pub is : q ≡ flow_query flow class
  pub specific : (class ≡ SSM) ↔ Specific afi flow.prefixes flow.group
  pub other : (class ≡ ASM) ↔ (Specific afi flow.prefixes flow.group → ⊥)

pub asked-router : {afi : ℕ} {flow : Flow} {q : Query} → AskedFlow afi flow q → q.router ≡ flow.router
unfolding flow_query
asked-router a = ap (λ (x : Query). x.router) a.is

pub family-sized : (afi bits : ℕ) (source : List ℕ) → family_bits afi ≡ given bits → (8 * length source ≡ bits) ↔ FamilySized afi source
family-sized afi bits source of_family =
    ⊎_elim {C = (8 * length source ≡ bits) ↔ FamilySized afi source}
    (λ a. (λ h. inl (a.0, omega (arith, a.1)), λ h. ⊎_elim (λ b. omega (arith, a.1, b.1)) (λ b. absurd (omega (arith, a.0, b.0))) h))
    (λ a. (λ h. inr (a.0, omega (arith, a.1)), λ h. ⊎_elim (λ b. absurd (omega (arith, a.0, b.0))) (λ b. omega (arith, a.1, b.1)) h))
    ((lengths.families afi bits).0 of_family)

pub flow-asked : (afi : ℕ) (flow : Flow) (q : Query) → read_flow afi flow ≡ given q → AskedFlow afi flow q
unfolding read_flow
flow-asked afi flow q e =
    let p = passed _ _ _ e in
    let l = passed _ _ _ p.second in
    let r = given-unless _ _ _ _ l.second in
    let s = given-unless _ _ _ _ r.1 in
    let c = passed _ _ _ s.1 in
    let k = classed afi p.value p.first flow.prefixes l.value l.first flow.group c.value c.first in
    record {
      good = record { prefixed = (prefixes-good afi p.value p.first flow.prefixes l.value l.first).0; addressed = (lengths.originators (length flow.router)).0 r.0; sourced = (family-sized afi p.value flow.source p.first).0 (eqb-true _ _ s.0); multicast = k.multicast };
      class = c.value;
      is = sym (given-same c.second);
      specific = k.specific;
      other = k.other;
    }

pub flow-given : (afi : ℕ) (flow : Flow) → GoodFlow afi flow → (q : Query) × (read_flow afi flow ≡ given q)
unfolding read_flow
flow-given afi flow f =
    let bits = family-good afi (multicast-family f.multicast) in
    let read = good-prefixes afi bits.0 bits.1 flow.prefixes f.prefixed in
    let class = multicast-classed afi bits.0 bits.1 flow.prefixes f.prefixed.items read flow.group f.multicast in (
      flow_query flow class.0,
      sym (and-goes-on _ _ _ _ bits.1 (and-goes-on _ _ _ _ read (sym (pick_true _ _ _ ((lengths.originators (length flow.router)).1 f.addressed)
          ∙ pick_true _ _ _ (eq-eqb _ _ ((family-sized afi bits.0 flow.source bits.1).1 f.sourced))
          ∙ sym (and-goes-on _ _ _ _ class.1 refl))))),
    )

-- a flow is refused by its prefixes, or with FLOW where they are good
pub flow-refused : (afi : ℕ) (flow : Flow) (n : ℕ) → KnownFamily afi → read_flow afi flow ≡ refused n → PrefixRefusal afi flow.prefixes n ⊎ (GoodPrefixes afi flow.prefixes × (n ≡ FLOW))
unfolding read_flow
flow-refused afi flow n bits e =
    let of_family = family-good afi bits in
    ⊎_elim (λ none. absurd (never of_family.1 none))
    (λ f. ⊎_elim (λ r. inl (prefixes-refused afi f.value f.first flow.prefixes n r))
    (λ l. inr (
      (prefixes-good afi f.value f.first flow.prefixes l.value l.first).0,
      ⊎_elim
          (λ r. ⊎_elim
          (λ s. ⊎_elim (λ c. (class-refused afi f.value f.first flow.prefixes l.value l.first flow.group n c).0) (λ c. absurd (never refl c.second)) (stopped _ _ _ s.1))
          (λ s. sym (refused-same {A = Query} s.1))
          (picked _ _ _ _ r.1))
          (λ r. sym (refused-same {A = Query} r.1))
          (picked _ _ _ _ l.second),
    ))
    (stopped _ _ _ f.second))
    (stopped _ _ _ e)

-- prefixes that are not good refuse it
pub flow-prefixes : (afi : ℕ) (flow : Flow) (n : ℕ) → KnownFamily afi → PrefixRefusal afi flow.prefixes n → read_flow afi flow ≡ refused n
unfolding read_flow
flow-prefixes afi flow n bits r = let f = family-good afi bits in sym (and-goes-on _ _ _ _ f.1 (and-stops _ _ _ (refused-prefixes afi f.0 f.1 flow.prefixes r)))
