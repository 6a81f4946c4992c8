-- The calls: the refusals, then the answer.
use Prim.Native.Nat.{ℕ, ◌≤◌}
use mathlib.Core.Path.{◌≡◌, refl, sym, ◌∙◌, ap, subst}
use mathlib.Core.Bool.{Bool, true, false}
use mathlib.Core.List.{List}
use lib.Dec.{leb}
use borrow.Author.Tests.{leb-true}
use lib.ListN.{length}
use Rattle.octets.specs.Numbers.{DONE}
use Rattle.octets.specs.Choice.{both}
use Rattle.octets.specs.Outcome.{given, refused, number_of}
use Rattle.octets.proofs.Choice.{tested, both_left}
use Rattle.octets.proofs.Outcome.{given-unless, given-same, and-goes-on, and-stops, refused-of, done-given}
use Rattle.lists.specs.LentLists.{Item, list_count, whole_list, list_items, read_list}
use Rattle.lists.proofs.Items.{read-list-given}
use Rattle.plan.specs.Flows.{Vrf, ListedFlow, flows_in}
use Rattle.plan.specs.Refusing.{read_flows}
use Rattle.plan.specs.Judging.{accepts_places}
use Rattle.plan.specs.Calls.{judge_outcome}
use Rattle.plan.specs.Rules.FlowsRule.{GoodFlows}
use Rattle.plan.proofs.Reading.{flows-why, why-some, flows-good, long-is}

-- what was read of the flows, where their number is DONE
module _ (afi : ℕ) (vrf : Vrf) (flows : List ℕ) (within : Bool) (fault : ℕ) (told : fault ≡ number_of (read_flows afi vrf flows within)) where
  pub read-refused : (fault ≡ DONE → ⊥) → read_flows afi vrf flows within ≡ refused fault
  read-refused d = refused-of (read_flows afi vrf flows within) fault told d

  -- what LONG is tested by
  abbrev pub Long : Type 0
  Long = both (leb (list_count flows) 64) within ≡ false

  module _ (none : fault ≡ DONE) where
    read : (fs : List ListedFlow) × (read_flows afi vrf flows within ≡ given fs)
    read = done-given (read_flows afi vrf flows within) (λ n e. why-some afi vrf flows within Long long-is (flows-why afi vrf flows within Long long-is n e)) (sym told ∙ none)

    good : (items : List Item) × GoodFlows afi vrf flows Long items × (read.0 ≡ flows_in items)
    good = flows-good afi vrf flows within Long long-is read.0 read.1

    pub read_whole : whole_list 3 flows ≡ true
    unfolding read_list
    read_whole = (given-unless _ _ _ _ good.1.taken.read).0

    pub read-few : list_count flows ≤ 64
    read-few = tested (leb (list_count flows) 64) (λ t. leb-true _ _ t) (λ f. absurd (good.1.taken.few (both_left _ _ f)))

    pub read-flows : read_flows afi vrf flows within ≡ given (flows_in (list_items 3 flows))
    read-flows = read.1 ∙ ap given (good.2 ∙ ap flows_in (read-list-given 3 flows good.0 good.1.taken.read))

    pub read-good : GoodFlows afi vrf flows Long (list_items 3 flows)
    read-good = subst (GoodFlows afi vrf flows Long) (read-list-given 3 flows good.0 good.1.taken.read) good.1

-- flows that were read
pub read-told : (afi : ℕ) (vrf : Vrf) (flows : List ℕ) (within : Bool) (fs : List ListedFlow) → given fs ≡ read_flows afi vrf flows within → DONE ≡ number_of (read_flows afi vrf flows within)
unfolding number_of
read-told afi vrf flows within fs e = ap number_of e

pub read-are : (afi : ℕ) (vrf : Vrf) (flows : List ℕ) (within : Bool) (fs : List ListedFlow) → given fs ≡ read_flows afi vrf flows within → fs ≡ flows_in (list_items 3 flows)
read-are afi vrf flows within fs e = given-same (e ∙ read-flows afi vrf flows within DONE (read-told afi vrf flows within fs e) refl)

-- the judge's answer
pub judge-refused : (afi : ℕ) (vrf : Vrf) (flows places : List ℕ) (n : ℕ) → refused n ≡ read_flows afi vrf flows (leb (length places) 8192) → refused n ≡ judge_outcome afi vrf flows places
unfolding judge_outcome
judge-refused afi vrf flows places n e = and-stops _ _ _ (sym e)

pub judge-given : (afi : ℕ) (vrf : Vrf) (flows places : List ℕ) (fs : List ListedFlow) → given fs ≡ read_flows afi vrf flows (leb (length places) 8192) → (flag : Bool) → flag ≡ accepts_places afi vrf fs places → given flag ≡ judge_outcome afi vrf flows places
unfolding judge_outcome
judge-given afi vrf flows places fs e flag is = and-goes-on _ _ _ _ (sym e) (ap given is)
