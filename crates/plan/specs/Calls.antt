-- What the judge and the planner answer and leave (document 02, W-214).
use Rattle.std.specs.Prelude.{ℕ, ◌*◌, Bool, true, List, length, leb}
use Rattle.octets.specs.Numbers.{DONE, SPACE}
use Rattle.octets.specs.Choice.{pick}
use Rattle.octets.specs.Outcome.{Outcome, given, unless, and_then, on_outcome}
use Rattle.octets.specs.Octets.{front}
use Rattle.octets.specs.Outputs.{Changed}
use Rattle.routes.specs.Route.{Route}
use Rattle.routes.specs.Place.{PLACE}
use Rattle.routes.specs.Table.{places_of}
use Rattle.plan.specs.declared.Judged.{Judged}
use Rattle.plan.specs.declared.Planned.{Planned}
use Rattle.plan.specs.Flows.{Vrf}
use Rattle.plan.specs.Refusing.{read_flows}
use Rattle.plan.specs.Judging.{accepts_places}
use Rattle.plan.specs.Planning.{proposal}

-- the most octets of proposed places
abbrev pub MOST_OCTETS : ℕ
MOST_OCTETS = 8192

-- whether the proposed places are accepted: the refusals of flows, with LONG for over 8,192 octets of places too
unfoldable pub judge_outcome : (afi : ℕ) → Vrf → (flows places : List ℕ) → Outcome Bool
judge_outcome afi vrf flows places = and_then (read_flows afi vrf flows (leb (length places) MOST_OCTETS)) (λ fs. given (accepts_places afi vrf fs places))

-- a refusal's number and empty fields
abbrev pub refused_judge : ℕ → Judged
refused_judge number = record { number = number; accepted = 0 }

-- DONE with 1 or 0
unfoldable pub judged_by : Outcome Bool → Judged
judged_by outcome = on_outcome refused_judge (λ is_accepted. record { number = DONE; accepted = pick is_accepted 1 0 }) outcome

-- what the judge answers
unfoldable pub judge_of : (afi : ℕ) → Vrf → (flows places : List ℕ) → Judged
judge_of afi vrf flows places = judged_by (judge_outcome afi vrf flows places)

-- the routes that the planner proposes: the refusals of flows, then SPACE for an output under 128 octets a flow, each counted as it is listed
unfoldable pub plan_outcome : (afi : ℕ) → Vrf → (flows output : List ℕ) → Outcome (List Route)
plan_outcome afi vrf flows output =
    and_then (read_flows afi vrf flows true) (λ fs. unless (leb (PLACE * length fs) (length output)) SPACE (given (proposal vrf fs)))

-- a refusal's number and empty fields
abbrev pub refused_plan : ℕ → Planned
refused_plan number = record { number = number; routes = 0 }

-- DONE with how many routes
abbrev pub done_plan : ℕ → Planned
done_plan routes = record { number = DONE; routes = routes }

-- what the planner answers of its routes; their places stand at the front of the output, octets past them stay. A refusal leaves the output
unfoldable pub planned_by : Outcome (List Route) → (output : List ℕ) → Changed Planned
planned_by outcome output =
    record {
      answer = on_outcome refused_plan (λ rs. done_plan (length rs)) outcome;
      octets = on_outcome (λ number. output) (λ rs. front (places_of rs) output) outcome;
    }

-- what the planner answers, and the output afterwards
unfoldable pub plan_of : (afi : ℕ) → Vrf → (flows output : List ℕ) → Changed Planned
plan_of afi vrf flows output = planned_by (plan_outcome afi vrf flows output) output
