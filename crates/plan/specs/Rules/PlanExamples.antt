-- The planner and the judge by examples in literal octets (document 02, W-214). Proved in proofs/Statements/PlanExamples.antt.
use Rattle.std.specs.Prelude.{ℕ, ◌≡◌, List, [], ◌∷◌, ◌++◌, replicate}
use Rattle.octets.specs.Outputs.{Changed}
use Rattle.plan.specs.declared.Judged.{Judged}
use Rattle.plan.specs.declared.Planned.{Planned}
use Rattle.plan.specs.Flows.{Vrf, vrf_of}
use Rattle.plan.specs.Calls.{judge_of, plan_of}

-- no prefixes, originator 10.0.0.1, RD 100:7
abbrev pub example_vrf : Vrf
example_vrf = vrf_of (0 ∷ 0 ∷ []) (10 ∷ 0 ∷ 0 ∷ 1 ∷ []) (0 ∷ 0 ∷ 0 ∷ 100 ∷ 0 ∷ 0 ∷ 0 ∷ 7 ∷ [])

-- ingress replication to 10.0.0.x, label 16: an attribute of nine octets
abbrev pub replication_to : (x : ℕ) → List ℕ
replication_to x = 0 ∷ 6 ∷ 0 ∷ 1 ∷ 0 ∷ 10 ∷ 0 ∷ 0 ∷ x ∷ []

-- BIER, its label field 0, 0 and this octet: an attribute of twelve octets
abbrev pub bier_labelled : (label : ℕ) → List ℕ
bier_labelled label = 0 ∷ 11 ∷ 0 ∷ 0 ∷ label ∷ 0 ∷ 0 ∷ 1 ∷ 10 ∷ 0 ∷ 0 ∷ 1 ∷ []

-- a flow (192.0.2.s, 239.1.1.g) in a list: the size of each field in two octets, source, group, and an attribute of so many octets
abbrev pub flow_wanting : (s g size : ℕ) (wanted : List ℕ) → List ℕ
flow_wanting s g size wanted = 0 ∷ 4 ∷ 192 ∷ 0 ∷ 2 ∷ s ∷ 0 ∷ 4 ∷ 239 ∷ 1 ∷ 1 ∷ g ∷ 0 ∷ size ∷ wanted

-- three flows, of which the last two want one tunnel
abbrev pub three_flows : List ℕ
three_flows = 0 ∷ 3 ∷ (flow_wanting 1 1 9 (replication_to 8) ++ (flow_wanting 2 2 9 (replication_to 9) ++ flow_wanting 3 2 9 (replication_to 9)))

-- the place of the (C-*,C-*) route with an attribute of nine octets: NLRI size, attribute size, the NLRI, the attribute, 101 zeros
abbrev pub wildcard_place : (attribute : List ℕ) → List ℕ
wildcard_place attribute = 16 ∷ 9 ∷ 3 ∷ 14 ∷ 0 ∷ 0 ∷ 0 ∷ 100 ∷ 0 ∷ 0 ∷ 0 ∷ 7 ∷ 0 ∷ 0 ∷ 10 ∷ 0 ∷ 0 ∷ 1 ∷ (attribute ++ replicate 101 0)

-- that of the (192.0.2.1, 239.1.1.1) route of an RD that ends in this octet and of originator 10.0.0.x, with 92 zeros and a mark
abbrev pub flow_place : (rd x : ℕ) (attribute : List ℕ) (mark : ℕ) → List ℕ
flow_place rd x attribute mark =
    24 ∷ 9 ∷ 3 ∷ 22 ∷ 0 ∷ 0 ∷ 0 ∷ 100 ∷ 0 ∷ 0 ∷ 0 ∷ rd ∷ 32 ∷ 192 ∷ 0 ∷ 2 ∷ 1 ∷ 32 ∷ 239 ∷ 1 ∷ 1 ∷ 1 ∷ 10 ∷ 0 ∷ 0 ∷ x ∷ (attribute ++ (replicate 92 0 ++ (mark ∷ [])))

-- the planner's places for the three flows
abbrev pub two_places : List ℕ
two_places = wildcard_place (replication_to 9) ++ flow_place 7 1 (replication_to 8) 0

-- the planner asked for flows, into an output of octets of 5
abbrev pub plan_for : (flows : List ℕ) (space : ℕ) → Changed Planned
plan_for flows space = plan_of 1 example_vrf flows (replicate space 5)

-- a refused plan: no routes, and the output as it was
abbrev pub unplanned : (number space : ℕ) → Changed Planned
unplanned number space = record { answer = record { number = number; routes = 0 }; octets = replicate space 5 }

-- the judge asked whether places serve the three flows
abbrev pub judged_places : (places : List ℕ) → Judged
judged_places places = judge_of 1 example_vrf three_flows places

-- yes
abbrev pub accepted_judge : Judged
accepted_judge = record { number = 0; accepted = 1 }

-- no
abbrev pub rejected_judge : Judged
rejected_judge = record { number = 0; accepted = 0 }

-- each of these is so, by computation
pub record PlanExamples : Type 0 where
  -- the commonest tunnel, though not the first, for (C-*,C-*), and a route for the other flow: 2 routes, and the 129 octets past them stay
  pub plan : plan_for three_flows 385 ≡ record { answer = record { number = 0; routes = 2 }; octets = wildcard_place (replication_to 9) ++ (flow_place 7 1 (replication_to 8) 0 ++ replicate 129 5) }
  -- no flows
  pub none : plan_for (0 ∷ 0 ∷ []) 1 ≡ record { answer = record { number = 0; routes = 0 }; octets = 5 ∷ [] }
  -- the same flow twice with the same tunnel: 1 route; and beside two flows that want another tunnel it counts once
  pub twice : plan_for (0 ∷ 2 ∷ (flow_wanting 1 1 9 (replication_to 8) ++ flow_wanting 1 1 9 (replication_to 8))) 256
      ≡ record { answer = record { number = 0; routes = 1 }; octets = wildcard_place (replication_to 8) ++ replicate 128 5 }
  pub counted_once : plan_for (0 ∷ 4 ∷ (flow_wanting 1 1 9 (replication_to 8) ++ (flow_wanting 1 1 9 (replication_to 8) ++ (flow_wanting 2 2 9 (replication_to 9) ++ flow_wanting 3 2 9 (replication_to 9))))) 512
      ≡ record { answer = record { number = 0; routes = 2 }; octets = wildcard_place (replication_to 9) ++ (flow_place 7 1 (replication_to 8) 0 ++ replicate 256 5) }
  -- the judge: those places, in either order; marked; none for no flows
  pub accepted : judged_places (wildcard_place (replication_to 9) ++ flow_place 7 1 (replication_to 8) 0) ≡ accepted_judge
  pub turned : judged_places (flow_place 7 1 (replication_to 8) 0 ++ wildcard_place (replication_to 9)) ≡ accepted_judge
  pub marked : judged_places (wildcard_place (replication_to 9) ++ flow_place 7 1 (replication_to 8) 1) ≡ accepted_judge
  pub none_asked : judge_of 1 example_vrf (0 ∷ 0 ∷ []) [] ≡ accepted_judge
  -- not those with one octet changed: of the attribute, of the RD, of the originator, the last octet
  pub other_tunnel : judged_places (wildcard_place (replication_to 9) ++ flow_place 7 1 (replication_to 7) 0) ≡ rejected_judge
  pub other_rd : judged_places (wildcard_place (replication_to 9) ++ flow_place 6 1 (replication_to 8) 0) ≡ rejected_judge
  pub other_originator : judged_places (wildcard_place (replication_to 9) ++ flow_place 7 2 (replication_to 8) 0) ≡ rejected_judge
  pub bad_mark : judged_places (wildcard_place (replication_to 9) ++ flow_place 7 1 (replication_to 8) 2) ≡ rejected_judge
  -- nor with one of the two missing, or twice, or cut, or of zeros
  pub first_missing : judged_places (flow_place 7 1 (replication_to 8) 0) ≡ rejected_judge
  pub last_missing : judged_places (wildcard_place (replication_to 9)) ≡ rejected_judge
  pub first_twice : judged_places (wildcard_place (replication_to 9) ++ two_places) ≡ rejected_judge
  pub last_twice : judged_places (two_places ++ flow_place 7 1 (replication_to 8) 0) ≡ rejected_judge
  pub cut_place : judged_places (two_places ++ (0 ∷ [])) ≡ rejected_judge
  pub zero_place : judged_places (two_places ++ replicate 128 0) ≡ rejected_judge
  -- refusals in their order, each beside what a later one would refuse: AFI 3; nine prefixes; 65 flows, though the list ends before them; 64; a list of
  -- no octets
  pub family : plan_of 3 (vrf_of (0 ∷ 9 ∷ []) [] []) (0 ∷ 65 ∷ []) (5 ∷ []) ≡ unplanned 10 1
  pub range : plan_of 1 (vrf_of (0 ∷ 9 ∷ []) [] []) (0 ∷ 65 ∷ []) (5 ∷ []) ≡ unplanned 18 1
  pub long : plan_for (0 ∷ 65 ∷ []) 1 ≡ unplanned 8 1
  pub short : plan_for (0 ∷ 64 ∷ []) 1 ≡ unplanned 1 1
  pub empty : plan_for [] 1 ≡ unplanned 1 1
  -- more than 8,192 octets of places: for the judge only
  pub long_places : judge_of 1 example_vrf [] (replicate 8193 0) ≡ record { number = 8; accepted = 0 }
  -- FLOW: an originator of 5 octets; an RD of 7; in the second flow a source of 3 octets, though the first wants no tunnel type that there is; a group that
  -- is not multicast
  pub originator : plan_of 1 (vrf_of (0 ∷ 0 ∷ []) (10 ∷ 0 ∷ 0 ∷ 1 ∷ 1 ∷ []) (0 ∷ 0 ∷ 0 ∷ 100 ∷ 0 ∷ 0 ∷ 0 ∷ 7 ∷ [])) (0 ∷ 0 ∷ []) [] ≡ unplanned 15 0
  pub rd : plan_of 1 (vrf_of (0 ∷ 0 ∷ []) (10 ∷ 0 ∷ 0 ∷ 1 ∷ []) (0 ∷ 0 ∷ 0 ∷ 100 ∷ 0 ∷ 0 ∷ 0 ∷ [])) (0 ∷ 0 ∷ []) [] ≡ unplanned 15 0
  pub source : plan_for (0 ∷ 2 ∷ (flow_wanting 1 1 5 (0 ∷ 8 ∷ 0 ∷ 1 ∷ 0 ∷ []) ++ (0 ∷ 3 ∷ 192 ∷ 0 ∷ 2 ∷ 0 ∷ 4 ∷ 239 ∷ 1 ∷ 1 ∷ 1 ∷ 0 ∷ 9 ∷ replication_to 8))) 1 ≡ unplanned 15 1
  pub group : plan_for (0 ∷ 1 ∷ 0 ∷ 4 ∷ 192 ∷ 0 ∷ 2 ∷ 1 ∷ 0 ∷ 4 ∷ 223 ∷ 1 ∷ 1 ∷ 1 ∷ 0 ∷ 9 ∷ replication_to 8) 1 ≡ unplanned 15 1
  -- attribute reading: the first flow that it refuses decides, here an identifier of 3 octets before an attribute of 4, though the flow before both wants
  -- BIER with label 0
  pub unread : plan_for (0 ∷ 3 ∷ (flow_wanting 1 1 12 (bier_labelled 15) ++ (flow_wanting 2 1 8 (0 ∷ 6 ∷ 0 ∷ 1 ∷ 0 ∷ 10 ∷ 0 ∷ 0 ∷ []) ++ flow_wanting 3 1 4 (0 ∷ 6 ∷ 0 ∷ 1 ∷ [])))) 1 ≡ unplanned 7 1
  -- LABEL in the second flow, though the first wants type 0; TUNNEL in the third, though the others conflict; CONFLICT, though there is no room
  pub label : plan_for (0 ∷ 2 ∷ (flow_wanting 1 1 5 (0 ∷ 0 ∷ 0 ∷ 0 ∷ 0 ∷ []) ++ flow_wanting 2 1 12 (bier_labelled 15))) 1 ≡ unplanned 9 1
  pub tunnel : plan_for (0 ∷ 3 ∷ (flow_wanting 1 1 9 (replication_to 8) ++ (flow_wanting 1 1 9 (replication_to 9) ++ flow_wanting 2 1 5 (0 ∷ 0 ∷ 0 ∷ 0 ∷ 0 ∷ [])))) 1 ≡ unplanned 6 1
  pub conflict : plan_for (0 ∷ 2 ∷ (flow_wanting 1 1 9 (replication_to 8) ++ flow_wanting 1 1 9 (replication_to 9))) 255 ≡ unplanned 20 255
  pub conflict_judged : judge_of 1 example_vrf (0 ∷ 2 ∷ (flow_wanting 1 1 9 (replication_to 8) ++ flow_wanting 1 1 9 (replication_to 9))) two_places ≡ record { number = 20; accepted = 0 }
  -- 383 octets for three flows, though two places would fit
  pub space : plan_for three_flows 383 ≡ unplanned 16 383
