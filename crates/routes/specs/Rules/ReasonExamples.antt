-- Reasons by examples in literal octets (document 02, W-204), on the table of P1 to P12 (Examples.antt): A (192.0.2.1, 232.1.1.1), B (192.0.2.1, *),
-- C (*, 239.1.1.1), D (*, *), E (*, 232.9.9.9), all of 10.0.0.1. Proved in proofs/Statements/Marked.antt.
use Rattle.std.specs.Prelude.{ℕ, ◌≡◌, List, [], ◌∷◌, replicate}
use Rattle.octets.specs.Outputs.{Changed}
use Rattle.routes.specs.declared.Explained.{Explained}
use Rattle.routes.specs.Route.{nlri_of}
use Rattle.routes.specs.Query.{flow_of}
use Rattle.routes.specs.Calls.{install_of}
use Rattle.routes.specs.Reasons.{explain_of}
use Rattle.routes.specs.Rules.Examples.{route_a, route_c, route_d, some_table}

-- an output of 124 octets of 255 in which A is told: its NLRI of 24 octets, its attribute of 17
abbrev pub output_with_a : List ℕ
output_with_a =
    3 ∷ 22 ∷ 0 ∷ 0 ∷ 0 ∷ 100 ∷ 0 ∷ 0 ∷ 0 ∷ 7 ∷ 32 ∷ 192 ∷ 0 ∷ 2 ∷ 1 ∷ 32 ∷ 232 ∷ 1 ∷ 1 ∷ 1 ∷ 10 ∷ 0 ∷ 0 ∷ 1 ∷ 0 ∷ 1 ∷ 0 ∷ 1 ∷ 0 ∷ 0 ∷ 0 ∷ 0 ∷ 1 ∷ 0 ∷ 0 ∷ 0 ∷ 1 ∷ 10 ∷ 0 ∷ 0 ∷ 1 ∷ replicate 83 255

-- B: 20 and 13
abbrev pub output_with_b : List ℕ
output_with_b =
    3 ∷ 18 ∷ 0 ∷ 0 ∷ 0 ∷ 100 ∷ 0 ∷ 0 ∷ 0 ∷ 7 ∷ 32 ∷ 192 ∷ 0 ∷ 2 ∷ 1 ∷ 0 ∷ 10 ∷ 0 ∷ 0 ∷ 1 ∷ 0 ∷ 3 ∷ 0 ∷ 1 ∷ 0 ∷ 10 ∷ 0 ∷ 0 ∷ 1 ∷ 232 ∷ 0 ∷ 0 ∷ 1 ∷ replicate 91 255

-- C: 20 and 22
abbrev pub output_with_c : List ℕ
output_with_c =
    3 ∷ 18 ∷ 0 ∷ 0 ∷ 0 ∷ 100 ∷ 0 ∷ 0 ∷ 0 ∷ 7 ∷ 0 ∷ 32 ∷ 239 ∷ 1 ∷ 1 ∷ 1 ∷ 10 ∷ 0 ∷ 0 ∷ 1 ∷ 0 ∷ 2 ∷ 0 ∷ 1 ∷ 0 ∷ 6 ∷ 0 ∷ 1 ∷ 4 ∷ 10 ∷ 0 ∷ 0 ∷ 1 ∷ 0 ∷ 7 ∷ 1 ∷ 0 ∷ 4 ∷ 0 ∷ 0 ∷ 0 ∷ 1 ∷ replicate 82 255

-- D: 16 and 9
abbrev pub output_with_d : List ℕ
output_with_d = 3 ∷ 14 ∷ 0 ∷ 0 ∷ 0 ∷ 100 ∷ 0 ∷ 0 ∷ 0 ∷ 7 ∷ 0 ∷ 0 ∷ 10 ∷ 0 ∷ 0 ∷ 1 ∷ 0 ∷ 6 ∷ 0 ∷ 1 ∷ 0 ∷ 10 ∷ 0 ∷ 0 ∷ 1 ∷ replicate 99 255

-- explain asked of 10.0.0.r about the flow of 192.0.2.s and a group, under the standard range
abbrev pub explained_on : (table : List ℕ) (r s : ℕ) (group : List ℕ) → Changed Explained
explained_on table r s group = explain_of table (flow_of (0 ∷ 0 ∷ []) (10 ∷ 0 ∷ 0 ∷ r ∷ []) (192 ∷ 0 ∷ 2 ∷ s ∷ []) group) (replicate 124 255)

-- under the prefix 239.1.0.0/16 in its place
abbrev pub explained_under : (s : ℕ) (group : List ℕ) → Changed Explained
explained_under s group =
    explain_of some_table (flow_of (0 ∷ 1 ∷ 0 ∷ 5 ∷ 16 ∷ 239 ∷ 1 ∷ 0 ∷ 0 ∷ []) (10 ∷ 0 ∷ 0 ∷ 1 ∷ []) (192 ∷ 0 ∷ 2 ∷ s ∷ []) group) (replicate 124 255)

-- the reasons of tiers 1 to 4
abbrev pub four_reasons : (a b c d : ℕ) → List ℕ
four_reasons a b c d = a ∷ b ∷ c ∷ d ∷ []

-- no match: tier 0, both sizes 0, the output as it was
abbrev pub unmatched : (reasons : List ℕ) → Changed Explained
unmatched reasons =
    record { answer = record { matched = record { number = 0; tier = 0; nlri_size = 0; attribute_size = 0 }; reasons = reasons }; octets = replicate 124 255 }

-- refused: empty fields, no reason, the output as it was
abbrev pub unexplained : (number : ℕ) (output : List ℕ) → Changed Explained
unexplained number output =
    record { answer = record { matched = record { number = number; tier = 0; nlri_size = 0; attribute_size = 0 }; reasons = 0 ∷ 0 ∷ 0 ∷ 0 ∷ [] }; octets = output }

-- each of these is so, by computation: 1 taken, 2 no such route, 3 wrong group class, 4 an earlier tier already won
pub record ReasonExamples : Type 0 where
  -- (192.0.2.1, 232.1.1.1): A
  pub exact : explained_on some_table 1 1 (232 ∷ 1 ∷ 1 ∷ 1 ∷ [])
      ≡ record { answer = record { matched = record { number = 0; tier = 1; nlri_size = 24; attribute_size = 17 }; reasons = four_reasons 1 4 4 4 }; octets = output_with_a }
  -- (192.0.2.1, 232.1.1.2): B
  pub any_group : explained_on some_table 1 1 (232 ∷ 1 ∷ 1 ∷ 2 ∷ [])
      ≡ record { answer = record { matched = record { number = 0; tier = 2; nlri_size = 20; attribute_size = 13 }; reasons = four_reasons 2 1 4 4 }; octets = output_with_b }
  -- (192.0.2.1, 239.1.1.1): C; B is of the wrong class
  pub any_source : explained_on some_table 1 1 (239 ∷ 1 ∷ 1 ∷ 1 ∷ [])
      ≡ record { answer = record { matched = record { number = 0; tier = 3; nlri_size = 20; attribute_size = 22 }; reasons = four_reasons 2 3 1 4 }; octets = output_with_c }
  -- (192.0.2.2, 232.9.9.9): D; E is of the wrong class
  pub any_ssm : explained_on some_table 1 2 (232 ∷ 9 ∷ 9 ∷ 9 ∷ [])
      ≡ record { answer = record { matched = record { number = 0; tier = 4; nlri_size = 16; attribute_size = 9 }; reasons = four_reasons 2 2 3 1 }; octets = output_with_d }
  -- (192.0.2.2, 239.1.1.2): D; of tier 2 the class is wrong, and there is no such route either
  pub any_asm : explained_on some_table 1 2 (239 ∷ 1 ∷ 1 ∷ 2 ∷ [])
      ≡ record { answer = record { matched = record { number = 0; tier = 4; nlri_size = 16; attribute_size = 9 }; reasons = four_reasons 2 3 2 1 }; octets = output_with_d }
  -- asked of 10.0.0.2, which has no route: an SSM group, and an ASM group
  pub none_ssm : explained_on some_table 2 1 (232 ∷ 1 ∷ 1 ∷ 1 ∷ []) ≡ unmatched (four_reasons 2 2 3 2)
  pub none_asm : explained_on some_table 2 1 (239 ∷ 1 ∷ 1 ∷ 1 ∷ []) ≡ unmatched (four_reasons 2 3 2 2)
  -- A, C or D with tunnel type 0 and no identifier: no such route
  pub tunnelless_a : explained_on (install_of some_table (nlri_of route_a) (0 ∷ 0 ∷ 0 ∷ 1 ∷ 0 ∷ [])).octets 1 1 (232 ∷ 1 ∷ 1 ∷ 1 ∷ [])
      ≡ record { answer = record { matched = record { number = 0; tier = 2; nlri_size = 20; attribute_size = 13 }; reasons = four_reasons 2 1 4 4 }; octets = output_with_b }
  pub tunnelless_c : explained_on (install_of some_table (nlri_of route_c) (0 ∷ 0 ∷ 0 ∷ 1 ∷ 0 ∷ [])).octets 1 1 (239 ∷ 1 ∷ 1 ∷ 1 ∷ [])
      ≡ record { answer = record { matched = record { number = 0; tier = 4; nlri_size = 16; attribute_size = 9 }; reasons = four_reasons 2 3 2 1 }; octets = output_with_d }
  pub tunnelless_d : explained_on (install_of some_table (nlri_of route_d) (0 ∷ 0 ∷ 0 ∷ 1 ∷ 0 ∷ [])).octets 1 2 (232 ∷ 1 ∷ 1 ∷ 1 ∷ []) ≡ unmatched (four_reasons 2 2 3 2)
  -- the class is that of the prefixes given: with 239.1.0.0/16 as the SSM range, B for 239.1.1.1, and D for 232.1.1.2
  pub prefixed_ssm : explained_under 1 (239 ∷ 1 ∷ 1 ∷ 1 ∷ [])
      ≡ record { answer = record { matched = record { number = 0; tier = 2; nlri_size = 20; attribute_size = 13 }; reasons = four_reasons 2 1 4 4 }; octets = output_with_b }
  pub prefixed_asm : explained_under 1 (232 ∷ 1 ∷ 1 ∷ 2 ∷ [])
      ≡ record { answer = record { matched = record { number = 0; tier = 4; nlri_size = 16; attribute_size = 9 }; reasons = four_reasons 2 3 2 1 }; octets = output_with_d }
  -- refusals in their order, each beside what a later one would refuse: no table; nine prefixes; eight, though the list ends before them; a router of 3
  -- octets; an output of 123 octets, also for no match
  pub table : explain_of [] (flow_of (0 ∷ 9 ∷ []) [] [] []) (255 ∷ []) ≡ unexplained 11 (255 ∷ [])
  pub range : explain_of some_table (flow_of (0 ∷ 9 ∷ []) (10 ∷ 0 ∷ 0 ∷ []) [] []) (255 ∷ []) ≡ unexplained 18 (255 ∷ [])
  pub short : explain_of some_table (flow_of (0 ∷ 8 ∷ []) (10 ∷ 0 ∷ 0 ∷ []) [] []) (255 ∷ []) ≡ unexplained 1 (255 ∷ [])
  pub flow : explain_of some_table (flow_of (0 ∷ 0 ∷ []) (10 ∷ 0 ∷ 0 ∷ []) (192 ∷ 0 ∷ 2 ∷ 1 ∷ []) (232 ∷ 1 ∷ 1 ∷ 1 ∷ [])) (255 ∷ []) ≡ unexplained 15 (255 ∷ [])
  pub space : explain_of some_table (flow_of (0 ∷ 0 ∷ []) (10 ∷ 0 ∷ 0 ∷ 1 ∷ []) (192 ∷ 0 ∷ 2 ∷ 1 ∷ []) (232 ∷ 1 ∷ 1 ∷ 1 ∷ [])) (replicate 123 255) ≡ unexplained 16 (replicate 123 255)
  pub space_unmatched : explain_of some_table (flow_of (0 ∷ 0 ∷ []) (10 ∷ 0 ∷ 0 ∷ 2 ∷ []) (192 ∷ 0 ∷ 2 ∷ 1 ∷ []) (232 ∷ 1 ∷ 1 ∷ 1 ∷ [])) (replicate 123 255) ≡ unexplained 16 (replicate 123 255)
