-- Document 01, "Marked examples", P1 to P12: one table of cases, each a call of a definition with all that it comes to.
use Rattle.std.specs.Prelude.{ℕ, ◌≡◌, List, [], ◌∷◌, ◌++◌, replicate}
use Rattle.octets.specs.Numbers.{DONE, LENGTH, WIDTH, LABEL, FLOW}
use Rattle.octets.specs.Outcome.{Outcome, given, refused}
use Rattle.octets.specs.Order.{zeros}
use Rattle.nlri.specs.Fields.{Fields}
use Rattle.nlri.specs.Reading.{read_nlri}
use Rattle.groups.specs.Classes.{class_by}
use Rattle.routes.specs.declared.Installed.{Installed}
use Rattle.routes.specs.declared.Matched.{Matched}
use Rattle.routes.specs.Route.{Route, route, nlri_of, attribute_of}
use Rattle.routes.specs.Query.{Flow, flow_of}
use Rattle.routes.specs.Asked.{of_flow}
use Rattle.routes.specs.Table.{image_of}
use Rattle.octets.specs.Outputs.{Changed}
use Rattle.routes.specs.Calls.{make_of, install_of, match_of}

-- a case: the class of a group, or the reading of a single NLRI, under an AFI; a match, or an install, on a table
pub data Example : Type 0 where
  grouped : (afi : ℕ) → List ℕ → Outcome ℕ → Example
  reading : (afi : ℕ) → List ℕ → Outcome Fields → Example
  matching : (table : List ℕ) → Flow → (output : List ℕ) → Changed Matched → Example
  installing : (table nlri attribute : List ℕ) → Changed Installed → Example

-- no prefixes: a list of no items
abbrev pub no_prefixes : List ℕ
no_prefixes = 0 ∷ 0 ∷ []

-- what a case says
abbrev pub ExampleHolds : Example → Type 0
ExampleHolds (grouped afi g class) = class_by afi no_prefixes g ≡ class
ExampleHolds (reading afi s fields) = read_nlri afi s ≡ fields
ExampleHolds (matching t flow output answer) = match_of t (of_flow flow) output ≡ answer
ExampleHolds (installing t nlri attribute answer) = install_of t nlri attribute ≡ answer

-- every one of these cases
abbrev pub AllHold : List Example → Type 0
AllHold [] = Unit {0}
AllHold (e ∷ es) = ExampleHolds e × AllHold es

-- 100:7
abbrev pub some_rd : List ℕ
some_rd = 0 ∷ 0 ∷ 0 ∷ 100 ∷ 0 ∷ 0 ∷ 0 ∷ 7 ∷ []

-- 10.0.0.1
abbrev pub some_router : List ℕ
some_router = 10 ∷ 0 ∷ 0 ∷ 1 ∷ []

-- 192.0.2.1
abbrev pub some_source : List ℕ
some_source = 192 ∷ 0 ∷ 2 ∷ 1 ∷ []

-- a route for every flow of the router
abbrev pub every_flow : Fields
every_flow = record { type = 3; distinguisher = some_rd; source_as = 0; source = []; group = []; originator = some_router; key = []; fec = [] }

-- an S-PMSI NLRI of the router: its Length, and a source and a group, each behind its length octet
abbrev pub some_s_pmsi : (size : ℕ) (source group : List ℕ) → List ℕ
some_s_pmsi size source group = 3 ∷ size ∷ some_rd ++ (source ++ (group ++ some_router))

-- an attribute with flags 0
abbrev pub tunnel_by : (type : ℕ) (label identifier : List ℕ) → List ℕ
tunnel_by type label identifier = 0 ∷ type ∷ label ++ identifier

-- a label field of label 16
abbrev pub some_label : List ℕ
some_label = 0 ∷ 1 ∷ 0 ∷ []

-- sub-domain 0, BFR-id 1, the router's prefix
abbrev pub some_bier : List ℕ
some_bier = 0 ∷ 0 ∷ 1 ∷ some_router

-- A (192.0.2.1, 232.1.1.1) by RSVP-TE P2MP
abbrev pub route_a : Route
route_a = route (some_s_pmsi 22 (32 ∷ some_source) (32 ∷ 232 ∷ 1 ∷ 1 ∷ 1 ∷ [])) (tunnel_by 1 some_label (0 ∷ 0 ∷ 0 ∷ 1 ∷ 0 ∷ 0 ∷ 0 ∷ 1 ∷ some_router))

-- B (192.0.2.1, *) by PIM-SSM
abbrev pub route_b : Route
route_b = route (some_s_pmsi 18 (32 ∷ some_source) (0 ∷ [])) (tunnel_by 3 some_label (some_router ++ (232 ∷ 0 ∷ 0 ∷ 1 ∷ [])))

-- C (*, 239.1.1.1) by mLDP P2MP
abbrev pub route_c : Route
route_c = route (some_s_pmsi 18 (0 ∷ []) (32 ∷ 239 ∷ 1 ∷ 1 ∷ 1 ∷ [])) (tunnel_by 2 some_label (6 ∷ 0 ∷ 1 ∷ 4 ∷ some_router ++ (0 ∷ 7 ∷ 1 ∷ 0 ∷ 4 ∷ 0 ∷ 0 ∷ 0 ∷ 1 ∷ [])))

-- D (*, *) by ingress replication
abbrev pub route_d : Route
route_d = route (some_s_pmsi 14 (0 ∷ []) (0 ∷ [])) (tunnel_by 6 some_label some_router)

-- E (*, 232.9.9.9) by BIER
abbrev pub route_e : Route
route_e = route (some_s_pmsi 18 (0 ∷ []) (32 ∷ 232 ∷ 9 ∷ 9 ∷ 9 ∷ [])) (tunnel_by 11 some_label some_bier)

-- a table just made, of AFI 1 and 5 places: 8 + 5 * 128 octets
unfoldable pub empty_table : List ℕ
empty_table = (make_of 1 (zeros 648)).octets

-- the octets after installs, one after the other
unfoldable pub after_installs : List ℕ → List Route → List ℕ
after_installs t [] = t
after_installs t (r ∷ rs) = after_installs (install_of t (nlri_of r) (attribute_of r)).octets rs

-- the table of the examples: A to E installed in it
unfoldable pub some_table : List ℕ
some_table = after_installs empty_table (route_a ∷ (route_b ∷ (route_c ∷ (route_d ∷ (route_e ∷ [])))))

-- an output of 124 octets
abbrev pub some_output : List ℕ
some_output = replicate 124 255

-- a route told in that output, of which so many octets are left as they were
abbrev pub told_route : (tier : ℕ) → Route → (nlri_size attribute_size left : ℕ) → Changed Matched
told_route tier r nlri_size attribute_size left =
    record {
      answer = record { number = DONE; tier = tier; nlri_size = nlri_size; attribute_size = attribute_size };
      octets = nlri_of r ++ (attribute_of r ++ replicate left 255);
    }

-- no route told: the output as it was
abbrev pub told_none : Changed Matched
told_none = record { answer = record { number = DONE; tier = 0; nlri_size = 0; attribute_size = 0 }; octets = some_output }

-- P1 to P12
abbrev pub examples : List Example
examples =
    -- P1 to P5: A, B, C and not B, D, D and not E
    matching some_table (flow_of no_prefixes some_router some_source (232 ∷ 1 ∷ 1 ∷ 1 ∷ [])) some_output (told_route 1 route_a 24 17 83)
    ∷ matching some_table (flow_of no_prefixes some_router some_source (232 ∷ 1 ∷ 1 ∷ 2 ∷ [])) some_output (told_route 2 route_b 20 13 91)
    ∷ matching some_table (flow_of no_prefixes some_router some_source (239 ∷ 1 ∷ 1 ∷ 1 ∷ [])) some_output (told_route 3 route_c 20 22 82)
    ∷ matching some_table (flow_of no_prefixes some_router (192 ∷ 0 ∷ 2 ∷ 2 ∷ []) (232 ∷ 1 ∷ 1 ∷ 1 ∷ [])) some_output (told_route 4 route_d 16 9 99)
    ∷ matching some_table (flow_of no_prefixes some_router (192 ∷ 0 ∷ 2 ∷ 2 ∷ []) (232 ∷ 9 ∷ 9 ∷ 9 ∷ [])) some_output (told_route 4 route_d 16 9 99)
    -- P6: asked of 10.0.0.2
    ∷ matching some_table (flow_of no_prefixes (10 ∷ 0 ∷ 0 ∷ 2 ∷ []) some_source (232 ∷ 1 ∷ 1 ∷ 1 ∷ [])) some_output told_none
    -- P7: ASM is 1
    ∷ grouped 1 (231 ∷ 255 ∷ 255 ∷ 255 ∷ []) (given 1)
    ∷ grouped 1 (233 ∷ 0 ∷ 0 ∷ 0 ∷ []) (given 1)
    ∷ grouped 1 (223 ∷ 255 ∷ 255 ∷ 255 ∷ []) (refused FLOW)
    ∷ grouped 1 (240 ∷ 0 ∷ 0 ∷ 0 ∷ []) (refused FLOW)
    -- P8: SSM is 2
    ∷ grouped 2 (255 ∷ 62 ∷ 0 ∷ 0 ∷ 0 ∷ 0 ∷ 0 ∷ 0 ∷ 0 ∷ 0 ∷ 0 ∷ 0 ∷ 0 ∷ 0 ∷ 0 ∷ 1 ∷ []) (given 2)
    ∷ grouped 2 (255 ∷ 62 ∷ 0 ∷ 1 ∷ 0 ∷ 0 ∷ 0 ∷ 0 ∷ 0 ∷ 0 ∷ 0 ∷ 0 ∷ 0 ∷ 0 ∷ 0 ∷ 1 ∷ []) (given 1)
    -- P9: Length 14, and 13
    ∷ reading 1 (3 ∷ 14 ∷ some_rd ++ (0 ∷ 0 ∷ some_router)) (given every_flow)
    ∷ reading 1 (3 ∷ 13 ∷ some_rd ++ (0 ∷ 0 ∷ 10 ∷ 0 ∷ 0 ∷ [])) (refused LENGTH)
    -- P10: source length 24, and 128
    ∷ reading 1 (3 ∷ 17 ∷ some_rd ++ (24 ∷ 192 ∷ 0 ∷ 2 ∷ 0 ∷ some_router)) (refused WIDTH)
    ∷ reading 1 (3 ∷ 30 ∷ some_rd ++ (128 ∷ 255 ∷ 62 ∷ 0 ∷ 0 ∷ 0 ∷ 0 ∷ 0 ∷ 0 ∷ 0 ∷ 0 ∷ 0 ∷ 0 ∷ 0 ∷ 0 ∷ 0 ∷ 1 ∷ 0 ∷ some_router)) (refused WIDTH)
    -- P11
    ∷ reading 1 (7 ∷ 18 ∷ some_rd ++ (0 ∷ 0 ∷ 0 ∷ 100 ∷ 0 ∷ 32 ∷ 232 ∷ 1 ∷ 1 ∷ 1 ∷ [])) (refused WIDTH)
    -- P12: label field 00 00 0F, and 00 00 10, which is "new", 1
    ∷ installing empty_table (nlri_of route_e) (tunnel_by 11 (0 ∷ 0 ∷ 15 ∷ []) some_bier) (record { answer = record { number = LABEL; outcome = 0 }; octets = empty_table })
    ∷ installing empty_table (nlri_of route_e) (tunnel_by 11 (0 ∷ 0 ∷ 16 ∷ []) some_bier)
    (record { answer = record { number = DONE; outcome = 1 }; octets = image_of 1 5 (route (nlri_of route_e) (tunnel_by 11 (0 ∷ 0 ∷ 16 ∷ []) some_bier) ∷ []) })
    ∷ []

-- every case of the table holds
pub record MarkedExamples : Type 0 where
  pub all : AllHold examples
