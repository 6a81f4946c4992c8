-- Who must get the BIER packet (request W-211; RFC 8556, section 4.1): the refusals in their order, the bit string, and what the call answers and leaves.
use Rattle.std.specs.Prelude.{ℕ, List, length, ltb, eqb}
use Rattle.octets.specs.Numbers.{DONE, TUNNEL, SPACE}
use Rattle.octets.specs.Choice.{pick}
use Rattle.octets.specs.Outcome.{Outcome, given, refused, on_outcome, unless, and_then}
use Rattle.octets.specs.Outputs.{Changed, output_of}
use Rattle.tunnel.specs.Attribute.{fields_in}
use Rattle.tunnel.specs.Bier.{bier_in}
use Rattle.routes.specs.Arguments.{read_route}
use Rattle.bier.specs.declared.Egress.{Egress}
use Rattle.bier.specs.BitStrings.{string_of, ones_of}
use Rattle.bier.specs.LeafRoutes.{read_leaf_list, counting_ids}

-- the sub-domain of a route: its own install numbers, then TUNNEL where its tunnel is not BIER
unfoldable pub read_bier_route : (afi : ℕ) (nlri attribute : List ℕ) → Outcome ℕ
read_bier_route afi nlri attribute =
    and_then (read_route afi nlri attribute) (λ r.
    unless (eqb (fields_in attribute).tunnel_type 11) TUNNEL (given (bier_in (fields_in attribute).identifier).sub_domain))

-- where there is room for a string: SPACE for an output under 32 octets
unfoldable pub with_room : (string output : List ℕ) → Outcome (List ℕ)
with_room string output = pick (ltb (length output) 32) (refused SPACE) (given string)

-- the string of a set: the route, the Leaf routes, SPACE
unfoldable pub bier_string : (afi : ℕ) (nlri attribute : List ℕ) (set_number : ℕ) (leaves output : List ℕ) → Outcome (List ℕ)
bier_string afi nlri attribute set_number leaves output =
    and_then (read_bier_route afi nlri attribute) (λ sub_domain.
    and_then (read_leaf_list afi leaves) (λ read. with_room (string_of set_number (counting_ids nlri sub_domain read)) output))

-- a refusal's number and no router
abbrev pub refused_egress : ℕ → Egress
refused_egress number = record { number = number; routers = 0 }

-- DONE and how many egress routers are in the string, which is at the front of the output; a refusal leaves the output
unfoldable pub egress_by : Outcome (List ℕ) → (output : List ℕ) → Changed Egress
egress_by outcome output =
    record { answer = on_outcome refused_egress (λ string. record { number = DONE; routers = ones_of string }) outcome; octets = output_of outcome output }

-- what the call answers and leaves
unfoldable pub egress_of : (afi : ℕ) (nlri attribute : List ℕ) (set_number : ℕ) (leaves output : List ℕ) → Changed Egress
egress_of afi nlri attribute set_number leaves output = egress_by (bier_string afi nlri attribute set_number leaves output) output
