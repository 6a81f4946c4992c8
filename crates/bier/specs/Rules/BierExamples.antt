-- Bit strings by examples in literal octets. Proved in proofs/BierExamples.antt.
use Rattle.std.specs.Prelude.{ℕ, ◌≡◌, List, [], ◌∷◌, ◌++◌, replicate}
use Rattle.octets.specs.Outputs.{Changed}
use Rattle.bier.specs.declared.Egress.{Egress}
use Rattle.bier.specs.BierString.{egress_of}

-- an S-PMSI NLRI with both wildcards, whose RD ends in this octet
unfoldable pub wildcard_nlri : (rd : ℕ) → List ℕ
wildcard_nlri rd = 3 ∷ 14 ∷ 0 ∷ 0 ∷ 0 ∷ 100 ∷ 0 ∷ 0 ∷ 0 ∷ rd ∷ 0 ∷ 0 ∷ 10 ∷ 0 ∷ 0 ∷ 1 ∷ []

-- an attribute of twelve octets: LIR, tunnel type, label field, and, of BIER, sub-domain, BFR-id, prefix
unfoldable pub tunnel_of : (type label sub_domain high low : ℕ) → List ℕ
tunnel_of type label sub_domain high low = 1 ∷ type ∷ 0 ∷ 0 ∷ label ∷ sub_domain ∷ high ∷ low ∷ 192 ∷ 0 ∷ 2 ∷ 1 ∷ []

-- a Leaf route in a list: the size of each field in two octets, the NLRI with its key and an originator, and an attribute with label 0
unfoldable pub leaf_of : (rd sub_domain high low : ℕ) → List ℕ
leaf_of rd sub_domain high low = 0 ∷ 22 ∷ (4 ∷ 20 ∷ (wildcard_nlri rd ++ (192 ∷ 0 ∷ 2 ∷ 1 ∷ 0 ∷ 12 ∷ tunnel_of 11 0 sub_domain high low)))

-- BFR-ids 1, 8, 9, 256, 257, 0, 1 again, and 2 in another sub-domain and 3 with another key
unfoldable pub nine_leaves : List ℕ
nine_leaves =
    0 ∷ 9 ∷ (leaf_of 7 5 0 1 ++ (leaf_of 7 5 0 8 ++ (leaf_of 7 5 0 9 ++ (leaf_of 7 5 1 0 ++ (leaf_of 7 5 1 1 ++ (leaf_of 7 5 0 0 ++ (leaf_of 7 5 0 1 ++ (leaf_of 7 6 0 2 ++ leaf_of 8 5 0 3))))))))

-- the call for a route in sub-domain 5, into an output of octets of 9
abbrev pub sent : (set_number : ℕ) (leaves : List ℕ) (space : ℕ) → Changed Egress
sent set_number leaves space = egress_of 1 (wildcard_nlri 7) (tunnel_of 11 16 5 0 4) set_number leaves (replicate space 9)

-- each of these is so, by computation
pub record BierExamples : Type 0 where
  -- set 0: positions 1 and 8 in the last octet, 9 in the one before it, 256 in the first; the octet behind the string stays
  pub first : sent 0 nine_leaves 33
      ≡ record {
        answer = record { number = 0; routers = 4 };
        octets = 128 ∷ (replicate 29 0 ++ (1 ∷ 129 ∷ 9 ∷ []));
      }
  -- set 1: 257 alone, at position 1
  pub second : sent 1 nine_leaves 32 ≡ record { answer = record { number = 0; routers = 1 }; octets = replicate 31 0 ++ (1 ∷ []) }
  -- no Leaf route, and one of BFR-id 0: no bit and no router
  pub none : sent 0 (0 ∷ 0 ∷ []) 32 ≡ record { answer = record { number = 0; routers = 0 }; octets = replicate 32 0 }
  pub zero : sent 0 (0 ∷ 1 ∷ leaf_of 7 5 0 0) 32 ≡ record { answer = record { number = 0; routers = 0 }; octets = replicate 32 0 }
  -- an output of 31 octets; 1,025 Leaf routes, though the list ends before them; 1,024
  pub no_space : sent 0 nine_leaves 31 ≡ record { answer = record { number = 16; routers = 0 }; octets = replicate 31 9 }
  pub long : (sent 0 (4 ∷ 1 ∷ []) 31).answer ≡ record { number = 8; routers = 0 }
  pub short : (sent 0 (4 ∷ 0 ∷ []) 31).answer ≡ record { number = 1; routers = 0 }
  -- an S-PMSI NLRI where a Leaf's is due, in the second item, though the first has another key
  pub kind : (sent 0 (0 ∷ 2 ∷ (leaf_of 8 5 0 3 ++ (0 ∷ 16 ∷ (wildcard_nlri 7 ++ (0 ∷ 0 ∷ []))))) 31).answer ≡ record { number = 12; routers = 0 }
  -- a Leaf with an attribute of no tunnel type that there is
  pub tunnel : (sent 0 (0 ∷ 1 ∷ 0 ∷ 22 ∷ (4 ∷ 20 ∷ (wildcard_nlri 8 ++ (192 ∷ 0 ∷ 2 ∷ 1 ∷ 0 ∷ 12 ∷ tunnel_of 8 0 5 0 1)))) 32).answer ≡ record { number = 6; routers = 0 }
  -- a route with label 0, and one whose tunnel is not BIER, before the list is looked at
  pub label : (egress_of 1 (wildcard_nlri 7) (tunnel_of 11 15 5 0 4) 0 [] []).answer ≡ record { number = 9; routers = 0 }
  pub other : (egress_of 1 (wildcard_nlri 7) (1 ∷ 0 ∷ 0 ∷ 0 ∷ 0 ∷ []) 0 (4 ∷ 1 ∷ []) []).answer ≡ record { number = 6; routers = 0 }
