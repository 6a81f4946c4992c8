-- NLRIs of each route type, in literal octets (RFC 6514, section 4; RFC 7441, section 3; RFC 6388, section 2.2; RFC 6512), and FEC elements that hold others.
-- Proved in proofs/Statements/NlriExamples.antt.
use Rattle.std.specs.Prelude.{◌≡◌, ℕ, List, [], ◌∷◌, ◌++◌}
use Rattle.octets.specs.Outcome.{given, refused}
use Rattle.nlri.specs.Fields.{Fields}
use Rattle.nlri.specs.Reading.{read_nlri}
use Rattle.nlri.specs.Writing.{write_nlri}
use Rattle.nlri.specs.Rules.DiscardExamples.{join4}

-- the route distinguisher 100:7
abbrev pub hundred_seven : List ℕ
hundred_seven = 0 ∷ 0 ∷ 0 ∷ 100 ∷ 0 ∷ 0 ∷ 0 ∷ 7 ∷ []

-- an NLRI's fields, all of which have that distinguisher
abbrev pub fields_with : (type source_as : ℕ) (source group originator fec : List ℕ) → Fields
fields_with type source_as source group originator fec =
    record { type = type; distinguisher = hundred_seven; source_as = source_as; source = source; group = group; originator = originator; key = []; fec = fec }

-- those of a Leaf, which has a key and an originator
abbrev pub leaf_with : (type : ℕ) (key originator : List ℕ) → Fields
leaf_with type key originator =
    record { type = type; distinguisher = []; source_as = 0; source = []; group = []; originator = originator; key = key; fec = [] }

-- a FEC element of type 6 with the root 10.0.0.1 and an opaque value of type 1, which is kept
abbrev pub kept_fec : List ℕ
kept_fec = 6 ∷ 0 ∷ 1 ∷ 4 ∷ 10 ∷ 0 ∷ 0 ∷ 1 ∷ 0 ∷ 7 ∷ 1 ∷ 0 ∷ 4 ∷ 0 ∷ 0 ∷ 0 ∷ 9 ∷ []

-- one whose opaque value, of so many octets, is of type 7 and says so many octets: the FEC element that it holds
abbrev pub holding_fec : (opaque held : ℕ) (fec : List ℕ) → List ℕ
holding_fec opaque held fec = 6 ∷ 0 ∷ 1 ∷ 4 ∷ 10 ∷ 0 ∷ 0 ∷ 1 ∷ 0 ∷ opaque ∷ 7 ∷ 0 ∷ held ∷ fec

-- one whose opaque value is of type 8: the distinguisher 100:7, then the FEC element that it holds
abbrev pub vpn_fec : List ℕ
vpn_fec = 6 ∷ 0 ∷ 1 ∷ 4 ∷ 10 ∷ 0 ∷ 0 ∷ 1 ∷ 0 ∷ 28 ∷ 8 ∷ 0 ∷ 25 ∷ 0 ∷ 0 ∷ 0 ∷ 100 ∷ 0 ∷ 0 ∷ 0 ∷ 7 ∷ kept_fec

-- FEC elements two deep
abbrev pub two_deep : List ℕ
two_deep = holding_fec 20 17 kept_fec

-- three
abbrev pub three_deep : List ℕ
three_deep = holding_fec 33 30 two_deep

-- four
abbrev pub four_deep : List ℕ
four_deep = holding_fec 46 43 three_deep

-- five
abbrev pub five_deep : List ℕ
five_deep = holding_fec 59 56 four_deep

-- an NLRI of type 0x43 of this Length: distinguisher, FEC element, originator 10.0.0.9
abbrev pub mldp_nlri : (octets : ℕ) (fec : List ℕ) → List ℕ
mldp_nlri octets fec = 67 ∷ octets ∷ (hundred_seven ++ (fec ++ (10 ∷ 0 ∷ 0 ∷ 9 ∷ [])))

-- (C-*,C-*) of type 3, originator 10.0.0.9
abbrev pub both_wildcards_nlri : List ℕ
both_wildcards_nlri = 3 ∷ 14 ∷ 0 ∷ 0 ∷ 0 ∷ 100 ∷ 0 ∷ 0 ∷ 0 ∷ 7 ∷ 0 ∷ 0 ∷ 10 ∷ 0 ∷ 0 ∷ 9 ∷ []

-- each is so, by computation
pub record NlriExamples : Type 0 where
  -- types 1 and 2
  pub intra_as : read_nlri 1 (1 ∷ 12 ∷ 0 ∷ 0 ∷ 0 ∷ 100 ∷ 0 ∷ 0 ∷ 0 ∷ 7 ∷ 10 ∷ 0 ∷ 0 ∷ 9 ∷ []) ≡ given (fields_with 1 0 [] [] (10 ∷ 0 ∷ 0 ∷ 9 ∷ []) [])
  pub inter_as : read_nlri 1 (2 ∷ 12 ∷ 0 ∷ 0 ∷ 0 ∷ 100 ∷ 0 ∷ 0 ∷ 0 ∷ 7 ∷ 0 ∷ 0 ∷ 253 ∷ 233 ∷ []) ≡ given (fields_with 2 65001 [] [] [] [])
  -- type 3: (10.0.0.1,232.1.1.1), (C-*,C-*), and (2001:DB8::1,FF3E::1)
  pub s_pmsi : read_nlri 1 (3 ∷ 22 ∷ 0 ∷ 0 ∷ 0 ∷ 100 ∷ 0 ∷ 0 ∷ 0 ∷ 7 ∷ 32 ∷ 10 ∷ 0 ∷ 0 ∷ 1 ∷ 32 ∷ 232 ∷ 1 ∷ 1 ∷ 1 ∷ 10 ∷ 0 ∷ 0 ∷ 9 ∷ []) ≡ given (fields_with 3 0 (10 ∷ 0 ∷ 0 ∷ 1 ∷ []) (232 ∷ 1 ∷ 1 ∷ 1 ∷ []) (10 ∷ 0 ∷ 0 ∷ 9 ∷ []) [])
  pub wildcards : read_nlri 1 both_wildcards_nlri ≡ given (fields_with 3 0 [] [] (10 ∷ 0 ∷ 0 ∷ 9 ∷ []) [])
  pub s_pmsi6 : read_nlri 2 (3 ∷ 46 ∷ 0 ∷ 0 ∷ 0 ∷ 100 ∷ 0 ∷ 0 ∷ 0 ∷ 7 ∷ 128 ∷ 32 ∷ 1 ∷ 13 ∷ 184 ∷ 0 ∷ 0 ∷ 0 ∷ 0 ∷ 0 ∷ 0 ∷ 0 ∷ 0 ∷ 0 ∷ 0 ∷ 0 ∷ 1 ∷ 128 ∷ 255 ∷ 62 ∷ 0 ∷ 0 ∷ 0 ∷ 0 ∷ 0 ∷ 0 ∷ 0 ∷ 0 ∷ 0 ∷ 0 ∷ 0 ∷ 0 ∷ 0 ∷ 1 ∷ 10 ∷ 0 ∷ 0 ∷ 9 ∷ []) ≡ given (fields_with 3 0 (32 ∷ 1 ∷ 13 ∷ 184 ∷ 0 ∷ 0 ∷ 0 ∷ 0 ∷ 0 ∷ 0 ∷ 0 ∷ 0 ∷ 0 ∷ 0 ∷ 0 ∷ 1 ∷ []) (255 ∷ 62 ∷ 0 ∷ 0 ∷ 0 ∷ 0 ∷ 0 ∷ 0 ∷ 0 ∷ 0 ∷ 0 ∷ 0 ∷ 0 ∷ 0 ∷ 0 ∷ 1 ∷ []) (10 ∷ 0 ∷ 0 ∷ 9 ∷ []) [])
  -- type 4, its key the (C-*,C-*) route
  pub leaf : read_nlri 1 (4 ∷ 20 ∷ (both_wildcards_nlri ++ (10 ∷ 0 ∷ 0 ∷ 2 ∷ []))) ≡ given (leaf_with 4 both_wildcards_nlri (10 ∷ 0 ∷ 0 ∷ 2 ∷ []))
  -- types 6 and 7, read and written; of type 5 `DiscardExamples` has some
  pub shared_tree_join : read_nlri 1 (join4 6 232 1 1 1) ≡ given (fields_with 6 65001 (10 ∷ 0 ∷ 0 ∷ 1 ∷ []) (232 ∷ 1 ∷ 1 ∷ 1 ∷ []) [] [])
  pub source_tree_join : read_nlri 1 (join4 7 232 1 1 1) ≡ given (fields_with 7 65001 (10 ∷ 0 ∷ 0 ∷ 1 ∷ []) (232 ∷ 1 ∷ 1 ∷ 1 ∷ []) [] [])
  pub written_join : write_nlri 1 (fields_with 7 65001 (10 ∷ 0 ∷ 0 ∷ 1 ∷ []) (232 ∷ 1 ∷ 1 ∷ 1 ∷ []) [] []) 24 ≡ given (join4 7 232 1 1 1)
  -- type 0x43: an opaque value that is kept, one of type 7, one of type 8 with its distinguisher, and four deep
  pub kept : read_nlri 1 (mldp_nlri 29 kept_fec) ≡ given (fields_with 67 0 [] [] (10 ∷ 0 ∷ 0 ∷ 9 ∷ []) kept_fec)
  pub held : read_nlri 1 (mldp_nlri 42 two_deep) ≡ given (fields_with 67 0 [] [] (10 ∷ 0 ∷ 0 ∷ 9 ∷ []) two_deep)
  pub vpn : read_nlri 1 (mldp_nlri 50 vpn_fec) ≡ given (fields_with 67 0 [] [] (10 ∷ 0 ∷ 0 ∷ 9 ∷ []) vpn_fec)
  pub deepest : read_nlri 1 (mldp_nlri 68 four_deep) ≡ given (fields_with 67 0 [] [] (10 ∷ 0 ∷ 0 ∷ 9 ∷ []) four_deep)
  -- five deep: DEEP; a type 7 that says one octet less than it has: IDENT; a body that ends inside the FEC element: LENGTH; a root of the other family: IDENT
  pub deeper : read_nlri 1 (mldp_nlri 81 five_deep) ≡ refused 17
  pub misfit : read_nlri 1 (mldp_nlri 42 (holding_fec 20 16 kept_fec)) ≡ refused 7
  pub cut : read_nlri 1 (67 ∷ 24 ∷ (hundred_seven ++ (6 ∷ 0 ∷ 1 ∷ 4 ∷ 10 ∷ 0 ∷ 0 ∷ 1 ∷ 0 ∷ 7 ∷ 1 ∷ 0 ∷ 4 ∷ 0 ∷ 0 ∷ 0 ∷ []))) ≡ refused 3
  pub other_family : read_nlri 2 (mldp_nlri 29 kept_fec) ≡ refused 7
  -- types 0x44, its key a 0x43, and 0x47 for AS 65001
  pub mldp_leaf : read_nlri 1 (68 ∷ 35 ∷ (mldp_nlri 29 kept_fec ++ (10 ∷ 0 ∷ 0 ∷ 2 ∷ []))) ≡ given (leaf_with 68 (mldp_nlri 29 kept_fec) (10 ∷ 0 ∷ 0 ∷ 2 ∷ []))
  pub mldp_join : read_nlri 1 (71 ∷ 29 ∷ (hundred_seven ++ (0 ∷ 0 ∷ 253 ∷ 233 ∷ kept_fec))) ≡ given (fields_with 71 65001 [] [] [] kept_fec)
  -- an unknown type, an AFI of 3, and a type 9 in a key
  pub unknown_type : read_nlri 1 (9 ∷ 0 ∷ []) ≡ refused 2
  pub other_afi : read_nlri 3 both_wildcards_nlri ≡ refused 10
  pub bad_key : read_nlri 1 (4 ∷ 6 ∷ 9 ∷ 0 ∷ 10 ∷ 0 ∷ 0 ∷ 2 ∷ []) ≡ refused 5
