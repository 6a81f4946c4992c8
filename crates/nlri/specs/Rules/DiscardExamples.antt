-- GROUP at both ends of the standard range of SSM groups (RFC 4607; document 02, W-210), by examples in literal octets. Proved in proofs/Statements/DiscardExamples.antt.
use Rattle.std.specs.Prelude.{◌≡◌, ℕ, List, [], ◌∷◌, ◌++◌}
use Rattle.octets.specs.Outcome.{given, refused, number_of}
use Rattle.nlri.specs.Fields.{Fields}
use Rattle.nlri.specs.Reading.{read_nlri}
use Rattle.nlri.specs.Writing.{write_nlri}

-- a Source Active route of AFI 1, for source 10.0.0.1 and a group
abbrev pub source_active4 : (a b c d : ℕ) → List ℕ
source_active4 a b c d = 5 ∷ 18 ∷ 0 ∷ 0 ∷ 0 ∷ 100 ∷ 0 ∷ 0 ∷ 0 ∷ 7 ∷ 32 ∷ 10 ∷ 0 ∷ 0 ∷ 1 ∷ 32 ∷ a ∷ b ∷ c ∷ d ∷ []

-- of AFI 2, for source 2001:DB8::1 and a group of four octets and twelve that are the same
abbrev pub source_active6 : (a b c d rest : ℕ) → List ℕ
source_active6 a b c d rest =
    5 ∷ 42 ∷ 0 ∷ 0 ∷ 0 ∷ 100 ∷ 0 ∷ 0 ∷ 0 ∷ 7 ∷ 128 ∷ 32 ∷ 1 ∷ 13 ∷ 184 ∷ 0 ∷ 0 ∷ 0 ∷ 0 ∷ 0 ∷ 0 ∷ 0 ∷ 0 ∷ 0 ∷ 0 ∷ 0 ∷ 1
    ∷ 128 ∷ a ∷ b ∷ c ∷ d ∷ rest ∷ rest ∷ rest ∷ rest ∷ rest ∷ rest ∷ rest ∷ rest ∷ rest ∷ rest ∷ rest ∷ rest ∷ []

-- a join of type 6 or 7 for the same source, with AS 65001
abbrev pub join4 : (type a b c d : ℕ) → List ℕ
join4 type a b c d = type ∷ 22 ∷ 0 ∷ 0 ∷ 0 ∷ 100 ∷ 0 ∷ 0 ∷ 0 ∷ 7 ∷ 0 ∷ 0 ∷ 253 ∷ 233 ∷ 32 ∷ 10 ∷ 0 ∷ 0 ∷ 1 ∷ 32 ∷ a ∷ b ∷ c ∷ d ∷ []

-- the fields of a Source Active route of AFI 1
abbrev pub source_active_fields : (a b c d : ℕ) → Fields
source_active_fields a b c d =
    record {
      type = 5;
      distinguisher = 0 ∷ 0 ∷ 0 ∷ 100 ∷ 0 ∷ 0 ∷ 0 ∷ 7 ∷ [];
      source_as = 0;
      source = 10 ∷ 0 ∷ 0 ∷ 1 ∷ [];
      group = a ∷ b ∷ c ∷ d ∷ [];
      originator = [];
      key = [];
      fec = [];
    }

-- each is so, by computation
pub record DiscardExamples : Type 0 where
  -- 231.255.255.255; 232.0.0.0 to 232.255.255.255; 233.0.0.0; and 10.1.1.1, which is no multicast address
  pub below : read_nlri 1 (source_active4 231 255 255 255) ≡ given (source_active_fields 231 255 255 255)
  pub first : read_nlri 1 (source_active4 232 0 0 0) ≡ refused 19
  pub last : read_nlri 1 (source_active4 232 255 255 255) ≡ refused 19
  pub above : read_nlri 1 (source_active4 233 0 0 0) ≡ given (source_active_fields 233 0 0 0)
  pub unicast : read_nlri 1 (source_active4 10 1 1 1) ≡ given (source_active_fields 10 1 1 1)
  -- FF2F:FFFF:FFFF:..; FF30:: to FF3F:0:FFFF:..; FF30:1::, FF30:100:: and FF40::
  pub below6 : number_of (read_nlri 2 (source_active6 255 47 255 255 255)) ≡ 0
  pub first6 : read_nlri 2 (source_active6 255 48 0 0 0) ≡ refused 19
  pub last6 : read_nlri 2 (source_active6 255 63 0 0 255) ≡ refused 19
  pub above6 : number_of (read_nlri 2 (source_active6 255 48 0 1 0)) ≡ 0
  pub third6 : number_of (read_nlri 2 (source_active6 255 48 1 0 0)) ≡ 0
  pub next6 : number_of (read_nlri 2 (source_active6 255 64 0 0 0)) ≡ 0
  -- an octet after it: LENGTH; its last octet cut off, and the Length with it: LENGTH; without it: SHORT; a group of 24 bits: WIDTH
  pub followed : read_nlri 1 (source_active4 232 0 0 0 ++ (0 ∷ [])) ≡ refused 3
  pub cut : read_nlri 1 (5 ∷ 17 ∷ 0 ∷ 0 ∷ 0 ∷ 100 ∷ 0 ∷ 0 ∷ 0 ∷ 7 ∷ 32 ∷ 10 ∷ 0 ∷ 0 ∷ 1 ∷ 32 ∷ 232 ∷ 0 ∷ 0 ∷ []) ≡ refused 3
  pub unfinished : read_nlri 1 (5 ∷ 18 ∷ 0 ∷ 0 ∷ 0 ∷ 100 ∷ 0 ∷ 0 ∷ 0 ∷ 7 ∷ 32 ∷ 10 ∷ 0 ∷ 0 ∷ 1 ∷ 32 ∷ 232 ∷ 0 ∷ 0 ∷ []) ≡ refused 1
  pub narrow : read_nlri 1 (5 ∷ 17 ∷ 0 ∷ 0 ∷ 0 ∷ 100 ∷ 0 ∷ 0 ∷ 0 ∷ 7 ∷ 32 ∷ 10 ∷ 0 ∷ 0 ∷ 1 ∷ 24 ∷ 232 ∷ 0 ∷ 0 ∷ []) ≡ refused 4
  -- types 6, 7 and 3 with 232.1.1.1
  pub shared_tree_join : number_of (read_nlri 1 (join4 6 232 1 1 1)) ≡ 0
  pub source_tree_join : number_of (read_nlri 1 (join4 7 232 1 1 1)) ≡ 0
  pub s_pmsi : number_of (read_nlri 1 (3 ∷ 22 ∷ 0 ∷ 0 ∷ 0 ∷ 100 ∷ 0 ∷ 0 ∷ 0 ∷ 7 ∷ 32 ∷ 10 ∷ 0 ∷ 0 ∷ 1 ∷ 32 ∷ 232 ∷ 1 ∷ 1 ∷ 1 ∷ 10 ∷ 0 ∷ 0 ∷ 9 ∷ [])) ≡ 0
  -- written: GROUP whatever space there is, of any other group SPACE, or its encoding
  pub full : write_nlri 1 (source_active_fields 232 0 0 0) 0 ≡ refused 19
  pub roomy : write_nlri 1 (source_active_fields 232 255 255 255) 20 ≡ refused 19
  pub spaceless : write_nlri 1 (source_active_fields 233 0 0 0) 19 ≡ refused 16
  pub written : write_nlri 1 (source_active_fields 233 0 0 0) 20 ≡ given (source_active4 233 0 0 0)
