-- A FEC element judged from left to right, and those that it holds, by how it stands (request W-207; document 01, "PMSI Tunnel attribute").
use Rattle.std.specs.Prelude.{ℕ, zero, suc, ◌+◌, ◌-◌, Bool, true, false, List, ltb, leb, eqb, length, get_or, drop}
use Rattle.octets.specs.Choice.{pick, both, either}
use Rattle.octets.specs.Numbers.{DONE, LENGTH, IDENT, DEEP}
use Rattle.octets.specs.Outcome.{Outcome, given, refused}
use Rattle.octets.specs.Octets.{part, number_in}
use Rattle.fec_elements.specs.declared.Standing.{Standing}
use Rattle.fec_elements.specs.declared.Standing.TheVariants.{InBody, Lent, Filling}
use Rattle.fec_elements.specs.Fields.{FecFields}

-- where the opaque value of the FEC at the front starts: after its header of 4 octets, its root and the opaque length of 2
unfoldable pub opaque_start : List ℕ → ℕ
opaque_start s = 4 + get_or s 3 0 + 2

-- the opaque length
unfoldable pub opaque_size : List ℕ → ℕ
opaque_size s = number_in (part s (4 + get_or s 3 0) 2) 0

-- the octets that the FEC says that it has
unfoldable pub fec_size : List ℕ → ℕ
fec_size s = opaque_start s + opaque_size s

-- the fields of the FEC at the front, where they stand
unfoldable pub fec_in : List ℕ → FecFields
fec_in s =
    record {
      fec_type = get_or s 0 0;
      address_family = number_in (part s 1 2) 0;
      root = part s 4 (get_or s 3 0);
      opaque_value = part s (opaque_start s) (opaque_size s);
    }

-- the number where the octets end inside a FEC: LENGTH in a body, else IDENT
unfoldable pub runs_out : Standing → ℕ
runs_out (InBody afi) = LENGTH
runs_out (Lent afi) = IDENT
runs_out Filling = IDENT

-- nothing may follow the FEC
unfoldable pub must_fill : Standing → Bool
must_fill (InBody afi) = false
must_fill (Lent afi) = true
must_fill Filling = true

-- RFC 7441, section 3: in an NLRI the outermost root is of the AFI's family
unfoldable pub takes_family : Standing → (address_family : ℕ) → Bool
takes_family (InBody afi) address_family = eqb address_family afi
takes_family (Lent afi) address_family = eqb address_family afi
takes_family Filling address_family = true

-- the same as `Suits`, computed
unfoldable pub family_suits : (address_family size : ℕ) → Bool
family_suits address_family size = either (both (eqb address_family 1) (eqb size 4)) (both (eqb address_family 2) (eqb size 16))

-- the same as `FecType`, computed
unfoldable pub is_fec_type : ℕ → Bool
is_fec_type type = both (leb 6 type) (leb type 8)

-- A FEC up to its opaque value, field by field: one that is not whole, then one that is wrong. Every length is judged where it stands, before its content.

-- root, opaque length, and as many octets as that says
unfoldable pub length_fault : Standing → List ℕ → ℕ
length_fault p s =
    pick (ltb (length s) (opaque_start s)) (runs_out p)
    (pick (ltb (length s) (fec_size s)) (runs_out p)
    (pick (both (ltb (fec_size s) (length s)) (must_fill p)) IDENT DONE))

-- address length, and what follows it
unfoldable pub root_fault : Standing → List ℕ → ℕ
root_fault p s =
    pick (ltb (length s) 4) (runs_out p)
    (pick (family_suits (number_in (part s 1 2) 0) (get_or s 3 0)) (length_fault p s) IDENT)

-- address family, and what follows it
unfoldable pub family_fault : Standing → List ℕ → ℕ
family_fault p s =
    pick (ltb (length s) 3) (runs_out p)
    (pick (takes_family p (number_in (part s 1 2) 0)) (root_fault p s) IDENT)

-- type, and what follows it
unfoldable pub header_fault : Standing → List ℕ → ℕ
header_fault p s =
    pick (ltb (length s) 1) (runs_out p)
    (pick (is_fec_type (get_or s 0 0)) (family_fault p s) IDENT)

-- the octets are one FEC, whatever its type and its opaque value
unfoldable pub whole_fec : List ℕ → Bool
whole_fec s = eqb (family_fault Filling s) DONE

-- the same of fewer than 256 octets, as in every attribute
unfoldable pub short_fec : List ℕ → Bool
short_fec s = both (ltb (length s) 256) (whole_fec s)

-- an opaque value opens as one that holds a FEC: type 7 or 8
unfoldable pub opens : List ℕ → Bool
opens o = either (eqb (get_or o 0 0) 7) (eqb (get_or o 0 0) 8)

-- where its FEC starts: after type 1, length 2, in type 8 an RD 8
unfoldable pub held_start : List ℕ → ℕ
held_start o = pick (eqb (get_or o 0 0) 7) 3 11

-- all that stands before the FEC is there, and the length ends exactly at the opaque value's end
unfoldable pub holds_fec : List ℕ → Bool
holds_fec o = both (leb (held_start o) (length o)) (eqb (number_in (part o 1 2) 0 + 3) (length o))

-- a FEC, its opaque value judged by `inside`
unfoldable pub fec_with : (inside : List ℕ → ℕ) → Standing → List ℕ → ℕ
fec_with inside p s = pick (eqb (header_fault p s) DONE) (inside (fec_in s).opaque_value) (header_fault p s)

-- an opaque value in which FECs may stand `depth` deep
unfoldable pub opaque_fault : (depth : ℕ) → List ℕ → ℕ
opaque_fault zero o = pick (opens o) DEEP DONE
opaque_fault (suc depth) o = pick (opens o) (pick (holds_fec o) (fec_with (opaque_fault depth) Filling (drop (held_start o) o)) IDENT) DONE

-- a FEC that may be `depth` deep
unfoldable pub fec_fault : (depth : ℕ) → Standing → List ℕ → ℕ
fec_fault depth p s = fec_with (opaque_fault (depth - 1)) p s

-- "to four elements deep"
abbrev pub most_deep : ℕ
most_deep = 4

-- how many octets the FEC at the front takes, or the number of the first fault
unfoldable pub read_fec : Standing → List ℕ → Outcome ℕ
read_fec p s = pick (eqb (fec_fault most_deep p s) DONE) (given (fec_size s)) (refused (fec_fault most_deep p s))
