-- Document 01, "The numbers a call gives back", with what requests have added.
use Rattle.std.specs.Prelude.{ℕ}

-- the work was done
abbrev pub DONE : ℕ
DONE = 0

-- fewer octets than the header, or than the Length field, asks; a list that ends before its items do
abbrev pub SHORT : ℕ
SHORT = 1

-- route type not 1 to 7, 0x43, 0x44 or 0x47
abbrev pub TYPE : ℕ
TYPE = 2

-- the body ends inside a field, or what remains is not the last field, or octets follow a single NLRI
abbrev pub LENGTH : ℕ
LENGTH = 3

-- an address length the type and family do not allow; at writing also an originator not of 4 or 16 octets
abbrev pub WIDTH : ℕ
WIDTH = 4

-- a Leaf's key is not a well-formed NLRI of type 1, 2 or 3; in type 0x44: of type 0x43
abbrev pub KEY : ℕ
KEY = 5

-- tunnel type not in the table of identifiers; wanted for a flow: type 0
abbrev pub TUNNEL : ℕ
TUNNEL = 6

-- identifier not of that tunnel type's form; in an NLRI a bad FEC element
abbrev pub IDENT : ℕ
IDENT = 7

-- attribute over 64 octets, run over 4,096, list of more items than the call takes, proposed places over 8,192; at writing a body for mLDP over 255
abbrev pub LONG : ℕ
LONG = 8

-- BIER with label 0 at install, or wanted for a flow; a label field over 16,777,215 at writing
abbrev pub LABEL : ℕ
LABEL = 9

-- AFI not 1 or 2
abbrev pub FAMILY : ℕ
FAMILY = 10

-- lent memory is not a sound table; for making one: not of a table's size
abbrev pub TABLE : ℕ
TABLE = 11

-- well-formed NLRI, but not type 3; in a list of Source Active routes: not type 5
abbrev pub KIND : ℕ
KIND = 12

-- new NLRI and every place taken
abbrev pub ROOM : ℕ
ROOM = 13

-- withdrawn NLRI not in the table
abbrev pub ABSENT : ℕ
ABSENT = 14

-- router or originator address not 4 or 16 octets, distinguisher not 8, source or group not of the family's size, or group asked not multicast
abbrev pub FLOW : ℕ
FLOW = 15

-- output buffer too small
abbrev pub SPACE : ℕ
SPACE = 16

-- the fourth FEC element from outside has an opaque value of type 7 or 8
abbrev pub DEEP : ℕ
DEEP = 17

-- more than eight prefixes, an address in one of another size than the family's, a length over it, or a set bit past the length
abbrev pub RANGE : ℕ
RANGE = 18

-- a Source Active route whose group is source-specific, by the standard range
abbrev pub GROUP : ℕ
GROUP = 19

-- one flow is listed with two different wanted attributes
abbrev pub CONFLICT : ℕ
CONFLICT = 20
