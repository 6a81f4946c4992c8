-- Where the fields of an NLRI of type 3 or 5 stand: the route distinguisher behind the header, then a source and a group, each behind its
-- length octet in bits, then, in type 3, the originator.
use Rattle.std.specs.Prelude.{ℕ, ◌+◌, List, [], drop, slice_index}
use Rattle.octets.specs.Octets.{part}
use Rattle.nlri.specs.Fields.{Fields}
use Rattle.nlri.specs.Inner.{size_at}

-- the octets of the source, by its length octet
unfoldable pub source_size : List ℕ → ℕ
source_size s = size_at s 10

-- the octets of the group, by its length octet
unfoldable pub group_size : List ℕ → ℕ
group_size s = size_at s (11 + source_size s)

-- where the group ends
unfoldable pub group_end : List ℕ → ℕ
group_end s = 12 + source_size s + group_size s

-- the fields by where they stand; the originator is what remains, in type 5 nothing
unfoldable pub standing : List ℕ → Fields
standing s =
    record {
      type = slice_index s 0;
      distinguisher = part s 2 8;
      source_as = 0;
      source = part s 11 (source_size s);
      group = part s (12 + source_size s) (group_size s);
      originator = drop (group_end s) s;
      key = [];
      fec = [];
    }
