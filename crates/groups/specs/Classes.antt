-- The class of a customer group with the prefixes that a caller gives (request W-209).
use Rattle.std.specs.Prelude.{ℕ, List, length, eqb}
use Rattle.octets.specs.Choice.{pick}
use Rattle.octets.specs.Outcome.{Outcome, given, and_then}
use Rattle.lists.specs.LentLists.{Item, some_item}
use Rattle.nlri.specs.Family.{family_bits}
use Rattle.nlri.specs.Groups.{ASM, SSM, class_under}
use Rattle.groups.specs.Prefixes.{item_holds, read_prefixes}

-- of a group that is multicast, whose class by the standard range is told: that class where no prefix is given; else SSM where some prefix holds it
unfoldable pub class_among : List Item → (group : List ℕ) → (standard : ℕ) → ℕ
class_among items group standard = pick (eqb (length items) 0) standard (pick (some_item (item_holds group) items) SSM ASM)

-- under a family, with prefixes that were read: FLOW as by the standard range
unfoldable pub class_in : (bits : ℕ) → List Item → (group : List ℕ) → Outcome ℕ
class_in bits items group = and_then (class_under bits group) (λ standard. given (class_among items group standard))

-- prefixes under an AFI: FAMILY, then RANGE and SHORT
unfoldable pub prefixes_under : (afi : ℕ) → (prefixes : List ℕ) → Outcome (List Item)
prefixes_under afi prefixes = and_then (family_bits afi) (λ bits. read_prefixes bits prefixes)

-- FAMILY, then RANGE and SHORT, then FLOW
unfoldable pub class_by : (afi : ℕ) → (prefixes group : List ℕ) → Outcome ℕ
class_by afi prefixes group = and_then (family_bits afi) (λ bits. and_then (read_prefixes bits prefixes) (λ items. class_in bits items group))
