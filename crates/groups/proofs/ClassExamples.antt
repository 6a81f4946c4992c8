-- The class of a group with prefixes, by examples (specs/Rules/ClassExamples.antt).
use mathlib.Core.Path.{refl}
use Rattle.octets.specs.Choice.{pick, both}
use Rattle.octets.specs.Outcome.{and_then}
use Rattle.octets.specs.Octets.{part, number_in}
use Rattle.lists.specs.LentLists.{item_field, front_number, front_field, after_field, whole_field, front_item, after_item, whole_item, front_items, whole_items, list_count, whole_list, list_items, read_list, first_item, every_item, some_item}
use Rattle.nlri.specs.Family.{family_bits}
use Rattle.nlri.specs.Groups.{multicast, source_specific, class_under}
use Rattle.groups.specs.Prefixes.{bit_at, same_bits, clear_bits, good_prefix, holds_group, read_prefixes}
use Rattle.groups.specs.Classes.{class_among, class_in, class_by}
use Rattle.groups.specs.Rules.ClassExamples.{ClassExamples}

pub class_examples : ClassExamples
unfolding pick both and_then part number_in item_field front_number front_field after_field whole_field front_item after_item whole_item front_items whole_items list_count whole_list list_items read_list first_item every_item some_item family_bits multicast source_specific class_under bit_at same_bits clear_bits good_prefix holds_group read_prefixes class_among class_in class_by
class_examples =
    record {
      held = refl;
      replaced = refl;
      every = refl;
      unicast = refl;
      high = refl;
      low = refl;
      overlapping = refl;
      second = refl;
      nine = refl;
      eight = refl;
      next = refl;
      last = refl;
      later = refl;
      most = refl;
      over = refl;
      other_size = refl;
      empty = refl;
      held6 = refl;
      replaced6 = refl;
    }
