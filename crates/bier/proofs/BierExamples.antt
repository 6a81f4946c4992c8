-- Examples of bit strings (specs/Rules/BierExamples.antt), by computation.
use mathlib.Core.Path.{refl}
use Rattle.octets.specs.Choice.{pick, both, either}
use Rattle.octets.specs.Outcome.{on_outcome, and_then, number_of}
use Rattle.octets.specs.Outputs.{output_of}
use Rattle.octets.specs.Octets.{part, front, number_in}
use Rattle.octets.specs.Order.{same, zeros}
use Rattle.lists.specs.LentLists.{item_field, front_number, front_field, after_field, whole_field, front_item, after_item, whole_item, front_items, whole_items, list_count, whole_list, list_items, read_list}
use Rattle.nlri.specs.Family.{family_bits, allowed, is_originator_size}
use Rattle.nlri.specs.Bodies.{keyable, bodies, on_body, code_of, same_kind, field_in}
use Rattle.nlri.specs.Fields.{is_discarded}
use Rattle.nlri.specs.Reading.{fixed_field, address_end, address_field, originator_field, field_size, sizes_of, laid_with, no_key, key_field, laid_at, cut, fields_of, accepted, accepted_single, read_nlri}
use Rattle.tunnel.specs.Identifier.{identifier_forms, form_in, form_of, one_of, is_identifier, read_identifier}
use Rattle.tunnel.specs.Attribute.{label_of, fields_in, read_attribute}
use Rattle.tunnel.specs.Bier.{bier_in}
use Rattle.routes.specs.Arguments.{read_s_pmsi, read_labelled, read_route}
use Rattle.bier.specs.BitStrings.{set_of, position_of, is_of_set, octet_of, with_bit, with_id, with_ids, string_of, ones_of}
use Rattle.bier.specs.LeafRoutes.{read_leaf, read_leaves, read_leaf_list, bfr_id_in, counting_id, counting_ids}
use Rattle.bier.specs.BierString.{read_bier_route, with_room, bier_string, egress_by, egress_of}
use Rattle.bier.specs.Rules.BierExamples.{wildcard_nlri, tunnel_of, leaf_of, nine_leaves, BierExamples}
use lib.Count.{ones}

pub bier_examples : BierExamples
unfolding pick both either on_outcome and_then number_of output_of part front number_in same zeros item_field front_number front_field after_field whole_field front_item after_item whole_item front_items whole_items list_count whole_list list_items read_list family_bits allowed is_originator_size keyable bodies on_body code_of same_kind field_in is_discarded fixed_field address_end address_field originator_field field_size sizes_of laid_with no_key key_field laid_at cut fields_of accepted accepted_single read_nlri identifier_forms form_in form_of one_of is_identifier read_identifier label_of fields_in read_attribute bier_in read_s_pmsi read_labelled read_route set_of position_of is_of_set octet_of with_bit with_id with_ids string_of ones_of read_leaf read_leaves read_leaf_list bfr_id_in counting_id counting_ids read_bier_route with_room bier_string egress_by egress_of wildcard_nlri tunnel_of leaf_of nine_leaves ones
bier_examples =
    record {
      first = refl;
      second = refl;
      none = refl;
      zero = refl;
      no_space = refl;
      long = refl;
      short = refl;
      kind = refl;
      tunnel = refl;
      label = refl;
      other = refl;
    }
