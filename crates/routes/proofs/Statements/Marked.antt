-- Examples by computation: P1 to P12, what changes of a table disturb, reasons, and matches for a shared tree.
use mathlib.Core.Path.{refl}
use Rattle.octets.specs.Choice.{pick, both, either}
use Rattle.octets.specs.Outcome.{on_outcome, and_then, number_of}
use Rattle.octets.specs.Octets.{part, front, number_in, big_endian}
use Rattle.octets.specs.Order.{same, before, zeros, all_zero}
use Rattle.nlri.specs.Family.{family_bits, allowed, is_originator_size}
use Rattle.nlri.specs.Bodies.{bodies, on_body, code_of, same_kind, field_in}
use Rattle.nlri.specs.Fields.{is_discarded}
use Rattle.nlri.specs.Reading.{fixed_field, address_end, address_field, originator_field, field_size, sizes_of, laid_with, laid_at, cut, fields_of, accepted, accepted_single, read_nlri}
use Rattle.nlri.specs.Groups.{multicast, source_specific, is_ssm, class_under, class_of, group_of}
use Rattle.fec_elements.specs.Reading.{opaque_start, opaque_size, fec_size, runs_out, must_fill, takes_family, family_suits, length_fault, root_fault, family_fault, whole_fec}
use Rattle.tunnel.specs.Identifier.{identifier_forms, form_in, form_of, one_of, is_identifier, read_identifier}
use Rattle.tunnel.specs.Attribute.{label_of, fields_in, read_attribute}
use Rattle.lists.specs.LentLists.{item_field, front_number, front_field, after_field, whole_field, front_item, after_item, whole_item, front_items, whole_items, list_count, whole_list, list_items, read_list, first_item, every_item, some_item}
use Rattle.groups.specs.Prefixes.{bit_at, same_bits, clear_bits, good_prefix, holds_group, read_prefixes}
use Rattle.groups.specs.Classes.{class_among, class_in, class_by}
use Rattle.routes.specs.Place.{mark_octet, place_of, end_in, route_in, acceptable, place_sound}
use Rattle.routes.specs.Table.{header_start, header_of, places_of, image_of, afi_in, count_in, places_in, routes_from, routes_of, table_size, header_sound, places_sound, sound_of}
use Rattle.routes.specs.Route.{nlri_of, attribute_of, stale_of, lookup, is_held, holds, inserted, removed}
use Rattle.routes.specs.Query.{meets, tiers_of, flow_query}
use Rattle.routes.specs.Arguments.{read_s_pmsi, read_labelled, read_route, read_flow, read_match}
use Rattle.routes.specs.Asked.{read_asked}
use Rattle.routes.specs.SharedTree.{originator_sized, state_sized, read_source_active, source_active_fault, judged_tree, is_state, lacks_state, condition_holds, tree_query, read_tree}
use Rattle.routes.specs.Restart.{mark_left, renewed, gone_of, read_router}
use Rattle.routes.specs.Matching.{of_fields, names_tunnel, candidate, eligible, distinguisher_of, lower, lowest_in, or_else, first_of, match_in}
use Rattle.routes.specs.Answers.{installed_of, restarted_of, found_answer, found_output, matched_by}
use Rattle.routes.specs.Calls.{make_outcome, make_of, entering, install_outcome, install_of, leaving, withdraw_outcome, withdraw_of, restart_outcome, restart_of, match_outcome, match_of}
use Rattle.routes.specs.Rules.Examples.{empty_table, after_installs, some_table, MarkedExamples}
use Rattle.routes.specs.Reasons.{reason_of, reasons_of, explained, explain_of}
use Rattle.routes.specs.Rules.DisturbanceRule.{DisturbanceExamples}
use Rattle.routes.specs.Rules.ReasonExamples.{ReasonExamples}
use Rattle.routes.specs.Rules.SharedTreeExamples.{SharedTreeExamples}

computed : MarkedExamples × DisturbanceExamples × ReasonExamples × SharedTreeExamples
unfolding some_table empty_table after_installs pick both either on_outcome and_then number_of part front number_in big_endian same before zeros all_zero family_bits allowed is_originator_size bodies on_body code_of same_kind field_in fixed_field address_end address_field originator_field field_size sizes_of laid_with laid_at cut fields_of is_discarded accepted accepted_single read_nlri opaque_start opaque_size fec_size runs_out must_fill takes_family family_suits length_fault root_fault family_fault whole_fec identifier_forms form_in form_of one_of is_identifier read_identifier label_of fields_in read_attribute nlri_of attribute_of lookup is_held holds inserted read_s_pmsi read_labelled read_route mark_octet place_of end_in route_in acceptable place_sound header_start header_of places_of image_of afi_in count_in places_in routes_from routes_of table_size header_sound places_sound sound_of make_outcome make_of installed_of entering install_outcome install_of multicast source_specific is_ssm class_under class_of item_field front_number front_field after_field whole_field front_item after_item whole_item front_items whole_items list_count whole_list list_items read_list first_item every_item some_item bit_at same_bits clear_bits good_prefix holds_group read_prefixes class_among class_in class_by read_flow read_match read_asked tiers_of flow_query meets of_fields names_tunnel candidate eligible distinguisher_of lower lowest_in or_else first_of match_in found_answer found_output matched_by match_outcome match_of leaving withdraw_outcome withdraw_of removed mark_left renewed gone_of read_router stale_of restarted_of restart_outcome restart_of originator_sized state_sized read_source_active source_active_fault judged_tree is_state lacks_state condition_holds tree_query read_tree group_of reason_of reasons_of explained explain_of
computed = (
  record { all = (refl, (refl, (refl, (refl, (refl, (refl, (refl, (refl, (refl, (refl, (refl, (refl, (refl, (refl, (refl, (refl, (refl, (refl, (refl, tt))))))))))))))))))) },
  record {
    flow = refl;
    tree = refl;
    gone = refl;
    tree_gone = refl;
    left = refl;
    replaced = refl;
    tunnelless = refl;
    become = refl;
    marked = refl;
    swept = refl;
    again = refl;
    never = refl;
  },
  record {
    exact = refl;
    any_group = refl;
    any_source = refl;
    any_ssm = refl;
    any_asm = refl;
    none_ssm = refl;
    none_asm = refl;
    tunnelless_a = refl;
    tunnelless_c = refl;
    tunnelless_d = refl;
    prefixed_ssm = refl;
    prefixed_asm = refl;
    table = refl;
    range = refl;
    short = refl;
    flow = refl;
    space = refl;
    space_unmatched = refl;
  },
  record {
    no_condition = refl;
    is_upstream = refl;
    is_without_state = refl;
    is_bidirectional = refl;
    is_unused = refl;
    wildcard_no_condition = refl;
    wildcard_upstream = refl;
    wildcard_without_state = refl;
    wildcard_bidirectional = refl;
    wildcard_unused = refl;
    with_state = refl;
    other_source = refl;
    other_group = refl;
    both_states = refl;
    one_state = refl;
    other_originator = refl;
    active_elsewhere = refl;
    other_rd = refl;
    other_router = refl;
    ssm = refl;
    prefixed_ssm = refl;
    prefixed_asm = refl;
    tunnelless = refl;
    lowest_rd = refl;
    table = refl;
    range = refl;
    long_actives = refl;
    long_states = refl;
    short_actives = refl;
    short_states = refl;
    router = refl;
    unicast = refl;
    group_size = refl;
    originator_size = refl;
    state_source = refl;
    state_group = refl;
    unread = refl;
    kind = refl;
    following = refl;
    discarded = refl;
    space = refl;
    space_untold = refl;
  },
)

pub marked_examples : MarkedExamples
marked_examples = computed.0

pub disturbance_examples : DisturbanceExamples
disturbance_examples = computed.1

pub reason_examples : ReasonExamples
reason_examples = computed.2

pub shared_tree_examples : SharedTreeExamples
shared_tree_examples = computed.3
