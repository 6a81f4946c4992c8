-- Examples of plans and of their judging (specs/Rules/PlanExamples.antt), by computation.
use mathlib.Core.Path.{refl}
use Rattle.octets.specs.Choice.{pick, both, either}
use Rattle.octets.specs.Outcome.{on_outcome, and_then, number_of}
use Rattle.octets.specs.Octets.{part, front, number_in}
use Rattle.octets.specs.Order.{same, before, zeros, all_zero}
use Rattle.lists.specs.LentLists.{item_field, front_number, front_field, after_field, whole_field, front_item, after_item, whole_item, front_items, whole_items, list_count, whole_list, list_items, read_list, first_item, every_item, some_item}
use Rattle.nlri.specs.Family.{family_bits, allowed, is_originator_size}
use Rattle.nlri.specs.Bodies.{bodies, on_body, body_of, code_of, same_kind, field_in}
use Rattle.nlri.specs.Groups.{multicast, source_specific, class_under}
use Rattle.nlri.specs.Fields.{encode_address, encode_field, encode_body, encode_nlri, is_discarded}
use Rattle.nlri.specs.Reading.{fixed_field, address_end, address_field, originator_field, field_size, sizes_of, laid_with, laid_at, cut, fields_of, accepted, accepted_single, read_nlri}
use Rattle.tunnel.specs.Identifier.{identifier_forms, form_in, form_of, one_of, is_identifier, read_identifier}
use Rattle.tunnel.specs.Attribute.{label_of, fields_in, read_attribute}
use Rattle.groups.specs.Prefixes.{read_prefixes}
use Rattle.groups.specs.Classes.{class_among, class_in, prefixes_under}
use Rattle.routes.specs.Route.{nlri_of, attribute_of, lookup, is_held, holds}
use Rattle.routes.specs.Query.{meets, tiers_of, flow_query}
use Rattle.routes.specs.Arguments.{read_s_pmsi, read_labelled, read_route, read_flow}
use Rattle.routes.specs.Place.{mark_octet, place_of, end_in, route_in, acceptable, place_sound}
use Rattle.routes.specs.Table.{places_of, routes_from}
use Rattle.routes.specs.Matching.{of_fields, names_tunnel, candidate, eligible, distinguisher_of, lower, lowest_in, or_else, first_of, match_in}
use Rattle.plan.specs.Flows.{flow_in, flows_in, same_flow, is_listed, different}
use Rattle.plan.specs.Commonest.{wanting, others, is_wanted, leading, commonest}
use Rattle.plan.specs.Judging.{is_own, all_own, no_repeat, gives, matched, serves, all_served, accepts, sound_places, accepts_places}
use Rattle.plan.specs.Planning.{fields_for, route_for, routes_for, wildcard_flow, planned, proposal}
use Rattle.plan.specs.Refusing.{or_next, first_flow_fault, vrf_fault, flow_fault, attribute_fault, label_fault, type_fault, clashes, conflicts, attributes_fault, flows_fault, read_flows}
use Rattle.plan.specs.Calls.{judge_outcome, judged_by, judge_of, plan_outcome, planned_by, plan_of}
use Rattle.plan.specs.Rules.PlanExamples.{PlanExamples}

pub plan_examples : PlanExamples
unfolding pick both either on_outcome and_then number_of part front number_in same before zeros all_zero item_field front_number front_field after_field whole_field front_item after_item whole_item front_items whole_items list_count whole_list list_items read_list first_item every_item some_item family_bits allowed is_originator_size bodies on_body body_of code_of same_kind field_in multicast source_specific class_under encode_address encode_field encode_body encode_nlri is_discarded fixed_field address_end address_field originator_field field_size sizes_of laid_with laid_at cut fields_of accepted accepted_single read_nlri identifier_forms form_in form_of one_of is_identifier read_identifier label_of fields_in read_attribute read_prefixes class_among class_in prefixes_under nlri_of attribute_of lookup is_held holds meets tiers_of flow_query read_s_pmsi read_labelled read_route read_flow mark_octet place_of end_in route_in acceptable place_sound places_of routes_from of_fields names_tunnel candidate eligible distinguisher_of lower lowest_in or_else first_of match_in flow_in flows_in same_flow is_listed different wanting others is_wanted leading commonest is_own all_own no_repeat gives matched serves all_served accepts sound_places accepts_places fields_for route_for routes_for wildcard_flow planned proposal or_next first_flow_fault vrf_fault flow_fault attribute_fault label_fault type_fault clashes conflicts attributes_fault flows_fault read_flows judge_outcome judged_by judge_of plan_outcome planned_by plan_of
plan_examples =
    record {
      plan = refl;
      none = refl;
      twice = refl;
      counted_once = refl;
      accepted = refl;
      turned = refl;
      marked = refl;
      none_asked = refl;
      other_tunnel = refl;
      other_rd = refl;
      other_originator = refl;
      bad_mark = refl;
      first_missing = refl;
      last_missing = refl;
      first_twice = refl;
      last_twice = refl;
      cut_place = refl;
      zero_place = refl;
      family = refl;
      range = refl;
      long = refl;
      short = refl;
      empty = refl;
      long_places = refl;
      originator = refl;
      rd = refl;
      source = refl;
      group = refl;
      unread = refl;
      label = refl;
      tunnel = refl;
      conflict = refl;
      conflict_judged = refl;
      space = refl;
    }
