-- The premise of the claim on mixed calls can be met and is needed, by computation.
use Prim.Native.Nat.{ℕ}
use mathlib.Core.Path.{◌≡◌, refl, ap}
use native.Mathlib.Omega.{arith}
use Rattle.octets.specs.Numbers.{DONE, ROOM}
use Rattle.octets.specs.Choice.{pick, both, either}
use Rattle.octets.specs.Outcome.{on_outcome, and_then, number_of}
use Rattle.octets.specs.Octets.{part, number_in, big_endian}
use Rattle.octets.specs.Order.{same, before, zeros, all_zero}
use Rattle.nlri.specs.Family.{family_bits, allowed, is_originator_size}
use Rattle.nlri.specs.Bodies.{bodies, on_body, code_of, same_kind, field_in}
use Rattle.nlri.specs.Fields.{is_discarded}
use Rattle.nlri.specs.Reading.{fixed_field, address_end, address_field, originator_field, field_size, sizes_of, laid_with, laid_at, cut, fields_of, accepted, accepted_single, read_nlri}
use Rattle.tunnel.specs.Identifier.{identifier_forms, form_in, form_of, one_of, is_identifier, read_identifier}
use Rattle.tunnel.specs.Attribute.{label_of, fields_in, read_attribute}
use Rattle.octets.specs.Lists.{chosen}
use Rattle.routes.specs.Route.{nlri_of, attribute_of, lookup, is_held, holds, inserted, arranged}
use Rattle.routes.specs.Arguments.{read_s_pmsi, read_labelled, read_route}
use Rattle.routes.specs.Place.{mark_octet, place_of, end_in, route_in, acceptable, place_sound}
use Rattle.routes.specs.Table.{header_start, header_of, places_of, image_of, afi_in, count_in, places_in, routes_from, routes_of, table_size, header_sound, places_sound, sound_of}
use Rattle.routes.specs.Answers.{installed_of}
use Rattle.routes.specs.Calls.{make_outcome, make_of, entering, install_outcome, install_of}
use Rattle.routes.specs.Call.{Answer, installed, withdrawn, restarted, matched, originator_of, owner_of, owned_by, argued}
use Rattle.routes.specs.Book.{entered, act_answer, act_after, book_answer, book_after, fed, book_of, is_among, once_each, due_by, due_answer}
use Rattle.routes.specs.Run.{step_of, end_of, named_in, named_by}
use Rattle.routes.specs.Rules.MixedCalls.{any_source, one_install, two_installs, Premise}

-- the number in an answer
number_answered : Answer → ℕ
number_answered (installed i) = i.number
number_answered (withdrawn number) = number
number_answered (restarted r) = r.number
number_answered (matched m) = m.answer.number

pub premise : Premise
unfolding pick both either on_outcome and_then number_of part number_in big_endian same before zeros all_zero family_bits allowed is_originator_size bodies on_body code_of same_kind field_in fixed_field address_end address_field originator_field field_size sizes_of laid_with laid_at cut fields_of is_discarded accepted accepted_single read_nlri identifier_forms form_in form_of one_of is_identifier read_identifier label_of fields_in read_attribute nlri_of attribute_of lookup is_held holds inserted arranged read_s_pmsi read_labelled read_route mark_octet place_of end_in route_in acceptable place_sound header_start header_of places_of image_of afi_in count_in places_in routes_from routes_of table_size header_sound places_sound sound_of make_outcome make_of installed_of entering install_outcome install_of originator_of owner_of owned_by argued entered act_answer act_after book_answer book_after fed chosen book_of is_among once_each due_by due_answer step_of end_of named_in named_by any_source one_install two_installs number_answered
premise =
    record {
      made = refl;
      met = omega arith;
      made_smaller = refl;
      needed = λ e. let z : ◌≡◌ {A = ℕ} ROOM DONE = ap number_answered e in omega arith;
    }
