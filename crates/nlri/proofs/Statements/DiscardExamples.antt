-- GROUP at both ends of the standard range, by computation.
use Rattle.std.proofs.Common.{refl}
use Rattle.octets.specs.Choice.{pick, both, either}
use Rattle.octets.specs.Outcome.{on_outcome, and_then, number_of}
use Rattle.octets.specs.Octets.{part, number_in, big_endian}
use Rattle.nlri.specs.Family.{family_bits, allowed, is_originator_size}
use Rattle.nlri.specs.Bodies.{bodies, on_body, body_of, code_of, same_kind, field_in, has_field}
use Rattle.nlri.specs.Groups.{source_specific, is_ssm}
use Rattle.nlri.specs.Fields.{encode_address, encode_field, encode_body, encode_nlri, is_discarded}
use Rattle.nlri.specs.Reading.{fixed_field, address_end, address_field, originator_field, field_size, sizes_of, laid_with, laid_at, cut, fields_of, accepted, accepted_single, read_nlri}
use Rattle.nlri.specs.Writing.{width_fits, widths_fit, fec_number, is_long, key_fits, keys_fit, write_nlri}
use Rattle.nlri.specs.Rules.DiscardExamples.{DiscardExamples}

pub discard_examples : DiscardExamples
unfolding pick both either on_outcome and_then number_of part number_in big_endian family_bits allowed is_originator_size bodies on_body body_of code_of same_kind field_in has_field source_specific is_ssm encode_address encode_field encode_body encode_nlri is_discarded fixed_field address_end address_field originator_field field_size sizes_of laid_with laid_at cut fields_of accepted accepted_single read_nlri width_fits widths_fit fec_number is_long key_fits keys_fit write_nlri
discard_examples =
    record {
      below = refl;
      first = refl;
      last = refl;
      above = refl;
      unicast = refl;
      below6 = refl;
      first6 = refl;
      last6 = refl;
      above6 = refl;
      third6 = refl;
      next6 = refl;
      followed = refl;
      cut = refl;
      unfinished = refl;
      narrow = refl;
      shared_tree_join = refl;
      source_tree_join = refl;
      s_pmsi = refl;
      full = refl;
      roomy = refl;
      spaceless = refl;
      written = refl;
    }
