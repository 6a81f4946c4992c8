-- NLRIs of each route type, by computation.
use Rattle.std.proofs.Common.{refl}
use Rattle.octets.specs.Choice.{pick, both, either}
use Rattle.octets.specs.Outcome.{on_outcome, and_then, number_of}
use Rattle.octets.specs.Octets.{part, number_in, big_endian}
use Rattle.fec_elements.specs.Reading.{opaque_start, opaque_size, fec_size, fec_in, runs_out, must_fill, takes_family, family_suits, is_fec_type, length_fault, root_fault, family_fault, header_fault, opens, held_start, holds_fec, fec_with, opaque_fault, fec_fault, read_fec}
use Rattle.nlri.specs.Family.{family_bits, root_family, allowed, is_originator_size}
use Rattle.nlri.specs.Bodies.{bodies, keyable, on_body, body_of, code_of, same_kind, field_in, has_field}
use Rattle.nlri.specs.Groups.{source_specific, is_ssm}
use Rattle.nlri.specs.Fields.{encode_address, encode_field, encode_body, encode_nlri, is_discarded}
use Rattle.nlri.specs.Reading.{fixed_field, address_end, address_field, originator_field, field_size, sizes_of, laid_with, no_key, key_field, laid_at, cut, fields_of, accepted, accepted_single, read_nlri}
use Rattle.nlri.specs.Writing.{width_fits, widths_fit, fec_number, is_long, key_fits, keys_fit, write_nlri}
use Rattle.nlri.specs.Rules.NlriExamples.{NlriExamples}

pub nlri_examples : NlriExamples
unfolding pick both either on_outcome and_then number_of part number_in big_endian opaque_start opaque_size fec_size fec_in runs_out must_fill takes_family family_suits is_fec_type length_fault root_fault family_fault header_fault opens held_start holds_fec fec_with opaque_fault fec_fault read_fec family_bits root_family allowed is_originator_size bodies keyable on_body body_of code_of same_kind field_in has_field source_specific is_ssm encode_address encode_field encode_body encode_nlri is_discarded fixed_field address_end address_field originator_field field_size sizes_of laid_with no_key key_field laid_at cut fields_of accepted accepted_single read_nlri width_fits widths_fit fec_number is_long key_fits keys_fit write_nlri
nlri_examples =
    record {
      intra_as = refl;
      inter_as = refl;
      s_pmsi = refl;
      wildcards = refl;
      s_pmsi6 = refl;
      leaf = refl;
      shared_tree_join = refl;
      source_tree_join = refl;
      written_join = refl;
      kept = refl;
      held = refl;
      vpn = refl;
      deepest = refl;
      deeper = refl;
      misfit = refl;
      cut = refl;
      other_family = refl;
      mldp_leaf = refl;
      mldp_join = refl;
      unknown_type = refl;
      other_afi = refl;
      bad_key = refl;
    }
