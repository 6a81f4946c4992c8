-- Examples of runs in pieces (specs/Rules/PiecesExamples.antt), by computation.
use mathlib.Core.Path.{refl}
use Rattle.octets.specs.Choice.{pick, both, either}
use Rattle.octets.specs.Outcome.{on_outcome, and_then, number_of}
use Rattle.octets.specs.Octets.{part, placed, number_in}
use Rattle.nlri.specs.Family.{family_bits, allowed, is_originator_size}
use Rattle.nlri.specs.Bodies.{bodies, on_body, code_of, same_kind, field_in}
use Rattle.nlri.specs.Groups.{source_specific, is_ssm}
use Rattle.nlri.specs.Fields.{is_discarded}
use Rattle.nlri.specs.Reading.{fixed_field, address_end, address_field, originator_field, field_size, sizes_of, laid_with, laid_at, cut, fields_of, accepted, accepted_at}
use Rattle.nlri.specs.Layouts.{layout_of, layout_at}
use Rattle.runs.specs.Modes.{is_skipped}
use Rattle.pieces.specs.Feeding.{start_of, answer_at_end, over_of, size_in, wanted_of, share_of, number_under, judged_of, settled_of, taken_of, read_on_of, feed_of}
use Rattle.pieces.specs.Rules.PiecesExamples.{PiecesExamples}

pub pieces_examples : PiecesExamples
unfolding pick both either on_outcome and_then number_of part placed number_in family_bits allowed is_originator_size bodies on_body code_of same_kind field_in source_specific is_ssm is_discarded fixed_field address_end address_field originator_field field_size sizes_of laid_with laid_at cut fields_of accepted accepted_at layout_of layout_at is_skipped start_of answer_at_end over_of size_in wanted_of share_of number_under judged_of settled_of taken_of read_on_of feed_of
pieces_examples =
    record {
      started = refl;
      started_old = refl;
      in_header = refl;
      in_body = refl;
      first_whole = refl;
      rest = refl;
      nothing = refl;
      last_whole = refl;
      finished = refl;
      short = refl;
      repeated = refl;
      after_finish = refl;
      unknown = refl;
      unknown_old = refl;
      discarded = refl;
      discarded_old = refl;
      bad_length = refl;
      counted = refl;
      stop_left = refl;
      greatest = refl;
      most = refl;
      over = refl;
      void = refl;
      over_stopped = refl;
      long_again = refl;
      long_empty = refl;
      long_finished = refl;
      long_piece = refl;
      most_piece = refl;
      family = refl;
      family_fed = refl;
      family_finished = refl;
    }
