-- A Source Active route that is discarded, where it stands in a run (document 02, W-210).
use mathlib.Core.Path.{◌≡◌, refl, sym, ◌∙◌, ap, subst}
use mathlib.Core.Bool.{true, false}
use mathlib.Core.List.{List}
use mathlib.Core.Logic.{inl, inr}
use Prim.Native.Nat.{ℕ, ◌+◌, ◌-◌}
use native.Mathlib.Omega.{arith}
use lib.ListN.{length, get_or, drop, length-append, length-drop}
use lib.Seq.{get_or-drop}
use Rattle.octets.specs.Numbers.{GROUP}
use Rattle.octets.specs.Choice.{pick, both, either}
use Rattle.octets.specs.Outcome.{on_outcome, and_then}
use Rattle.octets.specs.Octets.{AllOctets, part}
use Rattle.octets.proofs.AllOctets.{octets-drop}
use Rattle.nlri.specs.Family.{family_bits, allowed, is_originator_size}
use Rattle.nlri.specs.Bodies.{bodies, on_body, code_of, same_kind, field_in}
use Rattle.nlri.specs.Groups.{source_specific, is_ssm}
use Rattle.nlri.specs.Fields.{encode_nlri, is_discarded}
use Rattle.nlri.specs.Reading.{fixed_field, address_end, address_field, originator_field, field_size, sizes_of, laid_with, laid_at, cut, fields_of, accepted, accepted_at}
use Rattle.nlri.specs.Layouts.{layout_of, layout_at, no_layout}
use Rattle.nlri.specs.Rules.NlriRules.{FrontRefusal}
use Rattle.nlri.proofs.Statements.Discards.{discard_rule}
use Rattle.nlri.proofs.Statements.ReadRefusals.{read_refusals}
use Rattle.nlri.proofs.Statements.Layouts.{length-encoded}
use Rattle.runs.specs.Walking.{read_to, ended_at, refused_at, step_under, step_from}
use Rattle.runs.specs.Rules.WalkRules.{StepRefusal, bad_family, long, past, front}
use Rattle.runs.specs.Modes.{is_skipped, turn_from, on_turn, walk_by_from, walk_by, nlris_by_from, nlris_by}
use Rattle.runs.specs.Rules.DiscardWalkRule.{DiscardedAt, DiscardWalkRule, DiscardWalkExamples}
use Rattle.runs.proofs.StepRule.{step_rule}
use Rattle.runs.proofs.TurnRule.{turn_rule}

module _ (afi : ℕ) (run : List ℕ) (at : ℕ) (a : AllOctets run) where
  -- a refusal with GROUP is by such a route
  by-group : (n : ℕ) → StepRefusal afi run at n → n ≡ GROUP → DiscardedAt afi run at
  by-group n (bad_family one two) e = absurd (omega arith)
  by-group n (long bits of_family h) e = absurd (omega arith)
  by-group n (past bits of_family few far) e = absurd (omega arith)
  by-group n (front bits of_family few before why) e =
      let r = (discard_rule.front afi bits (drop at run) of_family (octets-drop at a)).0 ((read_refusals.front afi bits (drop at run) GROUP of_family (octets-drop at a)).1 (subst (FrontRefusal bits (drop at run)) e why)) in
      record { short = few; fields = r.0; discarded = r.2; after = r.1; is = r.3 }

  module _ (d : DiscardedAt afi run at) where
    -- it lies within the run, by its Length
    size : length (encode_nlri d.fields) + length d.after ≡ length run - at
    size = sym (length-append (encode_nlri d.fields) d.after) ∙ ap length (sym d.is) ∙ length-drop at run

    refusal : StepRefusal afi run at GROUP
    refusal =
        let f = d.discarded in
        front f.bits f.of_family d.short (omega (arith, size, length-encoded d.fields))
        ((read_refusals.front afi f.bits (drop at run) GROUP f.of_family (octets-drop at a)).0 ((discard_rule.front afi f.bits (drop at run) f.of_family (octets-drop at a)).1 (d.fields, d.after, f, d.is)))

    past-it : 2 + get_or run (at + 1) 0 ≡ length (encode_nlri d.fields)
    unfolding encode_nlri
    past-it = omega (arith, get_or-drop at run 1 0, ap (λ (x : List ℕ). get_or x 1 0) d.is)

pub discard_walk_rule : DiscardWalkRule
discard_walk_rule =
    record {
      steps = λ afi run at a. (
        λ e. by-group afi run at a GROUP ((step_rule.refuses afi run at GROUP a).0 e) refl,
        λ d. (step_rule.refuses afi run at GROUP a).1 (refusal afi run at a d),
      );
      skips = λ afi run at a d.
          turn_rule.skips afi run at GROUP a (refusal afi run at a d) (inr refl)
          ∙ ap (λ (n : ℕ). record { number = 0; read = false; skipped = true; layout = no_layout; cursor = at + n }) (past-it afi run at a d);
      stops = λ afi mode run at other a d. turn_rule.stops afi mode run at GROUP a (refusal afi run at a d) (inl other);
    }

pub discard_walk_examples : DiscardWalkExamples
unfolding pick both either on_outcome and_then part family_bits allowed is_originator_size bodies on_body code_of same_kind field_in source_specific is_ssm is_discarded fixed_field address_end address_field originator_field field_size sizes_of laid_with laid_at cut fields_of accepted accepted_at layout_of layout_at read_to ended_at refused_at step_under step_from is_skipped turn_from on_turn walk_by_from walk_by nlris_by_from nlris_by
discard_walk_examples = record { skipping = refl; read = refl; old = refl; later = refl }
