-- `matches::matching::ask` meets its contract.
use Rattle.octets.proofs.Refusals.{refusal_number-not_done}
use Rattle.places.proofs.Indexes.{header-within}
use Rattle.std.proofs.Common.{ℕ, refl, ap, ◌∙◌}
use native.Mathlib.Omega.{arith}
use Rattle.groups.specs.Classes.{class_by}
use Rattle.matches.proofs.Tiers.{class-opens}
use Rattle.matches.proofs.Matches.{told-sound, told-unsound, asked-refused, answers-unclassed, answers-missized, answers-space}
use Rattle.matches.proofs.matching.ask.Goals as goal

pub returns-in_err-check : goal.returns-in_err-check
returns-in_err-check c =
    asked-refused _ _ _ _ _ c.from_residual.ensures.1 (λ output l. told-unsound _ _ c.in_err-check.ensures (refusal_number-not_done _) _ output _ refl)

pub afi_of-requires : goal.afi_of-requires
afi_of-requires c = header-within _ (told-sound _ _ c.in_ok-check.ensures refl)

pub returns-in_err-class : goal.returns-in_err-class
returns-in_err-class c =
    asked-refused _ _ _ _ _ c.from_residual-in_err-class.ensures.1
    (λ output l. answers-unclassed _ _ (told-sound _ _ c.in_ok-check.ensures refl) _ c.afi_of.ensures.0 output _ c.in_err-class.ensures _ refl)

pub returns-in_err-check_sizes : goal.returns-in_err-check_sizes
returns-in_err-check_sizes c =
    asked-refused _ _ _ _ _ c.from_residual-in_err-check_sizes.ensures.1
    (λ output l. answers-missized _ _ (told-sound _ _ c.in_ok-check.ensures refl) _ c.afi_of.ensures.0 output _ c.in_ok-class.ensures _ c.in_err-check_sizes.ensures (refusal_number-not_done _) _ refl)

pub returns-then-room-lt-LEAST_OUTPUT : goal.returns-then-room-lt-LEAST_OUTPUT
returns-then-room-lt-LEAST_OUTPUT c output l =
    answers-space _ _ (told-sound _ _ c.in_ok-check.ensures refl) _ c.afi_of.ensures.0 output _ c.in_ok-class.ensures c.in_ok-check_sizes.ensures (omega (arith, c.if-room-lt-LEAST_OUTPUT.true)) _ refl

pub returns : goal.returns
returns c =
    record {
      class = _;
      sound = told-sound _ _ c.in_ok-check.ensures refl;
      classed = c.in_ok-class.ensures ∙ ap (λ (afi : ℕ). class_by afi c.args.flow.now.prefixes.now c.args.flow.now.group.now) c.afi_of.ensures.0;
      sized = c.in_ok-check_sizes.ensures;
      roomy = c.if-room-lt-LEAST_OUTPUT.false;
      its = refl;
      opens = class-opens _ _ c.of_class.ensures;
    }
