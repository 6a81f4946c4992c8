-- The numbers of refusals (specs/Rules/RefusalsRule.antt), by computation, and that they tell judgements apart.
use Rattle.std.proofs.Common.{◌≡◌, Result, Ok, Err, refl, sym, ap}
use Rattle.octets.specs.declared.refusal.Refusal.{Refusal}
use Rattle.octets.specs.Refusals.{result_number}
use Rattle.octets.specs.Rules.RefusalsRule.{RefusalsRule}
use Rattle.octets.proofs.Refusals.{refusal_number-not_done, refusal_number-apart}

judgements-apart : (a b : Result (Unit {0}) Refusal) → result_number a ≡ result_number b → a ≡ b
judgements-apart (Ok x) (Ok y) e = refl
judgements-apart (Ok x) (Err s) e = absurd (refusal_number-not_done s (sym e))
judgements-apart (Err r) (Ok y) e = absurd (refusal_number-not_done r e)
judgements-apart (Err r) (Err s) e = ap Err (refusal_number-apart r s e)

pub refusals_rule : RefusalsRule
refusals_rule =
    record {
      short = refl;
      type = refl;
      length = refl;
      width = refl;
      key = refl;
      tunnel = refl;
      ident = refl;
      long = refl;
      label = refl;
      family = refl;
      table = refl;
      kind = refl;
      room = refl;
      absent = refl;
      flow = refl;
      space = refl;
      deep = refl;
      range = refl;
      group = refl;
      conflict = refl;
      apart = judgements-apart;
    }
