-- Laws of `Answering`, and what is stated of `Wrote`.
use Prim.Native.Nat.{ℕ}
use mathlib.Core.Path.{◌≡◌, sym, ap, subst, ◌∙◌}
use mathlib.Core.List.{List}
use mathlib.Core.Logic.{◌↔◌, ◌≢◌, ⊎_elim}
use lib.ListN.{length, get_or, take}
use Rattle.octets.specs.declared.Written.{Written}
use Rattle.octets.specs.Outcome.{Outcome, given, refused, on_outcome, number_of}
use Rattle.octets.specs.Outputs.{written_of, output_of}
use Rattle.octets.specs.Rules.Answering.{Answering, WroteRule}
use Rattle.octets.proofs.Outcome.{outcome, number-given, number-refused, refused-of, done-given}
use Rattle.octets.proofs.Lists.{length_front, take-front, past-front}

-- the number of an outcome whose refusals are these
module _ {A : Type 0} (o : Outcome A) (number : ℕ) (Refusal : ℕ → Type 0) (is : number ≡ number_of o) (exactly : (n : ℕ) → (o ≡ refused n) ↔ Refusal n) (never : Refusal 0 → ⊥) where
  refuses-answering : (n : ℕ) → ((number ≡ n) × (n ≢ 0)) ↔ Refusal n
  refuses-answering n =
      (λ h. (exactly n).0 (refused-of o n (sym h.0 ∙ is) h.1), λ why. (is ∙ number-refused ((exactly n).1 why), λ e. never (subst Refusal e why)))

  pub answering : (Done Empty : Type 0) → ((a : A) → o ≡ given a → Done) → (Done → (a : A) × (o ≡ given a)) → ((n : ℕ) → o ≡ refused n → Empty) → Answering number Refusal Done Empty
  answering Done Empty good made bad =
      record {
        refuses = refuses-answering;
        done = (
          λ e. let g = done-given o (λ n q z. never (subst Refusal z ((exactly n).0 q))) (sym is ∙ e) in good g.0 g.1,
          λ d. is ∙ number-given (made d).1,
        );
        empty = λ other. ⊎_elim (λ g. absurd (other (is ∙ number-given g.1))) (λ r. bad r.0 r.1) (outcome o);
      }

pub wrote_rule : WroteRule
unfolding written_of output_of on_outcome number_of
wrote_rule =
    record {
      done = λ e d answer after room w. (
        ap (λ (a : Written). a.number) w.0,
        record {
          size = ap (λ (a : Written). a.size) w.0;
          room = room;
          kept = ap length w.1 ∙ length_front e d room;
          front = ap (take (length e)) w.1 ∙ take-front e d;
          past = λ i h. ap (λ (l : List ℕ). get_or l i 0) w.1 ∙ past-front e d i h;
        },
      );
      refuses = λ n d answer after w. (ap (λ (a : Written). a.number) w.0, record { size = ap (λ (a : Written). a.size) w.0; untouched = w.1 });
    }
