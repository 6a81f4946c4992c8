-- The statements of `specs/Rules/CallAnswers.antt`, proved.
use Prim.Native.Nat.{ℕ, ◌+◌}
use mathlib.Core.Path.{◌≡◌, refl, sym, ◌∙◌, ap, subst}
use mathlib.Core.List.{List}
use mathlib.Core.Logic.{⊎_elim}
use native.Mathlib.Omega.{arith}
use lib.ListN.{length}
use Rattle.octets.specs.Outcome.{Outcome, given, refused, on_outcome, number_of}
use Rattle.octets.specs.Octets.{AllOctets}
use Rattle.octets.specs.Rules.Answering.{Answering}
use Rattle.octets.proofs.Answering.{answering}
use Rattle.nlri.specs.Fields.{Fields, encode_nlri}
use Rattle.nlri.specs.Layouts.{no_layout}
use Rattle.nlri.specs.Rules.NlriRules.{layout_for}
use Rattle.nlri.proofs.Definitions.Table.{known-least}
use Rattle.runs.specs.Walking.{read_to, ended_at, refused_at, step_from}
use Rattle.runs.specs.Rules.WalkRules.{EncodedAt, EndAt, StepRefusal}
use Rattle.runs.proofs.Theorems.{step_rule}
use Rattle.tunnel.specs.declared.Attribute.{Attribute}
use Rattle.tunnel.specs.Answers.{read_struct}
use Rattle.tunnel.specs.Rules.AttributeRules.{AttributeReadRefusal, long, short, bad_tunnel, bad_identifier}
use Rattle.tunnel.proofs.Theorems.{attribute_answer_rule}
use Rattle.mvpn.specs.declared.Stepped.{Stepped}
use Rattle.mvpn.specs.Answers.{step_answer, attribute_answer}
use Rattle.mvpn.specs.Rules.CallAnswers.{StepTold, an_nlri, the_end, StepUntold, AttributeTold, AttributeUntold, CallAnswers}

module _ (afi : ℕ) (run : List ℕ) (cursor : ℕ) where
  abbrev answer : Stepped
  answer = step_answer (step_from afi run cursor)

  -- the answer in each case of a step
  answer-read : (f : Fields) → EncodedAt afi run cursor f → answer ≡ record { cursor = cursor + length (encode_nlri f); number = 0; layout = layout_for f }
  unfolding step_answer read_to
  answer-read f n = ap step_answer (step_rule.reads afi run cursor f n)

  answer-end : EndAt afi run cursor → answer ≡ record { cursor = cursor; number = 0; layout = no_layout }
  unfolding step_answer ended_at
  answer-end h = ap step_answer ((step_rule.ends afi run cursor).1 h)

  -- what is told is DONE
  told-done : (a : Stepped) → StepTold afi run cursor a → a.number ≡ 0
  told-done a (an_nlri f n t) = refl
  told-done a (the_end h) = refl

  module _ (a : AllOctets run) where
    answer-refused : (n : ℕ) → StepRefusal afi run cursor n → answer ≡ record { cursor = cursor; number = n; layout = no_layout }
    unfolding step_answer refused_at
    answer-refused n why = ap step_answer ((step_rule.refuses afi run cursor n a).1 why)

    -- by the three cases: an NLRI, the run's end, a refusal
    by-case : {C : Type 0} → ((f : Fields) → EncodedAt afi run cursor f → C) → (EndAt afi run cursor → C) → ((n : ℕ) → StepRefusal afi run cursor n → C) → C
    by-case read end refuse = ⊎_elim (λ r. read r.0 r.1) (λ s. ⊎_elim end (λ r. refuse r.0 r.1) s) (step_rule.decided afi run cursor a)

    number-refused : (n : ℕ) → StepRefusal afi run cursor n → answer.number ≡ n
    number-refused n why = ap (λ (s : Stepped). s.number) (answer-refused n why)

    never_done : (n : ℕ) → StepRefusal afi run cursor n → n ≡ 0 → ⊥
    never_done n why e = step_rule.done afi run cursor (subst (StepRefusal afi run cursor) e why)

    told-read : (f : Fields) → EncodedAt afi run cursor f → StepTold afi run cursor answer
    told-read f n = subst (StepTold afi run cursor) (sym (answer-read f n)) (an_nlri f n (λ e. omega (arith, known-least f.type n.well_formed.encodable.typed)))

    told-end : EndAt afi run cursor → StepTold afi run cursor answer
    unfolding no_layout
    told-end h = subst (StepTold afi run cursor) (sym (answer-end h)) (the_end h)

    untold : (n : ℕ) → StepRefusal afi run cursor n → StepUntold cursor answer
    unfolding no_layout
    untold n why = record { layout = ap (λ (s : Stepped). s.layout) (answer-refused n why); given = ap (λ (s : Stepped). s.cursor) (answer-refused n why) }

    steps : Answering answer.number (StepRefusal afi run cursor) (StepTold afi run cursor answer) (StepUntold cursor answer)
    steps =
        record {
          refuses = λ n. (
            λ h.
                by-case (λ f r. absurd (h.1 (sym h.0 ∙ told-done answer (told-read f r)))) (λ end. absurd (h.1 (sym h.0 ∙ told-done answer (told-end end))))
                (λ m why. subst (StepRefusal afi run cursor) (sym (number-refused m why) ∙ h.0) why),
            λ why. (number-refused n why, never_done n why),
          );
          done = (λ e. by-case told-read told-end (λ n why. absurd (never_done n why (sym (number-refused n why) ∙ e))), told-done answer);
          empty = λ other. by-case (λ f r. absurd (other (told-done answer (told-read f r)))) (λ end. absurd (other (told-done answer (told-end end)))) untold;
        }

-- the number of an attribute's answer, and its other fields
attribute-number : (o : Outcome Attribute) → (attribute_answer o).number ≡ number_of o
unfolding attribute_answer on_outcome number_of
attribute-number (given a) = refl
attribute-number (refused n) = refl

attribute-not-done : (s : List ℕ) (n : ℕ) → AttributeReadRefusal s n → n ≡ 0 → ⊥
attribute-not-done s n (long h) e = omega arith
attribute-not-done s n (short h) e = omega arith
attribute-not-done s n (bad_tunnel sized u) e = omega arith
attribute-not-done s n (bad_identifier sized k o) e = omega arith

attribute-told : (s : List ℕ) (a : Attribute) → AllOctets s → read_struct s ≡ given a → AttributeTold s (attribute_answer (given a))
unfolding attribute_answer on_outcome
attribute-told s a octets e =
    record {
      attribute = a;
      answered = (attribute_answer_rule.accepted s a octets).0 e;
      flags = refl;
      tunnel_type = refl;
      label_field = refl;
      label = refl;
      leaf_information_required = refl;
      identifier = refl;
      fec = refl;
    }

attribute-untold : (n : ℕ) → AttributeUntold (attribute_answer (refused n))
unfolding attribute_answer on_outcome
attribute-untold n = record { flags = refl; tunnel_type = refl; label_field = refl; label = refl; leaf_information_required = refl; identifier = refl; fec = refl }

attributes : (s : List ℕ) → AllOctets s
    → Answering (attribute_answer (read_struct s)).number (AttributeReadRefusal s) (AttributeTold s (attribute_answer (read_struct s))) (AttributeUntold (attribute_answer (read_struct s)))
attributes s a =
    answering (read_struct s) _ (AttributeReadRefusal s) (attribute-number (read_struct s)) (λ n. attribute_answer_rule.exactly s n a) (λ why. attribute-not-done s 0 why refl) _ _
    (λ f e. subst (λ (o : Outcome Attribute). AttributeTold s (attribute_answer o)) (sym e) (attribute-told s f a e))
    (λ t. (t.attribute, (attribute_answer_rule.accepted s t.attribute a).1 t.answered))
    (λ n e. subst (λ (o : Outcome Attribute). AttributeUntold (attribute_answer o)) (sym e) (attribute-untold n))

pub call_answers : CallAnswers
call_answers = record { steps = steps; attributes = attributes }
