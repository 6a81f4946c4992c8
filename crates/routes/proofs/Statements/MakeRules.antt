-- Making a table (specs/Rules/CallRules.antt, `MakeRule`).
use Prim.Native.Nat.{ℕ}
use mathlib.Core.Path.{◌≡◌, refl, sym, ap, subst, ◌∙◌}
use mathlib.Core.Bool.{true}
use mathlib.Core.Logic.{◌≢◌, ⊎_elim}
use mathlib.Core.List.{List, []}
use native.Mathlib.Omega.{arith}
use lib.ListN.{length}
use Rattle.octets.specs.Numbers.{DONE}
use Rattle.octets.specs.Outcome.{Outcome, given, refused, on_outcome, number_of}
use Rattle.octets.proofs.Choice.{opposite, pick_true, pick-false, is_false}
use Rattle.octets.proofs.Outcome.{and-goes-on, and-stops, refused-of, number-refused, number-given, done-given}
use Rattle.nlri.proofs.Definitions.Families.{family-refuses}
use Rattle.nlri.proofs.Definitions.Lengths.{family-good}
use Rattle.routes.specs.Place.{none}
use Rattle.routes.specs.Route.{last}
use Rattle.routes.specs.Table.{image_of, places_in, table_size}
use Rattle.routes.specs.Calls.{make_outcome, make_of}
use Rattle.routes.specs.Rules.ArgumentRules.{KnownFamily}
use Rattle.routes.specs.Rules.SoundRule.{TableSize}
use Rattle.routes.specs.Rules.Images.{Holdable, TableOf}
use Rattle.routes.specs.Rules.CallRules.{MakeRefusal, no_family, bad_size, MakeRule}
use Rattle.routes.proofs.Definitions.Headers.{size-sound, sound-size}
use Rattle.routes.proofs.Statements.Images.{images, make-given, make-refused, length-image}

-- a table's size, as it is tested
pub size_is : (memory : List ℕ) → table_size (length memory) ≡ true → TableSize (length memory)
size_is memory h = let s = sound-size memory h in record { places = places_in memory; most = s.most; is = s.is }

pub size-tested : (size : ℕ) → TableSize size → table_size size ≡ true
size-tested size s = size-sound size s.places s.is s.most

-- no routes are what any table can hold
holdable-none : (afi : ℕ) (memory : List ℕ) → KnownFamily afi → table_size (length memory) ≡ true → Holdable afi (places_in memory) []
holdable-none afi memory f h = record { family = f; most = (sound-size memory h).most; within = omega arith; acceptable = none; increasing = last }

module _ (afi : ℕ) (memory : List ℕ) where
  refusal : (n : ℕ) → make_outcome afi memory ≡ refused n → MakeRefusal afi memory n
  refusal n e =
      ⊎_elim (λ bits. subst (MakeRefusal afi memory) (sym bits.0) (no_family bits.1 bits.2))
      (λ size. subst (MakeRefusal afi memory) (sym size.0) (bad_size size.1 (λ s. opposite (size-tested (length memory) s) size.2)))
      (make-refused afi memory n e)

  refuses : {n : ℕ} → MakeRefusal afi memory n → make_outcome afi memory ≡ refused n
  unfolding make_outcome
  refuses (no_family one two) = sym (and-stops _ _ _ (family-refuses afi one two))
  refuses (bad_size f h) = sym (and-goes-on _ _ _ _ (family-good afi f).1 (sym (pick-false _ _ _ (is_false _ (λ t. h (size_is memory t))))))

  not_done : {n : ℕ} → MakeRefusal afi memory n → n ≢ DONE
  not_done (no_family one two) e = omega arith
  not_done (bad_size f h) e = omega arith

  made-given : (make_of afi memory).answer ≡ DONE → (octets : List ℕ) × (make_outcome afi memory ≡ given octets)
  unfolding make_of
  made-given e = done-given _ (λ n r. not_done (refusal n r)) e

  gives : KnownFamily afi × TableSize (length memory) → make_outcome afi memory ≡ given (image_of afi (places_in memory) [])
  unfolding make_outcome
  gives h = sym (and-goes-on _ _ _ _ (family-good afi h.0).1 (sym (pick_true _ _ _ (size-tested (length memory) h.1))))

  pub made-holdable : (make_of afi memory).answer ≡ DONE → Holdable afi (places_in memory) []
  made-holdable e = let p = made-given e in let q = make-given afi memory p.0 p.1 in holdable-none afi memory q.0 q.1

  made-size : length (make_of afi memory).octets ≡ length memory
  unfolding make_of on_outcome
  made-size = go (make_outcome afi memory) refl
    where
      go : (o : Outcome (List ℕ)) → make_outcome afi memory ≡ o → length (on_outcome (λ number. memory) (λ octets. octets) o) ≡ length memory
      go (refused n) e = refl
      go (given octets) e =
          let p = make-given afi memory octets e in
          ap length p.2 ∙ length-image afi (places_in memory) [] (holdable-none afi memory p.0 p.1) ∙ sym (sound-size memory p.1).is

  made-untouched : (make_of afi memory).answer ≢ DONE → (make_of afi memory).octets ≡ memory
  unfolding make_of number_of on_outcome
  made-untouched = go (make_outcome afi memory)
    where
      go : (o : Outcome (List ℕ)) → number_of o ≢ DONE → on_outcome (λ number. memory) (λ octets. octets) o ≡ memory
      go (refused n) h = refl
      go (given octets) h = absurd (h refl)

  number : (make_of afi memory).answer ≡ number_of (make_outcome afi memory)
  unfolding make_of
  number = refl

pub make_rule : MakeRule
make_rule =
    record {
      refuses = λ afi memory n h. (λ e. refusal afi memory n (refused-of _ n (sym e ∙ number afi memory) h), λ r. number afi memory ∙ number-refused (refuses afi memory r));
      done = λ afi memory. (
        λ e. let p = made-given afi memory e in let q = make-given afi memory p.0 p.1 in (q.0, size_is memory q.1),
        λ h. number afi memory ∙ number-given (gives afi memory h),
      );
      made = λ afi memory e. subst (TableOf afi (places_in memory) []) (sym (images.made afi memory e)) (images.imaged afi (places_in memory) [] (made-holdable afi memory e));
      size = made-size;
      untouched = made-untouched;
    }
