-- Info (specs/Rules/InfoRule.antt).
use Prim.Native.Nat.{ℕ, ◌+◌, ◌*◌, ◌≤◌}
use mathlib.Core.Path.{◌≡◌, sym, ◌∙◌, ap}
use mathlib.Core.Bool.{true, false}
use mathlib.Core.List.{List, []}
use mathlib.Core.Logic.{◌≢◌}
use native.Mathlib.Omega.{arith}
use lib.ListN.{length, replicate}
use lib.Seq.{take_all}
use Rattle.octets.specs.Numbers.{DONE, TABLE}
use Rattle.octets.proofs.Choice.{pick_true, pick-false, tested}
use Rattle.routes.specs.declared.TableFacts.{TableFacts}
use Rattle.routes.specs.Route.{Route}
use Rattle.routes.specs.Table.{afi_in, places_in, routes_of, sound_of}
use Rattle.routes.specs.Rules.Images.{TableOf}
use Rattle.routes.specs.Info.{empty_info, info_of}
use Rattle.routes.specs.Rules.NextRule.{told_in_turn}
use Rattle.routes.specs.Rules.InfoRule.{InfoRule}
use Rattle.routes.proofs.Statements.Images.{sound}
use Rattle.routes.proofs.Statements.InTurn.{in_turn_rule}

module _ (t : List ℕ) where
  given : sound_of t ≡ true → info_of t ≡ record { number = DONE; afi = afi_in t; places = places_in t; routes = length (routes_of t) }
  unfolding info_of
  given s = pick_true _ _ _ s

  empty : sound_of t ≡ false → info_of t ≡ empty_info TABLE
  unfolding info_of
  empty h = pick-false _ _ _ h

  number-given : sound_of t ≡ true → (info_of t).number ≡ DONE
  number-given s = ap (λ (i : TableFacts). i.number) (given s)

  number-empty : sound_of t ≡ false → (info_of t).number ≡ TABLE
  number-empty h = ap (λ (i : TableFacts). i.number) (empty h)

  refusal : (n : ℕ) → n ≢ DONE → (info_of t).number ≡ n → (sound_of t ≡ false) × (n ≡ TABLE)
  refusal n other e = tested (sound_of t) (λ s. absurd (other (sym e ∙ number-given s))) (λ h. (h, sym e ∙ number-empty h))

  done : (info_of t).number ≡ DONE → sound_of t ≡ true
  done e = tested (sound_of t) (λ s. s) (λ h. let refused = number-empty h in absurd (omega arith))

  tells : (afi places : ℕ) (rs : List Route) → TableOf afi places rs t → info_of t ≡ record { number = DONE; afi = afi; places = places; routes = length rs }
  tells afi places rs of = given of.sound ∙ rw (of.family, of.size, of.routes)

  places : sound_of t ≡ true → length t ≡ 8 + 128 * (info_of t).places
  places s = (sound t s).size.is ∙ ap (λ (i : TableFacts). 8 + 128 * i.places) (sym (given s))

  routes : (calls : ℕ) (output : List ℕ) → sound_of t ≡ true → 124 ≤ length output → (info_of t).routes ≤ calls → length (told_in_turn (replicate calls t) [] output) ≡ (info_of t).routes
  routes calls output s room most =
      let count : (info_of t).routes ≡ length (routes_of t) = ap (λ (i : TableFacts). i.routes) (given s) in
      ap length (in_turn_rule.whole calls t output s room ∙ take_all calls (routes_of t) (omega arith)) ∙ sym count

pub info_rule : InfoRule
info_rule =
    record {
      refuses = λ t n other. (refusal t n other, λ p. number-empty t p.0 ∙ sym p.1);
      done = λ t. (done t, number-given t);
      tells = λ afi places rs t. tells t afi places rs;
      places = places;
      routes = λ calls t. routes t calls;
      empty = empty;
    }
