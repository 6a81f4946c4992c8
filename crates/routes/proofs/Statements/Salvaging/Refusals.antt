-- What salvage refuses and what it takes, and what is due then (specs/Rules/SalvageRule.antt).
use Prim.Native.Nat.{ℕ, ◌*◌, ◌≤◌, ◌<◌}
use mathlib.Core.Path.{◌≡◌, refl, sym, ap, subst, ◌∙◌}
use mathlib.Core.Logic.{◌≢◌, ⊎_elim}
use mathlib.Core.List.{List}
use native.Mathlib.Omega.{arith}
use borrow.Author.Tests.{ltb-true, ltb-false, lt-ltb, le-ltb, eqb-true, eqb-false, eq-eqb, ne_eqb}
use lib.ListN.{length}
use Rattle.octets.specs.Numbers.{DONE}
use Rattle.octets.specs.Octets.{front}
use Rattle.octets.specs.Outcome.{given, refused, on_outcome, number_of}
use Rattle.octets.proofs.Choice.{opposite, pick_true, pick-false, picked, is_false}
use Rattle.octets.proofs.Outcome.{never, passed, given-unless, given-otherwise, and-goes-on, and-stops, stopped, refused-same, outcome}
use Rattle.nlri.proofs.Definitions.Families.{family-refused, family-refuses}
use Rattle.nlri.proofs.Definitions.Lengths.{good-family, family-good}
use Rattle.routes.specs.Table.{image_of, places_in}
use Rattle.routes.specs.Salvage.{kept_routes, dropped_of, list_of, Salvage, empty_salvage, salvage_outcome, salvage_of}
use Rattle.routes.specs.Rules.SoundRule.{TableSize}
use Rattle.routes.specs.Rules.SalvageRule.{SalvageRefusal, no_family, bad_size, other_size, short_list, Salvageable}
use Rattle.routes.proofs.Definitions.Headers.{places-in}
use Rattle.routes.proofs.Statements.MakeRules.{size_is, size-tested}

-- what is due of a refusal, and of so many places
abbrev pub refused_salvage : (number : ℕ) (table list : List ℕ) → Salvage
refused_salvage number table list = record { answer = empty_salvage number; table = table; list = list }

abbrev pub done_salvage : (afi : ℕ) (damaged list : List ℕ) (places : ℕ) → Salvage
done_salvage afi damaged list places =
    record {
      answer = record { number = DONE; kept = length (kept_routes afi damaged places); dropped = length (dropped_of afi damaged places) };
      table = image_of afi places (kept_routes afi damaged places);
      list = front (list_of (dropped_of afi damaged places)) list;
    }

-- the places of memory of a table's size
pub size-places : (memory : List ℕ) (s : TableSize (length memory)) → places_in memory ≡ s.places
size-places memory s = places-in memory s.places s.is

module _ (afi : ℕ) (damaged table list : List ℕ) where
  pub gives : (s : Salvageable afi damaged table list) → salvage_outcome afi damaged table list ≡ given s.size.places
  unfolding salvage_outcome
  gives s =
      let e = size-places damaged s.size in
      sym (and-goes-on _ _ _ _ (family-good afi s.family).1
      (sym (pick_true _ _ _ (size-tested (length damaged) s.size) ∙ pick_true _ _ _ (eq-eqb (length table) (length damaged) s.same)
      ∙ pick-false _ _ _ (le-ltb (length list) (3 * places_in damaged) (omega (arith, s.room))) ∙ ap given e)))

  pub given_by : (n : ℕ) → salvage_outcome afi damaged table list ≡ given n → Salvageable afi damaged table list
  unfolding salvage_outcome
  given_by n e =
      let p = passed _ _ _ e in
      let q = given-unless _ _ _ _ p.second in
      let r = given-unless _ _ _ _ q.1 in
      let w = given-otherwise _ _ _ _ r.1 in
      let s = size_is damaged q.0 in
      let i = size-places damaged s in
      let room : 3 * places_in damaged ≤ length list = ltb-false _ _ w.0 in
      record { family = good-family afi p.value p.first; size = s; same = eqb-true _ _ r.0; room = omega arith }

  pub refuses : {n : ℕ} → SalvageRefusal afi damaged table list n → salvage_outcome afi damaged table list ≡ refused n
  unfolding salvage_outcome
  refuses (no_family a b) = sym (and-stops _ _ _ (family-refuses afi a b))
  refuses (bad_size f h) = sym (and-goes-on _ _ _ _ (family-good afi f).1 (sym (pick-false _ _ _ (is_false _ (λ t. h (size_is damaged t))))))
  refuses (other_size f s d) = sym (and-goes-on _ _ _ _ (family-good afi f).1 (sym (pick_true _ _ _ (size-tested (length damaged) s) ∙ pick-false _ _ _ (ne_eqb (length table) (length damaged) d))))
  refuses (short_list f s e l) =
      let i = size-places damaged s in
      sym (and-goes-on _ _ _ _ (family-good afi f).1
      (sym (pick_true _ _ _ (size-tested (length damaged) s) ∙ pick_true _ _ _ (eq-eqb (length table) (length damaged) e) ∙ pick_true _ _ _ (lt-ltb (length list) (3 * places_in damaged) (omega arith)))))

  pub refusal : (n : ℕ) → salvage_outcome afi damaged table list ≡ refused n → SalvageRefusal afi damaged table list n
  unfolding salvage_outcome
  refusal n e =
      ⊎_elim (λ first. let p = family-refused afi n first in subst (SalvageRefusal afi damaged table list) (sym p.0) (no_family p.1.0 p.1.1))
      (λ later.
      let f = good-family afi later.value later.first in
      ⊎_elim
      (λ a.
      let s = size_is damaged a.0 in
      ⊎_elim
      (λ b.
      ⊎_elim
      (λ c.
      let i = size-places damaged s in
      let less : length list < 3 * places_in damaged = ltb-true _ _ c.0 in
      subst (SalvageRefusal afi damaged table list) (refused-same {A = ℕ} c.1) (short_list f s (eqb-true _ _ b.0) (omega arith)))
      (λ c. absurd (never refl c.1)) (picked _ _ _ _ b.1))
      (λ b. subst (SalvageRefusal afi damaged table list) (refused-same {A = ℕ} b.1) (other_size f s (eqb-false _ _ b.0)))
      (picked _ _ _ _ a.1))
      (λ a. subst (SalvageRefusal afi damaged table list) (refused-same {A = ℕ} a.1) (bad_size f (λ s. opposite (size-tested (length damaged) s) a.0)))
      (picked _ _ _ _ later.second))
      (stopped _ _ _ e)

  pub never_done : SalvageRefusal afi damaged table list 0 → ⊥
  never_done r = not_done r refl
    where
      not_done : {n : ℕ} → SalvageRefusal afi damaged table list n → n ≢ 0
      not_done (no_family a b) e = omega arith
      not_done (bad_size f h) e = omega arith
      not_done (other_size f s d) e = omega arith
      not_done (short_list f s e l) d = omega arith

  -- what is due
  pub due-given : (places : ℕ) → salvage_outcome afi damaged table list ≡ given places → salvage_of afi damaged table list ≡ done_salvage afi damaged list places
  unfolding salvage_of on_outcome
  due-given places e = rw e

  pub due-refused : (n : ℕ) → salvage_outcome afi damaged table list ≡ refused n → salvage_of afi damaged table list ≡ refused_salvage n table list
  unfolding salvage_of on_outcome
  due-refused n e = rw e

  pub due : (s : Salvageable afi damaged table list) → salvage_of afi damaged table list ≡ done_salvage afi damaged list s.size.places
  due s = due-given s.size.places (gives s)

  pub number_is : (salvage_of afi damaged table list).answer.number ≡ number_of (salvage_outcome afi damaged table list)
  unfolding number_of on_outcome
  number_is =
      ⊎_elim (λ p. let e = p.1 in ap (λ (s : Salvage). s.answer.number) (due-given p.0 e) ∙ rw e) (λ p. let e = p.1 in ap (λ (s : Salvage). s.answer.number) (due-refused p.0 e) ∙ rw e)
      (outcome (salvage_outcome afi damaged table list))
