-- `table::table_info::try_info` meets its contract.
use Prim.Native.Nat.{ℕ}
use mathlib.Core.Path.{◌≡◌, refl, sym, ◌∙◌}
use mathlib.Core.Bool.{true, false}
use mathlib.Core.List.{List}
use native.Mathlib.Omega.{arith}
use Rattle.octets.specs.Numbers.{DONE, TABLE}
use Rattle.octets.proofs.Choice.{picks, skips}
use Rattle.routes.specs.declared.TableFacts.{TableFacts}
use Rattle.routes.specs.Table.{afi_in, count_in, places_in, sound_of}
use Rattle.routes.specs.Info.{empty_info, info_of}
use Rattle.routes.proofs.Statements.Images.{sound, length-routes}
use Rattle.places.proofs.Indexes.{header-within}
use Rattle.table.proofs.table_info.try_info.Goals as goal

unsound : (t : List ℕ) → sound_of t ≡ false → empty_info TABLE ≡ info_of t
unfolding info_of
unsound t h = skips _ _ _ _ h refl

told : (t : List ℕ) (afi places count : ℕ) → sound_of t ≡ true → afi ≡ afi_in t → places ≡ places_in t → count ≡ count_in t
    → ◌≡◌ {A = TableFacts} (record { number = DONE; afi = afi; places = places; routes = count }) (info_of t)
unfolding info_of
told t afi places count s a p n = picks _ _ _ _ s (rw (a, p, n, ← length-routes t))

pub returns-then-not-is_sound : goal.returns-then-not-is_sound
returns-then-not-is_sound c = unsound _ (sym c.is_sound.ensures ∙ c.if-not-is_sound.true)

pub afi_of-requires : goal.afi_of-requires
afi_of-requires c = header-within _ (sym c.is_sound.ensures ∙ c.if-not-is_sound.false)

pub places_of-requires : goal.places_of-requires
places_of-requires c = header-within _ (sym c.is_sound.ensures ∙ c.if-not-is_sound.false)

pub overflow_cast-result-2 : goal.overflow_cast-result-2
overflow_cast-result-2 c = omega (arith, c.places_of.ensures, (sound _ (sym c.is_sound.ensures ∙ c.if-not-is_sound.false)).size.most)

pub count_of-requires : goal.count_of-requires
count_of-requires c = header-within _ (sym c.is_sound.ensures ∙ c.if-not-is_sound.false)

pub returns : goal.returns
returns c =
    told _ _ _ _ (sym c.is_sound.ensures ∙ c.if-not-is_sound.false) c.afi_of.ensures.0 c.places_of.ensures c.count_of.ensures.0
