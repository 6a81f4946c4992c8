-- A judgement that is asked whether it refuses, by its number.
use Rattle.std.proofs.Common.{◌≡◌, ℕ, sym, true, false, refl, Result, Ok, Err}
use Rattle.std.specs.Result.{is_err, is_ok}
use borrow.Author.Tests.{ne_eqb}
use lib.Dec.{eqb}
use Rattle.octets.specs.Choice.{either}
use Rattle.nlri.specs.Family.{FamilyTold}
use Rattle.nlri.specs.declared.family.AddressFamily.{AddressFamily}
use Rattle.nlri.specs.declared.family.AddressFamily.TheVariants.{Ipv4, Ipv6}
use Rattle.octets.specs.Numbers.{DONE}
use Rattle.octets.specs.declared.refusal.Refusal.{Refusal}
use Rattle.octets.specs.Refusals.{result_number}
use Rattle.octets.proofs.Refusals.{refusal_number-not_done}

pub number-refused : {A : Type 0} (result : Result A Refusal) → is_err result ≡ true → (result_number result ≡ DONE → ⊥)
number-refused (Ok x) h = cc
number-refused (Err refusal) h = refusal_number-not_done refusal

pub number-accepted : {A : Type 0} (result : Result A Refusal) → is_err result ≡ false → result_number result ≡ DONE
number-accepted (Ok x) h = refl
number-accepted (Err refusal) h = cc

-- an AFI is a family's where the family is told
pub family-told : (afi : ℕ) (told : Result AddressFamily Refusal) → FamilyTold afi told → is_ok told ≡ either (eqb afi 1) (eqb afi 2)
unfolding either
family-told afi (Ok Ipv4) e = rw (← e) refl
family-told afi (Ok Ipv6) e = rw (← e) refl
family-told afi (Err r) none = sym (rw (ne_eqb _ _ none.1.0, ne_eqb _ _ none.1.1) refl)
