-- Where the fields of a well-formed S-PMSI NLRI stand.
use Prim.Native.Nat.{ℕ, ◌-◌}
use mathlib.Core.Path.{◌≡◌, refl}
use mathlib.Core.Logic.{inl}
use mathlib.Core.List.{List}
use lib.ListN.{length, get_or}
use Rattle.octets.specs.Outcome.{given}
use Rattle.nlri.specs.Fields.{Fields}
use Rattle.nlri.specs.Standing.{standing}
use Rattle.nlri.proofs.Functions.FieldStarts as starts
use Rattle.routes.specs.Arguments.{read_s_pmsi}
use Rattle.places.specs.Readable.{Bounded}

module _ (afi : ℕ) (s : List ℕ) (f : Fields) (e : read_s_pmsi afi s ≡ given f) where
  -- the fields lie within the NLRI
  pub fields-bounded : Bounded s
  unfolding read_s_pmsi
  fields-bounded = record { within = starts.originator-within 3 (inl refl) afi s f e refl }

  -- the fields of a well-formed S-PMSI NLRI are those that stand in it
  pub fields-stand : f ≡ standing s
  unfolding read_s_pmsi
  fields-stand = starts.fields-stand 3 (inl refl) afi s f e

  -- its Length octet tells its size
  pub length-told : get_or s 1 0 ≡ length s - 2
  unfolding read_s_pmsi
  length-told = starts.length-told 3 (inl refl) afi s f e
