-- The derived order of tiers is that of their numbers; a tier's reason by it.
use Rattle.std.proofs.Common.{Bool, true, false, not, refl, ◌≡◌, is_lt, int_cmp, [], ◌∷◌, Option, None, Some, Ok}
use lib.IntN.{ℤ, pos}
use lib.ListN.{get_or}
use lib.Dec.{ltb, eqb}
use denote.Enum.Bare.{sameb}
use denote.Enum.Declared.{tag_of}
use Rattle.octets.specs.Choice.{pick, both, either}
use Rattle.routes.specs.declared.MatchedRoute.{MatchedRoute}
use Rattle.routes.specs.Reasons.{TAKEN, NO_SUCH_ROUTE, WRONG_GROUP_CLASS, EARLIER_TIER_WON, reason_of}
use Rattle.routes.specs.contracts.Tier.{the_type}
use Rattle.routes.specs.declared.Tier.{Tier}
use Rattle.routes.specs.declared.Tier.TheVariants.{Exact, AnyGroup, AnySource, Any}
use Rattle.routes.specs.Answers.{tier_number, matched_told}

-- what the derived order compares
abbrev rank : Tier → ℤ
rank tier = get_or (pos 1 ∷ (pos 2 ∷ (pos 3 ∷ (pos 4 ∷ [])))) (tag_of the_type tier) (pos 0)

-- of two tiers that differ the lower one goes ahead, whatever else is compared
pub lower-ahead : (a b : Tier) (other : Bool) → not (sameb the_type a b) ≡ true → is_lt (int_cmp (rank a) (rank b)) ≡ either (ltb (tier_number a) (tier_number b)) (both (eqb (tier_number a) (tier_number b)) other)
unfolding either both
lower-ahead Exact Exact other h = cc
lower-ahead Exact AnyGroup other h = refl
lower-ahead Exact AnySource other h = refl
lower-ahead Exact Any other h = refl
lower-ahead AnyGroup Exact other h = refl
lower-ahead AnyGroup AnyGroup other h = cc
lower-ahead AnyGroup AnySource other h = refl
lower-ahead AnyGroup Any other h = refl
lower-ahead AnySource Exact other h = refl
lower-ahead AnySource AnyGroup other h = refl
lower-ahead AnySource AnySource other h = cc
lower-ahead AnySource Any other h = refl
lower-ahead Any Exact other h = refl
lower-ahead Any AnyGroup other h = refl
lower-ahead Any AnySource other h = refl
lower-ahead Any Any other h = cc

-- and of two that are the same what else is compared decides
pub same-ahead : (a b : Tier) (other : Bool) → not (sameb the_type a b) ≡ false → other ≡ either (ltb (tier_number a) (tier_number b)) (both (eqb (tier_number a) (tier_number b)) other)
unfolding either both
same-ahead Exact Exact other h = refl
same-ahead Exact AnyGroup other h = cc
same-ahead Exact AnySource other h = cc
same-ahead Exact Any other h = cc
same-ahead AnyGroup Exact other h = cc
same-ahead AnyGroup AnyGroup other h = refl
same-ahead AnyGroup AnySource other h = cc
same-ahead AnyGroup Any other h = cc
same-ahead AnySource Exact other h = cc
same-ahead AnySource AnyGroup other h = cc
same-ahead AnySource AnySource other h = refl
same-ahead AnySource Any other h = cc
same-ahead Any Exact other h = cc
same-ahead Any AnyGroup other h = cc
same-ahead Any AnySource other h = cc
same-ahead Any Any other h = refl

-- the reason of a tier, by the tier that won
none-won : (b : Tier) (allowed : Bool) → pick allowed NO_SUCH_ROUTE WRONG_GROUP_CLASS ≡ reason_of 0 (tier_number b) allowed
unfolding reason_of both pick
none-won Exact allowed = refl
none-won AnyGroup allowed = refl
none-won AnySource allowed = refl
none-won Any allowed = refl

same-won : (a b : Tier) (allowed : Bool) → sameb the_type a b ≡ true → TAKEN ≡ reason_of (tier_number a) (tier_number b) allowed
unfolding reason_of both pick
same-won Exact Exact allowed h = refl
same-won Exact AnyGroup allowed h = cc
same-won Exact AnySource allowed h = cc
same-won Exact Any allowed h = cc
same-won AnyGroup Exact allowed h = cc
same-won AnyGroup AnyGroup allowed h = refl
same-won AnyGroup AnySource allowed h = cc
same-won AnyGroup Any allowed h = cc
same-won AnySource Exact allowed h = cc
same-won AnySource AnyGroup allowed h = cc
same-won AnySource AnySource allowed h = refl
same-won AnySource Any allowed h = cc
same-won Any Exact allowed h = cc
same-won Any AnyGroup allowed h = cc
same-won Any AnySource allowed h = cc
same-won Any Any allowed h = refl

earlier-won : (a b : Tier) (allowed : Bool) → sameb the_type a b ≡ false → is_lt (int_cmp (rank a) (rank b)) ≡ true → EARLIER_TIER_WON ≡ reason_of (tier_number a) (tier_number b) allowed
unfolding reason_of both pick
earlier-won Exact Exact allowed h l = cc
earlier-won Exact AnyGroup allowed h l = refl
earlier-won Exact AnySource allowed h l = refl
earlier-won Exact Any allowed h l = refl
earlier-won AnyGroup Exact allowed h l = cc
earlier-won AnyGroup AnyGroup allowed h l = cc
earlier-won AnyGroup AnySource allowed h l = refl
earlier-won AnyGroup Any allowed h l = refl
earlier-won AnySource Exact allowed h l = cc
earlier-won AnySource AnyGroup allowed h l = cc
earlier-won AnySource AnySource allowed h l = cc
earlier-won AnySource Any allowed h l = refl
earlier-won Any Exact allowed h l = cc
earlier-won Any AnyGroup allowed h l = cc
earlier-won Any AnySource allowed h l = cc
earlier-won Any Any allowed h l = cc

later-won : (a b : Tier) (allowed : Bool) → sameb the_type a b ≡ false → is_lt (int_cmp (rank a) (rank b)) ≡ false → pick allowed NO_SUCH_ROUTE WRONG_GROUP_CLASS ≡ reason_of (tier_number a) (tier_number b) allowed
unfolding reason_of both pick
later-won Exact Exact allowed h l = cc
later-won Exact AnyGroup allowed h l = cc
later-won Exact AnySource allowed h l = cc
later-won Exact Any allowed h l = cc
later-won AnyGroup Exact allowed h l = refl
later-won AnyGroup AnyGroup allowed h l = cc
later-won AnyGroup AnySource allowed h l = cc
later-won AnyGroup Any allowed h l = cc
later-won AnySource Exact allowed h l = refl
later-won AnySource AnyGroup allowed h l = refl
later-won AnySource AnySource allowed h l = cc
later-won AnySource Any allowed h l = cc
later-won Any Exact allowed h l = refl
later-won Any AnyGroup allowed h l = refl
later-won Any AnySource allowed h l = refl
later-won Any Any allowed h l = cc

-- by the route that was taken
module _ (route : Option MatchedRoute) (tier : Tier) (allowed : Bool) where
  pub reason-none : route ≡ None → pick allowed NO_SUCH_ROUTE WRONG_GROUP_CLASS ≡ reason_of (matched_told (Ok route)).tier (tier_number tier) allowed
  reason-none none = rw none (none-won tier allowed)

  module _ (taken : MatchedRoute) (some : route ≡ Some taken) where
    pub reason-taken : sameb the_type taken.tier tier ≡ true → TAKEN ≡ reason_of (matched_told (Ok route)).tier (tier_number tier) allowed
    reason-taken same = rw some (same-won taken.tier tier allowed same)

    module _ (other : sameb the_type taken.tier tier ≡ false) where
      pub reason-earlier : is_lt (int_cmp (rank taken.tier) (rank tier)) ≡ true → EARLIER_TIER_WON ≡ reason_of (matched_told (Ok route)).tier (tier_number tier) allowed
      reason-earlier less = rw some (earlier-won taken.tier tier allowed other less)

      pub reason-later : is_lt (int_cmp (rank taken.tier) (rank tier)) ≡ false → pick allowed NO_SUCH_ROUTE WRONG_GROUP_CLASS ≡ reason_of (matched_told (Ok route)).tier (tier_number tier) allowed
      reason-later more = rw some (later-won taken.tier tier allowed other more)
