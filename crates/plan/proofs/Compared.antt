-- Flows compared: by their fields, and one with each of the others.
use Prim.Native.Nat.{ℕ}
use mathlib.Core.Path.{◌≡◌, refl}
use mathlib.Core.Bool.{not}
use mathlib.Core.List.{List, [], ◌∷◌}
use Rattle.std.specs.List.{list_any}
use Rattle.octets.specs.Choice.{both, either}
use Rattle.octets.specs.Order.{same}
use Rattle.octets.proofs.Choice.{tested}
use Rattle.octets.proofs.Orders.{same-is, same-on, same-off}
use Rattle.octets.proofs.Tests.{refusals}
use Rattle.plan.specs.Flows.{ListedFlow, same_flow, is_listed}
use Rattle.plan.specs.Commonest.{is_wanted}
use Rattle.plan.specs.Refusing.{clashes}

pub ruleset compared = (refusals, same-is, same-on, same-off)

pub listed-any : (f : ListedFlow) (fs : List ListedFlow) → list_any (λ g. same_flow f g) fs ≡ is_listed f fs
unfolding is_listed either
listed-any f [] = refl
listed-any f (g ∷ fs) = tested (same_flow f g) (λ t. rw t) (λ n. rw n (listed-any f fs))

pub wanted-any : (a : List ℕ) (fs : List ListedFlow) → list_any (λ g. same g.wanted a) fs ≡ is_wanted a fs
unfolding is_wanted either
wanted-any a [] = refl
wanted-any a (g ∷ fs) = tested (same g.wanted a) (λ t. rw t) (λ n. rw n (wanted-any a fs))

pub clashes-any : (f : ListedFlow) (fs : List ListedFlow) → list_any (λ g. both (same_flow f g) (not (same f.wanted g.wanted))) fs ≡ clashes f fs
unfolding clashes either
clashes-any f [] = refl
clashes-any f (g ∷ fs) = tested (both (same_flow f g) (not (same f.wanted g.wanted))) (λ t. rw t) (λ n. rw n (clashes-any f fs))
