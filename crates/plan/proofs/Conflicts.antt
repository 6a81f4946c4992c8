-- Flows that are listed with two attributes.
use mathlib.Core.Path.{◌≡◌, refl, sym, ap, ◌∙◌, subst}
use mathlib.Core.Bool.{Bool, true, false, not}
use mathlib.Core.List.{List, [], ◌∷◌}
use mathlib.Core.Logic.{⊎_elim}
use Rattle.octets.specs.Choice.{both}
use Rattle.octets.specs.Order.{same}
use Rattle.octets.specs.Lists.{Among, first, later}
use Rattle.octets.proofs.Choice.{tested, opposite, both-held, both_true, either_true, either-false-left, either-false-right}
use Rattle.octets.proofs.Orders.{same-equal, same-of-equal}
use Rattle.octets.proofs.Among.{among_none, among_cases}
use Rattle.plan.specs.Flows.{ListedFlow, same_flow}
use Rattle.plan.specs.Refusing.{clashes, conflicts}
use Rattle.plan.proofs.Counts.{SameFlow, same_flow_lem, flow-same}

-- conflicts

differs : (b : Bool) → not b ≡ true → b ≡ false
differs true e = sym e
differs false e = refl

pub clash : (f : ListedFlow) (fs : List ListedFlow) → clashes f fs ≡ true → (g : ListedFlow) × Among g fs × SameFlow f g × (f.wanted ≡ g.wanted → ⊥)
unfolding clashes
clash f [] h = absurd (opposite {b = true} refl (sym h))
clash f (g ∷ fs) h =
    ⊎_elim
    (λ t. let b = both-held _ _ t in (g, first refl, same_flow_lem f g b.0, λ e. opposite (same-of-equal _ _ e) (differs _ b.1)))
    (λ t. let r = clash f fs t in (r.0, later r.1, r.2, r.3))
    (either_true _ _ h)

no-clash : (f : ListedFlow) (fs : List ListedFlow) → clashes f fs ≡ false → (g : ListedFlow) → Among g fs → SameFlow f g → f.wanted ≡ g.wanted
unfolding clashes
no-clash f [] n g m s = elim m [ ]
no-clash f (k ∷ fs) n g (first e) s =
    let at : both (same_flow f g) (not (same f.wanted g.wanted)) ≡ false = rw e (either-false-left _ _ n) in
    tested (same f.wanted g.wanted)
    (λ t. same-equal _ _ t)
    (λ d. absurd (opposite (both_true _ _ (flow-same f g s) (ap not d)) at))
no-clash f (k ∷ fs) n g (later m) s = no-clash f fs (either-false-right _ _ n) g m s

swapped : {f g : ListedFlow} → SameFlow f g → SameFlow g f
swapped s = record { source = sym s.source; group = sym s.group }

pub agreeing : (fs : List ListedFlow) → conflicts fs ≡ false → (f g : ListedFlow) → Among f fs → Among g fs → SameFlow f g → f.wanted ≡ g.wanted
unfolding conflicts
agreeing [] n f g a b s = absurd (among_none a)
agreeing (k ∷ fs) n f g a b s =
    let at = no-clash k fs (either-false-left _ _ n) in
    ⊎_elim
    (λ e. ⊎_elim
    (λ d. ap (λ (x : ListedFlow). x.wanted) (e ∙ sym d))
    (λ y. ap (λ (x : ListedFlow). x.wanted) e ∙ at g y (subst (λ x. SameFlow x g) e s))
    (among_cases b))
    (λ x. ⊎_elim
    (λ d. sym (ap (λ (x : ListedFlow). x.wanted) d ∙ at f x (subst (λ z. SameFlow z f) d (swapped s))))
    (λ y. agreeing fs (either-false-right _ _ n) f g x y s)
    (among_cases b))
    (among_cases a)
