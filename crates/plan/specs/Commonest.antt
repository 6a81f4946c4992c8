-- The commonest wanted attribute, counted over different flows (document 02, W-214).
use Rattle.std.specs.Prelude.{ℕ, suc, Bool, false, List, [], ◌∷◌, ltb}
use Rattle.octets.specs.Choice.{pick, either}
use Rattle.octets.specs.Order.{same}
use Rattle.plan.specs.Flows.{ListedFlow, different}

-- how many of these flows want an attribute
unfoldable pub wanting : List ℕ → List ListedFlow → ℕ
wanting a [] = 0
wanting a (f ∷ fs) = pick (same f.wanted a) (suc (wanting a fs)) (wanting a fs)

-- those that want another
unfoldable pub others : List ℕ → List ListedFlow → List ListedFlow
others a [] = []
others a (f ∷ fs) = pick (same f.wanted a) (others a fs) (f ∷ others a fs)

-- one of them wants an attribute
unfoldable pub is_wanted : List ℕ → List ListedFlow → Bool
is_wanted a [] = false
is_wanted a (f ∷ fs) = either (same f.wanted a) (is_wanted a fs)

-- of the attributes that these flows want, each looked at where it is wanted last, the first that more of all flows want than any before it; `best`,
-- which n of all want, where none does
unfoldable pub leading : (all : List ListedFlow) → (best : List ℕ) (n : ℕ) → List ListedFlow → List ℕ
leading all best n [] = best
leading all best n (f ∷ fs) =
    pick (is_wanted f.wanted fs) (leading all best n fs)
    (pick (ltb n (wanting f.wanted all)) (leading all f.wanted (wanting f.wanted all) fs)
    (leading all best n fs))

-- the attribute that most different flows want; at a tie the first in that order. Document 02 leaves the choice at a tie to the program
unfoldable pub commonest : List ListedFlow → List ℕ
commonest [] = []
commonest (f ∷ fs) = leading (different (f ∷ fs)) f.wanted 0 (f ∷ fs)
