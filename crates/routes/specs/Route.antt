-- Routes, and what a list of routes holds (document 01, "The table memory").
use Rattle.std.specs.Prelude.{ℕ, ◌≡◌, Bool, true, false, List, [], ◌∷◌}
use Rattle.octets.specs.Choice.{pick}
use Rattle.octets.specs.Order.{same, before}

-- a route: the octets of its NLRI, header included, and of its attribute; and whether it is marked stale (request W-208)
pub data Route : Type 0 where
  entry : (nlri attribute : List ℕ) (stale : Bool) → Route

-- a route as install gives it: not marked
abbrev pub route : (nlri attribute : List ℕ) → Route
route nlri attribute = entry nlri attribute false

-- its NLRI
unfoldable pub nlri_of : Route → List ℕ
nlri_of (entry nlri attribute stale) = nlri

-- its attribute
unfoldable pub attribute_of : Route → List ℕ
attribute_of (entry nlri attribute stale) = attribute

-- its mark
unfoldable pub stale_of : Route → Bool
stale_of (entry nlri attribute stale) = stale

-- the same route with this mark
abbrev pub with_mark : Bool → Route → Route
with_mark stale r = entry (nlri_of r) (attribute_of r) stale

-- what routes hold of an NLRI: a route, or nothing
pub data Held : Type 0 where
  absent : Held
  held : Route → Held

-- the first route of an NLRI decides what is held of it
unfoldable pub lookup : List ℕ → List Route → Held
lookup nlri [] = absent
lookup nlri (r ∷ rs) = pick (same nlri (nlri_of r)) (held r) (lookup nlri rs)

-- something is held
unfoldable pub is_held : Held → Bool
is_held absent = false
is_held (held r) = true

-- routes hold an NLRI
unfoldable pub holds : List ℕ → List Route → Bool
holds nlri rs = is_held (lookup nlri rs)

-- routes in increasing order of NLRIs, with this one: in place of one with the same NLRI, else where it belongs
unfoldable pub inserted : Route → List Route → List Route
inserted r [] = r ∷ []
inserted r (q ∷ rs) = pick (same (nlri_of r) (nlri_of q)) (r ∷ rs) (pick (before (nlri_of r) (nlri_of q)) (r ∷ (q ∷ rs)) (q ∷ inserted r rs))

-- routes in any order, in increasing order of NLRIs
unfoldable pub arranged : List Route → List Route
arranged [] = []
arranged (r ∷ rs) = inserted r (arranged rs)

-- routes without the one of an NLRI
unfoldable pub removed : List ℕ → List Route → List Route
removed nlri [] = []
removed nlri (q ∷ rs) = pick (same nlri (nlri_of q)) rs (q ∷ removed nlri rs)

-- no two routes have the same NLRI
pub data Distinct : List Route → Type 0 where
  none : Distinct []
  one : {r : Route} {rs : List Route} → lookup (nlri_of r) rs ≡ absent → Distinct rs → Distinct (r ∷ rs)

-- NLRIs strictly increase octet by octet, and all come after `previous`
pub data Increasing : (previous : List ℕ) → List Route → Type 0 where
  last : {previous : List ℕ} → Increasing previous []
  next : {previous : List ℕ} {r : Route} {rs : List Route} → before previous (nlri_of r) ≡ true → Increasing (nlri_of r) rs → Increasing previous (r ∷ rs)
