-- The table of bodies (document 01, "NLRI on the wire"; W-207), as data.
use Rattle.std.specs.Prelude.{◌≡◌, ℕ, ◌≤◌, Bool, false, Result, MatchResult, List, [], ◌∷◌, ◌==◌, nat_le}
use Rattle.octets.specs.Choice.{pick, both, either}
use Rattle.octets.specs.declared.refusal.Refusal.{Refusal}
use Rattle.octets.specs.declared.refusal.Refusal.TheVariants.{«Type»}
use Rattle.nlri.specs.declared.route.RouteType.{RouteType}
use Rattle.nlri.specs.declared.route.RouteType.TheVariants.{IntraAsIPmsi, InterAsIPmsi, SPmsi, Leaf, SourceActive, SharedTreeJoin, SourceTreeJoin, MldpSPmsi, MldpLeaf, MldpSourceTreeJoin}

-- the kinds of fields
pub data FieldKind : Type 0 where
  distinguisher source_as source group originator key fec : FieldKind

-- a route type and its body
pub data Row : Type 0 where
  row : ℕ → List FieldKind → Row

-- document 01's table, and behind it the types of RFC 7441, section 3: 0x43, 0x44, 0x47
unfoldable pub bodies : List Row
bodies =
    row 1 (distinguisher ∷ originator ∷ [])
    ∷ row 2 (distinguisher ∷ source_as ∷ [])
    ∷ row 3 (distinguisher ∷ source ∷ group ∷ originator ∷ [])
    ∷ row 4 (key ∷ originator ∷ [])
    ∷ row 5 (distinguisher ∷ source ∷ group ∷ [])
    ∷ row 6 (distinguisher ∷ source_as ∷ source ∷ group ∷ [])
    ∷ row 7 (distinguisher ∷ source_as ∷ source ∷ group ∷ [])
    ∷ row 67 (distinguisher ∷ fec ∷ originator ∷ [])
    ∷ row 68 (key ∷ originator ∷ [])
    ∷ row 71 (distinguisher ∷ source_as ∷ fec ∷ [])
    ∷ []

-- a route type that there is: 1 to 7 (RFC 6514, section 4), or 0x43, 0x44, 0x47 (RFC 7441, section 3)
pub data KnownType : ℕ → Type 0 where
  to_seven : {type : ℕ} → 1 ≤ type → type ≤ 7 → KnownType type
  mldp_s_pmsi : KnownType 67
  mldp_leaf : KnownType 68
  mldp_source_tree_join : KnownType 71

-- the number of each route type
abbrev pub type_number : RouteType → ℕ
type_number IntraAsIPmsi = 1
type_number InterAsIPmsi = 2
type_number SPmsi = 3
type_number Leaf = 4
type_number SourceActive = 5
type_number SharedTreeJoin = 6
type_number SourceTreeJoin = 7
type_number MldpSPmsi = 67
type_number MldpLeaf = 68
type_number MldpSourceTreeJoin = 71

-- the route type of a number, or TYPE where there is none
abbrev pub TypeTold : ℕ → Result RouteType Refusal → Type 0
TypeTold type told = MatchResult told (λ known. type_number known ≡ type) (λ refusal. (refusal ≡ «Type») × (KnownType type → ⊥))

-- whether an NLRI of a type may stand in the key of another's: in a Leaf's those of type 1, 2 and 3, in a 0x44's that of 0x43
unfoldable pub keyable : (type in_key : ℕ) → Bool
keyable type in_key = either (both (type == 4) (nat_le in_key 3)) (both (type == 68) (in_key == 67))

-- what `next` makes of the body of a route type, or `other` where no row has the type
unfoldable pub on_body : {B : Type 0} → List Row → ℕ → B → (List FieldKind → B) → B
on_body [] type other next = other
on_body (row n body ∷ rows) type other next = pick (type == n) (next body) (on_body rows type other next)

-- the body of a route type; no fields where the type is unknown
unfoldable pub body_of : ℕ → List FieldKind
body_of type = on_body bodies type [] (λ body. body)

-- kinds told apart by numbers
unfoldable pub code_of : FieldKind → ℕ
code_of distinguisher = 0
code_of source_as = 1
code_of source = 2
code_of group = 3
code_of originator = 4
code_of key = 5
code_of fec = 6

-- the same kind of field
unfoldable pub same_kind : FieldKind → FieldKind → Bool
same_kind a b = code_of a == code_of b

-- of a list that goes along a body, the element of one kind of field, or `none` where the body lacks that kind
unfoldable pub field_in : {A : Type 0} → A → FieldKind → List FieldKind → List A → A
field_in none kind [] xs = none
field_in none kind (k ∷ body) [] = none
field_in none kind (k ∷ body) (x ∷ xs) = pick (same_kind kind k) x (field_in none kind body xs)

-- whether a body has a kind of field
unfoldable pub has_field : FieldKind → List FieldKind → Bool
has_field kind [] = false
has_field kind (k ∷ body) = either (same_kind kind k) (has_field kind body)
