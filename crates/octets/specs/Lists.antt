-- Lists: what is among one, in another order, each once, and those that a test chooses.
use Rattle.std.specs.Prelude.{◌≡◌, Bool, List, [], ◌∷◌}
use Rattle.octets.specs.Choice.{pick}

-- x is among these
pub data Among {A : Type 0} (x : A) : List A → Type 0 where
  first : {y : A} {ys : List A} → x ≡ y → Among x (y ∷ ys)
  later : {y : A} {ys : List A} → Among x ys → Among x (y ∷ ys)

-- the second list is the first with x put in somewhere
pub data PutIn {A : Type 0} (x : A) : List A → List A → Type 0 where
  front : {ys : List A} → PutIn x ys (x ∷ ys)
  behind : {y : A} {ys zs : List A} → PutIn x ys zs → PutIn x (y ∷ ys) (y ∷ zs)

-- the second list has what the first has, each as often, in any order
pub data Rearranged {A : Type 0} : List A → List A → Type 0 where
  none : Rearranged [] []
  one : {x : A} {xs ys zs : List A} → PutIn x ys zs → Rearranged xs ys → Rearranged (x ∷ xs) zs

-- no element twice
pub data Once {A : Type 0} : List A → Type 0 where
  none : Once []
  one : {x : A} {xs : List A} → (Among x xs → ⊥) → Once xs → Once (x ∷ xs)

-- those that a test chooses, in order
unfoldable pub chosen : {A : Type 0} → (A → Bool) → List A → List A
chosen test [] = []
chosen test (x ∷ xs) = pick (test x) (x ∷ chosen test xs) (chosen test xs)
