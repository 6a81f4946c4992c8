-- Laws of the table of bodies: which types it lists, and what holds of each of its rows, by computation.
use Rattle.std.proofs.Common.{◌≡◌, ℕ, zero, suc, ◌+◌, ◌<◌, ◌≤◌, Bool, true, false, not, eqb, leb, ◌⊎◌, List, [], ◌∷◌, map, length, sym, refl, ap, ◌∙◌, subst, ap₂, inl, inr, ⊎_elim, arith, eq-eqb, eqb-true, le-leb, leb-true}
use borrow.Author.Tests.{not-true}
use Rattle.octets.specs.Choice.{pick, both, either}
use Rattle.octets.proofs.Choice.{pick_true, pick-false, either_left, either-false-left, either-false-right, either_second, is_false, opposite, both_true, both-true-left, both-true-right, either_true}
use Rattle.nlri.specs.Bodies.{FieldKind, distinguisher, source_as, source, group, originator, key, fec, KnownType, to_seven, mldp_s_pmsi, mldp_leaf, mldp_source_tree_join, Row, row, bodies, on_body, body_of, code_of, same_kind, field_in, has_field}

unfoldable pub listed : List Row → ℕ → Bool
listed [] type = false
listed (row n body ∷ rows) type = either (eqb type n) (listed rows type)

body_in : List Row → ℕ → List FieldKind
body_in table type = on_body table type [] (λ body. body)

step : {B : Type 0} (b d : Bool) (body rest : List FieldKind) (x other : B) (next : List FieldKind → B) → x ≡ pick d (next rest) other
    → pick b (next body) x ≡ pick (either b d) (next (pick b body rest)) other
unfolding pick either
step true d body rest x other next e = refl
step false d body rest x other next e = e

on-table : {B : Type 0} (table : List Row) (type : ℕ) (other : B) (next : List FieldKind → B) → on_body table type other next ≡ pick (listed table type) (next (body_in table type)) other
unfolding on_body listed pick body_in
on-table [] type other next = refl
on-table (row n body ∷ rows) type other next = step (eqb type n) (listed rows type) body (body_in rows type) _ other next (on-table rows type other next)

-- the table either lists the type, or not
pub on-body : {B : Type 0} (type : ℕ) (other : B) (next : List FieldKind → B) → on_body bodies type other next ≡ pick (listed bodies type) (next (body_of type)) other
unfolding body_of body_in
on-body type other next = on-table bodies type other next

to-seven : (type : ℕ) → 1 ≤ type → type ≤ 7 → listed bodies type ≡ true
unfolding listed bodies either
to-seven zero low high = absurd (omega arith)
to-seven (suc zero) low high = refl
to-seven (suc (suc zero)) low high = refl
to-seven (suc (suc (suc zero))) low high = refl
to-seven (suc (suc (suc (suc zero)))) low high = refl
to-seven (suc (suc (suc (suc (suc zero))))) low high = refl
to-seven (suc (suc (suc (suc (suc (suc zero)))))) low high = refl
to-seven (suc (suc (suc (suc (suc (suc (suc zero))))))) low high = refl
to-seven (suc (suc (suc (suc (suc (suc (suc (suc n)))))))) low high = absurd (omega arith)

-- the types that there are are those that the table lists
pub known : (type : ℕ) → KnownType type → listed bodies type ≡ true
unfolding listed bodies either
known type (to_seven low high) = to-seven type low high
known type mldp_s_pmsi = refl
known type mldp_leaf = refl
known type mldp_source_tree_join = refl

unfoldable pub known_test : ℕ → Bool
known_test type = either (both (leb 1 type) (leb type 7)) (either (eqb type 67) (either (eqb type 68) (eqb type 71)))

pub test_known : (type : ℕ) → known_test type ≡ true → KnownType type
unfolding known_test
test_known type h =
    ⊎_elim (λ low. to_seven (leb-true _ _ (both-true-left _ _ low)) (leb-true _ _ (both-true-right _ _ low)))
    (λ high. ⊎_elim (λ e. subst KnownType (sym (eqb-true type 67 e)) mldp_s_pmsi)
    (λ rest. ⊎_elim (λ e. subst KnownType (sym (eqb-true type 68 e)) mldp_leaf) (λ e. subst KnownType (sym (eqb-true type 71 e)) mldp_source_tree_join) (either_true _ _ rest))
    (either_true _ _ high))
    (either_true _ _ h)

-- a route type is an octet
pub known-octet : (type : ℕ) → KnownType type → type < 256
known-octet type (to_seven low high) = omega arith
known-octet type mldp_s_pmsi = omega arith
known-octet type mldp_leaf = omega arith
known-octet type mldp_source_tree_join = omega arith

pub known-above : (type : ℕ) → KnownType type → 7 < type → (type ≡ 67) ⊎ (type ≡ 68) ⊎ (type ≡ 71)
known-above type (to_seven low high) h = absurd (omega arith)
known-above type mldp_s_pmsi h = inl refl
known-above type mldp_leaf h = inr (inl refl)
known-above type mldp_source_tree_join h = inr (inr refl)

pub known-least : (type : ℕ) → KnownType type → 1 ≤ type
known-least type (to_seven low high) = low
known-least type mldp_s_pmsi = omega arith
known-least type mldp_leaf = omega arith
known-least type mldp_source_tree_join = omega arith

-- a test that every row passes
unfoldable pub every : (ℕ → List FieldKind → Bool) → List Row → Bool
every test [] = true
every test (row n body ∷ rows) = both (test n body) (every test rows)

every-listed : (test : ℕ → List FieldKind → Bool) (table : List Row) (type : ℕ) → every test table ≡ true → listed table type ≡ true → test type (body_in table type) ≡ true
unfolding every listed body_in on_body either pick
every-listed test [] type e l = absurd (opposite l refl)
every-listed test (row n body ∷ rows) type e l =
    go (eqb type n) refl l (both-true-left _ _ e) (λ later. every-listed test rows type (both-true-right (test n body) _ e) later)
  where
    go : (b : Bool) → eqb type n ≡ b → either b (listed rows type) ≡ true → test n body ≡ true → (listed rows type ≡ true → test type (body_in rows type) ≡ true)
        → test type (pick b body (body_in rows type)) ≡ true
    go true same l here later = subst (λ (m : ℕ). test m body ≡ true) (sym (eqb-true type n same)) here
    go false other l here later = later l

-- what a test of every row says of the body of a type
pub every-row : (test : ℕ → List FieldKind → Bool) → every test bodies ≡ true → (type : ℕ) → listed bodies type ≡ true → test type (body_of type) ≡ true
unfolding body_of body_in
every-row test e type l = every-listed test bodies type e l

-- no kind of field stands twice
unfoldable pub distinct : List FieldKind → Bool
distinct [] = true
distinct (k ∷ body) = both (not (has_field k body)) (distinct body)

-- an originator is what remains: nothing stands after it
unfoldable pub closes : FieldKind → List FieldKind → Bool
closes distinguisher body = true
closes source_as body = true
closes source body = true
closes group body = true
closes originator [] = true
closes originator (k ∷ body) = false
closes key body = true
closes fec body = true

unfoldable pub closed : List FieldKind → Bool
closed [] = true
closed (k ∷ body) = both (closes k body) (closed body)

-- the most octets that a body takes, where a key takes at most `w`; a FEC is not bounded
unfoldable pub most : ℕ → FieldKind → ℕ
most w distinguisher = 8
most w source_as = 4
most w source = 17
most w group = 17
most w originator = 16
most w key = w
most w fec = 0

unfoldable pub most_in : ℕ → List FieldKind → ℕ
most_in w [] = 0
most_in w (k ∷ body) = most w k + most_in w body

-- the kinds that a test keeps
unfoldable pub kept : (FieldKind → Bool) → List FieldKind → List FieldKind
kept has [] = []
kept has (k ∷ kinds) = pick (has k) (k ∷ kept has kinds) (kept has kinds)

-- one order of the kinds: every body has its fields in it
unfoldable pub order : List FieldKind
order = key ∷ distinguisher ∷ source_as ∷ fec ∷ source ∷ group ∷ originator ∷ []

unfoldable pub same_kinds : List FieldKind → List FieldKind → Bool
same_kinds [] [] = true
same_kinds [] (b ∷ right) = false
same_kinds (a ∷ left) [] = false
same_kinds (a ∷ left) (b ∷ right) = both (same_kind a b) (same_kinds left right)

-- kinds by their codes
pub same_self : (k : FieldKind) → same_kind k k ≡ true
unfolding same_kind
same_self k = eq-eqb (code_of k) (code_of k) refl

kind_at : ℕ → FieldKind
kind_at n = pick (eqb n 0) distinguisher (pick (eqb n 1) source_as (pick (eqb n 2) source (pick (eqb n 3) group (pick (eqb n 4) originator (pick (eqb n 5) key fec)))))

by_code : (k : FieldKind) → k ≡ kind_at (code_of k)
unfolding kind_at code_of pick
by_code distinguisher = refl
by_code source_as = refl
by_code source = refl
by_code group = refl
by_code originator = refl
by_code key = refl
by_code fec = refl

pub same_kind_lem : (a b : FieldKind) → same_kind a b ≡ true → a ≡ b
unfolding same_kind
same_kind_lem a b e = by_code a ∙ ap kind_at (eqb-true (code_of a) (code_of b) e) ∙ sym (by_code b)

pub same-kinds : (a b : List FieldKind) → same_kinds a b ≡ true → a ≡ b
unfolding same_kinds
same-kinds [] [] e = refl
same-kinds [] (y ∷ b) e = absurd (opposite e refl)
same-kinds (x ∷ a) [] e = absurd (opposite e refl)
same-kinds (x ∷ a) (y ∷ b) e = ap₂ (λ (k : FieldKind) (kinds : List FieldKind). k ∷ kinds) (same_kind_lem x y (both-true-left _ _ e)) (same-kinds a b (both-true-right (same_kind x y) _ e))

-- two tests that say the same
unfoldable pub agree : Bool → Bool → Bool
agree a b = pick a b (not b)

pub agree_same : (a b : Bool) → agree a b ≡ true → a ≡ b
unfolding agree pick
agree_same true b e = sym e
agree_same false true e = e
agree_same false false e = refl

shape_test : List FieldKind → Bool
shape_test body = both (distinct body) (both (closed body) (same_kinds body (kept (λ k. has_field k body) order)))

-- the fields of a body with a key; in any other a route distinguisher, and a group where there is a source, or a FEC in their place
kinds_test : List FieldKind → Bool
kinds_test body = pick (has_field key body) (same_kinds body (key ∷ originator ∷ [])) (both (has_field distinguisher body) (both (agree (has_field group body) (has_field source body)) (not (both (has_field fec body) (has_field source body)))))

-- the sizes of bodies of types 1 to 7, which have no FEC
size_test : List FieldKind → Bool
size_test body = both (not (has_field fec body)) (both (leb (most_in 60 body) 76) (pick (has_field key body) true (leb (most_in 60 body) 58)))

row_test : ℕ → List FieldKind → Bool
row_test n body = both (known_test n) (both (shape_test body) (both (kinds_test body) (pick (leb n 7) (size_test body) true)))

pub record SizesOf (body : List FieldKind) : Type 0 where
  pub bare : has_field fec body ≡ false
  pub most : most_in 60 body ≤ 76
  pub plain : has_field key body ≡ false → most_in 60 body ≤ 58

-- what holds of the row of a type
pub record RowOf (type : ℕ) : Type 0 where
  pub known : KnownType type
  pub distinct : distinct (body_of type) ≡ true
  pub closed : closed (body_of type) ≡ true
  pub ordered : body_of type ≡ kept (λ k. has_field k (body_of type)) order
  pub keyed : has_field key (body_of type) ≡ true → body_of type ≡ key ∷ originator ∷ []
  pub unkeyed : has_field key (body_of type) ≡ false → (has_field distinguisher (body_of type) ≡ true) × (has_field group (body_of type) ≡ has_field source (body_of type))
      × (has_field fec (body_of type) ≡ true → has_field source (body_of type) ≡ false)
  pub sizes : type ≤ 7 → SizesOf (body_of type)

tested : every row_test bodies ≡ true
unfolding every row_test known_test shape_test kinds_test size_test agree bodies both distinct closed closes same_kinds kept order pick most_in most has_field either same_kind code_of
tested = refl

pub row_of : (type : ℕ) → listed bodies type ≡ true → RowOf type
unfolding row_test shape_test kinds_test size_test
row_of type l =
    let h = every-row row_test tested type l in
    let rest = both-true-right _ _ h in
    let shape = both-true-left _ _ rest in
    let kinds = both-true-left _ _ (both-true-right _ _ rest) in
    let size = both-true-right _ _ (both-true-right _ _ rest) in
    record {
      known = test_known type (both-true-left _ _ h);
      distinct = both-true-left _ _ shape;
      closed = both-true-left _ _ (both-true-right _ _ shape);
      ordered = same-kinds _ _ (both-true-right _ _ (both-true-right _ _ shape));
      keyed = λ yes. same-kinds _ _ (sym (pick_true _ _ _ yes) ∙ kinds);
      unkeyed = λ no.
          let other = sym (pick-false _ _ _ no) ∙ kinds in
          let flow = both-true-right _ _ other in
          (both-true-left _ _ other, agree_same _ _ (both-true-left _ _ flow), λ held. is_false _ (λ yes. opposite (both_true _ _ held yes) (not-true _ (both-true-right _ _ flow))));
      sizes = λ low.
          let h = sym (pick_true _ _ _ (le-leb type 7 low)) ∙ size in
          let bounds = both-true-right _ _ h in
          record { bare = not-true _ (both-true-left _ _ h); most = leb-true _ _ (both-true-left _ _ bounds); plain = λ no. leb-true _ _ (sym (pick-false _ _ _ no) ∙ both-true-right _ _ bounds) };
    }

pub unlisted : (type : ℕ) → (KnownType type → ⊥) → listed bodies type ≡ false
unlisted type h = is_false _ (λ l. h (row_of type l).known)

-- of what a function makes of each kind along a body, the one of a kind is the function's at that kind
pub field-of-map : {A : Type 0} (none : A) (g : FieldKind → A) (kind : FieldKind) (body : List FieldKind) → field_in none kind body (map g body) ≡ pick (has_field kind body) (g kind) none
unfolding field_in has_field pick either
field-of-map none g kind [] = refl
field-of-map none g kind (k ∷ body) = go (same_kind kind k) refl (field-of-map none g kind body)
  where
    go : (b : Bool) → same_kind kind k ≡ b → field_in none kind body (map g body) ≡ pick (has_field kind body) (g kind) none
        → pick b (g k) (field_in none kind body (map g body)) ≡ pick (either b (has_field kind body)) (g kind) none
    go true e later = ap g (sym (same_kind_lem kind k e))
    go false e later = later

-- the elements of a list that goes along a body, each as a function has it at its kind
abbrev pub Along : {A : Type 0} → (FieldKind → A) → List FieldKind → List A → Type 0
Along field [] xs = Unit {0}
Along field (k ∷ body) [] = ⊥
Along field (k ∷ body) (x ∷ xs) = (field k ≡ x) × Along field body xs

pub has_first : (k : FieldKind) (body : List FieldKind) → has_field k (k ∷ body) ≡ true
unfolding has_field
has_first k body = either_left _ _ (same_self k)

pub has-later : (kind k : FieldKind) (body : List FieldKind) → has_field kind body ≡ true → has_field kind (k ∷ body) ≡ true
unfolding has_field
has-later kind k body h = either_second _ _ h

along-same : {A : Type 0} (field other : FieldKind → A) (body : List FieldKind) (xs : List A) → ((kind : FieldKind) → has_field kind body ≡ true → other kind ≡ field kind) → Along field body xs → Along other body xs
along-same field other [] xs h a = tt
along-same field other (k ∷ body) [] h a = a
along-same field other (k ∷ body) (x ∷ xs) h a = (h k (has_first k body) ∙ a.0, along-same field other body xs (λ kind e. h kind (has-later kind k body e)) a.1)

pub apart : (kind k : FieldKind) (body : List FieldKind) → has_field kind body ≡ true → has_field k body ≡ false → same_kind kind k ≡ false
apart kind k body h n = is_false _ (λ e. opposite (ap (λ (x : FieldKind). has_field x body) (sym (same_kind_lem kind k e)) ∙ h) n)

pub along-fields : {A : Type 0} (none : A) (body : List FieldKind) (xs : List A) → distinct body ≡ true → length xs ≡ length body → Along (λ kind. field_in none kind body xs) body xs
unfolding field_in distinct
along-fields none [] xs d l = tt
along-fields none (k ∷ body) [] d l = absurd (omega arith)
along-fields none (k ∷ body) (x ∷ xs) d l = (
  pick_true _ _ _ (same_self k),
  along-same (λ kind. field_in none kind body xs) _ body xs
      (λ kind e. pick-false _ _ _ (apart kind k body e (not-true _ (both-true-left _ _ d)))) (along-fields none body xs (both-true-right _ _ d) (omega arith)),
)

-- a field that the body lacks
pub lacks : {A : Type 0} (none : A) (kind : FieldKind) (body : List FieldKind) (xs : List A) → has_field kind body ≡ false → field_in none kind body xs ≡ none
unfolding field_in has_field
lacks none kind [] xs h = refl
lacks none kind (k ∷ body) [] h = refl
lacks none kind (k ∷ body) (x ∷ xs) h = pick-false _ _ _ (either-false-left _ _ h) ∙ lacks none kind body xs (either-false-right _ _ h)
