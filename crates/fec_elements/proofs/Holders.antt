-- Laws of opaque values that hold a FEC.
use Prim.Native.Nat.{ℕ, ◌+◌, ◌≤◌, ◌<◌}
use mathlib.Core.Path.{◌≡◌, refl, sym, ap, ◌∙◌}
use mathlib.Core.Logic.{⊎_elim}
use mathlib.Core.Bool.{true, false}
use mathlib.Core.List.{List, [], ◌∷◌, ◌++◌}
use native.Mathlib.Omega.{arith}
use lib.ListN.{length, get_or, drop, length-append, length-drop}
use lib.Seq.{drop-cons, drop-drop, drop-append_seam}
use borrow.Author.Tests.{leb-true, eqb-true, eq-eqb, ne_eqb, le-leb}
use Rattle.octets.specs.Choice.{pick, either}
use Rattle.octets.specs.Octets.{AllOctets, part, number_in, big_endian}
use Rattle.octets.proofs.Choice.{both_true, both-held, either_true}
use Rattle.octets.proofs.Lists.{length_part, drop-part}
use Rattle.octets.proofs.AllOctets.{octets-part}
use Rattle.octets.proofs.NetworkOrder.{length-big_endian, number-of-big-endian, part-number}
use Rattle.fec_elements.specs.Nested.{Holder, recursive, vpn_recursive, holder_type, before_held, encode_opaque, encode_holder, Opens, seven, eight, WellFormedHolder, bare, distinguished}
use Rattle.fec_elements.specs.Reading.{opens, held_start, holds_fec}

-- `Opens`, computed
pub opens_of : (o : List ℕ) → opens o ≡ true → Opens o
unfolding opens
opens_of [] h = ⊎_elim (λ e. absurd (let z = eqb-true 0 7 e in omega arith)) (λ e. absurd (let z = eqb-true 0 8 e in omega arith)) (either_true _ _ h)
opens_of (x ∷ o) h = ⊎_elim (λ e. rw (eqb-true x 7 e) seven) (λ e. rw (eqb-true x 8 e) eight) (either_true _ _ h)

pub opens-computed : {o : List ℕ} → Opens o → opens o ≡ true
unfolding opens either
opens-computed seven = refl
opens-computed eight = refl

-- by its first octet
pub opens-recursive : (o : List ℕ) → get_or o 0 0 ≡ 7 → (opens o ≡ true) × (3 ≡ held_start o)
unfolding opens either held_start pick
opens-recursive o e = rw e (refl, refl)

pub opens-vpn_recursive : (o : List ℕ) → get_or o 0 0 ≡ 8 → (opens o ≡ true) × (11 ≡ held_start o)
unfolding opens either held_start pick
opens-vpn_recursive o e = rw e (refl, refl)

pub opens-else : (o : List ℕ) → (get_or o 0 0 ≡ 7 → ⊥) → (get_or o 0 0 ≡ 8 → ⊥) → opens o ≡ false
unfolding opens either
opens-else o a b = rw (ne_eqb _ 7 a, ne_eqb _ 8 b)

pub opens-none : (o : List ℕ) → length o ≡ 0 → opens o ≡ false
unfolding opens either
opens-none [] h = refl
opens-none (x ∷ o) h = absurd (omega arith)

-- an opaque value by its type and content
content-octets : {o : List ℕ} → AllOctets o → 3 ≤ length o → number_in (part o 1 2) 0 + 3 ≡ length o → o ≡ encode_opaque (get_or o 0 0) (drop 3 o)
unfolding encode_opaque
content-octets {o} a l e =
    let n : length (drop 3 o) ≡ number_in (part o 1 2) 0 = rw (length-drop 3 o) (omega arith) in
    rw (n, part-number a 1 2 l) (drop-cons o 0 0 (omega arith) ∙ ap (λ (r : List ℕ). get_or o 0 0 ∷ r) (drop-part o 1 2))

-- where the FEC starts, by the opaque value's type
start-seven : (o : List ℕ) → held_start (7 ∷ o) ≡ 3
unfolding held_start pick
start-seven o = refl

start-eight : (o : List ℕ) → held_start (8 ∷ o) ≡ 11
unfolding held_start pick
start-eight o = refl

-- what holds a FEC, and the FEC held
pub record Held (o : List ℕ) : Type 0 where
  pub holder : Holder
  pub well_formed : WellFormedHolder holder
  pub octets : o ≡ encode_holder holder (drop (held_start o) o)

pub held_of : {o : List ℕ} → AllOctets o → Opens o → holds_fec o ≡ true → Held o
unfolding holds_fec encode_holder holder_type before_held
held_of a (seven {o}) h =
    let q = both-held _ _ h in
    let c = content-octets a (omega (arith, leb-true (held_start (7 ∷ o)) (length (7 ∷ o)) q.0, start-seven o)) (eqb-true _ _ q.1) in
    record { holder = recursive; well_formed = bare; octets = rw (start-seven o) c }
held_of a (eight {o}) h =
    let q = both-held _ _ h in
    let l : 11 ≤ length (8 ∷ o) = omega (arith, leb-true (held_start (8 ∷ o)) (length (8 ∷ o)) q.0, start-eight o) in
    let c = content-octets a (omega arith) (eqb-true _ _ q.1) in
    let distinguisher : List ℕ = part (8 ∷ o) 3 8 in
    record {
      holder = vpn_recursive distinguisher;
      well_formed = distinguished (length_part (8 ∷ o) 3 8 l) (octets-part 3 8 a);
      octets = rw (start-eight o) (c ∙ ap (encode_opaque 8) (drop-part (8 ∷ o) 3 8));
    }

-- the other way: an opaque value that holds octets, by where they stand in it
module _ (type : ℕ) (content : List ℕ) where
  length-opaque : length (encode_opaque type content) ≡ length content + 3
  unfolding encode_opaque
  length-opaque = simp (length-append, length-big_endian) (omega arith)

  number-opaque : length content < 65536 → number_in (part (encode_opaque type content) 1 2) 0 ≡ length content
  unfolding encode_opaque part big_endian
  number-opaque h = number-of-big-endian 2 (length content) h

  drop-opaque : drop 3 (encode_opaque type content) ≡ content
  unfolding encode_opaque big_endian
  drop-opaque = refl

pub opens-encode : {k : Holder} (fec : List ℕ) → WellFormedHolder k → Opens (encode_holder k fec)
unfolding encode_holder encode_opaque holder_type
opens-encode fec bare = seven
opens-encode fec (distinguished l a) = eight

start-encode : {k : Holder} (fec : List ℕ) → WellFormedHolder k → held_start (encode_holder k fec) ≡ 3 + length (before_held k)
unfolding held_start pick encode_holder encode_opaque holder_type before_held
start-encode fec bare = refl
start-encode fec (distinguished l a) = rw l

pub held-encode : {k : Holder} (fec : List ℕ) → WellFormedHolder k → drop (held_start (encode_holder k fec)) (encode_holder k fec) ≡ fec
unfolding encode_holder
held-encode {k} fec w = rw (start-encode fec w, ← drop-drop (length (before_held k)) 3 (encode_opaque (holder_type k) (before_held k ++ fec)), drop-opaque (holder_type k) (before_held k ++ fec)) (drop-append_seam (before_held k) fec)

pub holds-encode : {k : Holder} (fec : List ℕ) → WellFormedHolder k → length (encode_holder k fec) < 65536 → holds_fec (encode_holder k fec) ≡ true
unfolding holds_fec encode_holder
holds-encode {k} fec w h =
    let l : length (encode_holder k fec) ≡ length (before_held k ++ fec) + 3 = length-opaque (holder_type k) (before_held k ++ fec) in
    both_true _ _ (le-leb (held_start (encode_holder k fec)) (length (encode_holder k fec)) (omega (arith, start-encode fec w, length-append (before_held k) fec)))
    (rw (number-opaque (holder_type k) (before_held k ++ fec) (omega arith)) (eq-eqb _ _ (sym l)))
