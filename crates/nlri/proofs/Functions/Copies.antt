-- What is copied out of an NLRI into structs.
use Rattle.std.proofs.Common.{◌≡◌, ℕ, zero, suc, ◌+◌, ◌<◌, ◌≤◌, List, [], ◌∷◌, ◌++◌, length, get_or, take, drop, replicate, sym, refl, ap, ◌∙◌, arith, append-nil, take_all, drop-cons, eq-eqb, ne_eqb}
use Rattle.octets.specs.Octets.{part, sized}
use Rattle.octets.proofs.Choice.{pick_true, pick-false}
use Rattle.octets.proofs.Lists.{copied-sized, length_part}
use Rattle.nlri.specs.Answers.{address_struct, kind_octets, distinguisher_struct}

pub address-held : (held xs : List ℕ) (n : ℕ) → held ≡ take (length xs) xs ++ drop (length xs) (replicate 16 0) → n ≡ length xs → length xs ≤ 16 → record { octets = held; size = n } ≡ address_struct xs
unfolding address_struct
address-held held xs n e q h = λ i. record { octets = (e ∙ copied-sized 16 xs h) i; size = q i }

-- so many octets from a place on, one by one
unfoldable pub octets_from : (at n : ℕ) → List ℕ → List ℕ
octets_from at zero s = []
octets_from at (suc n) s = get_or s at 0 ∷ octets_from (suc at) n s

octets-taken : (at n : ℕ) (s : List ℕ) → at + n ≤ length s → take n (drop at s) ≡ octets_from at n s
unfolding octets_from
octets-taken at zero s h = refl
octets-taken at (suc n) s h = ap (take (suc n)) (drop-cons s at 0 (omega arith)) ∙ ap (λ (rest : List ℕ). get_or s at 0 ∷ rest) (octets-taken (suc at) n s (omega arith))

pub ipv4-held : (s : List ℕ) → 4 ≤ length s → record { octets = octets_from 0 4 s ++ replicate 12 0; size = 4 } ≡ address_struct (take 4 s)
unfolding address_struct sized octets_from
ipv4-held s h = ap address_struct (sym (octets-taken 0 4 s h))

pub ipv6-held : (s : List ℕ) → 16 ≤ length s → record { octets = octets_from 0 16 s; size = 16 } ≡ address_struct (take 16 s)
unfolding address_struct sized octets_from
ipv6-held s h = ap address_struct (sym (octets-taken 0 16 s h))

-- the octets of an address, by its kind
module _ (bits : ℕ) (s : List ℕ) where
  pub kind-octets-ipv4 : bits ≡ 32 → kind_octets bits s ≡ take 4 s
  unfolding kind_octets
  kind-octets-ipv4 h = pick_true _ _ _ (eq-eqb bits 32 h)

  pub kind-octets-ipv6 : bits ≡ 128 → kind_octets bits s ≡ take 16 s
  unfolding kind_octets
  kind-octets-ipv6 h = pick-false _ _ _ (ne_eqb bits 32 (λ q. omega arith)) ∙ pick_true _ _ _ (eq-eqb bits 128 h)

  pub kind-octets-other : (bits ≡ 32 → ⊥) → (bits ≡ 128 → ⊥) → kind_octets bits s ≡ []
  unfolding kind_octets
  kind-octets-other four sixteen = pick-false _ _ _ (ne_eqb bits 32 four) ∙ pick-false _ _ _ (ne_eqb bits 128 sixteen)

pub distinguisher-held : (held xs : List ℕ) → held ≡ take (length xs) xs ++ drop (length xs) (replicate 8 0) → length xs ≤ 8 → record { octets = held } ≡ distinguisher_struct xs
unfolding distinguisher_struct
distinguisher-held held xs e h = λ i. record { octets = (e ∙ copied-sized 8 xs h) i }

-- a copy of all eight octets
pub distinguisher-whole : (held xs : List ℕ) → held ≡ xs → length xs ≡ 8 → record { octets = held } ≡ distinguisher_struct xs
distinguisher-whole held xs e l = distinguisher-held held xs (e ∙ whole) (omega arith)
  where
    whole : xs ≡ take (length xs) xs ++ drop (length xs) (replicate 8 0)
    whole = rw (take_all (length xs) xs (omega arith), l) (sym (append-nil xs))

pub no_address : record { octets = replicate 16 0; size = 0 } ≡ address_struct []
unfolding address_struct sized
no_address = refl

pub no-distinguisher : record { octets = replicate 8 0 } ≡ distinguisher_struct []
unfolding distinguisher_struct sized
no-distinguisher = refl

pub take_part : (s : List ℕ) (start size most : ℕ) → start + size ≤ length s → size ≤ most → take most (part s start size) ≡ part s start size
take_part s start size most h m = let l = length_part s start size h in take_all most (part s start size) (omega arith)

pub empty-part : (s : List ℕ) (start size : ℕ) → size ≡ 0 → [] ≡ part s start size
unfolding part
empty-part s start size e = rw e

pub positive : (n : ℕ) → (n ≡ 0 → ⊥) → 0 < n
positive n h = omega arith
