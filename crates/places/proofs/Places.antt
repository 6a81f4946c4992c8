-- Places as they are written.
use Prim.Native.Nat.{ℕ, ◌+◌, ◌-◌, ◌≤◌}
use mathlib.Core.Path.{◌≡◌, sym, ap, ◌∙◌}
use mathlib.Core.List.{List, [], ◌∷◌, ◌++◌, append_assoc}
use native.Mathlib.Nat.{zero-add}
use native.Mathlib.Omega.{arith}
use lib.ListN.{length, length-append, take, drop, replicate-append-replicate}
use lib.Seq.{drop_at, drop-drop}
use Rattle.octets.specs.Octets.{placed}
use Rattle.octets.specs.Order.{zeros}
use Rattle.octets.specs.Choice.{pick}
use Rattle.octets.specs.Outputs.{Put}
use Rattle.octets.proofs.Outputs.{put_then}
use Rattle.routes.specs.Route.{route}
use Rattle.routes.specs.Place.{mark_octet, place_of}
use Rattle.routes.proofs.Definitions.Places.{length-zeros}

pub zeros-split : (m n : ℕ) → zeros (m + n) ≡ zeros m ++ zeros n
unfolding zeros
zeros-split m n = sym (replicate-append-replicate m n 0)

-- zeros with octets put over their front
over_zeros : (size : ℕ) (e : List ℕ) → length e ≤ size → placed 0 e (zeros size) ≡ e ++ zeros (size - length e)
unfolding placed
over_zeros size e h =
    let s : size ≡ length e + (size - length e) = omega arith in
    let rest : drop (length e) (zeros size) ≡ zeros (size - length e) =
    ap (λ (k : ℕ). drop (length e) (zeros k)) s ∙ ap (drop (length e)) (zeros-split (length e) (size - length e)) ∙ drop_at (zeros (length e)) (zeros (size - length e)) (length e) (length-zeros (length e)) in
    rw (zero-add (length e), rest)

-- sizes, NLRI and attribute put into zeros one after the other
pub place-written : (n a z x y w : List ℕ) (i j k : ℕ) → length n + length a ≤ 125 → z ≡ zeros 128 → Put 0 (length n ∷ (length a ∷ [])) z i x → Put i n x j y → Put j a y k w → w ≡ place_of (route n a)
unfolding place_of mark_octet pick zeros
place-written n a z x y w i j k h e p q r =
    let lz : length z ≡ 128 = ap length e ∙ length-zeros 128 in
    let sizes : List ℕ = length n ∷ (length a ∷ []) in
    let first : Put 0 (sizes ++ n) z j y = put_then 0 sizes n z (omega arith) i x p j y q in
    let whole : Put 0 ((sizes ++ n) ++ a) z k w = put_then 0 (sizes ++ n) a z (omega (arith, length-append n a)) j y first k w r in
    let over : placed 0 ((sizes ++ n) ++ a) (zeros 128) ≡ ((sizes ++ n) ++ a) ++ zeros (128 - length ((sizes ++ n) ++ a)) = over_zeros 128 ((sizes ++ n) ++ a) (omega arith) in
    let left : 128 - length ((sizes ++ n) ++ a) ≡ 126 - (length n + length a) = omega arith in
    let last : 126 - (length n + length a) ≡ 125 - (length n + length a) + 1 = omega arith in
    whole.1 ∙ ap (placed 0 ((sizes ++ n) ++ a)) e ∙ over ∙ ap (λ (m : ℕ). ((sizes ++ n) ++ a) ++ zeros m) left
    ∙ ap (λ (l : List ℕ). length n ∷ (length a ∷ l)) (append_assoc n a (zeros (126 - (length n + length a)))
    ∙ ap (λ (l : List ℕ). n ++ (a ++ l)) (ap zeros last ∙ zeros-split (125 - (length n + length a)) 1))

-- a part lent to be written over
pub lent-over : (n start : ℕ) (t p : List ℕ) → length p ≡ n → take start t ++ (p ++ drop (start + n - start) (drop start t)) ≡ placed start p t
unfolding placed
lent-over n start t p e =
    let last : start + (start + n - start) ≡ start + length p = omega arith in
    ap (λ (x : List ℕ). take start t ++ (p ++ x)) (drop-drop (start + n - start) start t ∙ ap (λ (k : ℕ). drop k t) last)
