-- Routes entered into the image of routes, and taken out of it.
use Prim.Native.Nat.{ℕ, suc, ◌+◌, ◌-◌, ◌*◌, ◌≤◌, ◌<◌}
use mathlib.Core.Path.{◌≡◌, refl, sym, ap, ap₂, subst, ◌∙◌}
use mathlib.Core.Bool.{true, false}
use mathlib.Core.List.{List, [], ◌∷◌, ◌++◌, append_assoc}
use native.Mathlib.Omega.{arith}
use lib.ListN.{length, get_or, take, drop, length-append, take-append-drop}
use lib.Seq.{length-take-le, split_at}
use Rattle.octets.specs.Octets.{AllOctets, placed}
use Rattle.octets.specs.Order.{zeros}
use Rattle.routes.specs.Route.{Route, route, nlri_of, inserted, removed}
use Rattle.routes.specs.Place.{place_of, AllAcceptable, none, one}
use Rattle.routes.specs.Table.{header_of, places_of, image_of, afi_in, count_in, places_in, routes_of, sound_of}
use Rattle.routes.specs.Rules.Images.{Holdable}
use Rattle.routes.proofs.Definitions.Headers.{length-header, past-header}
use Rattle.routes.proofs.Statements.Images.{afi-image, length-routes, sound-holdable, sound-image}
use Rattle.routes.proofs.Definitions.Places.{length-zeros, length-acceptable-place, length-places, places-append}
use Rattle.changes.specs.Changing.{rank, first_is, opened, closed, replaced_at, opened_at, added_at, taken_at}
use Rattle.places.proofs.Places.{zeros-split}
use Rattle.changes.proofs.Ranks.{rank_most, first-within, inserted-held, inserted_new, removed-held}
use Rattle.changes.proofs.Gaps.{over, gap-filled, gap-closed-over}

acceptable-front : {afi : ℕ} (xs ys : List Route) → AllAcceptable afi (xs ++ ys) → AllAcceptable afi xs
acceptable-front [] ys a = none
acceptable-front (x ∷ xs) ys (one h a) = one h (acceptable-front xs ys a)

acceptable-rest : {afi : ℕ} (xs ys : List Route) → AllAcceptable afi (xs ++ ys) → AllAcceptable afi ys
acceptable-rest [] ys a = a
acceptable-rest (x ∷ xs) ys (one h a) = acceptable-rest xs ys a

first-size : {afi : ℕ} {r : Route} {rs : List Route} → AllAcceptable afi (r ∷ rs) → length (place_of r) ≡ 128
first-size {afi} {r} (one h a) = length-acceptable-place afi r h

-- an image by the octets of its places
image-of : (afi places n : ℕ) (rs : List Route) (xs : List ℕ) → length rs ≡ n → places_of rs ≡ xs → image_of afi places rs ≡ header_of afi n ++ (xs ++ zeros (128 * (places - n)))
unfolding image_of
image-of afi places n rs xs e f = rw (e, f)

-- header and first places, and the rest
image-split : (afi places n : ℕ) (xs ys : List Route) → length (xs ++ ys) ≡ n
    → image_of afi places (xs ++ ys) ≡ (header_of afi n ++ places_of xs) ++ (places_of ys ++ zeros (128 * (places - n)))
image-split afi places n xs ys e =
    let z : List ℕ = zeros (128 * (places - n)) in
    image-of afi places n (xs ++ ys) (places_of xs ++ places_of ys) e (places-append xs ys)
    ∙ ap (λ (l : List ℕ). header_of afi n ++ l) (append_assoc (places_of xs) (places_of ys) z)
    ∙ sym (append_assoc (header_of afi n) (places_of xs) (places_of ys ++ z))

front-size : (afi n : ℕ) (xs : List Route) → AllAcceptable afi xs → length (header_of afi n ++ places_of xs) ≡ 8 + 128 * length xs
front-size afi n xs a = length-append (header_of afi n) (places_of xs) ∙ ap₂ (λ (i j : ℕ). i + j) (length-header afi n) (length-places afi xs a)

-- a new header before the places
header-over : (afi m n : ℕ) (xs ys : List ℕ) → header_of afi m ++ drop 8 ((header_of afi n ++ xs) ++ ys) ≡ header_of afi m ++ (xs ++ ys)
header-over afi m n xs ys = ap (λ (l : List ℕ). header_of afi m ++ l) (ap (drop 8) (append_assoc (header_of afi n) xs ys) ∙ past-header afi n (xs ++ ys))

-- the place of a route among others written over
image-replaced : (afi places : ℕ) (xs ys : List Route) (q r : Route) → AllAcceptable afi (xs ++ (q ∷ ys)) → length (place_of r) ≡ 128
    → replaced_at (length xs) (place_of r) (image_of afi places (xs ++ (q ∷ ys))) ≡ image_of afi places (xs ++ (r ∷ ys))
unfolding replaced_at places_of
image-replaced afi places xs ys q r a p =
    let n : ℕ = length (xs ++ (q ∷ ys)) in
    let x : List ℕ = header_of afi n ++ places_of xs in
    let z : List ℕ = zeros (128 * (places - n)) in
    let size : length (xs ++ (r ∷ ys)) ≡ n = length-append xs (r ∷ ys) ∙ sym (length-append xs (q ∷ ys)) in
    let old : length (place_of q) ≡ length (place_of r) = first-size (acceptable-rest xs (q ∷ ys) a) ∙ sym p in
    ap (placed (8 + 128 * length xs) (place_of r)) (image-split afi places n xs (q ∷ ys) refl ∙ ap (λ (l : List ℕ). x ++ l) (append_assoc (place_of q) (places_of ys) z))
    ∙ over (8 + 128 * length xs) x (place_of q) (places_of ys ++ z) (place_of r) (front-size afi n xs (acceptable-front xs (q ∷ ys) a)) old
    ∙ sym (image-split afi places n xs (r ∷ ys) size ∙ ap (λ (l : List ℕ). x ++ l) (append_assoc (place_of r) (places_of ys) z))

-- a place for one route more
image-added : (afi places : ℕ) (xs ys : List Route) (r : Route) → AllAcceptable afi (xs ++ ys) → length (place_of r) ≡ 128 → length (xs ++ ys) < places
    → added_at (length xs) (length (xs ++ ys)) (place_of r) (image_of afi places (xs ++ ys)) ≡ image_of afi places (xs ++ (r ∷ ys))
unfolding added_at opened_at replaced_at places_of
image-added afi places xs ys r a p h =
    let n : ℕ = length (xs ++ ys) in
    let x : List ℕ = header_of afi (n + 1) ++ places_of xs in
    let w : List ℕ = zeros (128 * (places - (n + 1))) in
    let b : List ℕ = places_of ys in
    let start : ℕ = 8 + 128 * length xs in
    let end : ℕ = 8 + 128 * (n + 1) in
    let free : 128 * (places - n) ≡ 128 + 128 * (places - (n + 1)) = omega arith in
    let spaced : header_of (afi_in (image_of afi places (xs ++ ys))) (n + 1) ++ drop 8 (image_of afi places (xs ++ ys)) ≡ x ++ (b ++ (zeros 128 ++ w)) =
    ap₂ (λ (i : ℕ) (l : List ℕ). header_of i (n + 1) ++ drop 8 l) (afi-image afi places (xs ++ ys))
    (image-split afi places n xs ys refl ∙ ap (λ (l : List ℕ). (header_of afi n ++ places_of xs) ++ (b ++ l)) (ap zeros free ∙ zeros-split 128 (128 * (places - (n + 1)))))
    ∙ header-over afi (n + 1) n (places_of xs) (b ++ (zeros 128 ++ w)) ∙ sym (append_assoc (header_of afi (n + 1)) (places_of xs) (b ++ (zeros 128 ++ w))) in
    let rest : length b ≡ 128 * length ys = length-places afi ys (acceptable-rest xs ys a) in
    let both : n ≡ length xs + length ys = length-append xs ys in
    let more : length (xs ++ (r ∷ ys)) ≡ n + 1 = length-append xs (r ∷ ys) ∙ longer (length xs) (length ys) n both in
    ap (λ (l : List ℕ). placed start (place_of r) (opened start end l)) spaced
    ∙ gap-filled start end x b (zeros 128) w (place_of r) (front-size afi (n + 1) xs (acceptable-front xs ys a)) (length-zeros 128) p (omega arith)
    ∙ sym (image-split afi places (n + 1) xs (r ∷ ys) more ∙ ap (λ (l : List ℕ). x ++ l) (append_assoc (place_of r) b w))
  where
    longer : (i j n : ℕ) → n ≡ i + j → i + suc j ≡ n + 1
    longer i j n e = omega arith

-- the place of a route taken out
image-taken : (afi places : ℕ) (xs ys : List Route) (q : Route) → AllAcceptable afi (xs ++ (q ∷ ys)) → length (xs ++ (q ∷ ys)) ≤ places
    → taken_at (length xs) (length (xs ++ (q ∷ ys))) (image_of afi places (xs ++ (q ∷ ys))) ≡ image_of afi places (xs ++ ys)
unfolding taken_at places_of
image-taken afi places xs ys q a h =
    let n : ℕ = length (xs ++ (q ∷ ys)) in
    let x : List ℕ = header_of afi n ++ places_of xs in
    let w : List ℕ = zeros (128 * (places - n)) in
    let b : List ℕ = places_of ys in
    let start : ℕ = 8 + 128 * length xs in
    let end : ℕ = 8 + 128 * n in
    let behind : AllAcceptable afi (q ∷ ys) = acceptable-rest xs (q ∷ ys) a in
    let rest : length b ≡ 128 * length ys = length-places afi ys (acceptable-rest (q ∷ []) ys behind) in
    let both : n ≡ length xs + suc (length ys) = length-append xs (q ∷ ys) in
    let shut : closed start end (image_of afi places (xs ++ (q ∷ ys))) ≡ x ++ (b ++ (zeros 128 ++ w)) =
    ap (closed start end) (image-split afi places n xs (q ∷ ys) refl ∙ ap (λ (l : List ℕ). x ++ l) (append_assoc (place_of q) b w))
    ∙ gap-closed-over start end x (place_of q) b w (front-size afi n xs (acceptable-front xs (q ∷ ys) a)) (first-size behind) (omega arith) in
    let fewer : length (xs ++ ys) ≡ n - 1 = length-append xs ys ∙ shorter (length xs) (length ys) n both in
    let free : 128 + 128 * (places - n) ≡ 128 * (places - (n - 1)) = omega arith in
    ap₂ (λ (i : ℕ) (l : List ℕ). header_of i (n - 1) ++ drop 8 l) (afi-image afi places (xs ++ (q ∷ ys))) shut
    ∙ header-over afi (n - 1) n (places_of xs) (b ++ (zeros 128 ++ w))
    ∙ ap (λ (l : List ℕ). header_of afi (n - 1) ++ (places_of xs ++ (b ++ l))) (sym (zeros-split 128 (128 * (places - n))) ∙ ap zeros free)
    ∙ sym (image-of afi places (n - 1) (xs ++ ys) (places_of xs ++ b) fewer (places-append xs ys)
    ∙ ap (λ (l : List ℕ). header_of afi (n - 1) ++ l) (append_assoc (places_of xs) b (zeros (128 * (places - (n - 1))))))
  where
    shorter : (i j n : ℕ) → n ≡ i + suc j → i + j ≡ n - 1
    shorter i j n e = omega arith

nowhere : Route
nowhere = route [] []

-- a table's octets with a route entered over the one of the same NLRI
pub image-entered-held : (afi places : ℕ) (rs : List Route) (r : Route) → Holdable afi places rs → length (place_of r) ≡ 128 → first_is (nlri_of r) (drop (rank (nlri_of r) rs) rs) ≡ true
    → replaced_at (rank (nlri_of r) rs) (place_of r) (image_of afi places rs) ≡ image_of afi places (inserted r rs)
image-entered-held afi places rs r h p f =
    let k : ℕ = rank (nlri_of r) rs in
    let q : Route = get_or rs k nowhere in
    let within : k < length rs = first-within (nlri_of r) rs k f in
    let split : rs ≡ take k rs ++ (q ∷ drop (suc k) rs) = split_at rs k nowhere within in
    let size : length (take k rs) ≡ k = length-take-le k rs (omega arith) in
    ap₂ (λ (i : ℕ) (l : List Route). replaced_at i (place_of r) (image_of afi places l)) (sym size) split
    ∙ image-replaced afi places (take k rs) (drop (suc k) rs) q r (subst (AllAcceptable afi) split h.acceptable) p
    ∙ ap (image_of afi places) (sym (inserted-held r rs f))

-- with a route of another NLRI entered where it belongs
image-entered-new : (afi places : ℕ) (rs : List Route) (r : Route) → Holdable afi places rs → length (place_of r) ≡ 128 → first_is (nlri_of r) (drop (rank (nlri_of r) rs) rs) ≡ false → length rs < places
    → added_at (rank (nlri_of r) rs) (length rs) (place_of r) (image_of afi places rs) ≡ image_of afi places (inserted r rs)
image-entered-new afi places rs r h p f room =
    let k : ℕ = rank (nlri_of r) rs in
    let split : rs ≡ take k rs ++ drop k rs = sym (take-append-drop k rs) in
    let size : length (take k rs) ≡ k = length-take-le k rs (rank_most (nlri_of r) rs) in
    ap₂ (λ (i : ℕ) (l : List Route). added_at i (length l) (place_of r) (image_of afi places l)) (sym size) split
    ∙ image-added afi places (take k rs) (drop k rs) r (subst (AllAcceptable afi) split h.acceptable) p (subst (λ (l : List Route). length l < places) split room)
    ∙ ap (image_of afi places) (sym (inserted_new r rs f))

-- of a sound table, by the index that is found for it
pub entered-new : (t u : List ℕ) (k : ℕ) (r : Route) → AllOctets t → sound_of t ≡ true → length (place_of r) ≡ 128 → k ≡ rank (nlri_of r) (routes_of t) → first_is (nlri_of r) (drop k (routes_of t)) ≡ false
    → count_in t < places_in t → u ≡ added_at k (count_in t) (place_of r) t → u ≡ image_of (afi_in t) (places_in t) (inserted r (routes_of t))
entered-new t u k r o h l e f room q =
    let here : first_is (nlri_of r) (drop (rank (nlri_of r) (routes_of t)) (routes_of t)) ≡ false = ap (λ (i : ℕ). first_is (nlri_of r) (drop i (routes_of t))) (sym e) ∙ f in
    let free : length (routes_of t) < places_in t = rw (length-routes t) room in
    q ∙ ap (λ (i : ℕ). added_at i (count_in t) (place_of r) t) e
    ∙ ap₂ (λ (c : ℕ) (x : List ℕ). added_at (rank (nlri_of r) (routes_of t)) c (place_of r) x) (sym (length-routes t)) (sound-image t o h)
    ∙ image-entered-new (afi_in t) (places_in t) (routes_of t) r (sound-holdable t h) l here free

-- with an NLRI taken out
pub image-left : (afi places : ℕ) (rs : List Route) (n : List ℕ) → Holdable afi places rs → first_is n (drop (rank n rs) rs) ≡ true
    → taken_at (rank n rs) (length rs) (image_of afi places rs) ≡ image_of afi places (removed n rs)
image-left afi places rs n h f =
    let k : ℕ = rank n rs in
    let q : Route = get_or rs k nowhere in
    let within : k < length rs = first-within n rs k f in
    let split : rs ≡ take k rs ++ (q ∷ drop (suc k) rs) = split_at rs k nowhere within in
    let size : length (take k rs) ≡ k = length-take-le k rs (omega arith) in
    ap₂ (λ (i : ℕ) (l : List Route). taken_at i (length l) (image_of afi places l)) (sym size) split
    ∙ image-taken afi places (take k rs) (drop (suc k) rs) q (subst (AllAcceptable afi) split h.acceptable) (subst (λ (l : List Route). length l ≤ places) split h.within)
    ∙ ap (image_of afi places) (sym (removed-held n rs f))
