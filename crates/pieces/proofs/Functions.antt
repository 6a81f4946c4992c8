-- What the functions answer, as the definitions have it.
use mathlib.Core.Path.{◌≡◌, refl, sym, ◌∙◌, ap}
use mathlib.Core.Bool.{Bool, true, false}
use mathlib.Core.List.{List, ◌++◌}
use Prim.Native.Nat.{ℕ, ◌+◌, ◌-◌, ◌≤◌, ◌<◌, min}
use native.Mathlib.Omega.{arith}
use borrow.Author.Tests.{ltb-true, ltb-false, lt-ltb, le-ltb}
use lib.ListN.{length, get_or, take, get_or-append}
use lib.Seq.{length-take-le, get_or-take, get_or-append-add}
use lib.Dec.{ltb}
use Rattle.octets.specs.Outputs.{Leaves}
use Rattle.octets.specs.Choice.{either}
use Rattle.octets.specs.Octets.{part, placed}
use Rattle.octets.proofs.Choice.{skips, tested, either_left, either_second, either-false}
use Rattle.pieces.specs.declared.state.Pieces.{Pieces}
use Rattle.pieces.specs.declared.feeding.Fed.{Fed}
use Rattle.pieces.specs.Feeding.{FeedAnswer, passed_of, over_of, wanted_of, share_of, number_under, judged_of, settled_of, taken_of, read_on_of}
use Rattle.pieces.proofs.Sizes.{length-together, size_few, size-known}
use Rattle.pieces.proofs.Feeds.{share-all, share-rest}

-- the test whether a state is over, as the code makes it
over-total-by : (total size : ℕ) → either (ltb 4096 size) (ltb (4096 - size) total) ≡ ltb 4096 (total + size)
over-total-by total size =
    tested (ltb 4096 size)
    (λ t. let many : 4096 < size = ltb-true _ _ t in either_left _ _ t ∙ sym (lt-ltb 4096 (total + size) (omega arith)))
    (λ f.
    let few : size ≤ 4096 = ltb-false _ _ f in
    tested (ltb (4096 - size) total)
    (λ t. let more : 4096 - size < total = ltb-true _ _ t in either_second _ _ t ∙ sym (lt-ltb 4096 (total + size) (omega arith)))
    (λ g. let less : total ≤ 4096 - size = ltb-false _ _ g in either-false _ _ f g ∙ sym (le-ltb 4096 (total + size) (omega arith))))

eithers : (a b c d : Bool) → either (either (either a b) c) d ≡ either a (either b (either c d))
unfolding either
eithers true b c d = refl
eithers false true c d = refl
eithers false false c d = refl

pub over-by : (p : Pieces) (size : ℕ) (a b c : Bool) → a ≡ either (ltb 4096 size) (ltb (4096 - size) p.total) → b ≡ either a (ltb 4096 p.walked.count) → c ≡ either b (ltb 4096 p.walked.skipped)
    → either c (ltb 256 p.kept) ≡ over_of p size
unfolding over_of
over-by p size a b c is-a is-b is-c =
    rw (is-c, is-b, is-a, over-total-by p.total size) (eithers _ _ _ _)

-- the size that the kept octets and the piece tell
module _ (kept : ℕ) (unfinished piece : List ℕ) (room : kept ≤ length unfinished) where
  pub want-few : kept + length piece < 2 → 2 ≡ wanted_of kept unfinished piece
  unfolding wanted_of
  want-few h = sym (size_few _ (omega (arith, length-together kept unfinished piece room)))

  want-octet : (x : ℕ) → 2 ≤ kept + length piece → x ≡ get_or (take kept unfinished ++ piece) 1 0 → 2 + x ≡ wanted_of kept unfinished piece
  unfolding wanted_of
  want-octet x h e = ap (λ (n : ℕ). 2 + n) e ∙ sym (size-known _ (omega (arith, length-together kept unfinished piece room)))

  -- the Length octet is in the piece, or kept
  octet-later : (i : ℕ) → 1 ≡ kept + i → get_or piece i 0 ≡ get_or (take kept unfinished ++ piece) 1 0
  octet-later i e =
      let at : 1 ≡ length (take kept unfinished) + i = omega (arith, length-take-le kept unfinished room) in
      sym (ap (λ (n : ℕ). get_or (take kept unfinished ++ piece) n 0) at ∙ get_or-append-add (take kept unfinished) piece i 0)

  pub want-later : kept < 2 → 2 ≤ kept + length piece → 2 + get_or piece (1 - kept) 0 ≡ wanted_of kept unfinished piece
  want-later few h = want-octet (get_or piece (1 - kept) 0) h (octet-later (1 - kept) (omega arith))

  pub want_kept : 2 ≤ kept → 2 + get_or unfinished 1 0 ≡ wanted_of kept unfinished piece
  want_kept two =
      want-octet (get_or unfinished 1 0) (omega arith)
      (sym (get_or-append (take kept unfinished) piece 0 1 (omega (arith, length-take-le kept unfinished room)) ∙ get_or-take kept unfinished 1 0 (omega arith)))

-- the share is the lesser of what is wanted and what is there
pub share-least : (wanted kept size : ℕ) → min (wanted - kept) size ≡ share_of wanted kept size
share-least wanted kept size =
    tested (ltb (kept + size) wanted) (λ t. let h : kept + size < wanted = ltb-true _ _ t in omega (arith, share-all wanted kept size h))
    (λ f. let h : wanted ≤ kept + size = ltb-false _ _ f in omega (arith, share-rest wanted kept size h))

-- what is kept of a piece
pub keep-front : (kept share : ℕ) (unfinished piece e after : List ℕ) → after ≡ placed kept e unfinished → e ≡ part piece 0 share → after ≡ placed kept (take share piece) unfinished
unfolding part
keep-front kept share unfinished piece e after p q = p ∙ ap (λ (x : List ℕ). placed kept x unfinished) q

-- an NLRI that is whole, by the number of its octets
pub settle-whole : (p : Pieces) (unfinished s : List ℕ) (size wanted share n : ℕ) (fed : Fed) → wanted ≤ p.kept + size → s ≡ part unfinished 0 wanted → n ≡ number_under p.afi s
    → fed ≡ judged_of p n wanted share → fed ≡ settled_of p unfinished size wanted share
unfolding settled_of part
settle-whole p unfinished s size wanted share n fed h cut is e =
    skips _ _ _ _ (le-ltb (p.kept + size) wanted h) (e ∙ ap (λ (m : ℕ). judged_of p m wanted share) (is ∙ ap (number_under p.afi) cut))

-- the answer of a feed, and the lent octets afterwards
pub answers-as : (fed : Fed) (after : List ℕ) (a b : FeedAnswer) → b ≡ a → Leaves a fed after → Leaves b fed after
answers-as fed after a b e h = (h.0 ∙ sym (ap (λ (x : FeedAnswer). x.answer) e), h.1 ∙ sym (ap (λ (x : FeedAnswer). x.octets) e))

pub passes-as : (unfinished piece : List ℕ) (p q : Pieces) (fed : Fed) (b : FeedAnswer) → b ≡ passed_of p unfinished piece → fed ≡ record { pieces = q; taken = length piece; size = 0 } → q ≡ p → Leaves b fed unfinished
passes-as unfinished piece p q fed b is e s =
    answers-as fed unfinished (passed_of p unfinished piece) b is (e ∙ ap (λ (x : Pieces). record { pieces = x; taken = length piece; size = 0 }) s, refl)

pub reads_as : (p : Pieces) (unfinished piece after : List ℕ) (fed : Fed) (wanted share : ℕ) → wanted ≡ wanted_of p.kept unfinished piece → share ≡ share_of wanted p.kept (length piece)
    → after ≡ placed p.kept (take share piece) unfinished → fed ≡ settled_of p after (length piece) wanted share → Leaves (read_on_of p unfinished piece) fed after
unfolding read_on_of taken_of
reads_as p unfinished piece after fed wanted share w s m f =
    let both : taken_of p unfinished piece (wanted_of p.kept unfinished piece) (share_of (wanted_of p.kept unfinished piece) p.kept (length piece)) ≡ taken_of p unfinished piece wanted share =
    ap (λ (x : ℕ). taken_of p unfinished piece x (share_of x p.kept (length piece))) (sym w) ∙ ap (taken_of p unfinished piece wanted) (sym s) in
    answers-as fed after (taken_of p unfinished piece wanted share) _ both (f ∙ ap (λ (x : List ℕ). settled_of p x (length piece) wanted share) m, m)
