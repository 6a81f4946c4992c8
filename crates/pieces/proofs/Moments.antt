-- What holds of a reader at every moment, and that a moment of the caller's loop is one of these.
use mathlib.Core.Path.{◌≡◌, refl, sym, ◌∙◌, ap, subst}
use mathlib.Core.List.{List, [], ◌∷◌, ◌++◌, append_assoc, append-nil}
use mathlib.Core.Logic.{inl, ⊎_elim}
use Prim.Native.Nat.{ℕ, zero, suc, ◌+◌, ◌≤◌, ◌<◌}
use native.Mathlib.Nat.{sub-zero}
use native.Mathlib.Omega.{arith}
use borrow.Author.Tests.{ltb-true, ltb-false, leb-true, leb-false}
use lib.ListN.{length, take, drop, length-append, length-drop, take-append-drop}
use lib.Seq.{length-take-le, take_all, take-append_seam, drop-append_seam}
use lib.Dec.{ltb, leb}
use Rattle.octets.specs.Numbers.{DONE, LONG}
use Rattle.octets.specs.Choice.{pick}
use Rattle.octets.specs.Outcome.{given, refused}
use Rattle.octets.specs.Octets.{AllOctets, none}
use Rattle.octets.proofs.Choice.{tested, pick_true, pick-false}
use Rattle.octets.proofs.Outcome.{outcome, on-given, on-refused}
use Rattle.octets.proofs.AllOctets.{octets-take, octets-drop, octets-append}
use Rattle.nlri.specs.Family.{family_bits}
use Rattle.runs.specs.Walking.{walked_to}
use Rattle.runs.specs.Modes.{nlris_by_from, nlris_by}
use Rattle.runs.proofs.Going.{going-first}
use Rattle.pieces.specs.declared.state.Pieces.{Pieces}
use Rattle.pieces.specs.Feeding.{READING, STOPPED, FINISHED, FeedAnswer, started_as, start_of, long_of, passed_of}
use Rattle.pieces.specs.Handing.{Caller, started_with, given_by, fed_by, after_feed, feed_piece, feed_pieces, joined, Moment, first, next}
use Rattle.pieces.proofs.Sizes.{size-least}
use Rattle.pieces.proofs.Feeds.{over-total, feed-finished, feed-over, taken-most, feed-front}
use Rattle.pieces.proofs.Means.{Means, fed, progress}

-- the octets taken are octets
pub octets-moment : {afi mode : ℕ} {run : List ℕ} {c : Caller} → Moment afi mode run c → AllOctets run
octets-moment (first unfinished room) = none
octets-moment (next {run} {c} m piece o) = octets-append (octets-moment m) (octets-take (fed_by c piece).answer.taken o)

-- a reader that has taken more than 4,096 octets
pub record Long (p : Pieces) : Type 0 where
  pub stage : p.stage ≡ STOPPED
  pub total : p.total ≡ 4097
  pub walked : p.walked ≡ walked_to LONG 0 0

-- one that has taken no more: whatever may follow, its state means what it is to mean
abbrev pub Sound : (afi mode bits : ℕ) (run : List ℕ) → Caller → Type 0
Sound afi mode bits run c = (rest : List ℕ) → AllOctets (run ++ rest) → length (run ++ rest) ≤ 4096 → Means afi mode bits (run ++ rest) rest c

pub sound-now : (afi mode bits : ℕ) (run : List ℕ) (c : Caller) → Sound afi mode bits run c → AllOctets run → length run ≤ 4096 → Means afi mode bits run [] c
sound-now afi mode bits run c s o few =
    let same = append-nil run in
    subst (λ (w : List ℕ). Means afi mode bits w [] c) same (s [] (subst AllOctets (sym same) o) (omega (arith, ap length same)))

pub record Held (afi mode bits : ℕ) (run : List ℕ) (c : Caller) : Type 0 where
  pub short : length run ≤ 4096 → Sound afi mode bits run c
  pub over : 4096 < length run → Long c.pieces

-- facts in both cases of what a state means
module _ (afi mode bits : ℕ) (run : List ℕ) (c : Caller) (m : Means afi mode bits run [] c) where
  pub means-total : c.pieces.total ≡ length run
  means-total = ⊎_elim (λ r. omega (arith, r.total)) (λ s. omega (arith, s.total)) m

  means-stage : c.pieces.stage ≤ STOPPED
  means-stage = ⊎_elim (λ r. omega (arith, r.stage)) (λ s. omega (arith, s.stage)) m

  means-room : length c.unfinished ≡ 257
  means-room = ⊎_elim (λ r. r.room) (λ s. s.room) m

-- a piece that passes 4,096 in all
pub fed-over : (afi mode bits : ℕ) (run : List ℕ) (c : Caller) → AllOctets run → Held afi mode bits run c → (piece : List ℕ) → 4096 < length run + length piece
    → fed_by c piece ≡ passed_of (long_of c.pieces) c.unfinished piece
fed-over afi mode bits run c o held piece many =
    tested (ltb 4096 (length run)) (λ t. let long = held.over (ltb-true _ _ t) in over (omega (arith, long.stage)) (omega (arith, long.total)))
    (λ f.
    let few : length run ≤ 4096 = ltb-false _ _ f in
    let means = sound-now afi mode bits run c (held.short few) o few in
    over (means-stage afi mode bits run c means) (omega (arith, means-total afi mode bits run c means)))
  where
    over : c.pieces.stage ≤ STOPPED → 4096 < c.pieces.total + length piece → fed_by c piece ≡ passed_of (long_of c.pieces) c.unfinished piece
    over stage h = feed-over c.pieces c.unfinished piece stage (over-total c.pieces (length piece) h)

long_after : (c : Caller) (piece : List ℕ) → fed_by c piece ≡ passed_of (long_of c.pieces) c.unfinished piece → Long (after_feed c (fed_by c piece)).pieces
unfolding after_feed
long_after c piece is = subst (λ (a : FeedAnswer). Long a.answer.pieces) (sym is) (record { stage = refl; total = refl; walked = refl })

held-long : (afi mode bits : ℕ) (run : List ℕ) (c : Caller) (piece : List ℕ) → fed_by c piece ≡ passed_of (long_of c.pieces) c.unfinished piece → 4096 < length run + length piece
    → Held afi mode bits (run ++ take (fed_by c piece).answer.taken piece) (after_feed c (fed_by c piece))
held-long afi mode bits run c piece is h =
    let same : run ++ take (fed_by c piece).answer.taken piece ≡ run ++ piece = ap (λ (a : FeedAnswer). run ++ take a.answer.taken piece) is ∙ ap (λ (l : List ℕ). run ++ l) (take_all (length piece) piece (omega arith)) in
    record { short = λ few. absurd (omega (arith, ap length same, length-append run piece)); over = λ _. long_after c piece is }

held-short : (afi mode bits : ℕ) (run : List ℕ) (c : Caller) (piece : List ℕ) → length c.unfinished ≡ 257 → Sound afi mode bits run c → length run + length piece ≤ 4096
    → Held afi mode bits (run ++ take (fed_by c piece).answer.taken piece) (after_feed c (fed_by c piece))
held-short afi mode bits run c piece room s h =
    let taken : ℕ = (fed_by c piece).answer.taken in
    let front : List ℕ = take taken piece in
    let len : length front ≡ taken = length-take-le taken piece (taken-most c.pieces c.unfinished piece) in
    let same : fed_by c front ≡ fed_by c piece = feed-front c.pieces c.unfinished piece room in
    let all : (fed_by c front).answer.taken ≡ length front = ap (λ (a : FeedAnswer). a.answer.taken) same ∙ sym len in
    record {
      short = λ _ rest o few.
          let e = append_assoc run front rest in
          let o' : AllOctets (run ++ (front ++ rest)) = subst AllOctets e o in
          let means = fed afi mode bits (run ++ (front ++ rest)) o' front rest c (s (front ++ rest) o' (omega (arith, ap length e))) all in
          subst (λ (w : List ℕ). Means afi mode bits w rest (after_feed c (fed_by c piece))) (sym e)
          (subst (λ (a : FeedAnswer). Means afi mode bits (run ++ (front ++ rest)) rest (after_feed c a)) same means);
      over = λ many. absurd (omega (arith, length-append run front, taken-most c.pieces c.unfinished piece));
    }

module _ (afi mode bits : ℕ) (of_family : family_bits afi ≡ given bits) where
  held_first : (unfinished : List ℕ) → length unfinished ≡ 257 → Held afi mode bits [] (started_with afi mode unfinished)
  unfolding start_of nlris_by
  held_first unfinished room =
      let is : started_as afi mode READING DONE ≡ start_of afi mode = on-given _ _ _ _ _ of_family refl in
      record {
        short = λ _ rest o few.
            subst (λ (p : Pieces). Means afi mode bits rest rest (record { pieces = p; unfinished = unfinished; nlris = [] })) is
            (inl
            (record {
              family = refl;
              by_mode = refl;
              stage = refl;
              number = refl;
              total = omega arith;
              place = omega arith;
              going = going-first afi mode rest bits of_family few;
              told = ap (λ (n : ℕ). nlris_by_from (suc n) afi mode rest 0) (sym (sub-zero (length rest)));
              room = room;
              here = refl;
              part-way = omega (arith, size-least []);
            }));
        over = λ many. absurd (omega arith);
      }

  held_next : (run : List ℕ) (c : Caller) (piece : List ℕ) → AllOctets run → Held afi mode bits run c → Held afi mode bits (run ++ take (fed_by c piece).answer.taken piece) (after_feed c (fed_by c piece))
  held_next run c piece o held =
      tested (ltb 4096 (length run + length piece))
      (λ t. let many : 4096 < length run + length piece = ltb-true _ _ t in held-long afi mode bits run c piece (fed-over afi mode bits run c o held piece many) many)
      (λ f.
      let all : length run + length piece ≤ 4096 = ltb-false _ _ f in
      let few : length run ≤ 4096 = omega arith in
      held-short afi mode bits run c piece (means-room afi mode bits run c (sound-now afi mode bits run c (held.short few) o few)) (held.short few) all)

  pub held : {run : List ℕ} {c : Caller} → Moment afi mode run c → Held afi mode bits run c
  held (first unfinished room) = held_first unfinished room
  held (next {run} {c} m piece o) = held_next run c piece (octets-moment m) (held m)

-- a bad AFI: the state stays as it was at the start
pub record Refused (afi mode : ℕ) (c : Caller) : Type 0 where
  pub stays : c.pieces ≡ start_of afi mode
  pub gave : c.nlris ≡ []

pub start-refused : (afi mode n : ℕ) → family_bits afi ≡ refused n → start_of afi mode ≡ started_as afi mode FINISHED n
unfolding start_of
start-refused afi mode n bad = sym (on-refused _ _ _ _ _ bad refl)

module _ (afi mode n : ℕ) (bad : family_bits afi ≡ refused n) where
  pub fed-refused : (c : Caller) (piece : List ℕ) → Refused afi mode c → fed_by c piece ≡ passed_of c.pieces c.unfinished piece
  fed-refused c piece r = feed-finished c.pieces c.unfinished piece (omega (arith, ap (λ (p : Pieces). p.stage) (r.stays ∙ start-refused afi mode n bad)))

  pub refused-moment : {run : List ℕ} {c : Caller} → Moment afi mode run c → Refused afi mode c
  unfolding after_feed given_by pick
  refused-moment (first unfinished room) = record { stays = refl; gave = refl }
  refused-moment (next {run} {c} m piece o) =
      let r = refused-moment m in
      subst (λ (a : FeedAnswer). Refused afi mode (after_feed c a)) (sym (fed-refused c piece r)) (record { stays = r.stays; gave = append-nil c.nlris ∙ r.gave })

-- some octets are taken of a piece that has some
pub takes-some : {afi mode : ℕ} {run : List ℕ} {c : Caller} → Moment afi mode run c → (piece : List ℕ) → AllOctets piece → 0 < length piece → 0 < (fed_by c piece).answer.taken
takes-some {afi} {mode} {run} {c} m piece o some =
    ⊎_elim
    (λ good.
    let h = held afi mode good.0 good.1 m in
    let o' = octets-append (octets-moment m) o in
    tested (ltb 4096 (length run + length piece)) (λ t. passes _ (fed-over afi mode good.0 run c (octets-moment m) h piece (ltb-true _ _ t)))
    (λ f.
    let all : length run + length piece ≤ 4096 = ltb-false _ _ f in
    progress afi mode good.0 (run ++ piece) o' piece c (h.short (omega arith) piece o' (omega (arith, length-append run piece))) some))
    (λ bad. passes _ (fed-refused afi mode bad.0 bad.1 c piece (refused-moment afi mode bad.0 bad.1 m)))
    (outcome (family_bits afi))
  where
    passes : (q : Pieces) → fed_by c piece ≡ passed_of q c.unfinished piece → 0 < (fed_by c piece).answer.taken
    passes q e = omega (arith, ap (λ (a : FeedAnswer). a.answer.taken) e)

-- the loop over a piece
moment-piece : {afi mode : ℕ} (left : ℕ) {run : List ℕ} {c : Caller} → Moment afi mode run c → (piece : List ℕ) → AllOctets piece → length piece < left → Moment afi mode (run ++ piece) (feed_piece left c piece)
unfolding feed_piece
moment-piece zero m piece o few = absurd (omega arith)
moment-piece {afi} {mode} (suc left) {run} {c} m piece o few =
    let taken : ℕ = (fed_by c piece).answer.taken in
    tested (leb (length piece) taken)
    (λ t. subst (Moment afi mode (run ++ piece)) (sym (pick_true _ _ _ t)) (subst (λ (l : List ℕ). Moment afi mode (run ++ l) (after_feed c (fed_by c piece))) (take_all taken piece (leb-true _ _ t)) (next m piece o)))
    (λ f.
    let less : taken < length piece = leb-false _ _ f in
    let some = takes-some m piece o (omega arith) in
    let later = moment-piece left (next m piece o) (drop taken piece) (octets-drop taken o) (omega (arith, length-drop taken piece)) in
    let whole : (run ++ take taken piece) ++ drop taken piece ≡ run ++ piece = append_assoc run (take taken piece) (drop taken piece) ∙ ap (λ (l : List ℕ). run ++ l) (take-append-drop taken piece) in
    subst (Moment afi mode (run ++ piece)) (sym (pick-false _ _ _ f)) (subst (λ (l : List ℕ). Moment afi mode l (feed_piece left (after_feed c (fed_by c piece)) (drop taken piece))) whole later))

-- and over pieces
pub moment-pieces : {afi mode : ℕ} (pieces : List (List ℕ)) {run : List ℕ} {c : Caller} → Moment afi mode run c → AllOctets (joined pieces) → Moment afi mode (run ++ joined pieces) (feed_pieces c pieces)
unfolding feed_pieces joined
moment-pieces {afi} {mode} [] {run} {c} m o = subst (λ (l : List ℕ). Moment afi mode l c) (sym (append-nil run)) m
moment-pieces {afi} {mode} (piece ∷ pieces) {run} {c} m o =
    let here = subst AllOctets (take-append_seam piece (joined pieces)) (octets-take (length piece) o) in
    let later = subst AllOctets (drop-append_seam piece (joined pieces)) (octets-drop (length piece) o) in
    subst (λ (l : List ℕ). Moment afi mode l (feed_pieces (feed_piece (suc (length piece)) c piece) pieces)) (append_assoc run piece (joined pieces))
    (moment-pieces pieces (moment-piece (suc (length piece)) m piece here (omega arith)) later)
