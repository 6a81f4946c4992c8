-- What a feed comes to, by its tests in their order.
use mathlib.Core.Path.{◌≡◌, refl, sym, ◌∙◌, ap, subst}
use mathlib.Core.Bool.{true, false}
use mathlib.Core.List.{List, ◌++◌}
use Prim.Native.Nat.{ℕ, ◌+◌, ◌-◌, ◌≤◌, ◌<◌}
use native.Mathlib.Omega.{arith}
use borrow.Author.Tests.{eqb-true, eqb-false, eq-eqb, ne_eqb, ltb-true, ltb-false, lt-ltb, le-ltb}
use lib.ListN.{length, get_or, take, get_or-append}
use lib.Seq.{get_or-take, length-take-le, take-take, take_all}
use lib.Dec.{ltb, eqb}
use Rattle.octets.specs.Numbers.{DONE}
use mathlib.Core.Logic.{inl, inr, ⊎_elim}
use Rattle.octets.specs.Octets.{AllOctets, part, placed}
use Rattle.octets.proofs.Lists.{placed-before, placed_past, part_placed}
use Rattle.octets.proofs.AllOctets.{octets-take, octets-append}
use Rattle.octets.proofs.Choice.{opposite, tested, picked, pick_true, pick-false, pick-case, either_left, either-false, either-false-left, either-false-right}
use Rattle.runs.specs.Modes.{is_skipped}
use denote.Enum.Bare.{sameb, same_true}
use borrow.Author.Rules.{rules}
use Rattle.pieces.specs.contracts.state.Stage.{the_type}
use Rattle.pieces.specs.declared.state.Stage.{Stage}
use Rattle.pieces.specs.declared.state.Stage.TheVariants.{Reading, Stopped, Finished}
use Rattle.pieces.specs.declared.state.Pieces.{Pieces}
use Rattle.pieces.specs.declared.feeding.Fed.{Fed}
use Rattle.pieces.specs.Feeding.{READING, STOPPED, stage_by, FeedAnswer, passed_of, long_of, counted_of, over_of, size_in, wanted_of, share_of, number_under, kept_of, read_of, skipped_of, stopped_of, judged_of, settled_of, taken_of, read_on_of, feed_of, Within}
use Rattle.pieces.specs.Rules.PiecesRule.{LentAfter}
use Rattle.pieces.proofs.Sizes.{size-known, size-least, size-most, length-together, take-together}

-- what is over, and what is not
module _ (p : Pieces) (size : ℕ) where
  pub over-total : 4096 < p.total + size → over_of p size ≡ true
  unfolding over_of
  over-total h = either_left _ _ (lt-ltb 4096 (p.total + size) h)

  pub not-over : Within p size → over_of p size ≡ false
  unfolding over_of
  not-over w =
      either-false _ _ (le-ltb 4096 (p.total + size) w.total)
      (either-false _ _ (le-ltb 4096 p.walked.count w.count) (either-false _ _ (le-ltb 4096 p.walked.skipped w.skipped) (le-ltb 256 p.kept w.kept)))

  pub within-not-over : over_of p size ≡ false → Within p size
  unfolding over_of
  within-not-over e =
      let later = either-false-right _ _ e in
      let last = either-false-right _ _ later in
      record { total = ltb-false _ _ (either-false-left _ _ e); count = ltb-false _ _ (either-false-left _ _ later); skipped = ltb-false _ _ (either-false-left _ _ last); kept = ltb-false _ _ (either-false-right _ _ last) }

-- a number by its stage
module _ (n : ℕ) where
  pub stage-reading : stage_by n ≡ Reading → n ≡ READING
  stage-reading e =
      ⊎_elim (λ a. eqb-true _ _ a.0)
      (λ b. ⊎_elim (λ d. let no : ◌≡◌ {A = ℕ} 0 1 = cc in absurd (omega arith)) (λ d. let no : ◌≡◌ {A = ℕ} 0 1 = cc in absurd (omega arith)) (picked _ _ _ _ b.1))
      (picked _ _ _ _ e)

  pub stage-stopped : stage_by n ≡ Stopped → n ≡ STOPPED
  stage-stopped e =
      ⊎_elim (λ a. let no : ◌≡◌ {A = ℕ} 0 1 = cc in absurd (omega arith))
      (λ b. ⊎_elim (λ d. eqb-true _ _ d.0) (λ d. let no : ◌≡◌ {A = ℕ} 0 1 = cc in absurd (omega arith)) (picked _ _ _ _ b.1))
      (picked _ _ _ _ e)

  pub stage-finished : stage_by n ≡ Finished → STOPPED < n
  stage-finished e =
      ⊎_elim (λ a. let no : ◌≡◌ {A = ℕ} 0 1 = cc in absurd (omega arith))
      (λ b.
      ⊎_elim (λ d. let no : ◌≡◌ {A = ℕ} 0 1 = cc in absurd (omega arith))
      (λ d. omega (arith, eqb-false n READING b.0, eqb-false n STOPPED d.0)) (picked _ _ _ _ b.1))
      (picked _ _ _ _ e)

  pub stage-going : (stage_by n ≡ Finished → ⊥) → n ≤ STOPPED
  stage-going h =
      tested (eqb n READING) (λ t. omega (arith, eqb-true n READING t))
      (λ f. tested (eqb n STOPPED) (λ t. omega (arith, eqb-true n STOPPED t)) (λ g. absurd (h (pick-false _ _ _ f ∙ pick-false _ _ _ g))))

-- stages by the test whether they are one
pub stage-is : (a b : Stage) → sameb the_type a b ≡ true → a ≡ b
stage-is a b h = same_true the_type (search rules) a b h

pub stage-other : (a b : Stage) → sameb the_type a b ≡ false → a ≡ b → ⊥
stage-other a b h e = differs b (subst (λ (x : Stage). sameb the_type x b ≡ false) e h)
  where
    differs : (x : Stage) → sameb the_type x x ≡ false → ⊥
    differs Reading p = absurd (opposite refl p)
    differs Stopped p = absurd (opposite refl p)
    differs Finished p = absurd (opposite refl p)

-- a feed in each case
module _ (p : Pieces) (unfinished piece : List ℕ) where
  pub feed-finished : STOPPED < p.stage → feed_of p unfinished piece ≡ passed_of p unfinished piece
  unfolding feed_of
  feed-finished h = pick_true _ _ _ (lt-ltb STOPPED p.stage h)

  module _ (going : p.stage ≤ STOPPED) where
    pub feed-over : over_of p (length piece) ≡ true → feed_of p unfinished piece ≡ passed_of (long_of p) unfinished piece
    unfolding feed_of
    feed-over o = pick-false _ _ _ (le-ltb STOPPED p.stage going) ∙ pick_true _ _ _ o

    module _ (o : over_of p (length piece) ≡ false) where
      pub feed-reads : p.stage ≡ READING → feed_of p unfinished piece ≡ read_on_of p unfinished piece
      unfolding feed_of
      feed-reads s = pick-false _ _ _ (le-ltb STOPPED p.stage going) ∙ pick-false _ _ _ o ∙ pick_true _ _ _ (eq-eqb p.stage READING s)

      pub feed-counts : (p.stage ≡ READING → ⊥) → feed_of p unfinished piece ≡ passed_of (counted_of p (length piece)) unfinished piece
      unfolding feed_of
      feed-counts s = pick-false _ _ _ (le-ltb STOPPED p.stage going) ∙ pick-false _ _ _ o ∙ pick-false _ _ _ (ne_eqb p.stage READING s)

-- how much of the piece is taken
pub share-all : (wanted kept size : ℕ) → kept + size < wanted → share_of wanted kept size ≡ size
unfolding share_of
share-all wanted kept size h = pick_true _ _ _ (lt-ltb (kept + size) wanted h)

pub share-rest : (wanted kept size : ℕ) → wanted ≤ kept + size → share_of wanted kept size ≡ wanted - kept
unfolding share_of
share-rest wanted kept size h = pick-false _ _ _ (le-ltb (kept + size) wanted h)

pub share-most : (wanted kept size : ℕ) → share_of wanted kept size ≤ size
share-most wanted kept size =
    tested (ltb (kept + size) wanted) (λ t. omega (arith, share-all wanted kept size (ltb-true _ _ t)))
    (λ f. let h : wanted ≤ kept + size = ltb-false _ _ f in omega (arith, share-rest wanted kept size h))

pub share-some : (wanted kept size : ℕ) → kept < wanted → 0 < size → 0 < share_of wanted kept size
share-some wanted kept size more some =
    tested (ltb (kept + size) wanted) (λ t. omega (arith, share-all wanted kept size (ltb-true _ _ t)))
    (λ f. let h : wanted ≤ kept + size = ltb-false _ _ f in omega (arith, share-rest wanted kept size h))

-- a feed while reading: the octets taken, and the answer by whether the NLRI is whole
module _ (p : Pieces) (unfinished piece : List ℕ) (wanted share : ℕ) where
  pub taken-kept : p.kept + length piece < wanted
      → taken_of p unfinished piece wanted share ≡ record { answer = kept_of p share; octets = placed p.kept (take share piece) unfinished }
  unfolding taken_of settled_of
  taken-kept h = ap (λ (f : Fed). record { answer = f; octets = placed p.kept (take share piece) unfinished }) (pick_true _ _ _ (lt-ltb (p.kept + length piece) wanted h))

  pub taken-judged : wanted ≤ p.kept + length piece
      → taken_of p unfinished piece wanted share
      ≡ record { answer = judged_of p (number_under p.afi (take wanted (placed p.kept (take share piece) unfinished))) wanted share; octets = placed p.kept (take share piece) unfinished }
  unfolding taken_of settled_of
  taken-judged h = ap (λ (f : Fed). record { answer = f; octets = placed p.kept (take share piece) unfinished }) (pick-false _ _ _ (le-ltb (p.kept + length piece) wanted h))

-- an NLRI that is whole, by its number
module _ (p : Pieces) (number wanted share : ℕ) where
  pub judged-read : number ≡ DONE → judged_of p number wanted share ≡ read_of p wanted share
  unfolding judged_of
  judged-read e = pick_true _ _ _ (eq-eqb number DONE e)

  module _ (other : number ≡ DONE → ⊥) where
    pub judged-skipped : is_skipped p.mode number ≡ true → judged_of p number wanted share ≡ skipped_of p share
    unfolding judged_of
    judged-skipped e = pick-false _ _ _ (ne_eqb number DONE other) ∙ pick_true _ _ _ e

    pub judged-stopped : is_skipped p.mode number ≡ false → judged_of p number wanted share ≡ stopped_of p number share
    unfolding judged_of
    judged-stopped e = pick-false _ _ _ (ne_eqb number DONE other) ∙ pick-false _ _ _ e

-- of which nothing is kept
judged-kept : (p : Pieces) (number wanted share : ℕ) → (judged_of p number wanted share).pieces.kept ≡ 0
unfolding judged_of
judged-kept p number wanted share =
    let is : Fed → Type 0 = λ f. f.pieces.kept ≡ 0 in
    pick-case is _ _ _ (λ _. refl) (λ _. pick-case is _ _ _ (λ _. refl) (λ _. refl))

pub taken-share : (p : Pieces) (unfinished piece : List ℕ) (wanted share : ℕ) → (taken_of p unfinished piece wanted share).answer.taken ≡ share
unfolding taken_of settled_of judged_of
taken-share p unfinished piece wanted share =
    let is : Fed → Type 0 = λ f. f.taken ≡ share in
    pick-case is _ _ _ (λ _. refl) (λ _. pick-case is _ _ _ (λ _. refl) (λ _. pick-case is _ _ _ (λ _. refl) (λ _. refl)))

pub size-wanted : (p : Pieces) (unfinished piece : List ℕ) (wanted share : ℕ) → (taken_of p unfinished piece wanted share).answer.size ≤ wanted
unfolding taken_of settled_of judged_of
size-wanted p unfinished piece wanted share =
    let is : Fed → Type 0 = λ f. f.size ≤ wanted in
    pick-case is _ _ _ (λ _. omega arith) (λ _. pick-case is _ _ _ (λ _. omega arith) (λ _. pick-case is _ _ _ (λ _. omega arith) (λ _. omega arith)))

-- what holds in every case of a feed
pub feed-case : (P : FeedAnswer → Type 0) (p : Pieces) (unfinished piece : List ℕ) → ((q : Pieces) → P (passed_of q unfinished piece))
    → (p.stage ≡ READING → over_of p (length piece) ≡ false → P (read_on_of p unfinished piece)) → P (feed_of p unfinished piece)
unfolding feed_of
feed-case P p unfinished piece passes reads =
    pick-case P _ _ _ (λ _. passes p)
    (λ _. pick-case P _ _ _ (λ _. passes (long_of p))
    (λ o. pick-case P _ _ _ (λ r. reads (eqb-true _ _ r) o) (λ _. passes (counted_of p (length piece)))))

pub taken-most : (p : Pieces) (unfinished piece : List ℕ) → (feed_of p unfinished piece).answer.taken ≤ length piece
unfolding read_on_of
taken-most p unfinished piece =
    feed-case (λ (a : FeedAnswer). a.answer.taken ≤ length piece) p unfinished piece (λ _. omega arith)
    (λ _ _.
    let wanted : ℕ = wanted_of p.kept unfinished piece in
    let share : ℕ = share_of wanted p.kept (length piece) in
    omega (arith, taken-share p unfinished piece wanted share, share-most wanted p.kept (length piece)))

-- octets kept that want more, by their Length octet or before they have one
pub taken-some : (p : Pieces) (unfinished piece : List ℕ) → length unfinished ≡ 257 → p.kept < 2 + get_or unfinished 1 0 → 0 < length piece → 0 < (feed_of p unfinished piece).answer.taken
unfolding read_on_of wanted_of
taken-some p unfinished piece room more some =
    feed-case (λ (a : FeedAnswer). 0 < a.answer.taken) p unfinished piece (λ _. some)
    (λ _ o.
    let kept : ℕ = p.kept in
    let all : List ℕ = take kept unfinished ++ piece in
    let enough : kept ≤ length unfinished = omega (arith, (within-not-over p (length piece) o).kept) in
    let wants : kept < size_in all =
    tested (ltb kept 2) (λ t. omega (arith, ltb-true kept 2 t, size-least all))
    (λ f.
    let two : 2 ≤ kept = ltb-false _ _ f in
    let len = length-take-le kept unfinished enough in
    omega (arith, size-known all (omega (arith, length-together kept unfinished piece enough)), get_or-append (take kept unfinished) piece 0 1 (omega arith), get_or-take kept unfinished 1 0 (omega arith))) in
    omega (arith, taken-share p unfinished piece (size_in all) (share_of (size_in all) kept (length piece)), share-some (size_in all) kept (length piece) wants some))

-- what is taken short of a piece's end ends an NLRI: while reading nothing is then kept
pub taken-ends : (p : Pieces) (unfinished piece : List ℕ) → ((feed_of p unfinished piece).answer.taken ≡ length piece → ⊥) → (feed_of p unfinished piece).answer.pieces.kept ≡ 0
unfolding read_on_of
taken-ends p unfinished piece =
    let ends : FeedAnswer → Type 0 = λ a. (a.answer.taken ≡ length piece → ⊥) → a.answer.pieces.kept ≡ 0 in
    feed-case ends p unfinished piece (λ _ short. absurd (short refl))
    (λ _ _.
    let wanted : ℕ = wanted_of p.kept unfinished piece in
    let share : ℕ = share_of wanted p.kept (length piece) in
    tested (ltb (p.kept + length piece) wanted)
    (λ t short. absurd (short (taken-share p unfinished piece wanted share ∙ share-all wanted p.kept (length piece) (ltb-true _ _ t))))
    (λ f short. ap (λ (a : FeedAnswer). a.answer.pieces.kept) (taken-judged p unfinished piece wanted share (ltb-false _ _ f)) ∙ judged-kept p _ wanted share))

-- the lent octets after a feed
pub lent-after : (p : Pieces) (unfinished piece : List ℕ) → length unfinished ≡ 257 → LentAfter p unfinished piece (feed_of p unfinished piece)
unfolding read_on_of taken_of
lent-after p unfinished piece room =
    feed-case (LentAfter p unfinished piece) p unfinished piece (λ _. record { others = λ i h. refl; behind = inl refl })
    (λ _ o.
    let wanted : ℕ = wanted_of p.kept unfinished piece in
    let share : ℕ = share_of wanted p.kept (length piece) in
    let is : (taken_of p unfinished piece wanted share).answer.taken ≡ share = taken-share p unfinished piece wanted share in
    let long : length (take share piece) ≡ share = length-take-le share piece (share-most wanted p.kept (length piece)) in
    let within : p.kept ≤ length unfinished = omega (arith, (within-not-over p (length piece) o).kept) in
    record {
      others = λ i h. ⊎_elim (placed-before p.kept (take share piece) unfinished within i) (λ past. placed_past p.kept (take share piece) unfinished within i (omega arith)) h;
      behind = inr (
          ap (part (placed p.kept (take share piece) unfinished) p.kept) (is ∙ sym long) ∙ part_placed p.kept (take share piece) unfinished within ∙ ap (λ (n : ℕ). take n piece) (sym is)
          );
    })

pub given-most : (p : Pieces) (unfinished piece : List ℕ) → AllOctets unfinished → AllOctets piece → (feed_of p unfinished piece).answer.size ≤ 257
unfolding read_on_of wanted_of
given-most p unfinished piece lent handed =
    feed-case (λ (a : FeedAnswer). a.answer.size ≤ 257) p unfinished piece (λ _. omega arith)
    (λ _ _.
    let wanted : ℕ = wanted_of p.kept unfinished piece in
    omega (arith, size-wanted p unfinished piece wanted (share_of wanted p.kept (length piece)), size-most (take p.kept unfinished ++ piece) (octets-append (octets-take p.kept lent) handed)))

-- octets past the end of the NLRI are not looked at
module _ (p : Pieces) (unfinished piece : List ℕ) (room : p.kept ≤ length unfinished) (wanted few : ℕ) (h : wanted ≤ p.kept + length piece) (rest : few ≡ wanted - p.kept) where
  length-few : length (take few piece) ≡ few
  length-few = length-take-le few piece (omega arith)

  wants-few : wanted ≡ wanted_of p.kept unfinished piece → wanted_of p.kept unfinished (take few piece) ≡ wanted
  unfolding wanted_of
  wants-few is =
      let all : List ℕ = take p.kept unfinished ++ piece in
      let least = size-least all in
      let sum = length-together p.kept unfinished piece room in
      ap size_in (take-together p.kept unfinished piece room few)
      ∙ size-known (take (p.kept + few) all) (omega (arith, length-take-le (p.kept + few) all (omega arith)))
      ∙ ap (λ (n : ℕ). 2 + n) (get_or-take (p.kept + few) all 1 0 (omega arith)) ∙ sym (size-known all (omega arith)) ∙ sym is

  takes-few : taken_of p unfinished (take few piece) wanted few ≡ taken_of p unfinished piece wanted few
  takes-few =
      taken-judged p unfinished (take few piece) wanted few (omega (arith, length-few))
      ∙ ap (λ (l : List ℕ). record { answer = judged_of p (number_under p.afi (take wanted (placed p.kept l unfinished))) wanted few; octets = placed p.kept l unfinished }) (take-take few few piece (omega arith))
      ∙ sym (taken-judged p unfinished piece wanted few h)

  reads-few : wanted ≡ wanted_of p.kept unfinished piece → read_on_of p unfinished (take few piece) ≡ read_on_of p unfinished piece
  unfolding read_on_of
  reads-few is =
      ap (λ (n : ℕ). taken_of p unfinished (take few piece) n (share_of n p.kept (length (take few piece)))) (wants-few is)
      ∙ ap (taken_of p unfinished (take few piece) wanted) (share-rest wanted p.kept (length (take few piece)) (omega (arith, length-few)) ∙ sym rest)
      ∙ takes-few
      ∙ ap (taken_of p unfinished piece wanted) (rest ∙ sym (share-rest wanted p.kept (length piece) h))
      ∙ ap (λ (n : ℕ). taken_of p unfinished piece n (share_of n p.kept (length piece))) is

-- octets past those that are taken are not looked at
module _ (p : Pieces) (unfinished piece : List ℕ) (room : p.kept ≤ length unfinished) where
  pub reads-front : read_on_of p unfinished (take (share_of (wanted_of p.kept unfinished piece) p.kept (length piece)) piece) ≡ read_on_of p unfinished piece
  reads-front =
      let wanted : ℕ = wanted_of p.kept unfinished piece in
      tested (ltb (p.kept + length piece) wanted)
      (λ t. ap (read_on_of p unfinished) (ap (λ (n : ℕ). take n piece) (share-all wanted p.kept (length piece) (ltb-true _ _ t)) ∙ take_all (length piece) piece (omega arith)))
      (λ f. let h : wanted ≤ p.kept + length piece = ltb-false _ _ f in reads-few p unfinished piece room wanted _ h (share-rest wanted p.kept (length piece) h) refl)

feed-front-reads : (p : Pieces) (unfinished piece : List ℕ) → length unfinished ≡ 257 → p.stage ≤ STOPPED → over_of p (length piece) ≡ false → p.stage ≡ READING
    → feed_of p unfinished (take (feed_of p unfinished piece).answer.taken piece) ≡ feed_of p unfinished piece
unfolding read_on_of
feed-front-reads p unfinished piece room going o r =
    let within = within-not-over p (length piece) o in
    let wanted : ℕ = wanted_of p.kept unfinished piece in
    let share : ℕ = share_of wanted p.kept (length piece) in
    let is = feed-reads p unfinished piece going o r in
    let taken : (feed_of p unfinished piece).answer.taken ≡ share = ap (λ (a : FeedAnswer). a.answer.taken) is ∙ taken-share p unfinished piece wanted share in
    let len : length (take share piece) ≡ share = length-take-le share piece (share-most wanted p.kept (length piece)) in
    let few = share-most wanted p.kept (length piece) in
    let o' : over_of p (length (take share piece)) ≡ false = not-over p _ (record { total = omega (arith, within.total); count = within.count; skipped = within.skipped; kept = within.kept }) in
    ap (λ (n : ℕ). feed_of p unfinished (take n piece)) taken ∙ feed-reads p unfinished (take share piece) going o' r ∙ reads-front p unfinished piece (omega (arith, within.kept)) ∙ sym is

pub feed-front : (p : Pieces) (unfinished piece : List ℕ) → length unfinished ≡ 257 → feed_of p unfinished (take (feed_of p unfinished piece).answer.taken piece) ≡ feed_of p unfinished piece
feed-front p unfinished piece room =
    tested (ltb STOPPED p.stage) (λ t. passing p (feed-finished p unfinished piece (ltb-true _ _ t)))
    (λ g.
    let going : p.stage ≤ STOPPED = ltb-false _ _ g in
    tested (over_of p (length piece)) (λ o. passing (long_of p) (feed-over p unfinished piece going o))
    (λ o.
    tested (eqb p.stage READING) (λ r. reading going o (eqb-true _ _ r))
    (λ s. passing (counted_of p (length piece)) (feed-counts p unfinished piece going o (eqb-false _ _ s)))))
  where
    passing : (q : Pieces) → feed_of p unfinished piece ≡ passed_of q unfinished piece → feed_of p unfinished (take (feed_of p unfinished piece).answer.taken piece) ≡ feed_of p unfinished piece
    passing q e = ap (feed_of p unfinished) (ap (λ (a : FeedAnswer). take a.answer.taken piece) e ∙ take_all (length piece) piece (omega arith))

    reading : p.stage ≤ STOPPED → over_of p (length piece) ≡ false → p.stage ≡ READING → feed_of p unfinished (take (feed_of p unfinished piece).answer.taken piece) ≡ feed_of p unfinished piece
    reading going o r = feed-front-reads p unfinished piece room going o r
