use Rattle.std.proofs.Common.{rules, ◌≡◌, ℕ, ◌+◌, ◌-◌, ◌≤◌, List, ◌++◌, arith, length, take, sym, ap, ◌∙◌, subst, refl, length-take-le}
use Rattle.std.proofs.lemmas.Slice.{take-put_mid}
use Rattle.std.proofs.lemmas.List.{take-take}
use Rattle.std.proofs.Math.Seq.{take-append-add}
use Rattle.std.specs.Io.KnownBytes.{Consumes}
use Rattle.std.proofs.KnownBytes.{Consumes-trans}
use borrow.Rule.Slice.PartMut.{put_mid}
use Rattle.mvpn_list.proofs.input.read.Goals as goal

-- n octets put into the part of xs from a on follow the first a
take-more : (a k n : ℕ) (xs ys : List ℕ) → a ≤ length xs → n ≤ length ys → take (a + n) (put_mid a k xs ys) ≡ take a xs ++ take n ys
take-more a k n xs ys within fits =
    let whole = take-put_mid a k xs ys (a + length ys) refl within in
    let front : length (take a xs) ≡ a = length-take-le a xs within in
    sym (take-take (a + n) (a + length ys) (put_mid a k xs ys) (omega arith)) ∙ ap (take (a + n)) whole ∙ ap (λ m. take (m + n) (take a xs ++ ys)) (sym front) ∙ take-append-add (take a xs) ys n

pub loop-size-preserved : goal.loop-size-preserved
loop-size-preserved g c =
    let from = c.loop-size.size in
    let room = length c.loop-size.run - from in
    let more = take-more from room c.in_ok-count.count c.loop-size.run c.read.new.buf (omega arith) (omega (arith, c.in_ok-count.ensures.bound.0)) in
    record {
      within = search rules;
      came = subst (Consumes _ _) (sym more) (Consumes-trans _ _ _ _ _ c.loop-size.invariant.came c.in_ok-count.ensures.bytes.0);
    }
