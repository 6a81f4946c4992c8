-- The size of the NLRI at the front of octets, as far as they tell; and that reading looks at no octet past it.
use mathlib.Core.Path.{◌≡◌, sym, ◌∙◌, ap, ap₂, subst}
use mathlib.Core.List.{List, [], ◌++◌}
use mathlib.Core.Logic.{⊎_elim}
use Prim.Native.Nat.{ℕ, ◌+◌, ◌-◌, ◌≤◌, ◌<◌}
use native.Mathlib.Omega.{arith}
use borrow.Author.Tests.{ltb-true, ltb-false, lt-ltb, le-ltb}
use lib.ListN.{length, get_or, take, drop, length-append, length-drop, get_or-append}
use lib.Seq.{length-take-le, take-append-add, drop-append-le, take-append-le}
use lib.Dec.{ltb}
use Rattle.octets.specs.Numbers.{SHORT, TYPE, GROUP}
use Rattle.octets.specs.Outcome.{Outcome, given, refused, and_then}
use Rattle.octets.specs.Octets.{AllOctets, part}
use Rattle.octets.specs.Choice.{pick}
use Rattle.octets.proofs.Outcome.{and-stops, and-cong}
use Rattle.octets.proofs.Choice.{tested, pick_true, pick-false}
use Rattle.octets.proofs.AllOctets.{octet-at}
use Rattle.nlri.specs.Bodies.{bodies, on_body, field_in}
use Rattle.nlri.specs.Reading.{Laid, field_size, sizes_of, laid_with, key_field, laid_at, cut, fields_of, accepted, accepted_at}
use Rattle.nlri.specs.Fields.{Fields, is_discarded}
use Rattle.nlri.proofs.Definitions.Judged.{fields_from}
use Rattle.nlri.proofs.Definitions.Whole.{laid_out_lem, fields_laid, fields_laid_lem}
use Rattle.nlri.proofs.Definitions.Keys.{key-within}
use Rattle.nlri.specs.Layouts.{layout_of, layout_at}
use Rattle.nlri.specs.Rules.NlriRules.{FrontRefusal, unlaid, discarded, short, bad_type, bad_body}
use Rattle.nlri.proofs.Statements.Layouts.{layout-refused}
use Rattle.nlri.proofs.Statements.ReadRefusals.{read_refusals}
use Rattle.runs.proofs.Turns.{body_fault-between}
use Rattle.pieces.specs.Feeding.{size_in}

-- the size that octets tell of the NLRI at their front
pub size_few : (s : List ℕ) → length s < 2 → size_in s ≡ 2
unfolding size_in
size_few s h = pick_true _ _ _ (lt-ltb (length s) 2 h)

pub size-known : (s : List ℕ) → 2 ≤ length s → size_in s ≡ 2 + get_or s 1 0
unfolding size_in
size-known s h = pick-false _ _ _ (le-ltb (length s) 2 h)

pub size-least : (s : List ℕ) → 2 ≤ size_in s
size-least s = tested (ltb (length s) 2) (λ t. omega (arith, size_few s (ltb-true _ _ t))) (λ f. omega (arith, size-known s (ltb-false _ _ f)))

pub size-most : (s : List ℕ) → AllOctets s → size_in s ≤ 257
size-most s a =
    let octet = octet-at a 1 in
    tested (ltb (length s) 2) (λ t. omega (arith, size_few s (ltb-true _ _ t))) (λ f. omega (arith, size-known s (ltb-false _ _ f)))

-- an NLRI that is unfinished stays so until as many octets are there
pub size-grows : (s t : List ℕ) → length s < size_in s → length s < size_in (s ++ t)
size-grows s t h =
    tested (ltb (length s) 2) (λ few. omega (arith, ltb-true (length s) 2 few, size-least (s ++ t)))
    (λ f.
    let two : 2 ≤ length s = ltb-false _ _ f in
    omega (arith, size-known s two, size-known (s ++ t) (omega (arith, length-append s t)), get_or-append s t 0 1 (omega arith)))

-- the octets kept and those of the piece
module _ (kept : ℕ) (unfinished piece : List ℕ) (room : kept ≤ length unfinished) where
  pub length-together : length (take kept unfinished ++ piece) ≡ kept + length piece
  length-together = length-append (take kept unfinished) piece ∙ ap (λ (n : ℕ). n + length piece) (length-take-le kept unfinished room)

  pub take-together : (n : ℕ) → take kept unfinished ++ take n piece ≡ take (kept + n) (take kept unfinished ++ piece)
  take-together n = sym (ap (λ (m : ℕ). take (m + n) (take kept unfinished ++ piece)) (sym (length-take-le kept unfinished room)) ∙ take-append-add (take kept unfinished) piece n)

-- an NLRI that is whole, by its type, its Length and its body
body_read : (bits type size : ℕ) → List ℕ → Outcome Laid
body_read bits type size s =
    on_body bodies type (refused TYPE)
    (λ body. and_then (sizes_of (field_size (key_field bits) bits type) body s) (λ sizes. given (record { type = type; size = size; body = body; sizes = sizes })))

read_whole : (bits : ℕ) (s : List ℕ) → 2 ≤ length s → 2 + get_or s 1 0 ≤ length s → laid_at bits s ≡ body_read bits (get_or s 0 0) (get_or s 1 0) (part s 2 (get_or s 1 0))
unfolding laid_at laid_with body_read
read_whole bits s two all = pick-false _ _ _ (le-ltb (length s) 2 two) ∙ pick-false _ _ _ (le-ltb (length s - 2) (get_or s 1 0) (omega arith))

-- by its own octets it is discarded, or not
fields_at : (bits : ℕ) (s : List ℕ) (laid : Laid) → laid_at bits s ≡ given laid → fields_of laid s ≡ fields_laid s laid
unfolding laid_at
fields_at bits s laid e = fields_laid_lem (key_field bits) (λ type x n h. (key-within bits type x n h).1) bits s laid e

accepted-alone : (bits : ℕ) (s t : List ℕ) (laid : Laid) → laid_at bits (s ++ t) ≡ given laid → laid_at bits s ≡ given laid → part (s ++ t) 2 (get_or s 1 0) ≡ part s 2 (get_or s 1 0)
    → accepted bits (s ++ t) laid ≡ accepted bits s laid
unfolding accepted laid_at
accepted-alone bits s t laid here there body =
    let size : laid.size ≡ get_or s 1 0 = (laid_out_lem (key_field bits) bits s laid there).sized in
    let same : part (s ++ t) 2 laid.size ≡ part s 2 laid.size = subst (λ (n : ℕ). part (s ++ t) 2 n ≡ part s 2 n) (sym size) body in
    ap (λ (f : Fields). pick (is_discarded bits f) (refused GROUP) (given laid))
    (fields_at bits (s ++ t) laid here
    ∙ ap (λ (b : List ℕ). fields_from laid.type (λ kind. field_in [] kind laid.body (cut laid.sizes b))) same
    ∙ sym (fields_at bits s laid there))

-- octets after an NLRI that is whole do not matter
pub layout-alone : (bits : ℕ) (s t : List ℕ) → size_in s ≡ length s → layout_at bits (s ++ t) ≡ layout_at bits s
unfolding layout_at accepted_at part
layout-alone bits s t is =
    let two : 2 ≤ length s = omega (arith, size-least s) in
    let x : ℕ = get_or s 1 0 in
    let all : 2 + x ≡ length s = sym (size-known s two) ∙ is in
    let more = length-append s t in
    let first : get_or (s ++ t) 0 0 ≡ get_or s 0 0 = get_or-append s t 0 0 (omega arith) in
    let second : get_or (s ++ t) 1 0 ≡ x = get_or-append s t 0 1 (omega arith) in
    let body : part (s ++ t) 2 x ≡ part s 2 x = ap (take x) (drop-append-le 2 s t two) ∙ take-append-le x (drop 2 s) t (omega (arith, length-drop 2 s)) in
    let alone : laid_at bits (s ++ t) ≡ laid_at bits s =
    read_whole bits (s ++ t) (omega arith) (omega arith)
    ∙ ap (λ (n : ℕ). body_read bits (get_or (s ++ t) 0 0) n (part (s ++ t) 2 n)) second
    ∙ ap₂ (λ (type : ℕ) (l : List ℕ). body_read bits type x l) first body
    ∙ sym (read_whole bits s two (omega arith)) in
    ap (λ (o : Outcome Laid). and_then o (λ laid. given (layout_of laid)))
    (ap (λ (o : Outcome Laid). and_then o (accepted bits (s ++ t))) alone
    ∙ and-cong _ _ _ (λ laid e. accepted-alone bits s t laid (alone ∙ e) e body))

-- an NLRI that is unfinished is SHORT, and one that is whole is not
pub layout-short : (bits : ℕ) (s : List ℕ) → length s < size_in s → layout_at bits s ≡ refused SHORT
unfolding accepted_at laid_at laid_with
layout-short bits s h =
    layout-refused bits s SHORT
    (sym (and-stops _ _ _ (tested (ltb (length s) 2) (λ t. pick_true _ _ _ t)
    (λ f. pick-false _ _ _ f ∙ pick_true _ _ _ (lt-ltb (length s - 2) (get_or s 1 0) (omega (arith, ltb-false (length s) 2 f, size-known s (ltb-false _ _ f))))))))

pub whole-not-short : (bits : ℕ) (s : List ℕ) (n : ℕ) → size_in s ≤ length s → FrontRefusal bits s n → n ≡ SHORT → ⊥
whole-not-short bits s n all (unlaid (short why)) e =
    let two : 2 ≤ length s = omega (arith, size-least s) in
    ⊎_elim (λ few. omega arith) (λ few. omega (arith, size-known s two)) why
whole-not-short bits s n all (unlaid (bad_type enough type)) e = omega arith
whole-not-short bits s n all (unlaid (bad_body enough type fault)) e = omega (arith, (body_fault-between n (read_refusals.bodies bits _ _ _ n fault)).0)
whole-not-short bits s n all (discarded f t w d is) e = omega arith
