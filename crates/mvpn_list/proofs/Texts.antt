-- What is printed of a line, as the definitions have it.
use mathlib.Core.Path.{◌≡◌, sym, ◌∙◌, ap}
use mathlib.Core.List.{List, [], ◌∷◌, ◌++◌, append_assoc}
use Prim.Native.Nat.{ℕ, ◌^◌, ◌<◌}
use borrow.Author.Tests.{ne_eqb}
use Rattle.std.proofs.Common.{Result, Ok, Err}
use Rattle.std.specs.Fmt.{decimal}
use Rattle.octets.specs.Numbers.{DONE}
use Rattle.octets.specs.Choice.{pick}
use Rattle.octets.specs.declared.refusal.Refusal.{Refusal}
use Rattle.octets.specs.Refusals.{refusal_number, result_number}
use Rattle.octets.proofs.Choice.{pick-false}
use Rattle.octets.proofs.Refusals.{refusal_number-not_done}
use Rattle.runs.specs.Modes.{SKIP, OLD}
use Rattle.mvpn_list.specs.Listing.{decimal_of, field_of, line_of, opening_of, last_fields, last_line}
use Rattle.mvpn_list.proofs.Decimals.{decimal-is}

field-then : (n ending : ℕ) (rest later : List ℕ) → n < 2 ^ 64 → rest ≡ later → decimal n ++ (ending ∷ rest) ≡ field_of n ending ++ later
unfolding field_of
field-then n ending rest later h e =
    ap (λ (x : List ℕ). x ++ (ending ∷ rest)) (decimal-is n h) ∙ sym (append_assoc (decimal_of n) (ending ∷ []) rest) ∙ ap (λ (x : List ℕ). (decimal_of n ++ (ending ∷ [])) ++ x) e

field-last : (n ending : ℕ) → n < 2 ^ 64 → decimal n ++ (ending ∷ []) ≡ field_of n ending
unfolding field_of
field-last n ending h = ap (λ (x : List ℕ). x ++ (ending ∷ [])) (decimal-is n h)

pub line-text : (a b d : ℕ) → a < 2 ^ 64 → b < 2 ^ 64 → d < 2 ^ 64 → decimal a ++ (32 ∷ (decimal b ++ (32 ∷ (decimal d ++ (10 ∷ []))))) ≡ line_of a b d
unfolding line_of
line-text a b d ha hb hd = field-then a 32 _ _ ha (field-then b 32 _ _ hb (field-last d 10 hd))

-- a word and a blank open the last line
pub Opens : List ℕ → ℕ → Type 0
Opens word number = (rest : List ℕ) → word ++ (32 ∷ rest) ≡ opening_of number ++ rest

pub opens-end : (judgement : Result (Unit {0}) Refusal) (word : List ℕ) (u : Unit {0}) → judgement ≡ Ok u → word ≡ 101 ∷ 110 ∷ 100 ∷ [] → Opens word (result_number judgement)
unfolding Opens opening_of pick
opens-end judgement word u e h rest = ap (λ (x : List ℕ). x ++ (32 ∷ rest)) h ∙ ap (λ (j : Result (Unit {0}) Refusal). opening_of (result_number j) ++ rest) (sym e)

pub opens-stop : (judgement : Result (Unit {0}) Refusal) (word : List ℕ) (r : Refusal) → judgement ≡ Err r → word ≡ 115 ∷ 116 ∷ 111 ∷ 112 ∷ [] → Opens word (result_number judgement)
unfolding Opens opening_of
opens-stop judgement word r e h rest =
    ap (λ (x : List ℕ). x ++ (32 ∷ rest)) h ∙ ap (λ (x : List ℕ). x ++ rest) (sym (pick-false _ _ _ (ne_eqb (refusal_number r) DONE (refusal_number-not_done r))))
    ∙ ap (λ (j : Result (Unit {0}) Refusal). opening_of (result_number j) ++ rest) (sym e)

module _ (word : List ℕ) (number offset skipped : ℕ) (opens : Opens word number) (hn : number < 2 ^ 64) (ho : offset < 2 ^ 64) where
  pub skipping-text : skipped < 2 ^ 64 → word ++ (32 ∷ (decimal offset ++ (32 ∷ (decimal number ++ (32 ∷ (decimal skipped ++ (10 ∷ []))))))) ≡ last_line SKIP number offset skipped
  unfolding Opens last_line last_fields pick
  skipping-text hs = opens _ ∙ ap (λ (x : List ℕ). opening_of number ++ x) (field-then offset 32 _ _ ho (field-then number 32 _ _ hn (field-last skipped 10 hs)))

  pub old-text : word ++ (32 ∷ (decimal offset ++ (32 ∷ (decimal number ++ (10 ∷ []))))) ≡ last_line OLD number offset skipped
  unfolding Opens last_line last_fields pick
  old-text = opens _ ∙ ap (λ (x : List ℕ). opening_of number ++ x) (field-then offset 32 _ _ ho (field-last number 10 hn))
