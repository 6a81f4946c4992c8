-- An NLRI of one type: read, and why it is refused.
use Prim.Native.Nat.{ℕ}
use mathlib.Core.Path.{◌≡◌, sym, ap, subst, ◌∙◌}
use mathlib.Core.List.{List}
use mathlib.Core.Logic.{⊎_elim}
use native.Mathlib.Omega.{arith}
use borrow.Author.Tests.{eqb-true, eqb-false, eq-eqb, ne_eqb}
use Rattle.octets.specs.Numbers.{DONE}
use Rattle.octets.specs.Outcome.{given, refused}
use Rattle.octets.proofs.Choice.{pick_true, pick-false}
use Rattle.octets.proofs.Outcome.{given-same, and-goes-on, and-stops, passed, stopped, given-unless, refuses-unless, Refuses, value, number, refuses-pick, refuses-then, refuses-also}
use Rattle.nlri.specs.Fields.{Fields}
use Rattle.nlri.specs.Reading.{read_nlri, read_of_type}
use Rattle.nlri.proofs.Definitions.ReadNumbers.{refuses-nlri}
use Rattle.routes.specs.Rules.ArgumentRules.{TypeRefusal, unread_nlri, other_kind}

-- an NLRI of one type
pub of-type-given : (type afi : ℕ) (s : List ℕ) (f : Fields) → read_of_type type afi s ≡ given f → (read_nlri afi s ≡ given f) × (f.type ≡ type)
of-type-given type afi s f e =
    let p = passed _ _ _ e in
    let q = given-unless _ _ _ _ p.second in
    let is : p.value ≡ f = given-same q.1 in
    (p.first ∙ ap given is, ap (λ (g : Fields). g.type) (sym is) ∙ eqb-true _ _ q.0)

pub given-of-type : (type afi : ℕ) (s : List ℕ) (f : Fields) → read_nlri afi s ≡ given f → f.type ≡ type → read_of_type type afi s ≡ given f
given-of-type type afi s f e t = sym (and-goes-on _ _ f _ e (sym (pick_true _ _ _ (eq-eqb _ _ t))))

pub of-type-refused : (type afi : ℕ) (s : List ℕ) (n : ℕ) → read_of_type type afi s ≡ refused n → TypeRefusal type afi s n
of-type-refused type afi s n e =
    ⊎_elim (λ r. unread_nlri r)
    (λ l. let q = refuses-unless _ _ _ _ l.second in subst (TypeRefusal type afi s) (sym q.1) (other_kind l.value l.first (eqb-false _ _ q.0)))
    (stopped _ _ _ e)

pub refused-of-type : (type afi : ℕ) (s : List ℕ) (n : ℕ) → TypeRefusal type afi s n → read_of_type type afi s ≡ refused n
refused-of-type type afi s n (unread_nlri e) = sym (and-stops _ _ _ e)
refused-of-type type afi s n (other_kind f e o) = sym (and-goes-on _ _ f _ e (sym (pick-false _ _ _ (ne_eqb _ _ o))))

pub type-refuses : (afi : ℕ) (s : List ℕ) → Refuses (λ n. n ≡ DONE → ⊥) (read_of_type 4 afi s)
type-refuses afi s = refuses-then _ _ (refuses-also (λ n p e. omega arith) (refuses-nlri afi s)) (λ f. refuses-pick _ _ _ value (number (λ e. omega arith)))
