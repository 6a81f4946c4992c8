-- What installs name (specs/Rules/BookRules.antt, `PremiseRule`).
use Prim.Native.Nat.{ℕ}
use mathlib.Core.Path.{◌≡◌, refl}
use mathlib.Core.List.{List, [], ◌∷◌}
use mathlib.Core.Logic.{◌↔◌, ⊎_elim}
use Rattle.octets.specs.Outcome.{Outcome, given, refused, on_outcome}
use Rattle.nlri.specs.Fields.{Fields}
use Rattle.octets.specs.Lists.{Among, first, later}
use Rattle.routes.specs.Arguments.{read_s_pmsi}
use Rattle.routes.specs.Rules.ArgumentRules.{SPmsi}
use Rattle.routes.specs.Call.{Call, install, withdraw, restart, match}
use Rattle.routes.specs.Run.{named_in, named_by}
use Rattle.routes.proofs.Statements.ArgumentRules.{nlri-accepted, nlri-accepts}
use Rattle.octets.proofs.Among.{among_none, among_cases, among-left, among-right, among-either}

module _ (afi : ℕ) (nlri : List ℕ) where
  -- an install of a well-formed S-PMSI NLRI names it, whatever its attribute
  pub named-in : (attribute : List ℕ) → SPmsi afi nlri → Among nlri (named_in afi (install nlri attribute))
  unfolding named_in on_outcome
  named-in attribute s = rw (nlri-accepts afi nlri s) (first refl)

  -- an install of the NLRI, and that it is well-formed
  abbrev Named : List Call → Type 0
  Named calls = SPmsi afi nlri × ((attribute : List ℕ) × Among (install nlri attribute) calls)

  named-first : (c : Call) (cs : List Call) → Among nlri (named_in afi c) → Named (c ∷ cs)
  unfolding named_in on_outcome
  named-first (install named attribute) cs m = go (read_s_pmsi afi named) refl m
    where
      go : (o : Outcome Fields) → read_s_pmsi afi named ≡ o → Among nlri (on_outcome (λ number. []) (λ f. named ∷ []) o) → Named (install named attribute ∷ cs)
      go (given f) e a = ⊎_elim (λ h. (rw h (nlri-accepted afi named f e), (attribute, first (rw h)))) (λ b. absurd (among_none b)) (among_cases a)
      go (refused n) e a = absurd (among_none a)
  named-first (withdraw named) cs m = absurd (among_none m)
  named-first (restart which router) cs m = absurd (among_none m)
  named-first (match asked output) cs m = absurd (among_none m)

  named-install : (calls : List Call) → Among nlri (named_by afi calls) → Named calls
  unfolding named_by
  named-install [] m = absurd (among_none m)
  named-install (c ∷ cs) m =
      ⊎_elim (λ a. named-first c cs a) (λ b. let p = named-install cs b in (p.0, (p.1.0, later p.1.1))) (among-either (named_in afi c) m)

  install-named : (s : SPmsi afi nlri) (attribute : List ℕ) {calls : List Call} → Among (install nlri attribute) calls → Among nlri (named_by afi calls)
  unfolding named_by
  install-named s attribute (first {ys = cs} e) = rw (← e) (among-left (named_by afi cs) (named-in attribute s))
  install-named s attribute (later {y = c} m) = among-right (named_in afi c) (install-named s attribute m)

  pub named-exactly : (calls : List Call) → Among nlri (named_by afi calls) ↔ (SPmsi afi nlri × ((attribute : List ℕ) × Among (install nlri attribute) calls))
  named-exactly calls = (named-install calls, λ p. install-named p.0 p.1.0 p.1.1)
