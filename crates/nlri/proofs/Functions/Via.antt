-- What an answer tells: how a definition goes on after a step, by the case that the step's answer was.
use Rattle.std.proofs.Common.{◌≡◌, ℕ, Result, Ok, Err, sym, refl, ap, ◌∙◌}
use Rattle.std.specs.Result.{IsErrAnd}
use Rattle.octets.specs.Numbers.{KEY}
use Rattle.octets.specs.Outcome.{Outcome, given, refused}
use Rattle.octets.proofs.Outcome.{and-goes-on, and-stops}
use Rattle.octets.proofs.Tests.{tests}
use Rattle.octets.specs.declared.refusal.Refusal.{Refusal}
use Rattle.octets.specs.Refusals.{refusal_number}
use Rattle.nlri.specs.declared.address.AddressKind.{AddressKind}
use Rattle.nlri.specs.declared.header.Header.{Header}
use Rattle.nlri.specs.declared.group.GroupClass.{GroupClass}
use Rattle.nlri.specs.Family.{family_outcome}
use Rattle.nlri.specs.Groups.{class_outcome}
use Rattle.nlri.specs.Inner.{header_outcome, key_outcome}

-- the case of an answer, as the definition's outcome: for any enum, by the function from the enum
told : {E A : Type 0} (f : E → A) (e : E) {r : E} {o : A} → f r ≡ o → r ≡ e → o ≡ f e
told f e p q = sym p ∙ ap f q

pub known-given : (r : Result AddressKind Refusal) (o : Outcome ℕ) (kind : AddressKind) → family_outcome r ≡ o → r ≡ Ok kind → o ≡ given kind.bits
known-given r o kind p q = told family_outcome (Ok kind) p q

pub unknown-given : (r : Result AddressKind Refusal) (o : Outcome ℕ) (x : Refusal) → family_outcome r ≡ o → r ≡ Err x → o ≡ refused (refusal_number x)
unknown-given r o x p q = told family_outcome (Err x) p q

pub unread-given : (r : Result Header Refusal) (o : Outcome (ℕ × ℕ)) (x : Refusal) → header_outcome r ≡ o → r ≡ Err x → o ≡ refused (refusal_number x)
unread-given r o x p q = told header_outcome (Err x) p q

-- a refusal that is passed on refuses the key
pub key_passed_on : (r : Result Header Refusal) (x : Refusal) → IsErrAnd r (λ y. y ≡ x) → key_outcome r ≡ refused KEY
key_passed_on (Ok h) x p = absurd p
key_passed_on (Err y) x p = refl

-- and the family, the class
pub family_passed_on : (r : Result AddressKind Refusal) (x : Refusal) → IsErrAnd r (λ y. y ≡ x) → family_outcome r ≡ refused (refusal_number x)
family_passed_on (Ok h) x p = absurd p
family_passed_on (Err y) x p = ap (λ (z : Refusal). refused (refusal_number z)) p

pub class_passed_on : (r : Result GroupClass Refusal) (x : Refusal) → IsErrAnd r (λ y. y ≡ x) → class_outcome r ≡ refused (refusal_number x)
class_passed_on (Ok h) x p = absurd p
class_passed_on (Err y) x p = ap (λ (z : Refusal). refused (refusal_number z)) p

-- the tests of a definition, and its steps by the answers of those of the code
pub ruleset reads = (tests, and-goes-on, and-stops, known-given, unknown-given, unread-given, key_passed_on, family_passed_on, class_passed_on)
