-- Laws of a book after one call: what it then holds of an NLRI, that its NLRIs stay distinct and its routes acceptable.
use Prim.Native.Nat.{ℕ}
use mathlib.Core.Path.{◌≡◌, refl}
use mathlib.Core.List.{List, [], ◌∷◌}
use Rattle.octets.specs.Choice.{pick}
use Rattle.octets.specs.Outcome.{Outcome, on_outcome}
use Rattle.octets.specs.Order.{same}
use Rattle.octets.proofs.Choice.{pick_true, pick-false, tested, is_false}
use Rattle.octets.proofs.Orders.{same-equal, unequal-other}
use Rattle.octets.specs.Lists.{Among}
use Rattle.routes.specs.Route.{Route, nlri_of, Held, absent, held, lookup, Distinct}
use Rattle.routes.specs.Place.{AllAcceptable}
use Rattle.routes.specs.Call.{Call, owner, originator_of, owner_of, Act, enter, leave, renew, ask, argued}
use Rattle.routes.specs.Book.{act_after, book_after}
use Rattle.routes.specs.Run.{named_in}
use Rattle.routes.proofs.Definitions.Lookups.{held-absent, lookup-entered, lookup-removed, distinct-entered, distinct-removed}
use Rattle.routes.proofs.Definitions.Increases.{acceptable-entered, acceptable-removed}
use Rattle.routes.proofs.Definitions.Ownership.{owned-by}
use Rattle.routes.proofs.Definitions.Restarts.{held_renewed, renewed-absent, lookup-renewed, distinct-renewed, acceptable-renewed}
use Rattle.routes.proofs.Definitions.Acts.{Known, enters, leaves, renews, asks, argued-cases}

-- what is held of an NLRI after an act, by what was held before
unfoldable pub held_by : ℕ → Act → (nlri : List ℕ) → Held → Held
held_by afi (enter r) nlri h = pick (same nlri (nlri_of r)) (held r) h
held_by afi (leave named) nlri h = pick (same nlri named) absent h
held_by afi (renew which router) nlri h = held_renewed afi which router nlri h
held_by afi (ask q output) nlri h = h

-- after a call
unfoldable pub held_after : ℕ → Call → (nlri : List ℕ) → Held → Held
held_after afi c nlri h = on_outcome (λ number. h) (λ act. held_by afi act nlri h) (argued afi c)

-- and after calls
unfoldable pub held_after_all : ℕ → List Call → (nlri : List ℕ) → Held → Held
held_after_all afi [] nlri h = h
held_after_all afi (c ∷ cs) nlri h = held_after_all afi cs nlri (held_after afi c nlri h)

-- acts

lookup-act : (afi : ℕ) (nlri : List ℕ) (act : Act) {book : List Route} → Distinct book → lookup nlri (act_after afi book act) ≡ held_by afi act nlri (lookup nlri book)
unfolding act_after held_by lookup
lookup-act afi nlri (enter r) {book} d = lookup-entered nlri r book
lookup-act afi nlri (leave named) d = lookup-removed nlri named d
lookup-act afi nlri (renew which router) d = lookup-renewed afi which router nlri d
lookup-act afi nlri (ask q output) d = refl

distinct-act : (afi : ℕ) (act : Act) {book : List Route} → Distinct book → Distinct (act_after afi book act)
unfolding act_after
distinct-act afi (enter r) d = distinct-entered r d
distinct-act afi (leave named) d = distinct-removed named d
distinct-act afi (renew which router) d = distinct-renewed afi which router d
distinct-act afi (ask q output) d = d

module _ {afi : ℕ} {c : Call} {router : List ℕ} where
  acceptable-act : {act : Act} {book : List Route} → Known afi c router act → AllAcceptable afi book → AllAcceptable afi (act_after afi book act)
  unfolding act_after
  acceptable-act (enters {r} h own m) a = acceptable-entered r h a
  acceptable-act (leaves {nlri = named} own) a = acceptable-removed named a
  acceptable-act (renews {which}) a = acceptable-renewed afi which router a
  acceptable-act (asks e) a = a

  -- an act leaves what is held of another router's NLRI
  apart-act : {act : Act} (nlri : List ℕ) (h : Held) → Known afi c router act → (originator_of afi nlri ≡ owner router → ⊥) → held_by afi act nlri h ≡ h
  unfolding held_by
  apart-act nlri h (enters {r} a own m) foreign = pick-false _ _ _ (unequal-other nlri (nlri_of r) (λ e. foreign (rw e own)))
  apart-act nlri h (leaves {nlri = named} own) foreign = pick-false _ _ _ (unequal-other nlri named (λ e. foreign (rw e own)))
  apart-act nlri h renews foreign = pick-false _ _ _ (is_false _ (λ t. foreign (owned-by router (originator_of afi nlri) t)))
  apart-act nlri h (asks e) foreign = refl

  -- what is first held was named
  named-act : {act : Act} (nlri : List ℕ) (a : Route) → Known afi c router act → held_by afi act nlri absent ≡ held a → Among nlri (named_in afi c)
  unfolding held_by
  named-act nlri a (enters {r} x own m) h = tested (same nlri (nlri_of r)) (λ t. rw (same-equal nlri (nlri_of r) t) m) (λ f. absurd (held-absent h (pick-false _ _ _ f)))
  named-act nlri a (leaves {nlri = named} own) h = absurd (held-absent h (tested (same nlri named) (λ t. pick_true _ _ _ t) (λ f. pick-false _ _ _ f)))
  named-act nlri a (renews {which}) h = absurd (held-absent h (renewed-absent afi which router nlri))
  named-act nlri a (asks e) h = absurd (held-absent h refl)

-- calls

-- a book's lookups after a call
pub lookup-after : (afi : ℕ) (nlri : List ℕ) (c : Call) {book : List Route} → Distinct book → lookup nlri (book_after afi book c) ≡ held_after afi c nlri (lookup nlri book)
unfolding book_after held_after on_outcome
lookup-after afi nlri c {book} d =
    argued-cases (λ (o : Outcome Act). lookup nlri (on_outcome (λ number. book) (act_after afi book) o) ≡ on_outcome (λ number. lookup nlri book) (λ act. held_by afi act nlri (lookup nlri book)) o) afi c
    (λ n e. refl) (λ act e k. lookup-act afi nlri act d)

pub distinct-after : (afi : ℕ) (c : Call) {book : List Route} → Distinct book → Distinct (book_after afi book c)
unfolding book_after on_outcome
distinct-after afi c {book} d = argued-cases (λ (o : Outcome Act). Distinct (on_outcome (λ number. book) (act_after afi book) o)) afi c (λ n e. d) (λ act e k. distinct-act afi act d)

pub acceptable-after : (afi : ℕ) (c : Call) {book : List Route} → AllAcceptable afi book → AllAcceptable afi (book_after afi book c)
unfolding book_after on_outcome
acceptable-after afi c {book} a =
    argued-cases (λ (o : Outcome Act). AllAcceptable afi (on_outcome (λ number. book) (act_after afi book) o)) afi c (λ n e. a) (λ act e k. acceptable-act k.known a)

-- no router has both the NLRI and the call
abbrev Apart : (afi : ℕ) (nlri : List ℕ) → Call → Type 0
Apart afi nlri c = (router : List ℕ) → originator_of afi nlri ≡ owner router → owner_of afi c ≡ owner router → ⊥

-- such a call leaves what is held of the NLRI
pub held-apart : (afi : ℕ) (nlri : List ℕ) (c : Call) (h : Held) → Apart afi nlri c → held_after afi c nlri h ≡ h
unfolding held_after on_outcome
held-apart afi nlri c h apart =
    argued-cases (λ (o : Outcome Act). on_outcome (λ number. h) (λ act. held_by afi act nlri h) o ≡ h) afi c
    (λ n e. refl) (λ act e k. apart-act nlri h k.known (λ q. apart k.router q k.own))

pub installed-held : (afi : ℕ) (nlri : List ℕ) (c : Call) (a : Route) → held_after afi c nlri absent ≡ held a → Among nlri (named_in afi c)
unfolding held_after on_outcome
installed-held afi nlri c a =
    argued-cases (λ (o : Outcome Act). on_outcome (λ number. absent) (λ act. held_by afi act nlri absent) o ≡ held a → Among nlri (named_in afi c)) afi c
    (λ n e h. absurd (held-absent h refl)) (λ act e k h. named-act nlri a k.known h)
