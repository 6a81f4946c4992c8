-- One router after another, and then nobody's calls, is an order of the same calls that keeps each router's own.
use Prim.Native.Nat.{ℕ}
use mathlib.Core.Path.{◌≡◌, refl, sym, ap₂, subst, ◌∙◌}
use mathlib.Core.Bool.{Bool, true, false}
use mathlib.Core.List.{List, [], ◌∷◌, ◌++◌, append-nil}
use mathlib.Core.Logic.{⊎_elim}
use Rattle.octets.specs.Order.{same}
use Rattle.octets.proofs.Choice.{opposite, tested}
use Rattle.octets.proofs.Orders.{same-equal, other-unequal}
use Rattle.octets.specs.Lists.{Among, first, later, Once, Rearranged, chosen}
use Rattle.routes.specs.Call.{Call, owner_of}
use Rattle.routes.specs.Book.{own_calls, nobodys_calls, is_among, once_each, routers_of}
use Rattle.routes.specs.Rules.MixedCalls.{turns, in_turn, Reordered}
use Rattle.octets.proofs.Among.{among_none, among_cases, rearranged-among, rearranged-itself, once-rearranged}
use Rattle.routes.proofs.Definitions.OnceEach.{is-among-true, among-is-among, among-once-each, once-once-each}
use Rattle.octets.proofs.Chosen.{chosen-append, chosen-passes, chosen-all, chosen_none}
use Rattle.routes.proofs.Definitions.Ownership.{owner-nobody, owners-same, owned-by}
use Rattle.routes.proofs.Definitions.AllBooks.{own-none}
use Rattle.routes.proofs.Definitions.ByOwner.{is-nobody, by-owner}
use Rattle.routes.proofs.Statements.Mixed.Reorders.{own-again}

module _ (afi : ℕ) (calls : List Call) where
  -- those of one are not those of another

  own-foreign : (router other : List ℕ) → (router ≡ other → ⊥) → own_calls afi router (own_calls afi other calls) ≡ []
  own-foreign router other h =
      chosen_none _ (own_calls afi other calls) (λ c m t. h (owners-same (owned-by router (owner_of afi c) t) (owned-by other (owner_of afi c) (chosen-passes _ calls m))))

  own-nobodys : (router : List ℕ) → own_calls afi router (nobodys_calls afi calls) ≡ []
  own-nobodys router =
      chosen_none _ (nobodys_calls afi calls) (λ c m t. owner-nobody (is-nobody (owner_of afi c) (chosen-passes _ calls m)) (owned-by router (owner_of afi c) t))

  nobodys-own : (router : List ℕ) → nobodys_calls afi (own_calls afi router calls) ≡ []
  nobodys-own router =
      chosen_none _ (own_calls afi router calls) (λ c m t. owner-nobody (is-nobody (owner_of afi c) t) (owned-by router (owner_of afi c) (chosen-passes _ calls m)))

  nobodys-again : nobodys_calls afi (nobodys_calls afi calls) ≡ nobodys_calls afi calls
  nobodys-again = chosen-all _ (nobodys_calls afi calls) (λ c m. chosen-passes _ calls m)

  -- routers' turns

  nobodys-turns : (routers : List (List ℕ)) → nobodys_calls afi (turns afi routers calls) ≡ []
  unfolding turns chosen
  nobodys-turns [] = refl
  nobodys-turns (router ∷ routers) =
      chosen-append _ (own_calls afi router calls) (turns afi routers calls)
      ∙ ap₂ (λ (a b : List Call). a ++ b) (nobodys-own router) (nobodys-turns routers)

  own-turns-foreign : (router : List ℕ) (routers : List (List ℕ)) → (Among router routers → ⊥) → own_calls afi router (turns afi routers calls) ≡ []
  unfolding turns chosen
  own-turns-foreign router [] h = refl
  own-turns-foreign router (other ∷ routers) h =
      chosen-append _ (own_calls afi other calls) (turns afi routers calls)
      ∙ ap₂ (λ (a b : List Call). a ++ b) (own-foreign router other (λ e. h (first e))) (own-turns-foreign router routers (λ m. h (later m)))

  own-turns : (router : List ℕ) {routers : List (List ℕ)} → Once routers → Among router routers → own_calls afi router (turns afi routers calls) ≡ own_calls afi router calls
  unfolding turns
  own-turns router Once.none m = absurd (among_none m)
  own-turns router (Once.one {x = other} {xs = routers} n u) m =
      chosen-append _ (own_calls afi other calls) (turns afi routers calls)
      ∙ tested (same router other)
      (λ t.
      let e : router ≡ other = same-equal router other t in
      ap₂ (λ (a b : List Call). a ++ b)
      (subst (λ (x : List ℕ). own_calls afi router (own_calls afi x calls) ≡ own_calls afi router calls) e (own-again afi router calls))
      (own-turns-foreign router routers (λ a. n (rw (← e) a)))
      ∙ append-nil (own_calls afi router calls))
      (λ f.
      ap₂ (λ (a b : List Call). a ++ b) (own-foreign router other (other-unequal router other f))
      (own-turns router u (⊎_elim (λ e. absurd (other-unequal router other f e)) (λ a. a) (among_cases m))))

  -- routers, each once, that have every owner
  module _ (routers : List (List ℕ)) (order : Rearranged (once_each (routers_of afi calls)) routers) where
    own-in-turn : (router : List ℕ) → own_calls afi router (in_turn afi routers calls) ≡ own_calls afi router calls
    own-in-turn router =
        chosen-append _ (turns afi routers calls) (nobodys_calls afi calls)
        ∙ ap₂ (λ (a b : List Call). a ++ b) (own (is_among router routers) refl) (own-nobodys router)
        ∙ append-nil (own_calls afi router calls)
      where
        own : (b : Bool) → is_among router routers ≡ b → own_calls afi router (turns afi routers calls) ≡ own_calls afi router calls
        own true t = own-turns router (once-rearranged order (once-once-each (routers_of afi calls))) (is-among-true routers t)
        own false f =
            own-turns-foreign router routers (λ m. opposite (among-is-among m) f)
            ∙ sym (own-none afi router calls (λ m. opposite (among-is-among (rearranged-among order (among-once-each (routers_of afi calls) m))) f))

    nobodys-in-turn : nobodys_calls afi (in_turn afi routers calls) ≡ nobodys_calls afi calls
    nobodys-in-turn =
        chosen-append _ (turns afi routers calls) (nobodys_calls afi calls)
        ∙ ap₂ (λ (a b : List Call). a ++ b) (nobodys-turns routers) nobodys-again

    pub in-turn : Reordered afi calls (in_turn afi routers calls)
    in-turn =
        record {
          rearranged =
              by-owner (owner_of afi) calls (in_turn afi routers calls) (λ router. sym (own-in-turn router))
              (subst (λ (l : List Call). Rearranged (nobodys_calls afi calls) l) (sym nobodys-in-turn) (rearranged-itself (nobodys_calls afi calls)));
          kept = own-in-turn;
        }
