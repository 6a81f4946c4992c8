-- A match depends only on what routes hold under the NLRIs of the router asked.
use Prim.Native.Nat.{ℕ}
use mathlib.Core.Path.{◌≡◌, sym, ◌∙◌}
use mathlib.Core.Bool.{true}
use mathlib.Core.List.{List}
use Rattle.octets.specs.Outcome.{given, on_outcome}
use Rattle.octets.proofs.Orders.{same-of-equal}
use Rattle.nlri.specs.Fields.{Fields}
use Rattle.routes.specs.Route.{Route, nlri_of, lookup, Distinct}
use Rattle.routes.specs.Query.{Query}
use Rattle.routes.specs.Arguments.{read_s_pmsi}
use Rattle.routes.specs.Matching.{match_in}
use Rattle.routes.specs.Call.{originator_of, owned_by}
use Rattle.routes.proofs.Definitions.Lookups.{lookup-member, lookup-of-member}
use Rattle.routes.proofs.Definitions.Matching.Conditions.{qualified}
use Rattle.routes.proofs.Definitions.Matching.First.{Carried, first-is, first-unique}

module _ (afi : ℕ) (router : List ℕ) where
  own-nlri : (nlri : List ℕ) (f : Fields) → read_s_pmsi afi nlri ≡ given f → f.originator ≡ router → owned_by router (originator_of afi nlri) ≡ true
  unfolding originator_of owned_by on_outcome
  own-nlri nlri f e o = rw e (same-of-equal router f.originator (sym o))

  -- the same routes of the router asked
  abbrev Alike : List Route → List Route → Type 0
  Alike rs us = (nlri : List ℕ) → owned_by router (originator_of afi nlri) ≡ true → lookup nlri rs ≡ lookup nlri us

  carried : {rs us : List Route} → Distinct rs → Alike rs us → Carried afi router rs us
  carried {rs} {us} d alike w r h m =
      let x = qualified afi router w r h in
      (lookup-member us (sym (alike (nlri_of r) (own-nlri (nlri_of r) x.fields x.read x.own)) ∙ lookup-of-member d m)).0

pub match-same : (afi : ℕ) (q : Query) (rs us : List Route) → Distinct rs → Distinct us → ((nlri : List ℕ) → owned_by q.router (originator_of afi nlri) ≡ true → lookup nlri rs ≡ lookup nlri us)
    → match_in afi q rs ≡ match_in afi q us
match-same afi q rs us d e alike =
    first-unique afi q.router d (carried afi q.router d alike) (carried afi q.router e (λ n o. sym (alike n o))) (first-is afi q rs) (first-is afi q us)
