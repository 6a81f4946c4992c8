-- Graceful restart of one originating router (request W-208, after RFC 4724): its routes are marked, and what is still marked is swept.
use Rattle.std.specs.Prelude.{ℕ, Bool, true, false, List, [], ◌∷◌, length}
use Rattle.octets.specs.Numbers.{FLOW}
use Rattle.octets.specs.Choice.{pick, both}
use Rattle.octets.specs.Outcome.{Outcome, given, unless}
use Rattle.octets.specs.Lists.{chosen}
use Rattle.nlri.specs.Family.{is_originator_size}
use Rattle.routes.specs.Route.{Route, stale_of, with_mark}
use Rattle.routes.specs.Matching.{of_router}

-- the two calls of a restart
pub data RestartCall : Type 0 where
  marking : RestartCall
  sweeping : RestartCall

-- the mark of a route that a call leaves: a mark sets it; a sweep leaves those that have none
unfoldable pub mark_left : RestartCall → Bool
mark_left marking = true
mark_left sweeping = false

-- routes after a call: of that router's, those already marked go, and the others have the mark that the call leaves; all others stay
unfoldable pub renewed : ℕ → RestartCall → (router : List ℕ) → List Route → List Route
renewed afi which router [] = []
renewed afi which router (r ∷ rs) =
    pick (of_router afi router r)
    (pick (stale_of r) (renewed afi which router rs) (with_mark (mark_left which) r ∷ renewed afi which router rs))
    (r ∷ renewed afi which router rs)

-- how many went: that router's that were marked
unfoldable pub gone_of : ℕ → (router : List ℕ) → List Route → ℕ
gone_of afi router rs = length (chosen (λ r. both (of_router afi router r) (stale_of r)) rs)

-- FLOW for a router address of another size
unfoldable pub read_router : (router : List ℕ) → Outcome (List ℕ)
read_router router = unless (is_originator_size (length router)) FLOW (given router)
