-- What a match is asked, whatever its kind. A further kind is one more constructor, with its router and with what its arguments come to.
use Rattle.std.specs.Prelude.{ℕ, List}
use Rattle.octets.specs.Outcome.{Outcome}
use Rattle.routes.specs.Query.{Query, Flow}
use Rattle.routes.specs.Arguments.{read_match}
use Rattle.routes.specs.SharedTree.{SharedTree, read_tree}

-- a customer flow (document 01, "Which route a flow takes"), or a shared tree with what the daemon tells (request W-201)
pub data Asked : Type 0 where
  of_flow : Flow → Asked
  of_shared_tree : SharedTree → Asked

-- the router of which it is asked
unfoldable pub asked_router : Asked → List ℕ
asked_router (of_flow flow) = flow.router
asked_router (of_shared_tree tree) = tree.router

-- what it asks under a family, or the first refusal in its order that its arguments cause
unfoldable pub read_asked : (afi : ℕ) → Asked → (output : List ℕ) → Outcome Query
read_asked afi (of_flow flow) output = read_match afi flow output
read_asked afi (of_shared_tree tree) output = read_tree afi tree output
