-- Definitions that mirror the functions of next; laws tie them to those of `routes`.
use Rattle.std.specs.Prelude.{List, [], ◌∷◌}
use Rattle.routes.specs.Route.{Route}
use Rattle.routes.specs.Matching.{Found, nothing, found}

-- the first route, found with no tier
unfoldable pub first_found : List Route → Found
first_found [] = nothing
first_found (q ∷ rs) = found 0 q
