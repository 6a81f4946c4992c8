-- `matches::matching::search` meets its contract.
use Rattle.places.proofs.Indexes.{header-within}
use Rattle.matches.proofs.BestRoutes.{scan-ready, search-answerable, search-answers}
use Rattle.matches.proofs.matching.search.Goals as goal

pub count_of-requires : goal.count_of-requires
count_of-requires c = header-within _ c.requires.0

pub after-places-requires : goal.after-places-requires
after-places-requires c = header-within _ c.requires.0

pub best-best-requires : goal.best-best-requires
best-best-requires c =
    let p = c.requires in
    record { by_index = scan-ready _ p.0 _ c.count_of.ensures.0 _ c.after-places.ensures; in_bounds = p.4 }

pub answer-requires : goal.answer-requires
answer-requires c =
    let p = c.requires in
    search-answerable _ p.0 _ c.count_of.ensures.0 _ c.after-places.ensures _ _ p.2 p.3 _ c.best-best.ensures _ p.1

pub returns : goal.returns
returns c =
    let p = c.requires in
    search-answers _ p.0 _ c.count_of.ensures.0 _ c.after-places.ensures _ _ p.2 p.3 _ c.best-best.ensures _ _ _
    c.answer.ensures
