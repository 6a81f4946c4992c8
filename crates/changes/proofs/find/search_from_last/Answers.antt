-- `changes::find::search_from_last` meets its contract.
use Rattle.places.proofs.Indexes.{header-within}
use Rattle.changes.proofs.find.search_from_last.Goals as goal

pub count_of-count-requires : goal.count_of-count-requires
count_of-count-requires c = header-within c.args.table.now c.requires
