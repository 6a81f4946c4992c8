-- `bier::leaf::bfr_id_in` meets its contract.
use borrow.Author.Rules.{rules}
use Rattle.bier.proofs.Functions.{bfr-other}
use Rattle.bier.proofs.leaf.bfr_id_in.Goals as goal

pub returns-then-bier-sub_domain : goal.returns-then-bier-sub_domain
returns-then-bier-sub_domain c = search (rules, bfr-other)
