-- `pieces::state::Pieces::settle` meets its contract.
use borrow.Author.Rules.{rules}
use Rattle.octets.proofs.Tests.{tests}
use Rattle.pieces.specs.Feeding.{settled_of}
use Rattle.pieces.proofs.Functions.{settle-whole}
use Rattle.pieces.proofs.state.Pieces.settle.Goals as goal

pub returns-then-self-size : goal.returns-then-self-size
unfolding settled_of
returns-then-self-size c = search tests

pub returns : goal.returns
returns c = search (rules, settle-whole)
