-- `nlri::address::Address::wildcard` meets its contract.
use Rattle.nlri.proofs.Functions.Copies.{no_address}
use Rattle.nlri.proofs.address.Address.wildcard.Goals as goal

pub returns : goal.returns
returns c = no_address
