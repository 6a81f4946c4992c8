-- `tunnel::identifier::form_of` meets its contract, row by row.
use Rattle.std.proofs.Common.{refl, ◌∙◌}
use Rattle.octets.specs.Choice.{pick}
use Rattle.tunnel.specs.Identifier.{identifier_forms, form_in, form_of}
use Rattle.tunnel.proofs.Functions.Rows.{in-row, one-size, one-type}
use Rattle.tunnel.proofs.identifier.form_of.Goals as goal

pub returns-in-NoTunnel : goal.returns-in-NoTunnel
unfolding form_of form_in identifier_forms pick
returns-in-NoTunnel c i = rw c.in-NoTunnel.is (in-row 0 _ i refl ∙ one-size _ i)

pub returns-in-RsvpTeP2mp : goal.returns-in-RsvpTeP2mp
unfolding form_of form_in identifier_forms pick
returns-in-RsvpTeP2mp c i = rw c.in-RsvpTeP2mp.is (in-row 1 _ i refl ∙ one-size _ i)

pub returns-in-MldpP2mp : goal.returns-in-MldpP2mp
unfolding form_of form_in identifier_forms pick
returns-in-MldpP2mp c i = rw c.in-MldpP2mp.is (in-row 2 _ i refl ∙ one-type _ i)

pub returns-in-PimSsm : goal.returns-in-PimSsm
unfolding form_of form_in identifier_forms pick
returns-in-PimSsm c i = rw c.in-PimSsm.is (in-row 3 _ i refl)

pub returns-in-PimSm : goal.returns-in-PimSm
unfolding form_of form_in identifier_forms pick
returns-in-PimSm c i = rw c.in-PimSm.is (in-row 4 _ i refl)

pub returns-in-BidirPim : goal.returns-in-BidirPim
unfolding form_of form_in identifier_forms pick
returns-in-BidirPim c i = rw c.in-BidirPim.is (in-row 5 _ i refl)

pub returns-in-IngressReplication : goal.returns-in-IngressReplication
unfolding form_of form_in identifier_forms pick
returns-in-IngressReplication c i = rw c.in-IngressReplication.is (in-row 6 _ i refl)

pub returns-in-MldpMp2mp : goal.returns-in-MldpMp2mp
unfolding form_of form_in identifier_forms pick
returns-in-MldpMp2mp c i = rw c.in-MldpMp2mp.is (in-row 7 _ i refl)

pub returns-in-Bier : goal.returns-in-Bier
unfolding form_of form_in identifier_forms pick
returns-in-Bier c i = rw c.in-Bier.is (in-row 11 _ i refl)
