-- The room holds the listing of every run.
use Rattle.runs.specs.Modes.{mode_number}
use Rattle.mvpn_list.proofs.Bounds.{listing_of-fits}
use Rattle.mvpn_list.proofs.print_listing.Goals as goal

pub returns-in_err-write-clause-fits : goal.returns-in_err-write-clause-fits
returns-in_err-write-clause-fits g c = listing_of-fits (mode_number c.args.mode) c.args.run.now

pub returns-clause-fits : goal.returns-clause-fits
returns-clause-fits g c = listing_of-fits (mode_number c.args.mode) c.args.run.now
