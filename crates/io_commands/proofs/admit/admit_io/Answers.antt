use Rattle.io_commands.proofs.Admitted.{fits_seen}
use Rattle.io_commands.proofs.admit.admit_io.Goals as goal

pub returns-clause-fits : goal.returns-clause-fits
returns-clause-fits g c = rw c.check_all.ensures.value (fits_seen _ _)
