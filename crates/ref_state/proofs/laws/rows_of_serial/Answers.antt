use Rattle.ref_state.proofs.Consequences.{rows_of_serial, confs_stay}
use Rattle.ref_state.proofs.laws.rows_of_serial.Goals as goal

pub returns : goal.returns
returns c = record { rows = rows_of_serial; stay = confs_stay }
