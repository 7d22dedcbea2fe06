use Rattle.ref_state.proofs.Consequences.{last_serial_alone}
use Rattle.ref_state.proofs.laws.last_serial_alone.Goals as goal

pub returns : goal.returns
returns c = last_serial_alone
