use Rattle.ref_state.proofs.Consequences.{read_side_stays}
use Rattle.ref_state.proofs.laws.read_side_stays.Goals as goal

pub returns : goal.returns
returns c = read_side_stays
