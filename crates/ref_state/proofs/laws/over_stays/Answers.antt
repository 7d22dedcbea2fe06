use Rattle.ref_state.proofs.Consequences.{over_stays}
use Rattle.ref_state.proofs.laws.over_stays.Goals as goal

pub returns : goal.returns
returns c = over_stays
