use Rattle.ref_state.proofs.OneStepTells.{others_stay}
use Rattle.ref_state.proofs.laws.others_stay.Goals as goal

pub returns : goal.returns
returns c = others_stay
