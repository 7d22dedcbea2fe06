use Rattle.ref_state.proofs.OneStepTells.{look_tells}
use Rattle.ref_state.proofs.laws.look_tells.Goals as goal

pub returns : goal.returns
returns c = look_tells
