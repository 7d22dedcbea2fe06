use Rattle.ref_state.proofs.Law.{always}
use Rattle.ref_state.proofs.laws.always_sound.Goals as goal

pub returns : goal.returns
returns c = always
