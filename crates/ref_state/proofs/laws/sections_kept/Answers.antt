use Rattle.ref_state.proofs.Law.{sound_step}
use Rattle.ref_state.proofs.laws.sections_kept.Goals as goal

pub returns : goal.returns
returns c = λ a b j k s t. (sound_step a b j k t s).sections
