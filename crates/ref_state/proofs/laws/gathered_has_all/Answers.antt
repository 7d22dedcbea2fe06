use Rattle.ref_state.proofs.OneStepTells.{entries_and_places_left, gathered_has_all}
use Rattle.ref_state.proofs.laws.gathered_has_all.Goals as goal

pub returns : goal.returns
returns c = record { quotas = entries_and_places_left; every = gathered_has_all }
