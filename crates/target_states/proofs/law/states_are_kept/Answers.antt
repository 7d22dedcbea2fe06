use Rattle.target_states.proofs.Keeping.{states_kept}
use Rattle.target_states.proofs.law.states_are_kept.Goals as goal

pub returns : goal.returns
returns c = λ g tags start. states_kept g start tags
