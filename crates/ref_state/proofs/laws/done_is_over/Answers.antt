use Rattle.ref_state.proofs.Consequences.{done_is_over}
use Rattle.ref_state.proofs.laws.done_is_over.Goals as goal

pub returns : goal.returns
returns c = done_is_over
