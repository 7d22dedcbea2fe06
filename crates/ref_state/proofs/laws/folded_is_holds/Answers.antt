use Rattle.ref_state.proofs.Consequences.{folded_is_holds, last_put_ends}
use Rattle.ref_state.proofs.laws.folded_is_holds.Goals as goal

pub returns : goal.returns
returns c = record { count = folded_is_holds; last = last_put_ends }
