use Rattle.ref_state.proofs.OwnersKept.{holds_have_entries, executes_have_submits}
use Rattle.ref_state.proofs.laws.holds_have_entries.Goals as goal

pub returns : goal.returns
returns c = record { holds = holds_have_entries; executes = executes_have_submits }
