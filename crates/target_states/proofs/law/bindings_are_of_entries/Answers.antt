use Rattle.target_states.proofs.Connecting.{of_entries}
use Rattle.target_states.proofs.law.bindings_are_of_entries.Goals as goal

pub returns : goal.returns
returns c = of_entries
