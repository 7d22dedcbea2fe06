use Rattle.ref_state.proofs.Needs.{words_are_counters}
use Rattle.ref_state.proofs.laws.words_are_counters.Goals as goal

pub returns : goal.returns
returns c = words_are_counters
