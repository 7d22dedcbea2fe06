use Rattle.target_states.proofs.Deciding.{as_computed, editors_same}
use Rattle.target_states.proofs.law.editors_depend_on_the_desk.Goals as goal

pub returns-clause-depend : goal.returns-clause-depend
returns-clause-depend c = editors_same

pub returns-clause-computed : goal.returns-clause-computed
returns-clause-computed c = as_computed
