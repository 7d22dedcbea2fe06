use Rattle.target_meaning.proofs.Calling.{bindings_are_own, held_replied}
use Rattle.target_meaning.proofs.law.queues_know_their_own.Goals as goal

pub returns-clause-held : goal.returns-clause-held
returns-clause-held c = held_replied

pub returns-clause-bindings : goal.returns-clause-bindings
returns-clause-bindings c = bindings_are_own
