use Rattle.target_meaning.proofs.Calling.{editors_plain, queues_plain}
use Rattle.target_meaning.proofs.law.places_are_plain.Goals as goal

pub returns-clause-queues : goal.returns-clause-queues
returns-clause-queues c = queues_plain

pub returns-clause-editors : goal.returns-clause-editors
returns-clause-editors c = editors_plain
