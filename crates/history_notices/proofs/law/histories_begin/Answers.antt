use Rattle.history_notices.proofs.Leading.{loaded_starts, simple_starts}
use Rattle.history_notices.proofs.law.histories_begin.Goals as goal

pub returns-clause-loaded : goal.returns-clause-loaded
returns-clause-loaded c = loaded_starts

pub returns-clause-simple : goal.returns-clause-simple
returns-clause-simple c = simple_starts
