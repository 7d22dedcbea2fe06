use Rattle.fabrics_connect.proofs.Laws.{ready_after_set}
use Rattle.fabrics_connect.proofs.law.ready_after_set.Goals as goal

pub returns : goal.returns
returns c = ready_after_set
