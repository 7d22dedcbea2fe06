use Rattle.rcu_sections.proofs.Looking.{spares}
use Rattle.rcu_sections.proofs.laws.spare_stays.Goals as goal

pub returns : goal.returns
returns c = spares
