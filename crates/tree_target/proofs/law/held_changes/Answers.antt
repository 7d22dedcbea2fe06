use Rattle.tree_target.proofs.Holding.{held_change}
use Rattle.tree_target.proofs.law.held_changes.Goals as goal

pub returns : goal.returns
returns c = held_change
