use Rattle.tree_target.proofs.Lives.{keeps_holder}
use Rattle.tree_target.proofs.law.held_keeps_holder.Goals as goal

pub returns : goal.returns
returns c = keeps_holder
