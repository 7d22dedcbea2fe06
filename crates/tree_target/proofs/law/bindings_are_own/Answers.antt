use Rattle.tree_target.proofs.Changes.{bindings_own}
use Rattle.tree_target.proofs.law.bindings_are_own.Goals as goal

pub returns : goal.returns
returns c = bindings_own
