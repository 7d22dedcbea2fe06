use Rattle.tree_target.proofs.Changes.{unpublished_leave}
use Rattle.tree_target.proofs.law.unpublished_leave_fixed.Goals as goal

pub returns : goal.returns
returns c = unpublished_leave
