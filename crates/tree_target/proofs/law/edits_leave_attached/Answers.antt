use Rattle.tree_target.proofs.Changes.{edits_leave}
use Rattle.tree_target.proofs.law.edits_leave_attached.Goals as goal

pub returns : goal.returns
returns c = edits_leave
