use Rattle.tree_target.proofs.Changes.{edits_as_computed}
use Rattle.tree_target.proofs.law.edits_are_as_computed.Goals as goal

pub returns : goal.returns
returns c = edits_as_computed
