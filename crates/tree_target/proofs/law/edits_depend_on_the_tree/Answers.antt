use Rattle.tree_target.proofs.Changes.{edits_depend}
use Rattle.tree_target.proofs.law.edits_depend_on_the_tree.Goals as goal

pub returns : goal.returns
returns c = edits_depend
