use Rattle.tree_target.proofs.SimpleEdits.{simple_edited}
use Rattle.tree_target.proofs.simple.simple_is_edited.Goals as goal

pub returns : goal.returns
returns c = simple_edited
