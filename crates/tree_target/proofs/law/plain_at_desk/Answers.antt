use Rattle.tree_target.proofs.Changes.{plain_at_desk}
use Rattle.tree_target.proofs.law.plain_at_desk.Goals as goal

pub returns : goal.returns
returns c = plain_at_desk
