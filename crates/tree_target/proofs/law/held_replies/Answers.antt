use Rattle.tree_target.proofs.Holding.{held_reply}
use Rattle.tree_target.proofs.law.held_replies.Goals as goal

pub returns : goal.returns
returns c = held_reply
