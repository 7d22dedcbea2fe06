use Rattle.tree_target.proofs.Holding.{held_shown}
use Rattle.tree_target.proofs.law.held_is_shown.Goals as goal

pub returns : goal.returns
returns c = held_shown c.admitted_is_on_a_seen_disk.ensures
