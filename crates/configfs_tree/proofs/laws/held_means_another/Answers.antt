use Rattle.configfs_tree.proofs.KeptTable.{held_means_another}
use Rattle.configfs_tree.proofs.laws.held_means_another.Goals as goal

pub returns : goal.returns
returns c = held_means_another c.args._t.now c.args._sub.now c.args._nsid c.certify.ensures.placed
