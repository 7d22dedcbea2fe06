use Rattle.configfs_tree.proofs.Positions.{live_holds_disk}
use Rattle.configfs_tree.proofs.laws.live_holds_disk.Goals as goal

pub returns : goal.returns
returns c = live_holds_disk c.args._t.now c.args._sub.now c.args._nsid c.certify.ensures
