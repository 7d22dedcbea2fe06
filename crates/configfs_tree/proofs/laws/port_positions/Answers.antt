use Rattle.configfs_tree.proofs.Positions.{port_positions}
use Rattle.configfs_tree.proofs.laws.port_positions.Goals as goal

pub returns : goal.returns
returns c = port_positions c.args._t.now c.certify.ensures.placed
