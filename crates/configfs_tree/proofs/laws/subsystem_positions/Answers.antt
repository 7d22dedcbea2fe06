use Rattle.configfs_tree.proofs.Positions.{subsystem_positions}
use Rattle.configfs_tree.proofs.laws.subsystem_positions.Goals as goal

pub returns : goal.returns
returns c = subsystem_positions c.args._t.now c.certify.ensures.placed
