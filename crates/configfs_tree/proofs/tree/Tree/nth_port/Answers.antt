use Rattle.configfs_tree.proofs.Positions.{nth_port_in_use}
use Rattle.configfs_tree.proofs.tree.Tree.nth_port.Goals as goal

pub returns-clause-in_use : goal.returns-clause-in_use
returns-clause-in_use c = nth_port_in_use c.args.self.now c.args.n c.nth_port_place.result
    c.nth_port_place.ensures
