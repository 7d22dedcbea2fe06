use Rattle.configfs_tree.proofs.Positions.{port_in_use}
use Rattle.configfs_tree.proofs.tree.Tree.port_at.Goals as goal

pub returns-clause-in_use : goal.returns-clause-in_use
returns-clause-in_use c = port_in_use c.args.self.now c.args.id c.place_of_id.result
    c.place_of_id.ensures
