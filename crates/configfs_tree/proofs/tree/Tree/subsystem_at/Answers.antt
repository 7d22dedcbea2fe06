use Rattle.configfs_tree.proofs.Positions.{named_in_use}
use Rattle.configfs_tree.proofs.tree.Tree.subsystem_at.Goals as goal

pub returns-clause-in_use : goal.returns-clause-in_use
returns-clause-in_use c = named_in_use c.args.self.now c.args.sub.now c.place_of_name.result
    c.place_of_name.ensures
