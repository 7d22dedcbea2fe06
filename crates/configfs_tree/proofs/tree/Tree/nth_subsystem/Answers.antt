use Rattle.configfs_tree.proofs.Positions.{nth_subsystem_in_use}
use Rattle.configfs_tree.proofs.tree.Tree.nth_subsystem.Goals as goal

pub returns-clause-in_use : goal.returns-clause-in_use
returns-clause-in_use c = nth_subsystem_in_use c.args.self.now c.args.n c.nth_place.result
    c.nth_place.ensures
