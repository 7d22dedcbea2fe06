use Rattle.configfs_tree.proofs.Stands.{load_stands}
use Rattle.configfs_tree.proofs.tree.Tree.end_load.Goals as goal

pub invariant_of-self : goal.invariant_of-self
invariant_of-self c = load_stands c.self.inside.configuration c.self.invariant
