use Rattle.configfs_tree.proofs.Stands.{attach_stands}
use Rattle.configfs_tree.proofs.tree.Tree.attach.Goals as goal

pub invariant_of-self : goal.invariant_of-self
invariant_of-self c = attach_stands c.self.inside.configuration _ c.self.invariant
