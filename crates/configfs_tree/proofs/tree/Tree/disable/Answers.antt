use Rattle.std.proofs.Common.{codes}
use Rattle.configfs_tree.specs.Table.{set_enable}
use Rattle.configfs_tree.specs.Told.{Tells}
use Rattle.configfs_tree.proofs.Stands.{enable_stands, given_errno_ok}
use Rattle.configfs_tree.proofs.TellsTable.{u_set_enable}
use Rattle.configfs_tree.proofs.tree.Tree.disable.Goals as goal

pub invariant_of-self : goal.invariant_of-self
invariant_of-self c = enable_stands c.self.inside.configuration c.args.sub.now c.args.nsid
    (codes "0") c.set_enable.result c.set_enable.new.self c.set_enable.ensures c.self.invariant

pub returns-clause-gives : goal.returns-clause-gives
returns-clause-gives c = rw (← c.self.view_is) c.set_enable.ensures

pub returns-clause-tells : goal.returns-clause-tells
returns-clause-tells c =
    let t = c.self.inside.configuration in
    rw (← c.self.view_is) (given_errno_ok (λ u change. Tells t u change)
    (set_enable t c.args.sub.now c.args.nsid (codes "0")) t c.set_enable.result
    c.set_enable.new.self c.set_enable.ensures
    (u_set_enable t c.args.sub.now c.args.nsid (codes "0")))
