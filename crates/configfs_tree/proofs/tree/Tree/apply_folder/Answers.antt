use Rattle.configfs_tree.specs.Asked.{may_grow}
use Rattle.configfs_tree.specs.Stays.{Stays}
use Rattle.configfs_tree.specs.Table.{edit_outcome}
use Rattle.configfs_tree.specs.Told.{Tells}
use Rattle.configfs_tree.proofs.Stands.{edit_stands, given_ok}
use Rattle.configfs_tree.proofs.StaysTable.{edit_stays}
use Rattle.configfs_tree.proofs.TellsTable.{edit_tells}
use Rattle.configfs_tree.proofs.tree.Tree.apply_folder.Goals as goal

pub invariant_of-self : goal.invariant_of-self
invariant_of-self c = edit_stands c.self.inside.configuration c.args.e.now c.edit_folder.result
    c.edit_folder.new.self c.edit_folder.ensures c.requires c.certify_names.ensures c.self.invariant

pub returns-clause-gives : goal.returns-clause-gives
returns-clause-gives c = rw (← c.self.view_is) c.edit_folder.ensures

pub returns-clause-stays : goal.returns-clause-stays
returns-clause-stays c =
    let t = c.self.inside.configuration in
    rw (← c.self.view_is) (given_ok (λ u change. Stays t u) (may_grow c.args.e.now)
    (edit_outcome t c.args.e.now) t c.edit_folder.result c.edit_folder.new.self
    c.edit_folder.ensures (edit_stays t c.args.e.now))

pub returns-clause-tells : goal.returns-clause-tells
returns-clause-tells c =
    let t = c.self.inside.configuration in
    rw (← c.self.view_is) (given_ok (λ u change. Tells t u change) (may_grow c.args.e.now)
    (edit_outcome t c.args.e.now) t c.edit_folder.result c.edit_folder.new.self
    c.edit_folder.ensures (edit_tells t c.args.e.now c.self.invariant.placed))
