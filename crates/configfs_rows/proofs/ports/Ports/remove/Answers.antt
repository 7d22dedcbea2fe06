use Rattle.std.specs.Cmp.{nat_cmp_total}
use Rattle.std.specs.FinMap.{nat_cmp-IsAntisymmetric}
use Rattle.configfs_rows.proofs.SortedRows.{taken_rises, taken_seen}
use Rattle.configfs_rows.proofs.ports.Ports.remove.Goals as goal

pub invariant_of-self : goal.invariant_of-self
invariant_of-self c = taken_rises nat_cmp_total c.self.inside.rows.items c.self.invariant c.args.id _
    (c.take_row.ensures c.self.invariant)

pub returns : goal.returns
returns c = rw (← c.self.view_is) (taken_seen nat_cmp_total c.self.inside.rows.items c.self.invariant
    nat_cmp-IsAntisymmetric c.args.id _ (c.take_row.ensures c.self.invariant))
