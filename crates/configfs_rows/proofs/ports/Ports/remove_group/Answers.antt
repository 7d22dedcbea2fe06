use Rattle.std.proofs.Common.{ap}
use Rattle.std.specs.Cmp.{nat_cmp_total}
use Rattle.configfs_rows.specs.Ports.{remove_group}
use Rattle.configfs_rows.proofs.SortedRows.{write_rises, write_seen, nothing_written}
use Rattle.configfs_rows.proofs.ports.Ports.remove_group.Goals as goal

pub invariant_of-self : goal.invariant_of-self
invariant_of-self c =
    let d = c.index_mut.result.now in
    write_rises nat_cmp_total c.self.inside.rows.items c.self.invariant c.args.id c.in-Ok.at d
    (record d.1 { groups = c.remove.new.self }) c.deref.ensures.value c.in-Ok.ensures c.index_mut.ensures.value

pub returns-in_default : goal.returns-in_default
returns-in_default c =
    rw (← c.self.view_is) (nothing_written nat_cmp_total c.self.inside.rows.items c.self.invariant
    c.args.id c.in_default.field-0 (remove_group c.args.group)
    c.deref.ensures.value c.in_default.ensures)

pub returns : goal.returns
returns c =
    let d = c.index_mut.result.now in
    rw (← c.self.view_is) (write_seen nat_cmp_total c.self.inside.rows.items c.self.invariant c.args.id
    c.in-Ok.at d (record d.1 { groups = c.remove.new.self }) (remove_group c.args.group)
    c.deref.ensures.value c.in-Ok.ensures c.index_mut.ensures.value (ap (λ x. record d.1 { groups = x }) c.remove.ensures))
