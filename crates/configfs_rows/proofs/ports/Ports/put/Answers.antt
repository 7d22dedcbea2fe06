use Rattle.std.specs.Cmp.{nat_cmp_total}
use Rattle.configfs_rows.specs.Ports.{with_address}
use Rattle.configfs_rows.proofs.SortedRows.{write_rises, write_seen, nothing_written}
use Rattle.configfs_rows.proofs.ports.Ports.put.Goals as goal

pub invariant_of-self : goal.invariant_of-self
invariant_of-self c =
    write_rises nat_cmp_total c.self.inside.rows.items c.self.invariant c.args.id c.in-Ok.at c.index_mut.result.now
    c.put.new.self c.deref.ensures.value c.in-Ok.ensures c.index_mut.ensures.value

pub returns-in_default : goal.returns-in_default
returns-in_default c =
    rw (← c.self.view_is) (nothing_written nat_cmp_total c.self.inside.rows.items c.self.invariant
    c.args.id c.in_default.field-0 (with_address c.args.address c.args.value)
    c.deref.ensures.value c.in_default.ensures)

pub returns : goal.returns
returns c =
    rw (← c.self.view_is) (write_seen nat_cmp_total c.self.inside.rows.items c.self.invariant c.args.id
    c.in-Ok.at c.index_mut.result.now c.put.new.self (with_address c.args.address c.args.value)
    c.deref.ensures.value c.in-Ok.ensures c.index_mut.ensures.value c.put.ensures)
