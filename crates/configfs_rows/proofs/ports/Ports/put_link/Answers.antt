use Rattle.std.proofs.Common.{ap}
use Rattle.std.specs.Cmp.{nat_cmp_total}
use Rattle.configfs_rows.specs.Ports.{put_link}
use Rattle.configfs_rows.proofs.SortedRows.{write_rises, write_seen, nothing_written}
use Rattle.configfs_rows.proofs.ports.Ports.put_link.Goals as goal

pub invariant_of-self : goal.invariant_of-self
invariant_of-self c =
    let d = c.index_mut.result.now in
    write_rises nat_cmp_total c.self.inside.rows.items c.self.invariant c.args.id c.in-Ok.at d
    (record d.1 { links = c.keep_or_take.new.self }) c.deref.ensures.value c.in-Ok.ensures c.index_mut.ensures.value

pub invariant_of-self-2 : goal.invariant_of-self-2
invariant_of-self-2 c =
    let d = c.index_mut.result.now in
    write_rises nat_cmp_total c.self.inside.rows.items c.self.invariant c.args.id c.in-Ok.at d
    (record d.1 { links = c.keep_or_take.new.self }) c.deref.ensures.value c.in-Ok.ensures c.index_mut.ensures.value

pub returns-in_default-clause-ok : goal.returns-in_default-clause-ok
returns-in_default-clause-ok c =
    rw (← c.self.view_is) (nothing_written nat_cmp_total c.self.inside.rows.items c.self.invariant
    c.args.id c.in_default.field-0 (put_link c.args.nqn.now c.args.linked)
    c.deref.ensures.value c.in_default.ensures)

pub returns-clause-ok : goal.returns-clause-ok
returns-clause-ok c =
    let d = c.index_mut.result.now in
    rw (← c.self.view_is) (write_seen nat_cmp_total c.self.inside.rows.items c.self.invariant c.args.id
    c.in-Ok.at d (record d.1 { links = c.keep_or_take.new.self }) (put_link c.args.nqn.now c.args.linked)
    c.deref.ensures.value c.in-Ok.ensures c.index_mut.ensures.value (ap (λ x. record d.1 { links = x }) c.in_ok-keep_or_take.ensures.ok))
