use Rattle.std.proofs.Common.{Ok, Err, ap, subst, ◌∙◌}
use Rattle.std.specs.Ordering.{nat_cmp}
use Rattle.std.specs.FinMap as map
use Rattle.std.specs.Cmp.{nat_cmp_total}
use Rattle.configfs_rows.specs.Maps.{IsPlaceOf}
use Rattle.configfs_rows.proofs.SortedRows.{put_rises, put_seen, write_puts, write_rises, insert_puts}
use Rattle.configfs_rows.proofs.namespaces.Namespaces.add.Goals as goal

pub invariant_of-self : goal.invariant_of-self
invariant_of-self c =
    write_rises nat_cmp_total c.self.inside.rows.items c.self.invariant c.args.nsid c.in-Ok.at
    c.index_mut.result.now c.renew.new.self c.deref.ensures.value c.in-Ok.ensures
    c.index_mut.ensures.value

pub returns-in-Ok-clause-ok : goal.returns-in-Ok-clause-ok
returns-in-Ok-clause-ok c =
    let place = subst (λ l. IsPlaceOf nat_cmp c.args.nsid l (Ok c.in-Ok.at)) c.deref.ensures.value
    c.in-Ok.ensures in
    let es = c.self.inside.rows.items in
    rw (← c.self.view_is) (put_seen nat_cmp_total es c.self.invariant
    c.args.nsid c.renew.new.self _ (write_puts nat_cmp_total es
    c.self.invariant c.args.nsid c.in-Ok.at c.index_mut.result.now c.renew.new.self place
    c.index_mut.ensures.value)
    ∙ ap (map.insert (map.from_sorted {R = nat_cmp} es) c.args.nsid) c.renew.ensures)

pub invariant_of-self-in-Continue-1 : goal.invariant_of-self-in-Continue-1
invariant_of-self-in-Continue-1 c =
    let place = subst (λ l. IsPlaceOf nat_cmp c.args.nsid l (Err c.in-Err.at))
    c.deref.ensures.value c.in-Err.ensures in
    put_rises nat_cmp_total c.self.inside.rows.items c.self.invariant
    c.args.nsid c.fresh.result c.insert.new.self.items (c.in_ok-insert-in-Err.ensures.items
    ∙ insert_puts nat_cmp_total c.self.inside.rows.items c.self.invariant
    c.args.nsid c.in-Err.at c.fresh.result place)

pub returns-in_ok-insert-in-Err-clause-ok : goal.returns-in_ok-insert-in-Err-clause-ok
returns-in_ok-insert-in-Err-clause-ok c =
    let place = subst (λ l. IsPlaceOf nat_cmp c.args.nsid l (Err c.in-Err.at))
    c.deref.ensures.value c.in-Err.ensures in
    let es = c.self.inside.rows.items in
    rw (← c.self.view_is) (put_seen nat_cmp_total es c.self.invariant
    c.args.nsid c.fresh.result c.insert.new.self.items (c.in_ok-insert-in-Err.ensures.items
    ∙ insert_puts nat_cmp_total es c.self.invariant c.args.nsid
    c.in-Err.at c.fresh.result place)
    ∙ ap (map.insert (map.from_sorted {R = nat_cmp} es) c.args.nsid) c.fresh.ensures)
