use Rattle.std.proofs.Common.{Ok, Err, Some, ap, sym, subst, ◌∙◌}
use Rattle.std.specs.Ordering.{nat_cmp}
use Rattle.std.specs.Cmp.{nat_cmp_total}
use Rattle.configfs_rows.specs.Maps.{IsPlaceOf}
use Rattle.configfs_rows.proofs.SortedRows.{get_seen, row_there, row_missed}
use Rattle.configfs_rows.proofs.namespaces.Namespaces.get.Goals as goal

pub returns-in-Ok : goal.returns-in-Ok
returns-in-Ok c =
    let es = c.self.inside.rows.items in
    let place = subst (λ l. IsPlaceOf nat_cmp c.args.nsid l (Ok c.in-Ok.at)) c.deref.ensures.value
    c.in-Ok.ensures in
    rw (← c.self.view_is) (ap (λ e. Some e.1) c.index.ensures
    ∙ sym (get_seen nat_cmp_total es c.self.invariant c.args.nsid
    ∙ row_there nat_cmp_total es c.self.invariant c.args.nsid c.in-Ok.at c.index.result.now place))

pub returns-in-Err : goal.returns-in-Err
returns-in-Err c =
    let es = c.self.inside.rows.items in
    let place = subst (λ l. IsPlaceOf nat_cmp c.args.nsid l (Err c.in-Err.field-0))
    c.deref.ensures.value c.in-Err.ensures in
    rw (← c.self.view_is) (sym (get_seen nat_cmp_total es c.self.invariant c.args.nsid
    ∙ row_missed nat_cmp_total es c.self.invariant c.args.nsid c.in-Err.field-0 place))
