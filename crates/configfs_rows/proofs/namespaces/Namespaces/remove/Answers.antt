use Rattle.std.proofs.Common.{Ok, Err, subst, ◌∙◌}
use Rattle.std.specs.Ordering.{nat_cmp}
use Rattle.std.specs.Cmp.{nat_cmp_total}
use Rattle.std.specs.FinMap.{nat_cmp-IsAntisymmetric}
use Rattle.configfs_rows.specs.Maps.{IsPlaceOf}
use Rattle.configfs_rows.proofs.SortedRows.{taken_rises, taken_seen, remove_takes, nothing_taken}
use Rattle.configfs_rows.proofs.namespaces.Namespaces.remove.Goals as goal

pub invariant_of-self : goal.invariant_of-self
invariant_of-self c =
    let place = subst (λ l. IsPlaceOf nat_cmp c.args.nsid l (Ok c.in-Ok.at)) c.deref.ensures.value
    c.in-Ok.ensures in
    taken_rises nat_cmp_total c.self.inside.rows.items c.self.invariant
    c.args.nsid _ (c.take_at.ensures ∙ remove_takes nat_cmp_total
    c.self.inside.rows.items c.self.invariant c.args.nsid c.in-Ok.at place)

pub returns-in-Ok : goal.returns-in-Ok
returns-in-Ok c =
    let place = subst (λ l. IsPlaceOf nat_cmp c.args.nsid l (Ok c.in-Ok.at)) c.deref.ensures.value
    c.in-Ok.ensures in
    rw (← c.self.view_is) (taken_seen nat_cmp_total c.self.inside.rows.items c.self.invariant
    nat_cmp-IsAntisymmetric c.args.nsid _ (c.take_at.ensures
    ∙ remove_takes nat_cmp_total c.self.inside.rows.items
    c.self.invariant c.args.nsid c.in-Ok.at place))

pub returns-in_default : goal.returns-in_default
returns-in_default c =
    let place = subst (λ l. IsPlaceOf nat_cmp c.args.nsid l (Err c.in_default.field-0))
    c.deref.ensures.value c.in_default.ensures in
    rw (← c.self.view_is) (taken_seen nat_cmp_total c.self.inside.rows.items c.self.invariant
    nat_cmp-IsAntisymmetric c.args.nsid _ (nothing_taken nat_cmp_total c.self.inside.rows.items c.self.invariant c.args.nsid
    c.in_default.field-0 place))
