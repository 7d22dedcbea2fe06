use Rattle.std.proofs.Common.{◌≡◌, ℕ, false, Some, Ok, refl, ap, sym, subst, ◌∙◌}
use Rattle.std.proofs.lemmas.Bool.{both_ways}
use Rattle.std.specs.FinMap as map
use Rattle.configfs_rows.specs.declared.ports.PortRow.{PortRow}
use Rattle.std.specs.Cmp.{nat_cmp_total}
use Rattle.std.specs.Ordering.{nat_cmp}
use Rattle.configfs_rows.specs.Maps.{IsPlaceOf}
use Rattle.configfs_rows.specs.Ports.{put_group, has_group}
use Rattle.configfs_rows.proofs.SortedRows.{get_seen, row_there, write_rises, write_seen, nothing_written}
use Rattle.configfs_rows.proofs.ports.Ports.put_group.Goals as goal

pub invariant_of-self : goal.invariant_of-self
invariant_of-self c =
    let d = c.index_mut.result.now in
    write_rises nat_cmp_total c.self.inside.rows.items c.self.invariant c.args.id c.in-Ok.at d
    (record d.1 { groups = c.put.new.self }) c.deref.ensures.value c.in-Ok.ensures c.index_mut.ensures.value

pub invariant_of-self-2 : goal.invariant_of-self-2
invariant_of-self-2 c =
    let d = c.index_mut.result.now in
    write_rises nat_cmp_total c.self.inside.rows.items c.self.invariant c.args.id c.in-Ok.at d
    (record d.1 { groups = c.put.new.self }) c.deref.ensures.value c.in-Ok.ensures c.index_mut.ensures.value

pub returns-in_default-clause-ok : goal.returns-in_default-clause-ok
returns-in_default-clause-ok c =
    rw (← c.self.view_is) (nothing_written nat_cmp_total c.self.inside.rows.items c.self.invariant
    c.args.id c.in_default.field-0 (put_group c.args.group c.args.state)
    c.deref.ensures.value c.in_default.ensures)

pub returns-clause-ok : goal.returns-clause-ok
returns-clause-ok c =
    let d = c.index_mut.result.now in
    rw (← c.self.view_is) (write_seen nat_cmp_total c.self.inside.rows.items c.self.invariant c.args.id
    c.in-Ok.at d (record d.1 { groups = c.put.new.self }) (put_group c.args.group c.args.state)
    c.deref.ensures.value c.in-Ok.ensures c.index_mut.ensures.value (ap (λ x. record d.1 { groups = x }) c.in_ok-put.ensures.ok))

-- a group that is made takes no memory
pub returns-in_err-put-clause-made : goal.returns-in_err-put-clause-made
returns-in_err-put-clause-made c = λ made.
    let place = subst (λ l. IsPlaceOf nat_cmp c.args.id l (Ok c.in-Ok.at)) c.deref.ensures.value
    c.in-Ok.ensures in
    let es = c.self.inside.rows.items in
    let found : map.get c.args.self.now c.args.id ≡ Some c.index_mut.result.now.1 =
    rw (← c.self.view_is) (get_seen nat_cmp_total es c.self.invariant c.args.id
    ∙ row_there nat_cmp_total es c.self.invariant c.args.id c.in-Ok.at c.index_mut.result.now place
    ∙ ap (λ (e : ℕ × PortRow). Some e.1) (sym c.index_mut.ensures.value)) in
    absurd (both_ways false refl (c.in_err-put.ensures.made (ap (λ o. has_group o c.args.group)
    (sym found) ∙ made)))
