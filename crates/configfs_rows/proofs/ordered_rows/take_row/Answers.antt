use Rattle.std.proofs.Common.{Ok, Err, subst, ◌∙◌}
use Rattle.configfs_rows.specs.Maps.{IsPlaceOf}
use Rattle.configfs_rows.proofs.SortedRows.{remove_takes, nothing_taken}
use Rattle.configfs_rows.proofs.ordered_rows.take_row.Goals as goal

pub returns-in-Ok : goal.returns-in-Ok
returns-in-Ok g c = λ sorted.
    c.take_at.ensures ∙ remove_takes g.met.K.Ord.total c.args.rows.now.items sorted
    c.args.key.now c.in-Ok.at (subst (λ l. IsPlaceOf g.K.Ord.cmp c.args.key.now l
    (Ok c.in-Ok.at)) c.deref.ensures.value c.in-Ok.ensures)

pub returns-in_default : goal.returns-in_default
returns-in_default g c = λ sorted.
    nothing_taken g.met.K.Ord.total c.args.rows.now.items sorted c.args.key.now
    c.in_default.field-0 (subst (λ l. IsPlaceOf g.K.Ord.cmp c.args.key.now l
    (Err c.in_default.field-0)) c.deref.ensures.value c.in_default.ensures)
