use Rattle.std.proofs.Common.{Ok, Err, subst, ◌∙◌}
use Rattle.configfs_rows.specs.Maps.{IsPlaceOf}
use Rattle.configfs_rows.proofs.SortedRows.{write_puts, insert_puts}
use Rattle.configfs_rows.proofs.ordered_rows.put_row.Goals as goal

pub returns-in-Ok-clause-ok : goal.returns-in-Ok-clause-ok
returns-in-Ok-clause-ok g c = λ sorted.
    write_puts g.met.K.Ord.total c.args.rows.now.items sorted c.args.key c.in-Ok.at
    c.index_mut.result.now c.args.row (subst (λ l. IsPlaceOf g.K.Ord.cmp c.args.key l
    (Ok c.in-Ok.at)) c.deref.ensures.value c.in-Ok.ensures) c.index_mut.ensures.value

pub returns-in_ok-insert-in-Err-clause-ok : goal.returns-in_ok-insert-in-Err-clause-ok
returns-in_ok-insert-in-Err-clause-ok g c = λ sorted.
    c.in_ok-insert-in-Err.ensures.items
    ∙ insert_puts g.met.K.Ord.total c.args.rows.now.items sorted c.args.key c.in-Err.at c.args.row
    (subst (λ l. IsPlaceOf g.K.Ord.cmp c.args.key l (Err c.in-Err.at)) c.deref.ensures.value
    c.in-Err.ensures)
