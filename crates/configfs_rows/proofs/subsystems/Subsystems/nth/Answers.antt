use Rattle.configfs_rows.proofs.SortedRows.{nth_there, nth_past}
use Rattle.configfs_rows.proofs.subsystems.Subsystems.nth.Goals as goal

pub returns-in-Some : goal.returns-in-Some
returns-in-Some c =
    let read = c.in-Some.ensures.lookup in
    rw (← c.entries.ensures) (nth_there (λ e. e.1) c.entries.result.now c.args.n
    c.in-Some.field-0.now read.0 read.1)

pub returns-in-None : goal.returns-in-None
returns-in-None c = rw (← c.entries.ensures) (nth_past (λ e. e.1) c.entries.result.now c.args.n
    c.in-None.ensures.lookup.0)
