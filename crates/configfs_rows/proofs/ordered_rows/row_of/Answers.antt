use Rattle.std.proofs.Common.{sym}
use Rattle.configfs_rows.proofs.SortedRows.{row_there, row_missed}
use Rattle.configfs_rows.proofs.ordered_rows.row_of.Goals as goal

pub returns-in-Ok : goal.returns-in-Ok
returns-in-Ok g c = λ sorted. sym (row_there g.met.K.Ord.total c.args.rows.now sorted
    c.args.key.now c.in-Ok.at c.index-rows-at.result c.in-Ok.ensures)

pub returns-in-Err : goal.returns-in-Err
returns-in-Err g c = λ sorted. sym (row_missed g.met.K.Ord.total c.args.rows.now sorted
    c.args.key.now c.in-Err.field-0 c.in-Err.ensures)
