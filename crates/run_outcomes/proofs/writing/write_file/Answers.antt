use Rattle.std.proofs.Common.{refl}
use Rattle.run_outcomes.specs.Outsides.{told_by, files_view}
use Rattle.run_outcomes.proofs.Writes.{failed_call, stops_first}
use Rattle.run_outcomes.proofs.writing.write_file.Goals as goal

pub returns-in-Err-Failed-clause-writes : goal.returns-in-Err-Failed-clause-writes
returns-in-Err-Failed-clause-writes g c =
    let name = rw c.unwrap-name.ensures at c.as_text.ensures.value in
    let cause = rw c.in-Err-Failed.field-0-is at c.in-Err-Failed.ensures.cause in
    let gives = rw name at c.in-Err-Failed.ensures.content in
    stops_first _ _ _ _ gives.others (
      refl,
      failed_call _ _ _ _ (rw name at c.write.ensures.last) cause.failed,
    )

pub returns-in-Err-Memory-clause-writes : goal.returns-in-Err-Memory-clause-writes
returns-in-Err-Memory-clause-writes g c =
    let name = rw c.unwrap-name.ensures at c.as_text.ensures.value in
    let gives = rw (c.in-Err-Memory.field-0-is, name) at c.in-Err-Memory.ensures.content in
    stops_first _ _ _ _ gives.others gives.this
