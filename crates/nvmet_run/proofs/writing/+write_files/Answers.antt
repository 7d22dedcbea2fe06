use Rattle.run_outcomes.proofs.Writes.{writes_then, stops_more}
use Rattle.nvmet_run.proofs.writing.+write_files.Goals as goal

pub returns-in-Ok-clause-writes : goal.returns-in-Ok-clause-writes
returns-in-Ok-clause-writes g t c =
    let first = rw (c.responses_number.ensures, c.bytes-bytes.ensures.value) at
    c.in-Ok.ensures.writes in
    rw c.in-Some.ensures.some (writes_then _ _ _ _ _ _
    (rw c.in-Some.ensures.some at c.requires.apart) c.write_file.ensures.tells
    c.write_file.ensures.later first c.write_files.ensures.writes)

pub returns-in-Err-clause-writes : goal.returns-in-Err-clause-writes
returns-in-Err-clause-writes g t c =
    let first = rw (c.responses_number.ensures, c.bytes-bytes.ensures.value) at
    c.in-Err.ensures.writes in
    rw c.in-Some.ensures.some (stops_more _ _ _ _ _ first)
