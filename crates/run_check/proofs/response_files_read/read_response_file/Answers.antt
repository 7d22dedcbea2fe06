use Rattle.check_records.specs.Seats.{responses_of}
use Rattle.run_check.proofs.Files.{responses_read, responses_stop, no_responses}
use Rattle.run_check.proofs.response_files_read.read_response_file.Goals as goal

pub returns-in-Ok-clause-read : goal.returns-in-Ok-clause-read
returns-in-Ok-clause-read g c =
    let name = rw c.unwrap-name.ensures at c.as_text.ensures.value in
    responses_read (λ r. responses_of r) _ _ _ c.in-Ok.bytes.items _ _
    (rw name at c.in-Ok.ensures.told) c.in-Ok.ensures.short c.parse_responses.ensures.exact

pub returns-in-Ok-clause-refused : goal.returns-in-Ok-clause-refused
returns-in-Ok-clause-refused g c =
    let name = rw c.unwrap-name.ensures at c.as_text.ensures.value in
    responses_stop (λ r. responses_of r) _ _ _ _ c.in-Ok.bytes.items _ _
    (rw name at c.in-Ok.ensures.told) c.in-Ok.ensures.short c.parse_responses.ensures.exact

pub returns-in-Err-clause-refused : goal.returns-in-Err-clause-refused
returns-in-Err-clause-refused g c =
    let name = rw c.unwrap-name.ensures at c.as_text.ensures.value in
    no_responses _ _ _ _ _ c.in-Err.fault (rw name at c.in-Err.ensures.refused)
