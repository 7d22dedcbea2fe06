use Rattle.run_inputs.specs.QueueFile.{counted}
use Rattle.run_inputs.specs.Ready.{capsules_of_file}
use Rattle.run_inputs.proofs.Parsing.{queue_reads, queue_stops, no_queue}
use Rattle.run_inputs.proofs.queue_files.read_queue_file.Goals as goal

pub returns-in-Ok-clause-read : goal.returns-in-Ok-clause-read
returns-in-Ok-clause-read g c =
    let name = rw c.unwrap-name.ensures at c.as_text.ensures.value in
    queue_reads (λ q. counted (capsules_of_file q.file) q.input q.output) _ _ _ c.in-Ok.bytes.items
    _ _ _ (rw name at c.in-Ok.ensures.told) c.in-Ok.ensures.short c.count_capsules.ensures.exact

pub returns-in-Ok-clause-refused : goal.returns-in-Ok-clause-refused
returns-in-Ok-clause-refused g c =
    let name = rw c.unwrap-name.ensures at c.as_text.ensures.value in
    queue_stops (λ q. counted (capsules_of_file q.file) q.input q.output) _ _ _ _
    c.in-Ok.bytes.items _ _ _ (rw name at c.in-Ok.ensures.told) c.in-Ok.ensures.short
    c.count_capsules.ensures.exact

pub returns-in-Err-clause-refused : goal.returns-in-Err-clause-refused
returns-in-Err-clause-refused g c =
    let name = rw c.unwrap-name.ensures at c.as_text.ensures.value in
    no_queue _ _ _ _ _ _ c.in-Err.fault (rw name at c.in-Err.ensures.refused)
