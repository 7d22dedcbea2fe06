use Rattle.run_check.proofs.Files.{journal_reads, journal_stops, no_journal}
use Rattle.run_check.proofs.journal_file.read_named_journal.Goals as goal

pub returns-in-Ok-clause-read : goal.returns-in-Ok-clause-read
returns-in-Ok-clause-read g c =
    let name = rw c.unwrap-name.ensures at c.as_text.ensures.value in
    journal_reads (λ j. j) _ _ c.in-Ok.bytes.items _ (rw name at c.in-Ok.ensures.told)
    c.in-Ok.ensures.short (rw c.deref.ensures.value at c.parse_journal.ensures.exact)

pub returns-in-Ok-clause-refused : goal.returns-in-Ok-clause-refused
returns-in-Ok-clause-refused g c =
    let name = rw c.unwrap-name.ensures at c.as_text.ensures.value in
    journal_stops (λ j. j) _ _ _ c.in-Ok.bytes.items _ (rw name at c.in-Ok.ensures.told)
    c.in-Ok.ensures.short (rw c.deref.ensures.value at c.parse_journal.ensures.exact)

pub returns-in-Err-clause-refused : goal.returns-in-Err-clause-refused
returns-in-Err-clause-refused g c =
    let name = rw c.unwrap-name.ensures at c.as_text.ensures.value in
    no_journal _ _ _ c.in-Err.fault (rw name at c.in-Err.ensures.refused)
