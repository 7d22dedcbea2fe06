use Rattle.run_check.specs.Finished.{unread}
use Rattle.run_check.specs.RecordFiles.{journal_files, response_files}
use Rattle.check_records.specs.Seats.{all_responses, files_of}
use Rattle.run_check.proofs.Walking.{read_both, stop_first, stop_second}
use Rattle.run_check.proofs.records.read_records.Goals as goal

pub read_response_files-requires-clause-names : goal.read_response_files-requires-clause-names
read_response_files-requires-clause-names g c = rw c.as_slice.ensures c.requires.planned.names.queues

pub returns-in-Err-clause-refused : goal.returns-in-Err-clause-refused
returns-in-Err-clause-refused g c = λ s. stop_first _ _
    (response_files 1 c.args.plan.now.queues (files_of c.args.capsules.now))
    (journal_files c.args.plan.now.journal) (unread s) c.in-Err.fault
    (rw c.as_slice.ensures at (c.in-Err.ensures.refused (unread s)))

pub returns-in-Ok-read_journal_file-clause-read : goal.returns-in-Ok-read_journal_file-clause-read
returns-in-Ok-read_journal_file-clause-read g c = λ s.
    let first = rw c.as_slice.ensures at (c.in-Ok.ensures.read (unread s)) in
    read_both _ _ (response_files 1 c.args.plan.now.queues (files_of c.args.capsules.now))
    (journal_files c.args.plan.now.journal) (unread s)
    (record (unread s) { responses = all_responses c.in-Ok.responses.items }) _
    c.in-Ok.ensures.later first (c.in-Ok-read_journal_file.ensures.read
    (record (unread s) { responses = all_responses c.in-Ok.responses.items }))

pub returns-in-Err-read_journal_file-clause-refused :
    goal.returns-in-Err-read_journal_file-clause-refused
returns-in-Err-read_journal_file-clause-refused g c = λ s.
    let first = rw c.as_slice.ensures at (c.in-Ok.ensures.read (unread s)) in
    stop_second _ _ _ (response_files 1 c.args.plan.now.queues (files_of c.args.capsules.now))
    (journal_files c.args.plan.now.journal) (unread s)
    (record (unread s) { responses = all_responses c.in-Ok.responses.items })
    c.in-Err-read_journal_file.fault c.in-Ok.ensures.later first
    (c.in-Err-read_journal_file.ensures.refused
    (record (unread s) { responses = all_responses c.in-Ok.responses.items }))
