use Rattle.std.proofs.Common.{Result, subst}
use Rattle.response_files.specs.JournalReading.{Gives}
use Rattle.response_files.specs.declared.journal.Journal.{Journal}
use Rattle.response_files.specs.declared.journal.JournalError.{JournalError}
use Rattle.response_files.proofs.Telling.{is_spelled, is_first, are_read, is_refused}
use Rattle.response_files.proofs.journal.read_journal.Goals as goal

pub returns-clause-spelled : goal.returns-clause-spelled
returns-clause-spelled c = is_spelled c.args.bytes.now c.whole_journal.result
    c.whole_journal.ensures

pub returns-clause-only : goal.returns-clause-only
returns-clause-only c = λ j is.
    subst (λ (read : Result Journal JournalError). Gives c.whole_journal.result read)
    (are_read c.args.bytes.now j is) c.whole_journal.ensures

pub returns-clause-fault : goal.returns-clause-fault
returns-clause-fault c = is_first c.args.bytes.now c.whole_journal.result c.whole_journal.ensures

pub returns-clause-faults : goal.returns-clause-faults
returns-clause-faults c = λ line b.
    subst (λ (read : Result Journal JournalError). Gives c.whole_journal.result read)
    (is_refused c.args.bytes.now line b) c.whole_journal.ensures
