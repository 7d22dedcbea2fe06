-- The files that a finished run leaves, and what their bytes give.
use Rattle.std.specs.Prelude.{ℕ, ◌+◌, List, [], ◌∷◌, ◌++◌, Option, Some, None, Result, Ok, Err}
use Rattle.plan_files.specs.declared.items.Plan.{Plan}
use Rattle.plan_files.specs.declared.items.QueueLine.{QueueLine}
use Rattle.plan_files.specs.Binding.{◌>>=◌}
use Rattle.plan_files.specs.Capsules.{Capsule}
use Rattle.response_files.specs.Responses.{Response}
use Rattle.response_files.specs.ResponseReading.{responses_of}
use Rattle.response_files.specs.declared.responses.RecordError.{RecordError}
use Rattle.response_files.specs.declared.responses.RecordError.TheVariants as records
use Rattle.response_files.specs.JournalReading.{journal_in}
use Rattle.response_files.specs.declared.journal.Journal.{Journal}
use Rattle.response_files.specs.declared.journal.JournalError.{JournalError}
use Rattle.response_files.specs.declared.journal.JournalError.TheVariants as journals
use Rattle.run_outcomes.specs.declared.numbers.FileNo.{FileNo}
use Rattle.run_outcomes.specs.declared.numbers.TheConstants.{JOURNAL}
use Rattle.run_outcomes.specs.declared.faults.At.TheVariants as at
use Rattle.run_outcomes.specs.declared.faults.Fault.{Fault}
use Rattle.run_outcomes.specs.declared.faults.Fault.TheVariants as fault
use Rattle.run_outcomes.specs.Numbers.{responses_no}
use Rattle.run_inputs.specs.Contents.{content_of}
use Rattle.run_inputs.specs.QueueFile.{room_of_all}
use Rattle.run_check.specs.declared.contents.TheConstants.{MAX_JOURNAL_BYTES}
use Rattle.run_check.specs.Finished.{Finished}

-- ---- files
-- what is read of a file: records of at most so many bytes, or the journal
pub data Kind : Type 0 where
  TheResponses : ℕ → Kind
  TheJournal : Kind

pub record RecordFile : Type 0 where
  pub number : FileNo
  pub name : List ℕ
  pub kind : Kind

-- a queue's records have at most the bytes that the responses to its capsules can need
abbrev pub response_file : ℕ → QueueLine → List Capsule → RecordFile
response_file q line capsules = record {
  number = responses_no q;
  name = line.responses;
  kind = TheResponses (room_of_all capsules);
}

-- of the queues q, q + 1, ..
abbrev pub response_files : ℕ → List QueueLine → List (List Capsule) → List RecordFile
response_files q [] files = []
response_files q (line ∷ lines) [] = []
response_files q (line ∷ lines) (file ∷ files) = response_file q line file
    ∷ response_files (q + 1) lines files

abbrev pub journal_files : Option (List ℕ) → List RecordFile
journal_files None = []
journal_files (Some name) =
    (record { number = JOURNAL; name = name; kind = TheJournal }) ∷ []

-- the files of a finished run, in the order of reading: the records of each queue, then the journal
abbrev pub record_files : Plan → List (List Capsule) → List RecordFile
record_files plan files = response_files 1 plan.queues files ++ journal_files plan.journal

-- ---- what bytes give
abbrev pub record_error : FileNo → RecordError → Fault
record_error file (records.Malformed offset) = fault.Malformed file (at.Offset offset)
record_error file records.Memory = fault.Memory

abbrev pub or_record_fault : FileNo → Result (List Response) RecordError
    → Result (List Response) Fault
or_record_fault file (Ok rs) = Ok rs
or_record_fault file (Err e) = Err (record_error file e)

-- the records in a file of at most so many bytes, or the offset of the first malformed one
unfoldable pub responses_in_file : FileNo → ℕ → List ℕ → Result (List Response) Fault
responses_in_file file room bytes =
    content_of room file bytes >>= λ b. or_record_fault file (responses_of b)

abbrev pub journal_error : JournalError → Fault
journal_error (journals.BadLine line) = fault.Malformed JOURNAL (at.Line line)
journal_error journals.Memory = fault.Memory

abbrev pub or_journal_fault : Result Journal JournalError → Result Journal Fault
or_journal_fault (Ok j) = Ok j
or_journal_fault (Err e) = Err (journal_error e)

-- the journal in a file of at most 4 MiB, or the number of its first bad line
unfoldable pub journal_in_file : List ℕ → Result Journal Fault
journal_in_file bytes =
    content_of MAX_JOURNAL_BYTES JOURNAL bytes >>= λ b. or_journal_fault (journal_in b)

-- ---- what is known then
abbrev pub with_responses : Finished → Result (List Response) Fault → Result Finished Fault
with_responses s (Ok rs) = Ok (record s { responses = s.responses ++ rs ∷ [] })
with_responses s (Err f) = Err f

abbrev pub with_journal : Finished → Result Journal Fault → Result Finished Fault
with_journal s (Ok j) = Ok (record s { journal = Some j })
with_journal s (Err f) = Err f

abbrev pub kind_gives : Kind → FileNo → Finished → List ℕ → Result Finished Fault
kind_gives (TheResponses room) file s bytes = with_responses s (responses_in_file file room bytes)
kind_gives TheJournal file s bytes = with_journal s (journal_in_file bytes)

-- what the bytes of a file give, where so much was known before
abbrev pub gives : RecordFile → Finished → List ℕ → Result Finished Fault
gives file s bytes = kind_gives file.kind file.number s bytes
