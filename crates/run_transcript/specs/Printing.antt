-- What is printed of a run: the response files, the journal and the summary.
use Rattle.std.specs.Prelude.{ℕ, ◌+◌, ◌-◌, List, [], ◌∷◌, ◌++◌, length, codes}
use Rattle.std.specs.List.{flat_map}
use Rattle.std.specs.Fmt.{decimal}
use Rattle.sqe_cqe.specs.declared.cqe.Cqe.{Cqe}
use Rattle.run_records.specs.declared.records.Answer.{Answer}
use Rattle.run_records.specs.declared.records.Answer.TheVariants as answers
use Rattle.run_records.specs.declared.records.Head.{Head}
use Rattle.run_records.specs.declared.records.Kind.{Kind}
use Rattle.run_records.specs.declared.records.Kind.TheVariants as kinds
use Rattle.run_records.specs.Records.{record_bytes}
use Rattle.journal_text.specs.declared.lines.Answer.TheVariants as edits
use Rattle.journal_text.specs.declared.lines.JournalLine.{JournalLine}
use Rattle.journal_text.specs.declared.lines.JournalLine.TheVariants as lines
use Rattle.journal_text.specs.Text.{journal_text}
use Rattle.tree_target.specs.declared.calls.Reply.{Reply}
use Rattle.tree_target.specs.declared.calls.Reply.TheVariants as replies
use Rattle.tree_target.specs.Model.{Call, Submit, Execute, Poll, Control, AnEdit, DrainEnd}
use Rattle.run_transcript.specs.Runs.{Placed, Run}
use Rattle.run_transcript.specs.Sums.{accepted_in, refused_edits_in, drains_in, submits_in, executes_in, refusals_in, events_in, waiting_in, bytes_taken, bytes_given}

-- ---- records
-- the kind of a queue's call; the editor's have no record
abbrev pub kind_of : Call → Kind
kind_of (Submit queue number e) = kinds.Submit
kind_of (Execute queue number payload) = kinds.Execute
kind_of (Poll queue) = kinds.Poll
kind_of (Control queue number e payload) = kinds.Control
kind_of (AnEdit line e) = kinds.Control
kind_of (DrainEnd line sub nsid) = kinds.Control

-- the capsule's number in its file, from 0; of a poll, how many capsules the queue has taken
abbrev pub number_of : ℕ → Call → ℕ
number_of taken (Submit queue number e) = number
number_of taken (Execute queue number payload) = number
number_of taken (Poll queue) = taken
number_of taken (Control queue number e payload) = number
number_of taken (AnEdit line e) = line
number_of taken (DrainEnd line sub nsid) = line

-- how many capsules the queue has taken after a call
abbrev pub taken_after : ℕ → Call → ℕ
taken_after taken (Submit queue number e) = taken + 1
taken_after taken (Execute queue number payload) = taken
taken_after taken (Poll queue) = taken
taken_after taken (Control queue number e payload) = taken + 1
taken_after taken (AnEdit line e) = taken
taken_after taken (DrainEnd line sub nsid) = taken

abbrev pub answer_of : Reply → Answer
answer_of replies.Held = answers.Held
answer_of (replies.Answered cqe) = answers.Answered
answer_of replies.Waiting = answers.Waiting
answer_of replies.NoEvent = answers.NoEvent
answer_of replies.Accepted = answers.NoEvent
answer_of (replies.Errno errno) = answers.NoEvent
answer_of replies.Ended = answers.NoEvent

abbrev pub no_completion : Cqe
no_completion = record { result = 0; sq_head = 0; sq_id = 0; cid = 0; status = 0 }

abbrev pub completion_of : Reply → Cqe
completion_of (replies.Answered cqe) = cqe
completion_of replies.Held = no_completion
completion_of replies.Waiting = no_completion
completion_of replies.NoEvent = no_completion
completion_of replies.Accepted = no_completion
completion_of (replies.Errno errno) = no_completion
completion_of replies.Ended = no_completion

-- the head of a call's record
abbrev pub head_of : ℕ → Kind → ℕ → Reply → ℕ → Head
head_of place kind number reply len = record {
  place = place;
  kind = kind;
  answer = answer_of reply;
  number = number;
  len = len;
  cqe = completion_of reply;
}

-- the record of a placed entry, of a queue that has taken so many capsules before it
unfoldable pub entry_bytes : ℕ → Placed → List ℕ
entry_bytes taken p =
    record_bytes (head_of p.place (kind_of p.entry.call) (number_of taken p.entry.call)
    p.entry.reply (length p.entry.bytes)) p.entry.bytes

abbrev pub responses_from : ℕ → List Placed → List ℕ
responses_from taken [] = []
responses_from taken (p ∷ list) = entry_bytes taken p
    ++ responses_from (taken_after taken p.entry.call) list

-- a response file: the record of each entry of its queue, in order
abbrev pub responses : List Placed → List ℕ
responses list = responses_from 0 list

-- ---- the journal
abbrev pub edit_line : ℕ → ℕ → Reply → List JournalLine
edit_line place line replies.Accepted = lines.Edit place line edits.Accepted ∷ []
edit_line place line (replies.Errno errno) = lines.Edit place line (edits.Refused errno) ∷ []
edit_line place line replies.Held = []
edit_line place line (replies.Answered cqe) = []
edit_line place line replies.Waiting = []
edit_line place line replies.NoEvent = []
edit_line place line replies.Ended = []

-- the line of a call of the editor
abbrev pub line_of_call : ℕ → Call → Reply → List JournalLine
line_of_call place (AnEdit line e) reply = edit_line place line reply
line_of_call place (DrainEnd line sub nsid) reply = lines.Done place line ∷ []
line_of_call place (Submit queue number e) reply = []
line_of_call place (Execute queue number payload) reply = []
line_of_call place (Poll queue) reply = []
line_of_call place (Control queue number e payload) reply = []

abbrev pub journal_line : Placed → List JournalLine
journal_line p = line_of_call p.place p.entry.call p.entry.reply

abbrev pub journal_lines : List Placed → List JournalLine
journal_lines list = flat_map journal_line list

-- the journal of a run: how many places it has, and a line a call of the editor
abbrev pub journal : Run → List ℕ
journal run = journal_text (length run.history) (journal_lines run.editor)

-- ---- the summary
unfoldable pub places_line : ℕ → List ℕ
places_line n = codes "places " ++ decimal n ++ codes "\n"

unfoldable pub edits_line : ℕ → ℕ → List ℕ
edits_line accepted refused = codes "edits " ++ decimal accepted ++ codes " accepted "
    ++ decimal refused ++ codes " refused\n"

unfoldable pub drains_line : ℕ → List ℕ
drains_line n = codes "drains " ++ decimal n ++ codes "\n"

unfoldable pub commands_line : ℕ → ℕ → ℕ → List ℕ
commands_line submitted executed refused = codes "commands " ++ decimal submitted
    ++ codes " submitted " ++ decimal executed ++ codes " executed " ++ decimal refused
    ++ codes " refused\n"

unfoldable pub events_line : ℕ → ℕ → List ℕ
events_line answered waiting = codes "events " ++ decimal answered ++ codes " answered "
    ++ decimal waiting ++ codes " waiting\n"

unfoldable pub bytes_line : ℕ → ℕ → List ℕ
bytes_line taken given = codes "bytes " ++ decimal taken ++ codes " in " ++ decimal given
    ++ codes " out\n"

unfoldable pub config_line : ℕ → List ℕ
config_line n = codes "config " ++ decimal n ++ codes " passed over\n"

-- what all queues did
abbrev pub all_queues : Run → List Placed
all_queues run = flat_map (λ list. list) run.queues

-- the seven lines: places; edits; drains; commands; events, of which those that wait are event
-- requests that no event answered; bytes; what a configuration passes over
abbrev pub summary_of : ℕ → ℕ → ℕ → ℕ → ℕ → ℕ → ℕ → ℕ → ℕ → ℕ → ℕ → ℕ → List ℕ
summary_of places accepted refused drains submitted executed failed events waiting taken given
    passed_over =
    places_line places ++ edits_line accepted refused ++ drains_line drains
    ++ commands_line submitted executed failed ++ events_line events (waiting - events)
    ++ bytes_line taken given ++ config_line passed_over

-- Edits and drains are counted by the lines of the journal, the rest by the records of all queues.
unfoldable pub summary : Run → List ℕ
summary run = summary_of (length run.history) (accepted_in run.editor)
    (refused_edits_in run.editor) (drains_in run.editor) (submits_in (all_queues run))
    (executes_in (all_queues run)) (refusals_in (all_queues run)) (events_in (all_queues run))
    (waiting_in (all_queues run)) (bytes_taken (all_queues run)) (bytes_given (all_queues run))
    run.passed_over
