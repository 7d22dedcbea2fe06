-- What the records of a run tell: each record of a response file a call of its queue, each line of
-- the journal a call of the editor, with its place, its reply and its data.
use Rattle.std.specs.Prelude.{◌≡◌, ℕ, ◌+◌, ◌==◌, Bool, true, false, if◌then◌else◌, List, [], ◌∷◌, Option, Some, None, slice_get}
use Rattle.sqe_cqe.specs.declared.cqe.Cqe.{Cqe}
use Rattle.plan_files.specs.Capsules.{Capsule, capsule_of}
use Rattle.run_records.specs.declared.records.Answer.{Answer}
use Rattle.run_records.specs.declared.records.Answer.TheVariants as answers
use Rattle.run_records.specs.declared.records.Kind.{Kind}
use Rattle.run_records.specs.declared.records.Kind.TheVariants as kinds
use Rattle.response_files.specs.Responses.{Response}
use Rattle.journal_text.specs.declared.lines.Answer.{Answer as EditAnswer}
use Rattle.journal_text.specs.declared.lines.Answer.TheVariants as edits
use Rattle.journal_text.specs.declared.lines.JournalLine.{JournalLine}
use Rattle.journal_text.specs.declared.lines.JournalLine.TheVariants as lines
use Rattle.tree_target.specs.declared.calls.Reply.{Reply}
use Rattle.tree_target.specs.declared.calls.Reply.TheVariants as replies
use Rattle.tree_target.specs.Model.{Call, Submit, Execute, Poll, Control, AnEdit, DrainEnd, Entry}
use Rattle.run_transcript.specs.declared.scripts.ScriptEdit.{ScriptEdit}
use Rattle.run_transcript.specs.Runs.{Placed, Run}
use Rattle.run_transcript.specs.Turns.{Progress, nothing_done, after_entry, Editing, nothing_edited, editing_after, Disabled}
use Rattle.run_verdicts.specs.Nexts.{told, in_places}

-- ---- response files
abbrev pub or_blank : Option Capsule → Capsule
or_blank None = capsule_of []
or_blank (Some c) = c

abbrev pub capsule_at : List Capsule → ℕ → Capsule
capsule_at file number = or_blank (slice_get file number)

-- the poll of no queue stands for a call that nobody makes
abbrev pub no_call : Call
no_call = Poll 0

-- a poll says how many capsules its queue has taken
abbrev pub poll_told : Bool → ℕ → Call
poll_told true queue = Poll queue
poll_told false queue = no_call

-- the call that a kind and a number tell, of a queue that has taken so many capsules of its file
abbrev pub call_told : ℕ → List Capsule → ℕ → Kind → ℕ → Call
call_told queue file taken kinds.Submit number = Submit queue number (capsule_at file number).entry
call_told queue file taken kinds.Execute number = Execute queue number
    (capsule_at file number).payload
call_told queue file taken kinds.Poll number = poll_told (number == taken) queue
call_told queue file taken kinds.Control number = Control queue number
    (capsule_at file number).entry (capsule_at file number).payload

abbrev pub reply_told : Answer → Cqe → Reply
reply_told answers.Held cqe = replies.Held
reply_told answers.Answered cqe = replies.Answered cqe
reply_told answers.Waiting cqe = replies.Waiting
reply_told answers.NoEvent cqe = replies.NoEvent

abbrev pub entry_told : ℕ → List Capsule → ℕ → Response → Entry
entry_told queue file taken r = record {
  call = call_told queue file taken r.head.kind r.head.number;
  reply = reply_told r.head.answer r.head.cqe;
  bytes = r.payload;
}

abbrev pub record_told : ℕ → List Capsule → ℕ → Response → Placed
record_told queue file taken r = record {
  place = r.head.place;
  entry = entry_told queue file taken r;
}

abbrev pub queue_told_from : ℕ → List Capsule → Progress → List Response → List Placed
queue_told_from queue file p [] = []
queue_told_from queue file p (r ∷ rs) = record_told queue file p.taken r
    ∷ queue_told_from queue file (after_entry p (entry_told queue file p.taken r)) rs

-- what a response file tells of its queue
abbrev pub queue_told : ℕ → List Capsule → List Response → List Placed
queue_told queue file rs = queue_told_from queue file nothing_done rs

-- of each queue, from this number on
abbrev pub queues_told : ℕ → List (List Capsule) → List (List Response) → List (List Placed)
queues_told queue [] responses = []
queues_told queue (file ∷ files) [] = []
queues_told queue (file ∷ files) (rs ∷ responses) = queue_told queue file rs
    ∷ queues_told (queue + 1) files responses

-- ---- the journal
abbrev pub answer_told : EditAnswer → Reply
answer_told edits.Accepted = replies.Accepted
answer_told (edits.Refused errno) = replies.Errno errno

-- the edit of this line, where it is the next of the script
abbrev pub edit_told : Option ScriptEdit → ℕ → Call
edit_told None line = no_call
edit_told (Some s) line = if s.line == line then AnEdit s.line s.edit else no_call

-- the end of the drain of the namespace that the last edit disabled, where this is its line
abbrev pub done_told : Option Disabled → ℕ → Call
done_told None line = no_call
done_told (Some d) line = if d.line == line then DrainEnd d.line d.space.sub d.space.nsid
    else no_call

abbrev pub line_told : List ScriptEdit → Editing → JournalLine → Placed
line_told script p (lines.Edit place line answer) = record {
  place = place;
  entry = record {
    call = edit_told (slice_get script p.made) line;
    reply = answer_told answer;
    bytes = [];
  };
}
line_told script p (lines.Done place line) = record {
  place = place;
  entry = record { call = done_told p.disabled line; reply = replies.Ended; bytes = [] };
}

abbrev pub editor_told_from : List ScriptEdit → Editing → List JournalLine → List Placed
editor_told_from script p [] = []
editor_told_from script p (l ∷ journal) = line_told script p l
    ∷ editor_told_from script (editing_after p (line_told script p l).entry) journal

-- what a journal tells of the editor
abbrev pub editor_told : List ScriptEdit → List JournalLine → List Placed
editor_told script journal = editor_told_from script nothing_edited journal

-- ---- the run
-- These records tell this run, of so many places: its script and files are those that were read,
-- its callers did what the records tell, and its history is that in the order of places.
pub record IsTold (n : ℕ) (run : Run) (script : List ScriptEdit) (files : List (List Capsule))
    (responses : List (List Response)) (journal : List JournalLine) : Type 0 where
  pub script_is : run.script ≡ script
  pub files_are : run.files ≡ files
  pub editor_is : run.editor ≡ editor_told script journal
  pub queues_are : run.queues ≡ queues_told 1 files responses
  pub history_is : run.history ≡ in_places n (told run)
