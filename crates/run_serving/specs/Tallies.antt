-- What a call counts in the summary, by the kind of its record.
use Rattle.std.specs.Prelude.{ℕ}
use Rattle.run_records.specs.declared.records.Kind.{Kind}
use Rattle.run_records.specs.declared.records.Kind.TheVariants as kinds
use Rattle.tree_target.specs.declared.calls.Reply.{Reply}
use Rattle.run_transcript.specs.Sums.{failure_count, answered_count}

abbrev pub submits_by : Kind → ℕ
submits_by kinds.Submit = 1
submits_by kinds.Execute = 0
submits_by kinds.Poll = 0
submits_by kinds.Control = 0

abbrev pub executes_by : Kind → ℕ
executes_by kinds.Submit = 0
executes_by kinds.Execute = 1
executes_by kinds.Poll = 0
executes_by kinds.Control = 0

-- the completion of a poll is an event, and no refusal
abbrev pub refusals_by : Kind → Reply → ℕ
refusals_by kinds.Submit reply = failure_count reply
refusals_by kinds.Execute reply = failure_count reply
refusals_by kinds.Poll reply = 0
refusals_by kinds.Control reply = failure_count reply

abbrev pub events_by : Kind → Reply → ℕ
events_by kinds.Submit reply = 0
events_by kinds.Execute reply = 0
events_by kinds.Poll reply = answered_count reply
events_by kinds.Control reply = 0
