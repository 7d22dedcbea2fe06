-- The numbers of the summary.
use Rattle.std.specs.Prelude.{ℕ, ◌==◌, if◌then◌else◌, List, length}
use Rattle.std.specs.List.{sum_by}
use Rattle.sqe_cqe.specs.declared.codes.TheConstants.{SUCCESS}
use Rattle.tree_target.specs.declared.calls.Reply.{Reply}
use Rattle.tree_target.specs.declared.calls.Reply.TheVariants as replies
use Rattle.tree_target.specs.Model.{Call, Submit, Execute, Poll, Control, AnEdit, DrainEnd}
use Rattle.run_transcript.specs.Runs.{Placed}

-- ---- of one call
abbrev pub submit_count : Call → ℕ
submit_count (Submit queue number e) = 1
submit_count (Execute queue number payload) = 0
submit_count (Poll queue) = 0
submit_count (Control queue number e payload) = 0
submit_count (AnEdit line e) = 0
submit_count (DrainEnd line sub nsid) = 0

abbrev pub execute_count : Call → ℕ
execute_count (Execute queue number payload) = 1
execute_count (Submit queue number e) = 0
execute_count (Poll queue) = 0
execute_count (Control queue number e payload) = 0
execute_count (AnEdit line e) = 0
execute_count (DrainEnd line sub nsid) = 0

-- a completion with another status than success
abbrev pub failure_count : Reply → ℕ
failure_count (replies.Answered cqe) = if cqe.status == SUCCESS then 0 else 1
failure_count replies.Held = 0
failure_count replies.Waiting = 0
failure_count replies.NoEvent = 0
failure_count replies.Accepted = 0
failure_count (replies.Errno errno) = 0
failure_count replies.Ended = 0

-- the completion of a poll is an event, and no refusal
abbrev pub refusal_count : Call → Reply → ℕ
refusal_count (Submit queue number e) reply = failure_count reply
refusal_count (Execute queue number payload) reply = failure_count reply
refusal_count (Control queue number e payload) reply = failure_count reply
refusal_count (Poll queue) reply = 0
refusal_count (AnEdit line e) reply = 0
refusal_count (DrainEnd line sub nsid) reply = 0

abbrev pub answered_count : Reply → ℕ
answered_count (replies.Answered cqe) = 1
answered_count replies.Held = 0
answered_count replies.Waiting = 0
answered_count replies.NoEvent = 0
answered_count replies.Accepted = 0
answered_count (replies.Errno errno) = 0
answered_count replies.Ended = 0

-- a poll with an event
abbrev pub event_count : Call → Reply → ℕ
event_count (Poll queue) reply = answered_count reply
event_count (Submit queue number e) reply = 0
event_count (Execute queue number payload) reply = 0
event_count (Control queue number e payload) reply = 0
event_count (AnEdit line e) reply = 0
event_count (DrainEnd line sub nsid) reply = 0

-- an event request that waits
abbrev pub waiting_count : Reply → ℕ
waiting_count replies.Waiting = 1
waiting_count replies.Held = 0
waiting_count (replies.Answered cqe) = 0
waiting_count replies.NoEvent = 0
waiting_count replies.Accepted = 0
waiting_count (replies.Errno errno) = 0
waiting_count replies.Ended = 0

-- the data of an executed command, in bytes; only a Write has some
abbrev pub payload_count : Call → ℕ
payload_count (Execute queue number payload) = length payload
payload_count (Submit queue number e) = 0
payload_count (Poll queue) = 0
payload_count (Control queue number e payload) = 0
payload_count (AnEdit line e) = 0
payload_count (DrainEnd line sub nsid) = 0

-- an edit, by what it replied, and the end of a drain
abbrev pub accepted_count : Reply → ℕ
accepted_count replies.Accepted = 1
accepted_count (replies.Errno errno) = 0
accepted_count replies.Held = 0
accepted_count (replies.Answered cqe) = 0
accepted_count replies.Waiting = 0
accepted_count replies.NoEvent = 0
accepted_count replies.Ended = 0

abbrev pub errno_count : Reply → ℕ
errno_count (replies.Errno errno) = 1
errno_count replies.Accepted = 0
errno_count replies.Held = 0
errno_count (replies.Answered cqe) = 0
errno_count replies.Waiting = 0
errno_count replies.NoEvent = 0
errno_count replies.Ended = 0

abbrev pub drain_count : Reply → ℕ
drain_count replies.Ended = 1
drain_count replies.Accepted = 0
drain_count (replies.Errno errno) = 0
drain_count replies.Held = 0
drain_count (replies.Answered cqe) = 0
drain_count replies.Waiting = 0
drain_count replies.NoEvent = 0

-- ---- of a caller's list
abbrev pub submits_in : List Placed → ℕ
submits_in list = sum_by (λ p. submit_count p.entry.call) list

abbrev pub executes_in : List Placed → ℕ
executes_in list = sum_by (λ p. execute_count p.entry.call) list

abbrev pub refusals_in : List Placed → ℕ
refusals_in list = sum_by (λ p. refusal_count p.entry.call p.entry.reply) list

abbrev pub events_in : List Placed → ℕ
events_in list = sum_by (λ p. event_count p.entry.call p.entry.reply) list

abbrev pub waiting_in : List Placed → ℕ
waiting_in list = sum_by (λ p. waiting_count p.entry.reply) list

abbrev pub bytes_taken : List Placed → ℕ
bytes_taken list = sum_by (λ p. payload_count p.entry.call) list

abbrev pub bytes_given : List Placed → ℕ
bytes_given list = sum_by (λ p. length p.entry.bytes) list

abbrev pub accepted_in : List Placed → ℕ
accepted_in list = sum_by (λ p. accepted_count p.entry.reply) list

abbrev pub refused_edits_in : List Placed → ℕ
refused_edits_in list = sum_by (λ p. errno_count p.entry.reply) list

abbrev pub drains_in : List Placed → ℕ
drains_in list = sum_by (λ p. drain_count p.entry.reply) list
