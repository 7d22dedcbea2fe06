-- What a caller does next: a function of its file, of what it has done, and of the target then.
use Rattle.std.specs.Prelude.{ℕ, ◌+◌, ◌-◌, ◌==◌, Bool, false, if◌then◌else◌, List, [], ◌∷◌, Option, Some, None, slice_get}
use Rattle.sqe_cqe.specs.declared.codes.TheConstants.{FABRICS}
use Rattle.plan_files.specs.Capsules.{Capsule}
use Rattle.configfs_tree.specs.Phases.{phase_at}
use Rattle.tree_target.specs.declared.calls.Reply.{Reply}
use Rattle.tree_target.specs.declared.calls.Reply.TheVariants as replies
use Rattle.tree_target.specs.declared.edits.Space.{Space}
use Rattle.tree_target.specs.Edits.{disables}
use Rattle.tree_target.specs.Model.{Call, Submit, Execute, Poll, Control, AnEdit, DrainEnd, Bound, Entry, Target, bound_at}
use Rattle.tree_target.specs.Steps.{is_draining_phase}
use Rattle.run_transcript.specs.declared.scripts.ScriptEdit.{ScriptEdit}
use Rattle.run_transcript.specs.Runs.{Placed}

-- ---- queues
-- Where a queue stands between two of its calls. Ready: nothing is owed. Holding: a command that it
-- submitted is held. Through: the command of its last capsule is complete or waits. Ended: a poll
-- with nothing left to serve found no event.
pub data Stage : Type 0 where
  Ready : Stage
  Holding : Stage
  Through : Stage
  Ended : Stage

-- how many capsules of its file a queue has taken, and where it stands
pub record Progress : Type 0 where
  pub taken : ℕ
  pub stage : Stage

abbrev pub nothing_done : Progress
nothing_done = record { taken = 0; stage = Ready }

abbrev pub after_submit : Reply → Stage
after_submit replies.Held = Holding
after_submit (replies.Answered cqe) = Through
after_submit replies.Waiting = Through
after_submit replies.NoEvent = Through
after_submit replies.Accepted = Through
after_submit (replies.Errno errno) = Through
after_submit replies.Ended = Through

-- a poll that had nothing to follow, where a queue has taken all its capsules
abbrev pub after_last_poll : Reply → Stage
after_last_poll replies.NoEvent = Ended
after_last_poll replies.Held = Ready
after_last_poll (replies.Answered cqe) = Ready
after_last_poll replies.Waiting = Ready
after_last_poll replies.Accepted = Ready
after_last_poll (replies.Errno errno) = Ready
after_last_poll replies.Ended = Ready

-- the poll that follows a command, or one of those at the end
abbrev pub after_poll : Stage → Reply → Stage
after_poll Through reply = Ready
after_poll Ready reply = after_last_poll reply
after_poll Holding reply = after_last_poll reply
after_poll Ended reply = after_last_poll reply

abbrev pub after_call : Progress → Call → Reply → Progress
after_call p (Submit queue number e) reply = record {
  taken = p.taken + 1;
  stage = after_submit reply;
}
after_call p (Execute queue number payload) reply = record { taken = p.taken; stage = Through }
after_call p (Poll queue) reply = record { taken = p.taken; stage = after_poll p.stage reply }
after_call p (Control queue number e payload) reply = record { taken = p.taken + 1; stage = Ready }
after_call p (AnEdit line e) reply = p
after_call p (DrainEnd line sub nsid) reply = p

abbrev pub after_entry : Progress → Entry → Progress
after_entry p e = after_call p e.call e.reply

-- after what a queue did
abbrev pub progress_from : Progress → List Placed → Progress
progress_from p [] = p
progress_from p (x ∷ list) = progress_from (after_entry p x.entry) list

abbrev pub progress_of : List Placed → Progress
progress_of list = progress_from nothing_done list

-- the first call of a capsule: a Control of a fabrics command, else a Submit
abbrev pub first_call : ℕ → ℕ → Capsule → Call
first_call queue number c = if c.entry.opcode == FABRICS then Control queue number c.entry
    c.payload else Submit queue number c.entry

-- a connected admin queue polls, another doesn't
abbrev pub poll_where : Bool → ℕ → Option Call
poll_where admin queue = if admin then Some (Poll queue) else None

-- the next capsule; where there is none left, a poll of a connected admin queue
abbrev pub next_capsule : Bool → ℕ → ℕ → Option Capsule → Option Call
next_capsule admin queue number (Some c) = Some (first_call queue number c)
next_capsule admin queue number None = poll_where admin queue

-- the execute of the capsule taken last
abbrev pub execute_of : ℕ → ℕ → Option Capsule → Option Call
execute_of queue number (Some c) = Some (Execute queue number c.payload)
execute_of queue number None = None

-- by whether the queue is now connected as an admin queue
abbrev pub next_by : Stage → Bool → ℕ → List Capsule → ℕ → Option Call
next_by Ready admin queue file taken = next_capsule admin queue taken (slice_get file taken)
next_by Holding admin queue file taken = execute_of queue (taken - 1)
    (slice_get file (taken - 1))
next_by Through admin queue file taken = if admin then Some (Poll queue) else next_capsule admin
    queue taken (slice_get file taken)
next_by Ended admin queue file taken = None

abbrev pub is_admin_bound : Option Bound → Bool
is_admin_bound None = false
is_admin_bound (Some b) = b.qid == 0

-- the queue is connected as an admin queue
abbrev pub is_admin_at : Target → ℕ → Bool
is_admin_at t queue = is_admin_bound (bound_at t queue)

-- The next call of a queue, where one is left. Each capsule is a Control where it is a fabrics
-- command, else a Submit, its Execute where it was held, and on a connected admin queue then one
-- Poll. Where all are served, a connected admin queue polls until there is no event.
abbrev pub next_call : Target → ℕ → List Capsule → Progress → Option Call
next_call t queue file p = next_by p.stage (is_admin_at t queue) queue file p.taken

-- ---- the editor
-- how many edits of its script the editor has made, and the namespace that the last one set to be
-- disabled, with that edit's line, until its drain has ended
pub record Disabled : Type 0 where
  pub line : ℕ
  pub space : Space

pub record Editing : Type 0 where
  pub made : ℕ
  pub disabled : Option Disabled

abbrev pub nothing_edited : Editing
nothing_edited = record { made = 0; disabled = None }

abbrev pub disabled_on : ℕ → Option Space → Option Disabled
disabled_on line None = None
disabled_on line (Some s) = Some (record { line = line; space = s })

abbrev pub editing_after_call : Editing → Call → Editing
editing_after_call p (Submit queue number e) = p
editing_after_call p (Execute queue number payload) = p
editing_after_call p (Poll queue) = p
editing_after_call p (Control queue number e payload) = p
editing_after_call p (AnEdit line e) = record {
  made = p.made + 1;
  disabled = disabled_on line (disables e);
}
editing_after_call p (DrainEnd line sub nsid) = record { made = p.made; disabled = None }

abbrev pub editing_after : Editing → Entry → Editing
editing_after p e = editing_after_call p e.call

abbrev pub edit_on : Option ScriptEdit → Option Call
edit_on None = None
edit_on (Some s) = Some (AnEdit s.line s.edit)

-- the end of a drain, where the namespace that was disabled last drains
abbrev pub edit_after : Target → Option Disabled → Option Call → Option Call
edit_after t None next = next
edit_after t (Some d) next = if is_draining_phase (phase_at t.tree d.space.sub d.space.nsid) then Some
    (DrainEnd d.line d.space.sub d.space.nsid) else next

-- The next call of the editor, where one is left: the edits of its script in their order, and after
-- each that begins a drain the end of that drain.
abbrev pub next_edit : Target → List ScriptEdit → Editing → Option Call
next_edit t script p = edit_after t p.disabled (edit_on (slice_get script p.made))
