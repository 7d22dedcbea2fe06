-- The step of the sequential target: where a call is lawful, what it replies, the bytes that the
-- host gets, and the target after it. All are functions of the target and the call alone.
use Rattle.std.specs.Prelude.{ℕ, ◌==◌, ◌&&◌, not, Bool, true, false, if◌then◌else◌, List, [], ◌∷◌, ◌++◌, Option, Some, None, is_some, slice_get, slice_set}
use Rattle.std.specs.List.{list_any}
use Rattle.mem_bdev.specs.Blocks.{Blocks}
use Rattle.sqe_cqe.specs.declared.codes.TheConstants.{SUCCESS}
use Rattle.io_commands.specs.declared.jobs.Job.{Job}
use Rattle.io_commands.specs.Jobs.{disk_of, bytes_read, blocks_after}
use Rattle.configfs_rows.specs.declared.namespaces.NamespaceRow.{NamespaceRow}
use Rattle.configfs_rows.specs.declared.namespaces.Phase.{Phase}
use Rattle.configfs_rows.specs.declared.namespaces.Phase.TheVariants as phase
use Rattle.configfs_tree.specs.declared.configuration.Configuration.{Configuration}
use Rattle.configfs_tree.specs.Outcome.{Outcome, Refuses, Accepts}
use Rattle.configfs_tree.specs.Phases.{phase_at}
use Rattle.configfs_tree.specs.Drained.{drained}
use Rattle.change_stamps.specs.Stamps.{stamps_after}
use Rattle.tree_target.specs.declared.calls.Reply.{Reply}
use Rattle.tree_target.specs.declared.calls.Reply.TheVariants as replies
use Rattle.tree_target.specs.declared.calls.Command.{Command}
use Rattle.tree_target.specs.Edits.{outcome}
use Rattle.tree_target.specs.Model.{Call, Submit, Execute, Poll, Control, AnEdit, DrainEnd, Entry, Target, held_at, binding_at, bound_at, qid_of, is_command}
use Rattle.tree_target.specs.Views.{space_in, subsystem_named}
use Rattle.tree_target.specs.Admission.{Admission, Completes, Waits, Holds, admission, events_submitted, events_polled, event_at}
use Rattle.tree_target.specs.Controls.{controlled, after_control}

-- ---- drains
abbrev pub is_draining_phase : Option Phase → Bool
is_draining_phase (Some phase.Draining) = true
is_draining_phase p = false

abbrev pub is_enabled_phase : Option Phase → Bool
is_enabled_phase (Some phase.Enabled) = true
is_enabled_phase p = false

abbrev pub disk_of_space : Option NamespaceRow → Option ℕ
disk_of_space None = None
disk_of_space (Some n) = n.disk

-- the number of the disk of a namespace
abbrev pub disk_at : Configuration → List ℕ → ℕ → Option ℕ
disk_at t sub nsid = disk_of_space (space_in nsid (subsystem_named t sub))

-- no command is held on the disk
abbrev pub is_on : ℕ → Command → Bool
is_on disk h = disk_of h.job == disk

abbrev pub none_on : List Command → Option ℕ → Bool
none_on held None = true
none_on held (Some disk) = not (list_any (is_on disk) held)

-- a drain may end: the namespace is draining, and no command is held on its disk, which it alone
-- holds
abbrev pub may_end : Configuration → List Command → List ℕ → ℕ → Bool
may_end t held sub nsid = is_draining_phase (phase_at t sub nsid)
    && none_on held (disk_at t sub nsid)

-- ---- lawful
-- an Execute where its command is held; the end of a drain where it may end; every other call
-- always
abbrev pub is_lawful : Target → Call → Bool
is_lawful t (Submit queue number e) = true
is_lawful t (Execute queue number payload) = is_some (held_at t queue number)
is_lawful t (Poll queue) = true
is_lawful t (Control queue number e payload) = true
is_lawful t (AnEdit line e) = true
is_lawful t (DrainEnd line sub nsid) = may_end t.tree t.held sub nsid

-- ---- replies
-- a completion carries the QID of the submitting queue and the entry's command identifier
abbrev pub completion : Target → ℕ → ℕ → ℕ → ℕ → Reply
completion t queue cid status result = replies.Answered (record {
  result = result;
  sq_head = 0;
  sq_id = qid_of (bound_at t queue);
  cid = cid;
  status = status;
})

abbrev pub submitted : Target → ℕ → ℕ → Admission → Reply
submitted t queue cid (Completes status result bytes) = completion t queue cid status result
submitted t queue cid Waits = replies.Waiting
submitted t queue cid (Holds job) = replies.Held

abbrev pub executed : Target → ℕ → Option Command → Reply
executed t queue None = replies.NoEvent
executed t queue (Some h) = completion t queue h.cid SUCCESS 0

-- an event completes a request with success
abbrev pub polled_reply : Target → ℕ → Option (ℕ × ℕ) → Reply
polled_reply t queue None = replies.NoEvent
polled_reply t queue (Some x) = completion t queue x.0 SUCCESS x.1

abbrev pub edited : Outcome → Reply
edited (Refuses errno) = replies.Errno errno
edited (Accepts u change) = replies.Accepted

unfoldable pub reply_of : Target → Call → Reply
reply_of t (Submit queue number e) = submitted t queue e.cid (admission t queue e)
reply_of t (Execute queue number payload) = executed t queue (held_at t queue number)
reply_of t (Poll queue) = polled_reply t queue (event_at t queue)
reply_of t (Control queue number e payload) = controlled t e payload (binding_at t queue)
reply_of t (AnEdit line e) = edited (outcome t.tree e)
reply_of t (DrainEnd line sub nsid) = replies.Ended

-- ---- bytes
-- what a job reads of the disk with its number
abbrev pub read_of : Job → Option Blocks → List ℕ
read_of job None = []
read_of job (Some d) = bytes_read d job

abbrev pub bytes_submitted : Admission → List ℕ
bytes_submitted (Completes status result bytes) = bytes
bytes_submitted Waits = []
bytes_submitted (Holds job) = []

abbrev pub bytes_executed : List Blocks → Option Command → List ℕ
bytes_executed blocks None = []
bytes_executed blocks (Some h) = read_of h.job (slice_get blocks (disk_of h.job))

unfoldable pub bytes_of : Target → Call → List ℕ
bytes_of t (Submit queue number e) = bytes_submitted (admission t queue e)
bytes_of t (Execute queue number payload) = bytes_executed t.blocks (held_at t queue number)
bytes_of t (Poll queue) = []
bytes_of t (Control queue number e payload) = []
bytes_of t (AnEdit line e) = []
bytes_of t (DrainEnd line sub nsid) = []

-- the entry that a call makes
abbrev pub entry_of : Target → Call → Entry
entry_of t call = record { call = call; reply = reply_of t call; bytes = bytes_of t call }

-- ---- the target after a call
-- the held commands without the first that passes a test
abbrev pub without : (Command → Bool) → List Command → List Command
without p [] = []
without p (h ∷ held) = if p h then held else h ∷ without p held

-- the disks after a job, of which the one with its number may change
abbrev pub worked_on : Job → List ℕ → List Blocks → Option Blocks → List Blocks
worked_on job payload blocks None = blocks
worked_on job payload blocks (Some d) = slice_set blocks (disk_of job) (blocks_after d job payload)

abbrev pub worked : Job → List ℕ → List Blocks → List Blocks
worked job payload blocks = worked_on job payload blocks (slice_get blocks (disk_of job))

abbrev pub command_of : ℕ → ℕ → ℕ → Job → Command
command_of queue number cid job = record { queue = queue; number = number; cid = cid; job = job }

abbrev pub after_submit : Target → ℕ → ℕ → ℕ → Admission → Target
after_submit t queue number cid (Completes status result bytes) = t
after_submit t queue number cid Waits = t
after_submit t queue number cid (Holds job) = record t {
  held = t.held ++ command_of queue number cid job ∷ [];
}

abbrev pub after_execute : Target → ℕ → ℕ → List ℕ → Option Command → Target
after_execute t queue number payload None = t
after_execute t queue number payload (Some h) = record t {
  held = without (is_command queue number) t.held;
  blocks = worked h.job payload t.blocks;
}

abbrev pub after_edit : Target → Outcome → Target
after_edit t (Refuses errno) = t
after_edit t (Accepts u change) = record t { tree = u; stamps = stamps_after change t.stamps }

-- the target after a call, but for its history
unfoldable pub changed : Target → Call → Target
changed t (Submit queue number e) =
    record (after_submit t queue number e.cid (admission t queue e)) {
      events = events_submitted t queue e;
    }
changed t (Execute queue number payload) = after_execute t queue number payload
    (held_at t queue number)
changed t (Poll queue) = record t { events = events_polled t queue }
changed t (Control queue number e payload) = after_control t queue e payload
    (binding_at t queue)
changed t (AnEdit line e) = after_edit t (outcome t.tree e)
changed t (DrainEnd line sub nsid) = record t { tree = drained t.tree sub nsid }

-- the target after a call: its history has one entry more
abbrev pub target_after : Target → Call → Target
target_after t call = record (changed t call) { history = t.history ++ entry_of t call ∷ [] }
