-- What the program's target keeps.
use Rattle.std.specs.Prelude.{◌≡◌, ◌≢◌, ◌≤◌, ◌==◌, ◌-◌, ◌++◌, ℕ, zero, suc, Bool, true, false, IsTrue, List, [], ◌∷◌, length, Option, Some, None, is_some, slice_get, find}
use Rattle.std.specs.List.{AllByRecursion}
use Rattle.mem_bdev.specs.Blocks.{Blocks}
use Rattle.mem_bdev.specs.declared.limits.TheConstants.{MAX_TRANSFER}
use Rattle.sqe_cqe.specs.declared.sqe.Sqe.{Sqe}
use Rattle.sqe_cqe.specs.declared.codes.TheConstants.{SUCCESS, INVALID_OPCODE}
use Rattle.sqe_cqe.specs.declared.controllers.Bound.{Bound}
use Rattle.sqe_cqe.specs.declared.controllers.Binding.{Binding}
use Rattle.sqe_cqe.specs.declared.controllers.ControllerRow.{ControllerRow}
use Rattle.sqe_cqe.specs.Answers.{View, view_of}
use Rattle.sqe_cqe.specs.Sqe.{direction_of, payload_len, host_len}
use Rattle.sqe_cqe.specs.declared.controllers.Ctrl.{Ctrl}
use Rattle.sqe_cqe.specs.Connect.{keep_alive_of}
use Rattle.mem_bdev.specs.Texts.{Text}
use Rattle.admin_commands.specs.declared.admit.AdminReply.{AdminReply}
use Rattle.admin_commands.specs.declared.admit.AdminReply.TheVariants as admin
use Rattle.async_events.specs.declared.events.Events.{Events}
use Rattle.async_events.specs.Stamps.{begun}
use Rattle.change_stamps.specs.Stamps.{Stamps}
use Rattle.admin_commands.specs.Admin.{AdmitsAt, PollsAt}
use Rattle.io_commands.specs.declared.jobs.Job.{Job}
use Rattle.io_commands.specs.declared.jobs.Admit.{Admit}
use Rattle.io_commands.specs.declared.jobs.Admit.TheVariants.{Refused, Run}
use Rattle.io_commands.specs.Jobs.{disk_of, given_len, FitsDisk, HasData}
use Rattle.io_commands.specs.Admission.{io_admission}
use Rattle.configfs_rows.specs.declared.limits.TheConstants.{MAX_DISKS}
use Rattle.configfs_tree.specs.declared.configuration.Configuration.{Configuration}
use Rattle.tree_target.specs.declared.calls.Command.{Command}
use Rattle.tree_target.specs.declared.calls.Reply.{Reply}
use Rattle.tree_target.specs.declared.calls.Reply.TheVariants as replies
use Rattle.plan_files.specs.declared.plan.TheConstants.{MAX_QUEUES}
use Rattle.plan_files.specs.Rooms.{data_room}
use Rattle.tree_target.specs.Model.{is_command}
use Rattle.tree_target.specs.Steps.{bytes_executed, read_of}
use Rattle.tree_target.specs.Looked.{tree_answers}
use Rattle.tree_target.specs.Joined.{AreJoined}
use Rattle.tree_target.specs.Admission.{as_bound}

-- bindings go by positions here
pub record Kept : Type 0 where
  pub tree : Configuration
  pub controllers : List ControllerRow
  pub blocks : List Blocks
  -- of queues 1, 2, ..
  pub bindings : List Binding
  pub held : List Command
  -- of the controllers, in the order of their numbers
  pub events : List Events
  -- the serials of last changes
  pub stamps : Stamps

-- ---- queues
abbrev pub bound_from : Option Binding → Option Bound
bound_from None = None
bound_from (Some b) = b.bound

abbrev pub binding_in : List Binding → ℕ → Option Binding
binding_in bindings zero = None
binding_in bindings (suc q) = slice_get bindings q

abbrev pub bound_in : List Binding → ℕ → Option Bound
bound_in bindings queue = bound_from (binding_in bindings queue)

abbrev pub qid_from : Option Bound → ℕ
qid_from None = 0
qid_from (Some b) = b.qid

-- an admin queue is connected as QID 0
abbrev pub is_admin_bound : Option Bound → Bool
is_admin_bound None = false
is_admin_bound (Some b) = b.qid == 0

abbrev pub is_admin_in : Kept → ℕ → Bool
is_admin_in k queue = is_admin_bound (bound_in k.bindings queue)

-- the target has a queue of this number
pub record HasQueue (k : Kept) (queue : ℕ) : Type 0 where
  pub low : 1 ≤ queue
  pub high : queue ≤ length k.bindings

-- ---- admission by positions
abbrev pub seen_by : Kept → Bound → View
seen_by k b = view_of (tree_answers k.tree k.controllers k.blocks k.stamps) b

abbrev pub by_bound : Kept → Sqe → Option Bound → Admit
by_bound k e None = Refused INVALID_OPCODE
by_bound k e (Some b) = io_admission (seen_by k b) e

unfoldable pub admission_by : Kept → ℕ → Sqe → Admit
admission_by k queue e = by_bound k e (bound_in k.bindings queue)

-- ---- held commands
-- a job lies on its disk
abbrev pub FitsOn : Job → Option Blocks → Type 0
FitsOn job None = ⊥
FitsOn job (Some d) = FitsDisk job d.shift (length d.blocks)

abbrev pub Fits : List Blocks → Command → Type 0
Fits blocks h = FitsOn h.job (slice_get blocks (disk_of h.job))

-- a command of one of so many queues
pub record IsNumbered (queues : ℕ) (h : Command) : Type 0 where
  pub low : 1 ≤ h.queue
  pub high : h.queue ≤ queues

-- none of these commands is of this queue
abbrev pub IsApart : ℕ → List Command → Type 0
IsApart queue held = AllByRecursion (λ (h : Command). (h.queue == queue) ≡ false) held

-- no two of these commands are of one queue
abbrev pub AreSingle : List Command → Type 0
AreSingle [] = Unit {0}
AreSingle (h ∷ held) = IsApart h.queue held × AreSingle held

-- what is held lies on its disk, is of a queue that is there, and is the only command of its queue
pub record HoldsWell (blocks : List Blocks) (queues : ℕ) (held : List Command) : Type 0 where
  pub fit : AllByRecursion (Fits blocks) held
  pub numbered : AllByRecursion (IsNumbered queues) held
  pub single : AreSingle held

-- what holds of each target, with room for so many held commands
pub record IsKept (k : Kept) (held_room : ℕ) : Type 0 where
  pub holds : HoldsWell k.blocks (length k.bindings) k.held
  pub few_disks : length k.blocks ≤ MAX_DISKS
  pub few_queues : length k.bindings ≤ MAX_QUEUES
  pub room : MAX_QUEUES ≤ held_room
  pub joined : AreJoined k.tree k.controllers k.bindings
  pub states : length k.events ≡ length k.controllers

abbrev pub is_of : ℕ → Command → Bool
is_of queue h = h.queue == queue

-- the queue holds no command
abbrev pub IsIdle : Kept → ℕ → Type 0
IsIdle k queue = find (is_of queue) k.held ≡ None

abbrev pub command_at : Kept → ℕ → ℕ → Option Command
command_at k queue number = find (is_command queue number) k.held

-- whether this capsule's command is held
abbrev pub holds : Kept → ℕ → ℕ → Bool
holds k queue number = is_some (command_at k queue number)

abbrev pub HasDataOn : Job → Option Blocks → ℕ → Type 0
HasDataOn job None len = Unit {0}
HasDataOn job (Some d) len = HasData job d.shift len

abbrev pub HasDataOf : List Blocks → Option Command → ℕ → Type 0
HasDataOf blocks None len = Unit {0}
HasDataOf blocks (Some h) len = HasDataOn h.job (slice_get blocks (disk_of h.job)) len

-- data have the length that the held command asks
abbrev pub HasHeldData : Kept → ℕ → ℕ → ℕ → Type 0
HasHeldData k queue number len = HasDataOf k.blocks (command_at k queue number) len

abbrev pub given_on : Job → Option Blocks → ℕ
given_on job None = 0
given_on job (Some d) = given_len job d.shift

abbrev pub given_of : List Blocks → Option Command → ℕ
given_of blocks None = 0
given_of blocks (Some h) = given_on h.job (slice_get blocks (disk_of h.job))

-- how many bytes the held command gives to the host
abbrev pub held_len : Kept → ℕ → ℕ → ℕ
held_len k queue number = given_of k.blocks (command_at k queue number)

-- the bytes that it gives
abbrev pub held_bytes : Kept → ℕ → ℕ → List ℕ
held_bytes k queue number = bytes_executed k.blocks (command_at k queue number)

-- a completion on the queue with this QID
abbrev pub answered : ℕ → ℕ → ℕ → Reply
answered qid cid status = replies.Answered (record {
  result = 0;
  sq_head = 0;
  sq_id = qid;
  cid = cid;
  status = status;
})

abbrev pub reply_to : ℕ → Option Command → Reply
reply_to qid None = replies.NoEvent
reply_to qid (Some h) = answered qid h.cid SUCCESS

-- what the execute of the held command replies: success
abbrev pub held_reply : Kept → ℕ → ℕ → Reply
held_reply k queue number = reply_to (qid_from (bound_in k.bindings queue))
    (command_at k queue number)

-- this capsule's command is held. It takes so many bytes of data and gives so many to the host, at
-- most a transfer
pub record IsHolding (k : Kept) (queue number taken given : ℕ) : Type 0 where
  pub is_held : IsTrue (holds k queue number)
  pub has_data : HasHeldData k queue number taken
  pub is_given : held_len k queue number ≡ given
  pub short : given ≤ MAX_TRANSFER

-- ---- replies of admin queues
-- a completion
abbrev pub is_answered : Reply → Bool
is_answered (replies.Answered cqe) = true
is_answered r = false

-- what a submit on an admin queue replies: a completion, or that an event request waits
abbrev pub is_admin_reply : Reply → Bool
is_admin_reply (replies.Answered cqe) = true
is_admin_reply replies.Waiting = true
is_admin_reply r = false

-- what a poll replies: an event's completion, or that there is none
abbrev pub is_poll_reply : Reply → Bool
is_poll_reply (replies.Answered cqe) = true
is_poll_reply replies.NoEvent = true
is_poll_reply r = false

-- the reply on the queue with this QID
abbrev pub reply_with : ℕ → ℕ → AdminReply → Reply
reply_with qid cid (admin.Completes status result) = replies.Answered (record {
  result = result;
  sq_head = 0;
  sq_id = qid;
  cid = cid;
  status = status;
})
reply_with qid cid admin.Waits = replies.Waiting

-- a controller as its admin queue is bound to it
abbrev pub ctrl_for : Bound → Option ControllerRow → Option Ctrl
ctrl_for b None = None
ctrl_for b (Some c) = Some (as_bound b c)

-- what a command of an admin queue does: nothing where its controller isn't there
abbrev pub ServesAdmin : View → Sqe → ℕ → Option Ctrl → List Events → AdminReply → Text → Text
    → List Events → Type 0
ServesAdmin v e ctrl None old reply to to' new =
    (reply ≡ admin.Completes INVALID_OPCODE 0) × (to' ≡ to) × (new ≡ old)
ServesAdmin v e ctrl (Some c) old reply to to' new = AdmitsAt v c e (ctrl - 1) old reply to to' new

-- a poll of an admin queue: no event where its controller isn't there
abbrev pub PollsAdmin : View → ℕ → Option Ctrl → List Events → Option (ℕ × ℕ) → List Events
    → Type 0
PollsAdmin v ctrl None old event new = (event ≡ None) × (new ≡ old)
PollsAdmin v ctrl (Some c) old event new = PollsAt v (ctrl - 1) old event new

-- the reply to a poll on the queue with this QID
abbrev pub event_reply : ℕ → Option (ℕ × ℕ) → Reply
event_reply qid None = replies.NoEvent
event_reply qid (Some x) = replies.Answered (record {
  result = x.1;
  sq_head = 0;
  sq_id = qid;
  cid = x.0;
  status = SUCCESS;
})

-- a Connect that made a controller, at this serial, begins its events
abbrev pub states_made : ℕ → List Events → Sqe → Option Ctrl → List Events
states_made since old e None = old
states_made since old e (Some c) = old ++ begun since (keep_alive_of e) ∷ []

-- how many bytes of data for the host a response has room for: as many as the entry names, at most
-- a transfer
abbrev pub given_room : Sqe → ℕ
given_room e = data_room (direction_of e) e.sgl_len

-- ---- what a call of one queue leaves to the others, and one of the editor, whose number is 0, to
-- all queues
pub record LeavesOthers (queue : ℕ) (old new : Kept) : Type 0 where
  pub queues : length new.bindings ≡ length old.bindings
  pub bindings : (q : ℕ) → q ≢ queue → binding_in new.bindings q ≡ binding_in old.bindings q
  pub idle : (q : ℕ) → q ≢ queue → IsIdle old q → IsIdle new q
  pub holding : (q number taken given : ℕ) → q ≢ queue → IsHolding old q number taken given
      → IsHolding new q number taken given

-- what a job reads of its disk
abbrev pub job_bytes : List Blocks → Job → List ℕ
job_bytes blocks job = read_of job (slice_get blocks (disk_of job))

-- ---- what is admitted
-- the job lies on its disk, and its data are as long as the entry says, both ways
pub record AdmitsOn (blocks : List Blocks) (e : Sqe) (job : Job) : Type 0 where
  pub fits : FitsOn job (slice_get blocks (disk_of job))
  pub taken : HasDataOn job (slice_get blocks (disk_of job)) (payload_len e)
  pub given : given_on job (slice_get blocks (disk_of job)) ≡ host_len e
  pub short : host_len e ≤ MAX_TRANSFER

abbrev pub AdmitFits : List Blocks → Sqe → Admit → Type 0
AdmitFits blocks e (Refused status) = Unit {0}
AdmitFits blocks e (Run job) = AdmitsOn blocks e job
