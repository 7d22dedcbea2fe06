-- What the laws say: wherever a legal history leads, a target's admin queues answer by the folds.
use Rattle.std.specs.Prelude.{◌≡◌, ◌==◌, ℕ, Bool, false, if◌then◌else◌, List, Option, Some, None, length, ◌∷◌, ◌++◌, []}
use Rattle.mem_bdev.specs.declared.disk.DiskLine.{DiskLine}
use Rattle.sqe_cqe.specs.declared.sqe.Sqe.{Sqe}
use Rattle.sqe_cqe.specs.declared.codes.TheConstants.{SUCCESS}
use Rattle.sqe_cqe.specs.declared.rows.TheConstants.{MAX_NSID}
use Rattle.sqe_cqe.specs.Answers.{View}
use Rattle.async_events.specs.declared.events.TheConstants.{REQUEST_LIMIT}
use Rattle.async_events.specs.declared.feature.TheConstants.{GET_FEATURES, ASYNC_EVENTS}
use Rattle.async_events.specs.declared.waits.TheConstants.{MOST_WAITING}
use Rattle.async_events.specs.Features.{feature_id, notice_bits}
use Rattle.async_events.specs.Notices.{taken}
use Rattle.look_pages.specs.Pages.{those, window, list_bytes}
use Rattle.ana_groups.specs.AnaPage.{ana_bytes}
use Rattle.log_pages.specs.declared.log.TheConstants.{CHANGED_NAMESPACES, ANA_LOG}
use Rattle.log_pages.specs.Logs.{log_id, log_offset, log_status, groups_only, retains}
use Rattle.admin_commands.specs.declared.checks.TheConstants.{GET_LOG_PAGE, EVENT_REQUEST}
use Rattle.admin_commands.specs.Admin.{status_before}
use Rattle.configfs_tree.specs.declared.configuration.Configuration.{Configuration}
use Rattle.tree_target.specs.declared.calls.Reply.TheVariants as replies
use Rattle.tree_target.specs.Model.{Submit, Entry, Bound, Target, binding_at, bound_at}
use Rattle.tree_target.specs.Views.{view_at}
use Rattle.tree_target.specs.Admission.{event_at}
use Rattle.tree_target.specs.Steps.{reply_of, bytes_of, completion, entry_of}
use Rattle.tree_target.specs.Loads.{IsFresh, loaded_target}
use Rattle.tree_target.specs.Start.{simple_start}
use Rattle.history_notices.specs.Marks.{led, notices_by, is_listed, ana_changes}
use Rattle.history_notices.specs.Starts.{IsStart, Leads}

-- ---- starts
abbrev pub LoadedStarts : Type 0
LoadedStarts = (t : Configuration) (lines : List DiskLine) (ports : List ℕ) → IsFresh t
    → IsStart (loaded_target t lines ports)

abbrev pub SimpleStarts : Type 0
SimpleStarts = (d : DiskLine) → IsStart (simple_start d)

-- ---- polls
abbrev pub is_admin_of : Option Bound → Bool
is_admin_of None = false
is_admin_of (Some b) = b.qid == 0

-- connected as QID 0
abbrev pub is_admin_queue : Target → ℕ → Bool
is_admin_queue t queue = is_admin_of (bound_at t queue)

-- a poll of any queue gives the event that the fold tells: on an admin queue a namespace notice
-- before an ANA notice, for the event request that was submitted last; on another queue none
abbrev pub PollsByFold : Type 0
PollsByFold = (start : Target) (entries : List Entry) (queue : ℕ) → Leads start entries
    → event_at (led start entries) queue ≡ (if is_admin_queue (led start entries) queue
    then (taken (notices_by start queue entries)).1 else None)

-- ---- commands of an admin queue that pass the checks before their own: the opcode is known, the
-- flags are 40h, and the controller is ready
pub record Serves (t : Target) (queue : ℕ) (e : Sqe) : Type 0 where
  pub port : ℕ
  pub bound : Bound
  pub connected : binding_at t queue ≡ Some (record { port = port; bound = Some bound })
  pub admin : bound.qid ≡ 0
  pub passes : status_before (view_at t port bound) e ≡ SUCCESS

-- an event request waits, or it is refused where four wait
abbrev pub RequestsByFold : Type 0
RequestsByFold = (start : Target) (entries : List Entry) (queue number : ℕ) (e : Sqe)
    → Leads start entries → Serves (led start entries) queue e → e.opcode ≡ EVENT_REQUEST
    → e.sgl_len ≡ 0 → reply_of (led start entries) (Submit queue number e)
    ≡ (if length (notices_by start queue entries).waiting == MOST_WAITING
    then completion (led start entries) queue e.cid REQUEST_LIMIT 0 else replies.Waiting)

-- a read of log 04h gives the NSIDs that the fold lists, FFFFFFFFh where they are more than 1,024
abbrev pub ChangedListByFold : Type 0
ChangedListByFold = (start : Target) (entries : List Entry) (queue number : ℕ) (e : Sqe)
    → Leads start entries → Serves (led start entries) queue e → e.opcode ≡ GET_LOG_PAGE
    → log_id e ≡ CHANGED_NAMESPACES → log_status e ≡ SUCCESS
    → bytes_of (led start entries) (Submit queue number e) ≡ window (log_offset e) e.sgl_len
    (list_bytes (those (is_listed start queue entries) MAX_NSID))

-- a view with this change count
abbrev pub counted : ℕ → View → View
counted n v = record v { ana_count = n; group_count = λ g. n }

-- a read of log 0Ch gives the page of what the queue sees, with the number of ANA changes of the
-- history as the change count, and as each group's
abbrev pub AnaLogByFold : Type 0
AnaLogByFold = (start : Target) (entries : List Entry) (queue number : ℕ) (e : Sqe)
    → Leads start entries → (s : Serves (led start entries) queue e) → e.opcode ≡ GET_LOG_PAGE
    → log_id e ≡ ANA_LOG → log_status e ≡ SUCCESS
    → bytes_of (led start entries) (Submit queue number e) ≡ window (log_offset e) e.sgl_len
    (ana_bytes (counted (ana_changes start entries) (view_at (led start entries) s.port s.bound))
    (groups_only e))

-- Get Features of Asynchronous Event Configuration tells the bits of the fold
abbrev pub BitsByFold : Type 0
BitsByFold = (start : Target) (entries : List Entry) (queue number : ℕ) (e : Sqe)
    → Leads start entries → Serves (led start entries) queue e → e.opcode ≡ GET_FEATURES
    → feature_id e ≡ ASYNC_EVENTS → e.sgl_len ≡ 0
    → reply_of (led start entries) (Submit queue number e) ≡ completion (led start entries) queue
    e.cid SUCCESS (notice_bits (notices_by start queue entries).ns.on
    (notices_by start queue entries).ana.on)

-- a read of log 04h with RAE 0 empties the list, and one with RAE 1 leaves it
abbrev pub ReadsClear : Type 0
ReadsClear = (start : Target) (entries : List Entry) (queue number n : ℕ) (e : Sqe)
    → Leads start entries → Serves (led start entries) queue e → e.opcode ≡ GET_LOG_PAGE
    → log_id e ≡ CHANGED_NAMESPACES → log_status e ≡ SUCCESS
    → is_listed start queue (entries ++ entry_of (led start entries) (Submit queue number e) ∷ []) n
    ≡ (if retains e then is_listed start queue entries n else false)
