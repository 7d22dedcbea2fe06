-- Commands of a connected admin queue, and polls of it: the first check that fails, what a command
-- gets, and what it leaves of its controller's events.
use Rattle.std.specs.Prelude.{◌≡◌, ◌≤◌, Some, slice_get, slice_set, ℕ, ◌==◌, ◌||◌, not, nat_le, Bool, false, if◌then◌else◌, List, [], length, Option}
use Rattle.mem_bdev.specs.Texts.{Text, appended}
use Rattle.mem_bdev.specs.declared.limits.TheConstants.{MAX_TRANSFER}
use Rattle.sqe_cqe.specs.declared.sqe.Sqe.{Sqe}
use Rattle.sqe_cqe.specs.declared.controllers.Ctrl.{Ctrl}
use Rattle.sqe_cqe.specs.declared.codes.TheConstants.{SGL, SUCCESS, INVALID_OPCODE, INVALID_FIELD, COMMAND_SEQUENCE_ERROR, DATA_SGL_LENGTH_INVALID}
use Rattle.sqe_cqe.specs.Sqe.{host_len}
use Rattle.sqe_cqe.specs.Answers.{View}
use Rattle.admin_identify.specs.Identify.{identify_status, identify_page}
use Rattle.async_events.specs.declared.events.Events.{Events}
use Rattle.async_events.specs.declared.events.TheConstants.{REQUEST_LIMIT}
use Rattle.async_events.specs.declared.feature.TheConstants.{SET_FEATURES, GET_FEATURES}
use Rattle.async_events.specs.Notices.{taken}
use Rattle.async_events.specs.Stamps.{caught_up_with, cleared_of, is_full, noted, requested, with_notices}
use Rattle.async_events.specs.Features.{feature_answer, feature_after}
use Rattle.log_pages.specs.Logs.{log_status, log_bytes, log_events}
use Rattle.admin_commands.specs.declared.admit.AdminReply.{AdminReply}
use Rattle.admin_commands.specs.declared.admit.AdminReply.TheVariants.{Completes, Waits}
use Rattle.admin_commands.specs.declared.checks.TheConstants.{GET_LOG_PAGE, IDENTIFY, ABORT, EVENT_REQUEST, KEEP_ALIVE}

-- ---- the checks before a command's own
unfoldable pub is_admin_opcode : ℕ → Bool
is_admin_opcode opcode =
    (opcode == GET_LOG_PAGE) || (opcode == IDENTIFY) || (opcode == ABORT)
    || (opcode == SET_FEATURES) || (opcode == GET_FEATURES) || (opcode == EVENT_REQUEST)
    || (opcode == KEEP_ALIVE)

-- the opcode, the flags, and whether the controller is ready
unfoldable pub status_before : View → Sqe → ℕ
status_before v e =
    if not (is_admin_opcode e.opcode) then INVALID_OPCODE
    else if not (e.flags == SGL) then INVALID_FIELD
    else if not v.ready then COMMAND_SEQUENCE_ERROR
    else SUCCESS

-- ---- what a command gets
-- a command without data
abbrev pub without_data : Sqe → AdminReply → AdminReply
without_data e reply = if e.sgl_len == 0 then reply else Completes DATA_SGL_LENGTH_INVALID 0

-- an event request waits, where fewer than four do
abbrev pub requested_by : Events → AdminReply
requested_by k = if is_full k then Completes REQUEST_LIMIT 0 else Waits

-- features, with all changes merged before
abbrev pub featured : View → Events → Sqe → AdminReply
featured v k e = Completes (feature_answer (caught_up_with v k) e).0
    (feature_answer (caught_up_with v k) e).1

-- by the command's own checks
abbrev pub reply_by : View → Events → Sqe → AdminReply
reply_by v k e =
    if e.opcode == GET_LOG_PAGE then Completes (log_status e) 0
    else if e.opcode == IDENTIFY then Completes (identify_status v e) 0
    else if e.opcode == ABORT then without_data e (Completes SUCCESS 1)
    else if e.opcode == EVENT_REQUEST then without_data e (requested_by k)
    else if e.opcode == KEEP_ALIVE then without_data e (Completes SUCCESS 0)
    else featured v k e

unfoldable pub admin_reply : View → Events → Sqe → AdminReply
admin_reply v k e =
    if status_before v e == SUCCESS then reply_by v k e else Completes (status_before v e) 0

-- ---- the data for the host, which come with success alone
abbrev pub is_success : AdminReply → Bool
is_success (Completes status result) = status == SUCCESS
is_success Waits = false

abbrev pub page_asked : View → Ctrl → Events → Sqe → List ℕ
page_asked v c k e =
    if e.opcode == GET_LOG_PAGE then log_bytes v (cleared_of k) e
    else if e.opcode == IDENTIFY then identify_page v c e
    else []

abbrev pub given_with : View → Ctrl → Events → Sqe → AdminReply → List ℕ
given_with v c k e reply = if is_success reply then page_asked v c k e else []

unfoldable pub admin_bytes : View → Ctrl → Events → Sqe → List ℕ
admin_bytes v c k e = given_with v c k e (admin_reply v k e)

-- ---- what it leaves of its controller's events
-- a log read that succeeds clears what it clears
abbrev pub after_log : View → Events → Sqe → Events
after_log v k e = if log_status e == SUCCESS then log_events v e k else k

abbrev pub after_request : Events → Sqe → Events
after_request k e = if e.sgl_len == 0 then (if is_full k then k else requested e.cid k) else k

abbrev pub events_by : View → Events → Sqe → Events
events_by v k e =
    if e.opcode == GET_LOG_PAGE then after_log v k e
    else if e.opcode == IDENTIFY then k
    else if e.opcode == ABORT then k
    else if e.opcode == EVENT_REQUEST then after_request k e
    else if e.opcode == KEEP_ALIVE then k
    else feature_after (caught_up_with v k) e

unfoldable pub events_after : View → Events → Sqe → Events
events_after v k e = if status_before v e == SUCCESS then events_by v k e else k

-- ---- a poll: a namespace notice before an ANA notice, of all changes so far; it completes the
-- event request that was submitted last
unfoldable pub polled : View → Events → Events
polled v k = with_notices (caught_up_with v k) (taken (noted (caught_up_with v k))).0

-- the command identifier and the result
unfoldable pub event_of : View → Events → Option (ℕ × ℕ)
event_of v k = (taken (noted (caught_up_with v k))).1

-- ---- the room that a command asks for: its data for the host, at most a transfer
abbrev pub most_given : Sqe → ℕ
most_given e = if nat_le (host_len e) MAX_TRANSFER then host_len e else 0

-- ---- controllers in the order of their numbers: a command, or a poll, of the one at a place
pub record AdmitsAt (v : View) (c : Ctrl) (e : Sqe) (at : ℕ) (old : List Events)
    (reply : AdminReply) (to to' : Text) (new : List Events) : Type 0 where
  pub own : Events
  pub stands : slice_get old at ≡ Some own
  pub reply_is : reply ≡ admin_reply v own e
  pub appends : to' ≡ appended to (admin_bytes v c own e)
  pub short : length (admin_bytes v c own e) ≤ most_given e
  pub states : new ≡ slice_set old at (events_after v own e)

pub record PollsAt (v : View) (at : ℕ) (old : List Events) (event : Option (ℕ × ℕ))
    (new : List Events) : Type 0 where
  pub own : Events
  pub stands : slice_get old at ≡ Some own
  pub event_is : event ≡ event_of v own
  pub states : new ≡ slice_set old at (polled v own)
