-- Get Log Page: which log, which part of it, and what a read clears.
use Rattle.std.specs.Prelude.{ℕ, ◌+◌, ◌*◌, ◌/◌, ◌%◌, ◌^◌, ◌==◌, nat_lt, not, ◌&&◌, Bool, true, false, if◌then◌else◌, List}
use Rattle.sqe_cqe.specs.declared.sqe.Sqe.{Sqe}
use Rattle.sqe_cqe.specs.declared.codes.TheConstants.{SUCCESS, INVALID_FIELD, DATA_SGL_LENGTH_INVALID}
use Rattle.sqe_cqe.specs.Answers.{View}
use Rattle.async_events.specs.declared.kinds.Log.{Log}
use Rattle.async_events.specs.declared.kinds.Log.TheVariants as logs
use Rattle.async_events.specs.declared.events.Events.{Events}
use Rattle.async_events.specs.Stamps.{caught_up_with, read_at}
use Rattle.look_pages.specs.declared.list.Choice.TheVariants.{Changed}
use Rattle.look_pages.specs.Pages.{window, list_bytes}
use Rattle.look_pages.specs.Chosen.{chosen_nsids}
use Rattle.ana_groups.specs.AnaPage.{ana_bytes}
use Rattle.log_pages.specs.declared.log.TheConstants.{CHANGED_NAMESPACES, ANA_LOG, MOST_READ}

-- the log page identifier, in the low byte of dword 10
abbrev pub log_id : Sqe → ℕ
log_id e = e.cdw10 % 256

abbrev pub is_changed_log : Sqe → Bool
is_changed_log e = log_id e == CHANGED_NAMESPACES

-- so many dwords and one, in bytes: low half in dword 10, high half in dword 11
abbrev pub log_len : Sqe → ℕ
log_len e = (e.cdw10 / 65536 + (e.cdw11 % 65536) * 65536 + 1) * 4

-- where the part begins, in bytes
abbrev pub log_offset : Sqe → ℕ
log_offset e = e.cdw12 + e.cdw13 * 2 ^ 32

-- retain asynchronous event
abbrev pub retains : Sqe → Bool
retains e = (e.cdw10 / 32768) % 2 == 1

-- return groups only
abbrev pub groups_only : Sqe → Bool
groups_only e = (e.cdw10 / 256) % 2 == 1

-- the first check that fails, or 0
unfoldable pub log_status : Sqe → ℕ
log_status e =
    if not (log_id e == CHANGED_NAMESPACES) && not (log_id e == ANA_LOG) then INVALID_FIELD
    else if not (log_offset e % 4 == 0) then INVALID_FIELD
    else if not (e.sgl_len == log_len e) then DATA_SGL_LENGTH_INVALID
    else if nat_lt MOST_READ e.sgl_len then INVALID_FIELD
    else SUCCESS

-- the page of the log, where this is the serial of the last clearing read of the changed list
abbrev pub log_page : View → ℕ → Sqe → List ℕ
log_page v cleared e =
    if is_changed_log e then list_bytes (chosen_nsids (Changed cleared) v)
    else ana_bytes v (groups_only e)

-- the part of it that a command asks for
abbrev pub log_bytes : View → ℕ → Sqe → List ℕ
log_bytes v cleared e = window (log_offset e) e.sgl_len (log_page v cleared e)

abbrev pub log_of : Sqe → Log
log_of e = if is_changed_log e then logs.Changed else logs.Ana

-- the events after a successful read
unfoldable pub log_events : View → Sqe → Events → Events
log_events v e k = if retains e then k else read_at (log_of e) v.serial (caught_up_with v k)
