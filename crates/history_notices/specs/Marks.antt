-- What the entries of a target's history are to the controller of an admin queue, and what its
-- notices, its changed list and the count of ANA changes are by them.
--
-- Notices count from the queue's Connect on: every entry up to it passes. An entry is read beside the
-- target before it, since an entry tells an edit and its errno, and not what the edit changed.
use Rattle.std.specs.Prelude.{ℕ, ◌+◌, ◌==◌, ◌||◌, Bool, false, if◌then◌else◌, List, [], ◌∷◌, Option, Some, None, is_some}
use Rattle.sqe_cqe.specs.declared.sqe.Sqe.{Sqe}
use Rattle.sqe_cqe.specs.declared.codes.TheConstants.{SUCCESS}
use Rattle.async_events.specs.Notices.{Mark, Requests, Polls, Passes, Notices, at_connect, notices_after, listed_after}
use Rattle.configfs_tree.specs.Outcome.{Outcome, Refuses, Accepts}
use Rattle.notice_laws.specs.Marks.{mark_of}
use Rattle.tree_target.specs.declared.calls.Reply.{Reply}
use Rattle.tree_target.specs.declared.calls.Reply.TheVariants as replies
use Rattle.tree_target.specs.Edits.{outcome}
use Rattle.tree_target.specs.Model.{Call, Submit, Execute, Poll, Control, AnEdit, DrainEnd, Entry, Bound, Binding, Target, binding_at}
use Rattle.tree_target.specs.Controls.{subsystem_placed, port_placed}
use Rattle.tree_target.specs.Steps.{target_after}
use Rattle.history_notices.specs.Own.{succeeded}

-- ---- one entry
-- a command of the controller's own queue, by its reply: a completion, or that an event request waits
abbrev pub submitted_mark : Sqe → Reply → Mark
submitted_mark e (replies.Answered cqe) = if cqe.status == SUCCESS then succeeded e else Passes
submitted_mark e replies.Waiting = Requests e.cid
submitted_mark e r = Passes

-- an edit, to a controller of the subsystem and the port at these positions
abbrev pub edit_mark : ℕ → ℕ → Outcome → Mark
edit_mark sub port (Refuses errno) = Passes
edit_mark sub port (Accepts u change) = mark_of sub port change

-- a call with its reply, to the controller that this queue is connected to through this port. Of
-- fabrics commands none raises a notice, and a Property Set leaves what waits
abbrev pub mark_for : Target → ℕ → ℕ → Bound → Call → Reply → Mark
mark_for t queue port b (Submit q number e) r = if q == queue then submitted_mark e r else Passes
mark_for t queue port b (Execute q number payload) r = Passes
mark_for t queue port b (Poll q) r = if q == queue then Polls else Passes
mark_for t queue port b (Control q number e payload) r = Passes
mark_for t queue port b (AnEdit line e) r =
    edit_mark (subsystem_placed t.tree b.subsystem) (port_placed t.tree port) (outcome t.tree e)
mark_for t queue port b (DrainEnd line sub nsid) r = Passes

-- a queue that isn't connected yet has no controller
abbrev pub mark_in : Target → ℕ → ℕ → Option Bound → Entry → Mark
mark_in t queue port None e = Passes
mark_in t queue port (Some b) e = mark_for t queue port b e.call e.reply

abbrev pub mark_by : Target → ℕ → Option Binding → Entry → Mark
mark_by t queue None e = Passes
mark_by t queue (Some x) e = mark_in t queue x.port x.bound e

abbrev pub mark_at : Target → ℕ → Entry → Mark
mark_at t queue e = mark_by t queue (binding_at t queue) e

-- ---- a history from a start
abbrev pub marks_from : Target → ℕ → List Entry → List Mark
marks_from t queue [] = []
marks_from t queue (e ∷ entries) =
    mark_at t queue e ∷ marks_from (target_after t e.call) queue entries

-- the target that it leads to
abbrev pub led : Target → List Entry → Target
led t [] = t
led t (e ∷ entries) = led (target_after t e.call) entries

-- the notices of the queue's controller: its bits, what is masked and pending, the event requests
-- that wait
abbrev pub notices_by : Target → ℕ → List Entry → Notices
notices_by start queue entries = notices_after at_connect (marks_from start queue entries)

-- whether an NSID is in its changed list
abbrev pub is_listed : Target → ℕ → List Entry → ℕ → Bool
is_listed start queue entries n = listed_after n false (marks_from start queue entries)

-- ---- ANA changes, of any port and any subsystem
abbrev pub is_ana_change : Outcome → Bool
is_ana_change (Refuses errno) = false
is_ana_change (Accepts u change) = is_some change.ana_port || is_some change.ana_subsystem

abbrev pub one_if : Bool → ℕ
one_if b = if b then 1 else 0

abbrev pub ana_step : Target → Call → ℕ
ana_step t (Submit q number e) = 0
ana_step t (Execute q number payload) = 0
ana_step t (Poll q) = 0
ana_step t (Control q number e payload) = 0
ana_step t (AnEdit line e) = one_if (is_ana_change (outcome t.tree e))
ana_step t (DrainEnd line sub nsid) = 0

abbrev pub ana_changes : Target → List Entry → ℕ
ana_changes t [] = 0
ana_changes t (e ∷ entries) = ana_step t e.call + ana_changes (target_after t e.call) entries
