-- What a submitted command gets.
use Rattle.std.specs.Prelude.{ℕ, zero, suc, List, [], Option, Some, None, slice_get, slice_set}
use Rattle.sqe_cqe.specs.declared.sqe.Sqe.{Sqe}
use Rattle.sqe_cqe.specs.declared.codes.TheConstants.{INVALID_OPCODE}
use Rattle.sqe_cqe.specs.declared.controllers.Bound.{Bound as PlacedBound}
use Rattle.sqe_cqe.specs.declared.controllers.ControllerRow.{ControllerRow}
use Rattle.sqe_cqe.specs.declared.controllers.Ctrl.{Ctrl}
use Rattle.sqe_cqe.specs.Answers.{View}
use Rattle.admin_commands.specs.declared.admit.AdminReply.{AdminReply}
use Rattle.admin_commands.specs.declared.admit.AdminReply.TheVariants as admin
use Rattle.async_events.specs.declared.events.Events.{Events}
use Rattle.admin_commands.specs.Admin.{admin_reply, admin_bytes, events_after, polled, event_of}
use Rattle.fabrics_connect.specs.Checks.{numbered}
use Rattle.io_commands.specs.declared.jobs.Job.{Job}
use Rattle.io_commands.specs.declared.jobs.Admit.{Admit}
use Rattle.io_commands.specs.declared.jobs.Admit.TheVariants as io
use Rattle.io_commands.specs.Admission.{io_admission}
use Rattle.tree_target.specs.Model.{Bound, Binding, Target, binding_at}
use Rattle.tree_target.specs.Views.{view_at}
use Rattle.tree_target.specs.Controls.{placed_bound}

-- a status with a result and bytes for the host; or it waits, as an event request; or it is held
-- with its job
pub data Admission : Type 0 where
  Completes : ℕ → ℕ → List ℕ → Admission
  Waits : Admission
  Holds : Job → Admission

abbrev pub refused : ℕ → Admission
refused status = Completes status 0 []

abbrev pub of_admit : Admit → Admission
of_admit (io.Refused status) = refused status
of_admit (io.Run job) = Holds job

-- ---- admin queues
abbrev pub of_reply : List ℕ → AdminReply → Admission
of_reply bytes (admin.Completes status result) = Completes status result bytes
of_reply bytes admin.Waits = Waits

-- the events of the controller with a number, from 1
abbrev pub events_numbered : List Events → ℕ → Option Events
events_numbered events zero = None
events_numbered events (suc n) = slice_get events n

abbrev pub put_events : List Events → ℕ → Events → List Events
put_events events zero k = events
put_events events (suc n) k = slice_set events n k

-- a controller, as its admin queue is bound to it
abbrev pub as_bound : PlacedBound → ControllerRow → Ctrl
as_bound b c = record c.ctrl { bound = b }

-- a queue whose controller isn't there serves no command
abbrev pub of_controller : View → PlacedBound → Sqe → Option ControllerRow → Option Events
    → Admission
of_controller v b e None k = refused INVALID_OPCODE
of_controller v b e (Some c) None = refused INVALID_OPCODE
of_controller v b e (Some c) (Some k) =
    of_reply (admin_bytes v (as_bound b c) k e) (admin_reply v k e)

-- the events after something that happens to those of one controller
abbrev pub events_with : (Events → Events) → ℕ → List Events → Option ControllerRow
    → Option Events → List Events
events_with f ctrl events None k = events
events_with f ctrl events (Some c) None = events
events_with f ctrl events (Some c) (Some k) = put_events events ctrl (f k)

abbrev pub admin_admission : Target → Sqe → ℕ → Bound → Admission
admin_admission t e port b = of_controller (view_at t port b) (placed_bound t.tree port b) e
    (numbered t.controllers b.controller) (events_numbered t.events b.controller)

abbrev pub admin_events : Target → (View → Events → Events) → ℕ → Bound → List Events
admin_events t f port b = events_with (f (view_at t port b)) b.controller t.events
    (numbered t.controllers b.controller) (events_numbered t.events b.controller)

-- ---- QID 0 is the admin queue. On another queue the checks are those of I/O commands over what
-- the queue sees
abbrev pub of_qid : Target → Sqe → ℕ → Bound → ℕ → Admission
of_qid t e port b zero = admin_admission t e port b
of_qid t e port b (suc q) = of_admit (io_admission (view_at t port b) e)

abbrev pub of_bound : Target → Sqe → ℕ → Option Bound → Admission
of_bound t e port None = refused INVALID_OPCODE
of_bound t e port (Some b) = of_qid t e port b b.qid

abbrev pub of_binding : Target → Sqe → Option Binding → Admission
of_binding t e None = refused INVALID_OPCODE
of_binding t e (Some b) = of_bound t e b.port b.bound

-- a queue that isn't connected serves no command
unfoldable pub admission : Target → ℕ → Sqe → Admission
admission t queue e = of_binding t e (binding_at t queue)

-- ---- what a call of an admin queue leaves of its controller's events; another queue leaves all
abbrev pub events_by_qid : Target → (View → Events → Events) → ℕ → Bound → ℕ → List Events
events_by_qid t f port b zero = admin_events t f port b
events_by_qid t f port b (suc q) = t.events

abbrev pub events_by_bound : Target → (View → Events → Events) → ℕ → Option Bound → List Events
events_by_bound t f port None = t.events
events_by_bound t f port (Some b) = events_by_qid t f port b b.qid

abbrev pub events_by_binding : Target → (View → Events → Events) → Option Binding → List Events
events_by_binding t f None = t.events
events_by_binding t f (Some b) = events_by_bound t f b.port b.bound

unfoldable pub events_submitted : Target → ℕ → Sqe → List Events
events_submitted t queue e =
    events_by_binding t (λ v k. events_after v k e) (binding_at t queue)

-- ---- polls
unfoldable pub events_polled : Target → ℕ → List Events
events_polled t queue = events_by_binding t polled (binding_at t queue)

-- the event of a controller: the command identifier of the request that it completes, and its
-- result
abbrev pub event_with : View → Option ControllerRow → Option Events → Option (ℕ × ℕ)
event_with v None k = None
event_with v (Some c) None = None
event_with v (Some c) (Some k) = event_of v k

abbrev pub event_by_qid : Target → ℕ → Bound → ℕ → Option (ℕ × ℕ)
event_by_qid t port b zero = event_with (view_at t port b) (numbered t.controllers b.controller)
    (events_numbered t.events b.controller)
event_by_qid t port b (suc q) = None

abbrev pub event_by_bound : Target → ℕ → Option Bound → Option (ℕ × ℕ)
event_by_bound t port None = None
event_by_bound t port (Some b) = event_by_qid t port b b.qid

abbrev pub event_by_binding : Target → Option Binding → Option (ℕ × ℕ)
event_by_binding t None = None
event_by_binding t (Some b) = event_by_bound t b.port b.bound

-- only an admin queue gets events
unfoldable pub event_at : Target → ℕ → Option (ℕ × ℕ)
event_at t queue = event_by_binding t (binding_at t queue)
