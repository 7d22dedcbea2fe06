-- What a fabrics command leaves, and its completion.
use Rattle.std.specs.Prelude.{◌≡◌, ◌+◌, ◌==◌, ◌&&◌, ◌≤◌, ◌<◌, ◌^◌, ◌-◌, ℕ, zero, suc, Bool, true, false, List, [], ◌∷◌, ◌++◌, length, Option, Some, None, slice_set, slice_get, slice_index, bit_or, IsTrue}
use Rattle.configfs_rows.specs.declared.subsystems.SubsystemRow.{SubsystemRow}
use Rattle.configfs_rows.specs.declared.limits.TheConstants.{MAX_CONTROLLERS}
use Rattle.configfs_tree.specs.Asked.{subsystem_place_taken, port_place_taken}
use Rattle.configfs_tree.specs.Links.{subsystem_row, with_attached}
use Rattle.configfs_tree.specs.declared.configuration.Configuration.{Configuration}
use Rattle.sqe_cqe.specs.Ready.{filled}
use Rattle.sqe_cqe.specs.declared.codes.TheConstants.{SUCCESS}
use Rattle.sqe_cqe.specs.declared.cqe.Cqe.{Cqe}
use Rattle.sqe_cqe.specs.declared.controllers.Binding.{Binding}
use Rattle.sqe_cqe.specs.declared.controllers.Bound.{Bound}
use Rattle.sqe_cqe.specs.declared.controllers.ControllerRow.{ControllerRow}
use Rattle.sqe_cqe.specs.declared.controllers.Ctrl.{Ctrl}
use Rattle.sqe_cqe.specs.declared.sqe.Sqe.{Sqe}
use Rattle.fabrics_connect.specs.declared.answer.Answer.{Answer}
use Rattle.fabrics_connect.specs.declared.answer.Answer.TheVariants.{Refused, Makes, Joins, Reads, Sets}
use Rattle.fabrics_connect.specs.declared.answer.Control.{Control}
use Rattle.fabrics_connect.specs.declared.connect.TheConstants.{MAX_QID}
use Rattle.fabrics_connect.specs.Checks.{numbered}
use Rattle.fabrics_connect.specs.Registers.{after_set, differ}

-- ---- controllers
-- a new controller, as admin commands see it: the texts of its subsystem, filled up
abbrev pub ctrl_at : Bound → Option SubsystemRow → Ctrl
ctrl_at bound None =
    record {
      bound = bound;
      since = 0;
      subnqn = filled 256 0 [];
      serial = filled 20 32 [];
      model_name = filled 40 32 [];
    }
ctrl_at bound (Some s) = record {
  bound = bound;
  since = 0;
  subnqn = filled 256 0 s.nqn;
  serial = filled 20 32 s.serial;
  model_name = filled 40 32 s.model_name;
}

abbrev pub new_ctrl : Configuration → Bound → Ctrl
new_ctrl t bound = ctrl_at bound (subsystem_row t bound.sub)

-- it is not enabled, and no I/O queue is connected
abbrev pub new_controller : Configuration → Bound → List ℕ → ControllerRow
new_controller t bound host =
    record { ctrl = new_ctrl t bound; host = host; cc = 0; csts = 0; qids = 0 }

abbrev pub changed_at : List ControllerRow → ℕ → (ControllerRow → ControllerRow)
    → Option ControllerRow → List ControllerRow
changed_at controllers at f None = controllers
changed_at controllers at f (Some c) = slice_set controllers at (f c)

-- the controllers with the one of a number, from 1, changed
abbrev pub changed : List ControllerRow → ℕ → (ControllerRow → ControllerRow) → List ControllerRow
changed controllers zero f = controllers
changed controllers (suc n) f = changed_at controllers n f (slice_get controllers n)

-- a QID is connected too
abbrev pub with_qid : ℕ → ControllerRow → ControllerRow
with_qid qid c = record c { qids = bit_or c.qids (2 ^ (qid - 1)) }

abbrev pub changed_bound : List ControllerRow → Option Bound → (ControllerRow → ControllerRow)
    → List ControllerRow
changed_bound controllers None f = controllers
changed_bound controllers (Some bound) f = changed controllers bound.ctrl f

-- ---- what is after: an accepted Connect makes a controller or connects a QID, a Property Set
-- changes CC and CSTS, and nothing else changes anything
unfoldable pub controllers_after : Configuration → List ControllerRow → Binding → Answer
    → List ControllerRow
controllers_after t controllers b (Refused fault) = controllers
controllers_after t controllers b (Makes bound host) =
    controllers ++ new_controller t bound host ∷ []
controllers_after t controllers b (Joins bound) =
    changed controllers bound.ctrl (with_qid bound.qid)
controllers_after t controllers b (Reads value) = controllers
controllers_after t controllers b (Sets value) = changed_bound controllers b.bound (after_set value)

-- a new controller is attached to its subsystem and its port
unfoldable pub tree_after : Configuration → Answer → Configuration
tree_after t (Refused fault) = t
tree_after t (Makes bound host) = with_attached t bound.sub bound.port
tree_after t (Joins bound) = t
tree_after t (Reads value) = t
tree_after t (Sets value) = t

unfoldable pub binding_after : Binding → Answer → Binding
binding_after b (Refused fault) = b
binding_after b (Makes bound host) = record b { bound = Some bound }
binding_after b (Joins bound) = record b { bound = Some bound }
binding_after b (Reads value) = b
binding_after b (Sets value) = b

-- ---- what is told
abbrev pub qid_from : Option Bound → ℕ
qid_from None = 0
qid_from (Some bound) = bound.qid

abbrev pub status_of : Answer → ℕ
status_of (Refused fault) = fault.status
status_of (Makes bound host) = SUCCESS
status_of (Joins bound) = SUCCESS
status_of (Reads value) = SUCCESS
status_of (Sets value) = SUCCESS

-- a Connect answers with the controller's number, a Property Get with the property
abbrev pub result_of : Answer → ℕ
result_of (Refused fault) = fault.result
result_of (Makes bound host) = bound.ctrl
result_of (Joins bound) = bound.ctrl
result_of (Reads value) = value
result_of (Sets value) = 0

-- its SQ identifier is the queue's: of a Connect that is accepted the QID that it connects, and 0
-- of one that isn't
unfoldable pub completion_of : Binding → Sqe → Answer → Cqe
completion_of b e a = record {
  result = result_of a;
  sq_head = 0;
  sq_id = qid_from (binding_after b a).bound;
  cid = e.cid;
  status = status_of a;
}

abbrev pub differs_after : ℕ → Option ControllerRow → Bool
differs_after value None = false
differs_after value (Some c) = differ c (after_set value c)

abbrev pub sets_differ : List ControllerRow → Option Bound → ℕ → Bool
sets_differ controllers None value = false
sets_differ controllers (Some bound) value = differs_after value (numbered controllers bound.ctrl)

-- a Connect is published, and a Property Set that changes CC or CSTS
unfoldable pub is_published : List ControllerRow → Binding → Answer → Bool
is_published controllers b (Refused fault) = false
is_published controllers b (Makes bound host) = true
is_published controllers b (Joins bound) = true
is_published controllers b (Reads value) = false
is_published controllers b (Sets value) = sets_differ controllers b.bound value

unfoldable pub made_by : Configuration → Answer → Option Ctrl
made_by t (Refused fault) = None
made_by t (Makes bound host) = Some (new_ctrl t bound)
made_by t (Joins bound) = None
made_by t (Reads value) = None
made_by t (Sets value) = None

unfoldable pub told_by : Configuration → List ControllerRow → Binding → Sqe → Answer → Control
told_by t controllers b e a = record {
  cqe = completion_of b e a;
  published = is_published controllers b a;
  made = made_by t a;
}

-- ---- what a caller keeps
-- a queue that isn't connected may make one more controller
abbrev pub HasRoom : List ControllerRow → Option Bound → Type 0
HasRoom controllers None = length controllers < MAX_CONTROLLERS
HasRoom controllers (Some bound) = Unit {0}

-- at no position more controllers are attached than there are
pub record AttachedAreThere (t : Configuration) (controllers : List ControllerRow) : Type 0 where
  pub subsystems : (at : ℕ) → slice_index t.settings.attached.subsystems at ≤ length controllers
  pub ports : (at : ℕ) → slice_index t.settings.attached.ports at ≤ length controllers

-- a new controller gets the next number, there is room for it, and its positions are in use
pub record FitsNew (t : Configuration) (controllers : List ControllerRow) (bound : Bound) : Type 0
  where
    pub sub : IsTrue (subsystem_place_taken t bound.sub)
    pub port : IsTrue (port_place_taken t bound.port)
    pub admin : bound.qid ≡ 0
    pub next : bound.ctrl ≡ length controllers + 1
    pub room : length controllers < MAX_CONTROLLERS

abbrev pub is_at : ℕ → ℕ → Option ControllerRow → Bool
is_at sub port None = false
is_at sub port (Some c) = (c.ctrl.bound.sub == sub) && (c.ctrl.bound.port == port)

-- an I/O queue gets the positions of its controller, which are in use, and a QID in range
pub record FitsJoined (t : Configuration) (controllers : List ControllerRow) (bound : Bound) : Type
    0
  where
    pub sub : IsTrue (subsystem_place_taken t bound.sub)
    pub port : IsTrue (port_place_taken t bound.port)
    pub qid_low : 1 ≤ bound.qid
    pub qid_high : bound.qid ≤ MAX_QID
    pub theirs : is_at bound.sub bound.port (numbered controllers bound.ctrl) ≡ true

-- what is accepted can be done
abbrev pub FitsAnswer : Configuration → List ControllerRow → Answer → Type 0
FitsAnswer t controllers (Refused fault) = Unit {0}
FitsAnswer t controllers (Makes bound host) = FitsNew t controllers bound
FitsAnswer t controllers (Joins bound) = FitsJoined t controllers bound
FitsAnswer t controllers (Reads value) = Unit {0}
FitsAnswer t controllers (Sets value) = Unit {0}
