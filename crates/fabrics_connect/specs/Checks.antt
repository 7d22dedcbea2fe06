-- What a fabrics command gets: the checks in their order, and what is accepted.
use Rattle.std.specs.Prelude.{◌+◌, ◌%◌, ◌^◌, ◌-◌, ℕ, zero, suc, ◌==◌, ◌&&◌, ◌||◌, not, nat_lt, Bool, false, List, [], ◌∷◌, length, Option, Some, None, if◌then◌else◌, slice_get}
use Rattle.std.specs.Option.{unwrap_or}
use Rattle.std.specs.Int.{bit_at}
use Rattle.std.specs.FinMap as map
use Rattle.configfs_tree.specs.Links.{place_named, port_place, subsystem_row, port_row, links_it, admits}
use Rattle.configfs_tree.specs.declared.configuration.Configuration.{Configuration}
use Rattle.sqe_cqe.specs.Sqe.{fctype_of}
use Rattle.sqe_cqe.specs.Connect.{connect_of, record_format_of, qid_of, queue_size_of, is_long_property_of, property_offset_of, property_value_of}
use Rattle.sqe_cqe.specs.declared.codes.TheConstants.{CONNECT, PROPERTY_GET, PROPERTY_SET, SGL, INVALID_OPCODE, INVALID_FIELD, DATA_SGL_LENGTH_INVALID, COMMAND_SEQUENCE_ERROR, CONNECT_INCOMPATIBLE_FORMAT, CONNECT_INVALID_PARAMETERS, CONNECT_INVALID_HOST}
use Rattle.sqe_cqe.specs.declared.connect.ConnectData.{ConnectData}
use Rattle.sqe_cqe.specs.declared.controllers.Binding.{Binding}
use Rattle.sqe_cqe.specs.declared.controllers.Bound.{Bound}
use Rattle.sqe_cqe.specs.declared.controllers.ControllerRow.{ControllerRow}
use Rattle.sqe_cqe.specs.declared.sqe.Sqe.{Sqe}
use Rattle.fabrics_connect.specs.declared.answer.Answer.{Answer}
use Rattle.fabrics_connect.specs.declared.answer.Answer.TheVariants.{Refused, Makes, Joins, Reads, Sets}
use Rattle.fabrics_connect.specs.declared.connect.TheConstants.{CONNECT_LEN, NEW_CONTROLLER, MAX_QID, MAX_QUEUE_SIZE, CNTLID_IN_DATA, SUBNQN_IN_DATA, HOSTNQN_IN_DATA, QID_IN_ENTRY, SQSIZE_IN_ENTRY}
use Rattle.fabrics_connect.specs.declared.registers.TheConstants.{OFFSET_CC}
use Rattle.fabrics_connect.specs.Names.{name_or_none, same_name, kept_name}
use Rattle.fabrics_connect.specs.Registers.{property_at}

-- ---- tables of checks
-- a check that fails answers with its status and its result
pub record Check : Type 0 where
  pub fails : Bool
  pub status : ℕ
  pub result : ℕ

abbrev pub check : Bool → ℕ → ℕ → Check
check fails status result = record { fails = fails; status = status; result = result }

-- a parameter of a Connect, which the result names by its place
abbrev pub invalid : Bool → ℕ → Check
invalid fails place = check fails CONNECT_INVALID_PARAMETERS place

abbrev pub refused : ℕ → ℕ → Answer
refused status result = Refused (record { status = status; result = result })

-- the first check that fails decides; if none does, what is accepted
abbrev pub decided : List Check → Answer → Answer
decided [] accepted = accepted
decided (c ∷ checks) accepted =
    if c.fails then refused c.status c.result else decided checks accepted

-- ---- what a Connect asks for
-- the position of the subsystem that the data name
abbrev pub subsystem_asked : Configuration → ConnectData → Option ℕ
subsystem_asked t d = place_named t (name_or_none d.subnqn)

-- the position of the port that the queue comes through
abbrev pub port_asked : Configuration → ℕ → Option ℕ
port_asked t id = port_place (map.get t.settings.ports id)

abbrev pub links_places : Configuration → Option ℕ → Option ℕ → Bool
links_places t None sub = false
links_places t (Some port) None = false
links_places t (Some port) (Some sub) = links_it (port_row t port) (subsystem_row t sub)

-- the queue's port is there and links that subsystem
abbrev pub is_served : Configuration → ℕ → ConnectData → Bool
is_served t id d = links_places t (port_asked t id) (subsystem_asked t d)

abbrev pub admits_at : Configuration → List ℕ → Option ℕ → Bool
admits_at t host None = false
admits_at t host (Some sub) = admits host (subsystem_row t sub)

-- that subsystem allows the host that the data name
abbrev pub is_admitted : Configuration → ConnectData → Bool
is_admitted t d = admits_at t (name_or_none d.hostnqn) (subsystem_asked t d)

-- the controller with this number, from 1
abbrev pub numbered : List ControllerRow → ℕ → Option ControllerRow
numbered controllers zero = None
numbered controllers (suc n) = slice_get controllers n

abbrev pub is_place : Option ℕ → ℕ → Bool
is_place None at = false
is_place (Some place) at = place == at

abbrev pub is_of : Option ℕ → Option ℕ → List ℕ → Option ControllerRow → Bool
is_of sub port host None = false
is_of sub port host (Some c) =
    is_place sub c.ctrl.bound.sub && (is_place port c.ctrl.bound.port && same_name host c.host)

-- that subsystem has a controller at the queue's port with this CNTLID and this host NQN
abbrev pub has_controller : Configuration → List ControllerRow → ℕ → ConnectData → Bool
has_controller t controllers id d =
    is_of (subsystem_asked t d) (port_asked t id) d.hostnqn (numbered controllers d.cntlid)

abbrev pub has_qid : ℕ → Option ControllerRow → Bool
has_qid qid None = false
has_qid qid (Some c) = bit_at c.qids (qid - 1) == 1

-- a QID of the controller with a number is connected
abbrev pub is_taken : List ControllerRow → ℕ → ℕ → Bool
is_taken controllers ctrl qid = has_qid qid (numbered controllers ctrl)

-- the Connect of an admin queue
abbrev pub is_admin : Sqe → Bool
is_admin e = qid_of e == 0

-- ---- Connect, of an entry with its data, on a queue through the port with an ID
abbrev pub connect_checks : Configuration → List ControllerRow → ℕ → Sqe → ConnectData → List Check
connect_checks t controllers id e d =
    check (not (e.sgl_len == CONNECT_LEN)) DATA_SGL_LENGTH_INVALID 0
    ∷ check (not (record_format_of e == 0)) CONNECT_INCOMPATIBLE_FORMAT 0
    ∷ invalid (is_admin e && not (d.cntlid == NEW_CONTROLLER)) CNTLID_IN_DATA
    ∷ invalid (not (is_served t id d)) SUBNQN_IN_DATA
    ∷ check (is_admin e && not (is_admitted t d)) CONNECT_INVALID_HOST HOSTNQN_IN_DATA
    ∷ invalid (not (is_admin e) && not (has_controller t controllers id d)) CNTLID_IN_DATA
    ∷ invalid (nat_lt MAX_QID (qid_of e)) QID_IN_ENTRY
    ∷ invalid ((queue_size_of e == 0) || nat_lt MAX_QUEUE_SIZE (queue_size_of e)) SQSIZE_IN_ENTRY
    ∷ check (not (is_admin e) && is_taken controllers d.cntlid (qid_of e)) COMMAND_SEQUENCE_ERROR 0
    ∷ []

-- what an accepted Connect binds the queue to
abbrev pub bound_to : Configuration → ℕ → ℕ → ConnectData → ℕ → Bound
bound_to t id ctrl d qid =
    record {
      ctrl = ctrl;
      qid = qid;
      sub = unwrap_or (subsystem_asked t d) 0;
      port = unwrap_or (port_asked t id) 0;
    }

-- an admin queue makes the next controller, an I/O queue joins its own
abbrev pub connected : Configuration → List ControllerRow → ℕ → Sqe → ConnectData → Answer
connected t controllers id e d =
    if is_admin e then Makes (bound_to t id (length controllers + 1) d 0) (kept_name d.hostnqn)
    else Joins (bound_to t id d.cntlid d (qid_of e))

unfoldable pub connect_answer : Configuration → List ControllerRow → ℕ → Sqe → ConnectData → Answer
connect_answer t controllers id e d =
    decided (connect_checks t controllers id e d) (connected t controllers id e d)

-- ---- properties
abbrev pub read_answer : Option ℕ → Answer
read_answer None = refused INVALID_FIELD 0
read_answer (Some value) = Reads value

-- four bytes at CC can be set, to the low half of the value
abbrev pub set_answer : Sqe → Answer
set_answer e =
    if is_long_property_of e || not (property_offset_of e == OFFSET_CC) then refused INVALID_FIELD 0
    else Sets (property_value_of e % 2 ^ 32)

abbrev pub accessed : ControllerRow → Sqe → Answer
accessed c e =
    if fctype_of e == PROPERTY_GET
    then read_answer (property_at c (is_long_property_of e) (property_offset_of e))
    else set_answer e

-- of a controller
unfoldable pub property_answer : ControllerRow → Sqe → Answer
property_answer c e =
    decided (check (not (e.sgl_len == 0)) DATA_SGL_LENGTH_INVALID 0 ∷ []) (accessed c e)

abbrev pub property_answer_at : Option ControllerRow → Sqe → Answer
property_answer_at None e = refused INVALID_FIELD 0
property_answer_at (Some c) e = property_answer c e

-- ---- every fabrics command
-- a queue takes Connect until it is connected; then an admin queue takes Property Get and Property
-- Set, and an I/O queue nothing
abbrev pub takes : Option Bound → ℕ → Bool
takes None kind = kind == CONNECT
takes (Some bound) kind = (bound.qid == 0) && ((kind == PROPERTY_GET) || (kind == PROPERTY_SET))

abbrev pub control_checks : Binding → Sqe → List Check
control_checks b e =
    check (not (takes b.bound (fctype_of e))) INVALID_OPCODE 0
    ∷ check (not (e.flags == SGL)) INVALID_FIELD 0
    ∷ []

abbrev pub own_answer : Configuration → List ControllerRow → ℕ → Option Bound → Sqe → List ℕ
    → Answer
own_answer t controllers id None e payload = connect_answer t controllers id e (connect_of payload)
own_answer t controllers id (Some bound) e payload =
    property_answer_at (numbered controllers bound.ctrl) e

unfoldable pub control_answer : Configuration → List ControllerRow → Binding → Sqe → List ℕ → Answer
control_answer t controllers b e payload =
    decided (control_checks b e) (own_answer t controllers b.port b.bound e payload)
