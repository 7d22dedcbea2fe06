-- What a submit that is held says of the namespace that it is on.
use Rattle.std.proofs.Common.{◌≡◌, ◌+◌, ℕ, zero, suc, ◌==◌, ◌&&◌, not, nat_lt, Bool, true, false, cond, List, [], length, Option, Some, None, refl, sym, ap, subst, ◌∙◌}
use Rattle.std.specs.List.{slice_get}
use Rattle.mem_bdev.specs.Blocks.{Blocks}
use Rattle.mem_bdev.specs.declared.limits.TheConstants.{MAX_TRANSFER}
use Rattle.sqe_cqe.specs.declared.sqe.Sqe.{Sqe}
use Rattle.sqe_cqe.specs.declared.codes.TheConstants.{FLUSH, SGL, INVALID_OPCODE, INVALID_FIELD, COMMAND_SEQUENCE_ERROR, DATA_SGL_LENGTH_INVALID, LBA_OUT_OF_RANGE}
use Rattle.sqe_cqe.specs.declared.rows.NsRow.{NsRow}
use Rattle.sqe_cqe.specs.declared.rows.Seen.{Seen}
use Rattle.sqe_cqe.specs.declared.rows.Seen.TheVariants.{NotConfigured, Off, On}
use Rattle.sqe_cqe.specs.declared.rows.Ana.{Ana}
use Rattle.sqe_cqe.specs.declared.rows.Ana.TheVariants.{Optimized, NonOptimized, Inaccessible, PersistentLoss, Changing}
use Rattle.sqe_cqe.specs.declared.controllers.Bound.{Bound as PlacedBound}
use Rattle.sqe_cqe.specs.declared.controllers.ControllerRow.{ControllerRow}
use Rattle.sqe_cqe.specs.Answers.{View}
use Rattle.async_events.specs.declared.events.Events.{Events}
use Rattle.admin_commands.specs.declared.admit.AdminReply.{AdminReply}
use Rattle.admin_commands.specs.declared.admit.AdminReply.TheVariants as admin
use Rattle.admin_commands.specs.Admin.{admin_reply, admin_bytes}
use Rattle.fabrics_connect.specs.Checks.{numbered}
use Rattle.io_commands.specs.declared.jobs.Job.{Job}
use Rattle.io_commands.specs.declared.jobs.Admit.{Admit}
use Rattle.io_commands.specs.declared.jobs.Admit.TheVariants.{Refused, Run}
use Rattle.io_commands.specs.Admission.{is_io, job_of, by_range, by_bars, by_state, by_namespace, io_admission, bytes_named, moves_data, first_block, block_count, IsJobOf}
use Rattle.io_commands.proofs.Admitted.{io_admits}
use Rattle.configfs_rows.specs.declared.namespaces.NamespaceRow.{NamespaceRow}
use Rattle.tree_target.specs.Model.{Bound, Binding, Target, binding_at}
use Rattle.tree_target.specs.Views.{space_in, row_of, on_blocks, on_disk, seen_of, subsystem_named, view_at}
use Rattle.tree_target.specs.Admission.{Completes, Waits, Holds, of_reply, events_numbered, as_bound, of_controller, of_admit, of_qid, of_bound, of_binding, admission}
use Rattle.tree_target.specs.Controls.{placed_bound}
use Rattle.target_states.specs.Sizes.{asked_of}

-- ---- an admitted command's job is what its entry asks
not_run : (status : ℕ) (job : Job) → Refused status ≡ Run job → ⊥
not_run status job e = cc

run_same : (j k : Job) → Run j ≡ Run k → j ≡ k
run_same j k e = cc

passed : (b : Bool) (status : ℕ) (x : Admit) (job : Job) → cond b (Refused status) x ≡ Run job
    → x ≡ Run job
passed true status x job e = absurd (not_run status job e)
passed false status x job e = e

unbarred : (b : Bool) (status : ℕ) (x : Admit) (job : Job) → cond b x (Refused status) ≡ Run job
    → x ≡ Run job
unbarred true status x job e = e
unbarred false status x job e = absurd (not_run status job e)

range_asked : (e : Sqe) (row : NsRow) (job : Job) → by_range e row ≡ Run job → job ≡ job_of e row
unfolding by_range
range_asked e row job is =
    let x3 : Admit = Run (job_of e row) in
    let b3 = moves_data e.opcode && nat_lt MAX_TRANSFER e.sgl_len in
    let b2 = not (e.sgl_len == bytes_named e row) in
    let b1 = not (e.opcode == FLUSH) && nat_lt row.blocks (first_block e + block_count e) in
    let x2 : Admit = cond b3 (Refused INVALID_FIELD) x3 in
    let x1 : Admit = cond b2 (Refused DATA_SGL_LENGTH_INVALID) x2 in
    let a = passed b1 LBA_OUT_OF_RANGE x1 job is in
    let b = passed b2 DATA_SGL_LENGTH_INVALID x2 job a in
    sym (run_same (job_of e row) job (passed b3 INVALID_FIELD x3 job b))

bars_asked : (e : Sqe) (row : NsRow) (status : ℕ) (job : Job) → by_bars e row status ≡ Run job
    → job ≡ job_of e row
unfolding by_bars
bars_asked e row status job is =
    range_asked e row job (unbarred (status == 0) status (by_range e row) job is)

state_asked : (e : Sqe) (row : NsRow) (a : Ana) (bars : ℕ) (job : Job)
    → by_state e row a bars ≡ Run job → job ≡ job_of e row
unfolding by_state
state_asked e row Optimized bars job is = bars_asked e row bars job is
state_asked e row NonOptimized bars job is = bars_asked e row bars job is
state_asked e row Inaccessible bars job is = absurd (not_run _ job is)
state_asked e row PersistentLoss bars job is = absurd (not_run _ job is)
state_asked e row Changing bars job is = absurd (not_run _ job is)

on_same : (r q : NsRow) → On r ≡ On q → r ≡ q
on_same r q e = cc

namespace_asked : (v : View) (e : Sqe) (s : Seen) (row : NsRow) (job : Job) → s ≡ On row
    → by_namespace v e s ≡ Run job → job ≡ job_of e row
unfolding by_namespace
namespace_asked v e NotConfigured row job seen is = absurd (not_run _ job is)
namespace_asked v e Off row job seen is = absurd (not_run _ job is)
namespace_asked v e (On r) row job seen is =
    state_asked e r (v.ana r.group) (v.bars e.nsid e.opcode) job is
    ∙ ap (job_of e) (on_same r row seen)

io_asked : (v : View) (e : Sqe) (row : NsRow) (job : Job) → v.ns e.nsid ≡ On row
    → io_admission v e ≡ Run job → job ≡ job_of e row
unfolding io_admission
io_asked v e row job seen is =
    let x3 : Admit = by_namespace v e (v.ns e.nsid) in
    let x2 : Admit = cond (not v.ready) (Refused COMMAND_SEQUENCE_ERROR) x3 in
    let x1 : Admit = cond (not (e.flags == SGL)) (Refused INVALID_FIELD) x2 in
    let a = passed (not (is_io e.opcode)) INVALID_OPCODE x1 job is in
    let b = passed (not (e.flags == SGL)) INVALID_FIELD x2 job a in
    let c = passed (not v.ready) COMMAND_SEQUENCE_ERROR x3 job b in
    namespace_asked v e (v.ns e.nsid) row job seen c

-- ---- a row that is seen is an enabled namespace on a disk
pub record OnRow (blocks : List Blocks) (o : Option NamespaceRow) (row : NsRow) : Type 0 where
  pub namespace : NamespaceRow
  pub is : o ≡ Some namespace
  pub enabled : namespace.enabled ≡ true
  pub on : namespace.disk ≡ Some row.disk
  pub disk : Blocks
  pub there : slice_get blocks row.disk ≡ Some disk
  pub shift : row.shift ≡ disk.shift
  pub count : row.blocks ≡ length disk.blocks

not_on : (row : NsRow) → Off ≡ On row → ⊥
not_on row e = cc

not_there : (row : NsRow) → NotConfigured ≡ On row → ⊥
not_there row e = cc

on_there : (blocks : List Blocks) (n : NamespaceRow) (i : ℕ) (row : NsRow) (d : Blocks)
    → slice_get blocks i ≡ Some d → n.enabled ≡ true → n.disk ≡ Some i → row_of i d n ≡ row
    → OnRow blocks (Some n) row
on_there blocks n i row d there on at is =
    subst (λ (r : NsRow). OnRow blocks (Some n) r) is (record {
      namespace = n;
      is = refl;
      enabled = on;
      on = at;
      disk = d;
      there = there;
      shift = refl;
      count = refl;
    })

on_number : (blocks : List Blocks) (n : NamespaceRow) (i : ℕ) (row : NsRow) (d : Option Blocks)
    → slice_get blocks i ≡ d → n.enabled ≡ true → n.disk ≡ Some i → on_blocks i n d ≡ On row
    → OnRow blocks (Some n) row
on_number blocks n i row None there on at e = absurd (not_on row e)
on_number blocks n i row (Some d) there on at e =
    on_there blocks n i row d there on at (on_same (row_of i d n) row e)

on_numbered : (blocks : List Blocks) (n : NamespaceRow) (o : Option ℕ) (row : NsRow)
    → n.enabled ≡ true → n.disk ≡ o → on_disk blocks n o ≡ On row → OnRow blocks (Some n) row
on_numbered blocks n None row on at e = absurd (not_on row e)
on_numbered blocks n (Some i) row on at e =
    on_number blocks n i row (slice_get blocks i) refl on at e

on_enabled : (blocks : List Blocks) (n : NamespaceRow) (row : NsRow) (b : Bool) → n.enabled ≡ b
    → cond b (on_disk blocks n n.disk) Off ≡ On row → OnRow blocks (Some n) row
on_enabled blocks n row true on e = on_numbered blocks n n.disk row on refl e
on_enabled blocks n row false on e = absurd (not_on row e)

pub on_row : (blocks : List Blocks) (o : Option NamespaceRow) (row : NsRow)
    → seen_of blocks o ≡ On row → OnRow blocks o row
on_row blocks None row e = absurd (not_there row e)
on_row blocks (Some n) row e = on_enabled blocks n row n.enabled refl e

-- ---- a held submit
pub record IsAdmitted (t : Target) (e : Sqe) (job : Job) : Type 0 where
  pub row : NsRow
  -- an enabled namespace is on its disk
  pub sub : List ℕ
  pub nsid : ℕ
  pub namespace : NamespaceRow
  pub stands : space_in nsid (subsystem_named t.tree sub) ≡ Some namespace
  pub enabled : namespace.enabled ≡ true
  pub on : namespace.disk ≡ Some row.disk
  pub disk : Blocks
  pub there : slice_get t.blocks row.disk ≡ Some disk
  pub shift : row.shift ≡ disk.shift
  pub count : row.blocks ≡ length disk.blocks
  pub asked : job ≡ asked_of e row.disk
  pub is_job : IsJobOf e row job

not_held : (status result : ℕ) (bytes : List ℕ) (job : Job)
    → Completes status result bytes ≡ Holds job → ⊥
not_held status result bytes job e = cc

not_waiting : (job : Job) → Waits ≡ Holds job → ⊥
not_waiting job e = cc

held_same : (j k : Job) → Holds j ≡ Holds k → j ≡ k
held_same j k e = cc

runs : (a : Admit) (job : Job) → of_admit a ≡ Holds job → a ≡ Run job
runs (Refused status) job e = absurd (not_held status 0 [] job e)
runs (Run j) job e = ap (λ (k : Job). Run k) (held_same j job e)

reply_holds_none : (bytes : List ℕ) (r : AdminReply) (job : Job) → of_reply bytes r ≡ Holds job
    → ⊥
reply_holds_none bytes (admin.Completes status result) job e = not_held status result bytes job e
reply_holds_none bytes admin.Waits job e = not_waiting job e

admin_holds_none : (v : View) (b : PlacedBound) (e : Sqe) (c : Option ControllerRow)
    (o : Option Events) (job : Job) → of_controller v b e c o ≡ Holds job → ⊥
admin_holds_none v b e None o job is = not_held INVALID_OPCODE 0 [] job is
admin_holds_none v b e (Some c) None job is = not_held INVALID_OPCODE 0 [] job is
admin_holds_none v b e (Some c) (Some o) job is =
    reply_holds_none (admin_bytes v (as_bound b c) o e) (admin_reply v o e) job is

qid_admitted : (t : Target) (e : Sqe) (port : ℕ) (b : Bound) (qid : ℕ) (job : Job)
    → of_qid t e port b qid ≡ Holds job → IsAdmitted t e job
qid_admitted t e port b zero job is =
    absurd (admin_holds_none (view_at t port b) (placed_bound t.tree port b) e
    (numbered t.controllers b.controller) (events_numbered t.events b.controller) job is)
qid_admitted t e port b (suc q) job is =
    let run = runs (io_admission (view_at t port b) e) job is in
    let on = io_admits (view_at t port b) e job run in
    let r = on_row t.blocks (space_in e.nsid (subsystem_named t.tree b.subsystem)) on.row on.seen
    in record {
      row = on.row;
      sub = b.subsystem;
      nsid = e.nsid;
      namespace = r.namespace;
      stands = r.is;
      enabled = r.enabled;
      on = r.on;
      disk = r.disk;
      there = r.there;
      shift = r.shift;
      count = r.count;
      asked = io_asked (view_at t port b) e on.row job on.seen run;
      is_job = on.is_job;
    }

bound_admitted : (t : Target) (e : Sqe) (port : ℕ) (b : Option Bound) (job : Job)
    → of_bound t e port b ≡ Holds job → IsAdmitted t e job
bound_admitted t e port None job is = absurd (not_held INVALID_OPCODE 0 [] job is)
bound_admitted t e port (Some b) job is = qid_admitted t e port b b.qid job is

binding_admitted : (t : Target) (e : Sqe) (b : Option Binding) (job : Job)
    → of_binding t e b ≡ Holds job → IsAdmitted t e job
binding_admitted t e None job is = absurd (not_held INVALID_OPCODE 0 [] job is)
binding_admitted t e (Some b) job is = bound_admitted t e b.port b.bound job is

pub admitted : (t : Target) (queue : ℕ) (e : Sqe) (job : Job) → admission t queue e ≡ Holds job
    → IsAdmitted t e job
unfolding admission
admitted t queue e job is = binding_admitted t e (binding_at t queue) job is
