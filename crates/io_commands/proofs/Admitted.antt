-- What is admitted is a job on the namespace that is seen.
use Rattle.std.proofs.Common.{◌≡◌, ◌≢◌, ◌≤◌, ◌+◌, ◌*◌, ◌^◌, ℕ, nat_lt, ◌==◌, ◌&&◌, ◌||◌, Bool, true, false, not, cond, IsTrue, refl, sym, subst, ◌∙◌, arith}
use Rattle.std.proofs.Math.Bool.{or-true}
use Rattle.mem_bdev.specs.declared.limits.TheConstants.{MAX_TRANSFER}
use Rattle.sqe_cqe.specs.declared.sqe.Sqe.{Sqe}
use Rattle.sqe_cqe.specs.declared.rows.NsRow.{NsRow}
use Rattle.sqe_cqe.specs.declared.rows.Seen.{Seen}
use Rattle.sqe_cqe.specs.declared.rows.Seen.TheVariants.{NotConfigured, Off, On}
use Rattle.sqe_cqe.specs.declared.rows.Ana.{Ana}
use Rattle.sqe_cqe.specs.declared.rows.Ana.TheVariants.{Optimized, NonOptimized, Inaccessible, PersistentLoss, Changing}
use Rattle.sqe_cqe.specs.declared.way.Direction.{Direction}
use Rattle.sqe_cqe.specs.declared.way.Direction.TheVariants.{Nothing, ToController, ToHost, Both}
use Rattle.sqe_cqe.specs.declared.codes.TheConstants.{FLUSH, WRITE, READ, WRITE_ZEROES, SGL, INVALID_OPCODE, INVALID_FIELD, COMMAND_SEQUENCE_ERROR, DATA_SGL_LENGTH_INVALID, LBA_OUT_OF_RANGE}
use Rattle.sqe_cqe.specs.Answers.{View}
use Rattle.sqe_cqe.specs.Sqe.{payload_len, payload_by, host_len, host_by, direction_of}
use Rattle.io_commands.specs.declared.jobs.Job.{Job}
use Rattle.io_commands.specs.declared.jobs.Job.TheVariants as jobs
use Rattle.io_commands.specs.declared.jobs.Admit.{Admit}
use Rattle.io_commands.specs.declared.jobs.Admit.TheVariants.{Refused, Run}
use Rattle.io_commands.specs.Admission.{is_io, job_of, by_range, by_bars, by_state, by_namespace, io_admission, bytes_named, moves_data, first_block, block_count, IsJobOf, IsOnSeen, FitsSeen}

-- an entry whose SGL names no bytes has no data either way
none_taken : (way : Direction) → payload_by way 0 ≡ 0
none_taken Nothing = refl
none_taken ToController = refl
none_taken ToHost = refl
none_taken Both = refl

none_given : (way : Direction) → host_by way 0 ≡ 0
none_given Nothing = refl
none_given ToController = refl
none_given ToHost = refl
none_given Both = refl

no_payload : (e : Sqe) → e.sgl_len ≡ 0 → payload_len e ≡ 0
unfolding payload_len
no_payload e none = rw none (none_taken _)

no_host : (e : Sqe) → e.sgl_len ≡ 0 → host_len e ≡ 0
unfolding host_len
no_host e none = rw none (none_given _)

-- a Write's data go to the controller, a Read's to the host
write_lens : (e : Sqe) → e.opcode ≡ WRITE → (payload_len e ≡ e.sgl_len) × (host_len e ≡ 0)
unfolding payload_len host_len direction_of
write_lens e op = rw op (refl, refl)

read_lens : (e : Sqe) → e.opcode ≡ READ → (payload_len e ≡ 0) × (host_len e ≡ e.sgl_len)
unfolding payload_len host_len direction_of
read_lens e op = rw op (refl, refl)

-- by which of the commands it is
job_by : (e : Sqe) (row : NsRow) (w r z : Bool) → (e.opcode == WRITE) ≡ w → (e.opcode == READ) ≡ r
    → (e.opcode == WRITE_ZEROES) ≡ z
    → (e.opcode ≢ FLUSH → first_block e + block_count e ≤ row.blocks)
    → e.sgl_len ≡ (cond (w || r) (block_count e * 2 ^ row.shift) 0)
    → (IsTrue (w || r) → e.sgl_len ≤ MAX_TRANSFER)
    → IsJobOf e row (cond w (jobs.Write row.disk (first_block e) (block_count e)) (cond r (jobs.Read row.disk (first_block e) (block_count e)) (cond z (jobs.Zero row.disk (first_block e) (block_count e)) (jobs.Flush row.disk))))
job_by e row true r z isw isr isz inside len few =
    let op : e.opcode ≡ WRITE = grind arith in
    let other : e.opcode ≢ FLUSH = grind arith in
    let lens = write_lens e op in
    record {
      disk = refl;
      fits = record { inside = inside other; taken = omega (arith, few refl, len); given = omega arith };
      taken = sym len ∙ sym lens.0;
      given = sym lens.1;
    }
job_by e row false true z isw isr isz inside len few =
    let op : e.opcode ≡ READ = grind arith in
    let other : e.opcode ≢ FLUSH = grind arith in
    let lens = read_lens e op in
    let moves : IsTrue (false || true) = subst (λ (b : Bool). IsTrue b) (sym (or-true false)) refl in
    record {
      disk = refl;
      fits = record { inside = inside other; taken = omega arith; given = omega (arith, few moves, len) };
      taken = sym lens.0;
      given = sym len ∙ sym lens.1;
    }
job_by e row false false true isw isr isz inside len few =
    let op : e.opcode ≡ WRITE_ZEROES = grind arith in
    let other : e.opcode ≢ FLUSH = grind arith in
    record {
      disk = refl;
      fits = record { inside = inside other; taken = omega arith; given = omega arith };
      taken = sym (no_payload e len);
      given = sym (no_host e len);
    }
job_by e row false false false isw isr isz inside len few = record {
  disk = refl;
  fits = record { inside = omega arith; taken = omega arith; given = omega arith };
  taken = sym (no_payload e len);
  given = sym (no_host e len);
}

-- the job of a command whose range, length and transfer are in order
pub job_of_fits : (e : Sqe) (row : NsRow)
    → (e.opcode ≢ FLUSH → first_block e + block_count e ≤ row.blocks)
    → e.sgl_len ≡ bytes_named e row
    → (IsTrue (moves_data e.opcode) → e.sgl_len ≤ MAX_TRANSFER) → IsJobOf e row (job_of e row)
job_of_fits e row inside len few = job_by e row (e.opcode == WRITE) (e.opcode == READ) (e.opcode == WRITE_ZEROES) refl refl refl inside len few

not_run : (status : ℕ) (job : Job) → Refused status ≡ Run job → ⊥
not_run status job e = cc

run_same : (j k : Job) → Run j ≡ Run k → j ≡ k
run_same j k e = cc

-- a check that a command passed
cond_ran : (b : Bool) (status : ℕ) (x : Admit) (job : Job) → cond b (Refused status) x ≡ Run job
    → (b ≡ false) × (x ≡ Run job)
cond_ran true status x job e = absurd (not_run status job e)
cond_ran false status x job e = (refl, e)

cond_bars : (b : Bool) (status : ℕ) (x : Admit) (job : Job) → cond b x (Refused status) ≡ Run job
    → x ≡ Run job
cond_bars true status x job e = e
cond_bars false status x job e = absurd (not_run status job e)

-- what the checks of range, length and transfer say of a command that passed them
within : (e : Sqe) (row : NsRow)
    → (not (e.opcode == FLUSH) && nat_lt row.blocks (first_block e + block_count e)) ≡ false
    → e.opcode ≢ FLUSH → first_block e + block_count e ≤ row.blocks
within e row off other = grind arith

named : (e : Sqe) (row : NsRow) → not (e.sgl_len == bytes_named e row) ≡ false
    → e.sgl_len ≡ bytes_named e row
named e row same = grind arith

carried : (e : Sqe) (row : NsRow) → (moves_data e.opcode && nat_lt MAX_TRANSFER e.sgl_len) ≡ false
    → IsTrue (moves_data e.opcode)
    → e.sgl_len ≤ MAX_TRANSFER
carried e row small moves = grind arith

range_job : (e : Sqe) (row : NsRow) (job : Job) → by_range e row ≡ Run job → IsJobOf e row job
unfolding by_range
range_job e row job is =
    let x3 : Admit = Run (job_of e row) in
    let b3 = moves_data e.opcode && nat_lt MAX_TRANSFER e.sgl_len in
    let b2 = not (e.sgl_len == bytes_named e row) in
    let b1 = not (e.opcode == FLUSH) && nat_lt row.blocks (first_block e + block_count e) in
    let x2 : Admit = cond b3 (Refused INVALID_FIELD) x3 in
    let x1 : Admit = cond b2 (Refused DATA_SGL_LENGTH_INVALID) x2 in
    let a = cond_ran b1 LBA_OUT_OF_RANGE x1 job is in
    let b = cond_ran b2 DATA_SGL_LENGTH_INVALID x2 job a.1 in
    let c = cond_ran b3 INVALID_FIELD x3 job b.1 in
    let off : not (e.opcode == FLUSH) && nat_lt row.blocks (first_block e + block_count e) ≡ false = a.0 in
    let same : not (e.sgl_len == bytes_named e row) ≡ false = b.0 in
    let small : moves_data e.opcode && nat_lt MAX_TRANSFER e.sgl_len ≡ false = c.0 in
    subst (λ (j : Job). IsJobOf e row j) (run_same (job_of e row) job c.1) (job_of_fits e row (within e row off) (named e row same) (carried e row small))

bars_job : (e : Sqe) (row : NsRow) (status : ℕ) (job : Job) → by_bars e row status ≡ Run job
    → IsJobOf e row job
unfolding by_bars
bars_job e row status job is = range_job e row job (cond_bars (status == 0) status (by_range e row) job is)

state_job : (e : Sqe) (row : NsRow) (a : Ana) (bars : ℕ) (job : Job)
    → by_state e row a bars ≡ Run job → IsJobOf e row job
unfolding by_state
state_job e row Optimized bars job is = bars_job e row bars job is
state_job e row NonOptimized bars job is = bars_job e row bars job is
state_job e row Inaccessible bars job is = absurd (not_run _ job is)
state_job e row PersistentLoss bars job is = absurd (not_run _ job is)
state_job e row Changing bars job is = absurd (not_run _ job is)

namespace_job : (v : View) (e : Sqe) (s : Seen) (job : Job) → v.ns e.nsid ≡ s
    → by_namespace v e s ≡ Run job → IsOnSeen v e job
unfolding by_namespace
namespace_job v e NotConfigured job seen is = absurd (not_run _ job is)
namespace_job v e Off job seen is = absurd (not_run _ job is)
namespace_job v e (On row) job seen is = record { row = row; seen = seen; is_job = state_job e row (v.ana row.group) (v.bars e.nsid e.opcode) job is }

pub io_admits : (v : View) (e : Sqe) (job : Job) → io_admission v e ≡ Run job → IsOnSeen v e job
unfolding io_admission
io_admits v e job is =
    let x3 : Admit = by_namespace v e (v.ns e.nsid) in
    let x2 : Admit = cond (not v.ready) (Refused COMMAND_SEQUENCE_ERROR) x3 in
    let x1 : Admit = cond (not (e.flags == SGL)) (Refused INVALID_FIELD) x2 in
    let a = cond_ran (not (is_io e.opcode)) INVALID_OPCODE x1 job is in
    let b = cond_ran (not (e.flags == SGL)) INVALID_FIELD x2 job a.1 in
    let c = cond_ran (not v.ready) COMMAND_SEQUENCE_ERROR x3 job b.1 in
    namespace_job v e (v.ns e.nsid) job refl c.1

-- the same of what a command gets, whatever it is
pub fits_seen : (v : View) (e : Sqe) → FitsSeen e (v.ns e.nsid) (io_admission v e)
fits_seen v e = so (io_admission v e) refl where
  so : (a : Admit) → io_admission v e ≡ a → FitsSeen e (v.ns e.nsid) a
  so (Refused status) is = tt
  so (Run job) is = let on = io_admits v e job is in rw on.seen on.is_job
