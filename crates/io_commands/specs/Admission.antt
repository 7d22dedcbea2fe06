-- Which commands of a connected I/O queue are held, and with which status the others are refused: the checks, in their
-- order, over what the queue sees.
use Rattle.std.specs.Prelude.{◌≡◌, ℕ, ◌+◌, ◌*◌, ◌%◌, ◌^◌, ◌==◌, nat_lt, not, ◌||◌, ◌&&◌, Bool, if◌then◌else◌}
use Rattle.sqe_cqe.specs.declared.sqe.Sqe.{Sqe}
use Rattle.sqe_cqe.specs.declared.codes.TheConstants.{FLUSH, WRITE, READ, WRITE_ZEROES, SGL, INVALID_OPCODE, INVALID_FIELD, INVALID_NAMESPACE, COMMAND_SEQUENCE_ERROR, DATA_SGL_LENGTH_INVALID, LBA_OUT_OF_RANGE, INTERNAL_PATH_ERROR, ANA_PERSISTENT_LOSS, ANA_INACCESSIBLE, ANA_TRANSITION}
use Rattle.sqe_cqe.specs.declared.rows.NsRow.{NsRow}
use Rattle.sqe_cqe.specs.declared.rows.Seen.{Seen}
use Rattle.sqe_cqe.specs.declared.rows.Seen.TheVariants.{NotConfigured, Off, On}
use Rattle.sqe_cqe.specs.declared.rows.Ana.{Ana}
use Rattle.sqe_cqe.specs.declared.rows.Ana.TheVariants.{Optimized, NonOptimized, Inaccessible, PersistentLoss, Changing}
use Rattle.mem_bdev.specs.declared.limits.TheConstants.{MAX_TRANSFER}
use Rattle.sqe_cqe.specs.Sqe.{payload_len, host_len}
use Rattle.sqe_cqe.specs.Answers.{View}
use Rattle.io_commands.specs.declared.jobs.Job.{Job}
use Rattle.io_commands.specs.declared.jobs.Job.TheVariants as job
use Rattle.io_commands.specs.declared.jobs.Admit.{Admit}
use Rattle.io_commands.specs.declared.jobs.Admit.TheVariants.{Refused, Run}
use Rattle.io_commands.specs.Jobs.{disk_of, taken_len, given_len, FitsDisk}

-- the commands of I/O queues
abbrev pub is_io : ℕ → Bool
is_io opcode = (opcode == FLUSH) || ((opcode == WRITE) || ((opcode == READ) || (opcode == WRITE_ZEROES)))

-- the commands that move data
abbrev pub moves_data : ℕ → Bool
moves_data opcode = (opcode == WRITE) || (opcode == READ)

-- SLBA: dwords 10 and 11, low half first
abbrev pub first_block : Sqe → ℕ
first_block e = e.cdw10 + e.cdw11 * 2 ^ 32

-- NLB is dword 12 15:0, counted from 0
abbrev pub block_count : Sqe → ℕ
block_count e = e.cdw12 % 2 ^ 16 + 1

-- what a held command does on the disk of its namespace
abbrev pub job_of : Sqe → NsRow → Job
job_of e row =
    if e.opcode == WRITE then job.Write row.disk (first_block e) (block_count e)
    else (if e.opcode == READ then job.Read row.disk (first_block e) (block_count e)
    else (if e.opcode == WRITE_ZEROES then job.Zero row.disk (first_block e) (block_count e)
    else job.Flush row.disk))

-- how many bytes of data the command moves
abbrev pub bytes_named : Sqe → NsRow → ℕ
bytes_named e row = if moves_data e.opcode then block_count e * 2 ^ row.shift else 0

-- the range, which is a sum of whole numbers; the SGL length; the largest transfer
unfoldable pub by_range : Sqe → NsRow → Admit
by_range e row =
    if not (e.opcode == FLUSH) && nat_lt row.blocks (first_block e + block_count e) then Refused LBA_OUT_OF_RANGE
    else (if not (e.sgl_len == bytes_named e row) then Refused DATA_SGL_LENGTH_INVALID
    else (if moves_data e.opcode && nat_lt MAX_TRANSFER e.sgl_len then Refused INVALID_FIELD
    else Run (job_of e row)))

-- what bars the controller from the command, before these
unfoldable pub by_bars : Sqe → NsRow → ℕ → Admit
by_bars e row status = if status == 0 then by_range e row else Refused status

-- the state of the namespace's ANA group, before these
unfoldable pub by_state : Sqe → NsRow → Ana → ℕ → Admit
by_state e row Optimized bars = by_bars e row bars
by_state e row NonOptimized bars = by_bars e row bars
by_state e row Inaccessible bars = Refused ANA_INACCESSIBLE
by_state e row PersistentLoss bars = Refused ANA_PERSISTENT_LOSS
by_state e row Changing bars = Refused ANA_TRANSITION

-- what stands at the NSID, before these
unfoldable pub by_namespace : View → Sqe → Seen → Admit
by_namespace v e NotConfigured = Refused INVALID_NAMESPACE
by_namespace v e Off = Refused INTERNAL_PATH_ERROR
by_namespace v e (On row) = by_state e row (v.ana row.group) (v.bars e.nsid e.opcode)

-- the opcode, the flags, the controller, before these
unfoldable pub io_admission : View → Sqe → Admit
io_admission v e =
    if not (is_io e.opcode) then Refused INVALID_OPCODE
    else (if not (e.flags == SGL) then Refused INVALID_FIELD
    else (if not v.ready then Refused COMMAND_SEQUENCE_ERROR
    else by_namespace v e (v.ns e.nsid)))

-- a job of this entry on this namespace: it is on its disk and fits it, and its data are as long as the entry says, both
-- ways
pub record IsJobOf (e : Sqe) (row : NsRow) (job : Job) : Type 0 where
  pub disk : disk_of job ≡ row.disk
  pub fits : FitsDisk job row.shift row.blocks
  pub taken : taken_len job row.shift ≡ payload_len e
  pub given : given_len job row.shift ≡ host_len e

-- what an admitted command does is a job on this namespace
abbrev pub FitsRow : Sqe → NsRow → Admit → Type 0
FitsRow e row (Refused status) = Unit {0}
FitsRow e row (Run job) = IsJobOf e row job

-- what an admitted command does is a job on the namespace that stands there
abbrev pub FitsSeen : Sqe → Seen → Admit → Type 0
FitsSeen e seen (Refused status) = Unit {0}
FitsSeen e NotConfigured (Run job) = ⊥
FitsSeen e Off (Run job) = ⊥
FitsSeen e (On row) (Run job) = FitsRow e row (Run job)

-- an enabled namespace is seen at the entry's NSID, and the job is one on it
pub record IsOnSeen (v : View) (e : Sqe) (job : Job) : Type 0 where
  pub row : NsRow
  pub seen : v.ns e.nsid ≡ On row
  pub is_job : IsJobOf e row job

-- what is admitted is on the disk of a row that is seen
abbrev pub AdmittedIsOnSeen : Type 0
AdmittedIsOnSeen = (v : View) (e : Sqe) (job : Job) → io_admission v e ≡ Run job → IsOnSeen v e job
