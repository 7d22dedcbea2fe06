-- What stays in a run: the sizes of disks, and that what is held is what its capsule asks.
use Rattle.std.specs.Prelude.{◌≡◌, ◌≤◌, ℕ, ◌==◌, if◌then◌else◌, List, [], length, Option, Some, None}
use Rattle.std.specs.List.{AllByRecursion, slice_get}
use Rattle.mem_bdev.specs.Blocks.{Blocks}
use Rattle.sqe_cqe.specs.declared.sqe.Sqe.{Sqe}
use Rattle.sqe_cqe.specs.declared.codes.TheConstants.{WRITE, READ, WRITE_ZEROES}
use Rattle.sqe_cqe.specs.Sqe.{payload_len}
use Rattle.io_commands.specs.declared.jobs.Job.{Job}
use Rattle.io_commands.specs.declared.jobs.Job.TheVariants as job
use Rattle.io_commands.specs.Admission.{first_block, block_count}
use Rattle.io_commands.specs.Jobs.{disk_of, FitsDisk, HasData}
use Rattle.tree_target.specs.declared.calls.Command.{Command}
use Rattle.tree_target.specs.Model.{Target}
use Rattle.target_states.specs.Inputs.{Inputs}
use Rattle.target_states.specs.States.{Begun}

-- what an entry asks of the disk with this number
abbrev pub asked_of : Sqe → ℕ → Job
asked_of e disk =
    if e.opcode == WRITE then job.Write disk (first_block e) (block_count e)
    else (if e.opcode == READ then job.Read disk (first_block e) (block_count e)
    else (if e.opcode == WRITE_ZEROES then job.Zero disk (first_block e) (block_count e)
    else job.Flush disk))

-- the base 2 logarithm of the block size, and the number of blocks, of a disk that is there
abbrev pub size_of : Option Blocks → Option (ℕ × ℕ)
size_of None = None
size_of (Some d) = Some (d.shift, length d.blocks)

abbrev pub size_at : List Blocks → ℕ → Option (ℕ × ℕ)
size_at blocks disk = size_of (slice_get blocks disk)

-- ---- the start
-- a capsule's data are as long as its entry says
abbrev pub AreWhole : Inputs → Type 0
AreWhole i = (queue number : ℕ) → length (i.payload queue number) ≡ payload_len (i.entry queue number)

-- no command is held, and there are at most 64 disks
pub record IsStart (g : Begun) : Type 0 where
  pub idle : g.target.held ≡ []
  pub few_disks : length g.target.blocks ≤ 64
  pub whole : AreWhole g.inputs

-- ---- what stays
-- a held command does what its capsule asks, under its command identifier. It lies on its disk, and
-- has its data
pub record IsAsked (i : Inputs) (blocks : List Blocks) (h : Command) : Type 0 where
  pub shift : ℕ
  pub count : ℕ
  pub there : size_at blocks (disk_of h.job) ≡ Some (shift, count)
  pub job_is : h.job ≡ asked_of (i.entry h.queue h.number) (disk_of h.job)
  pub cid_is : h.cid ≡ (i.entry h.queue h.number).cid
  pub fits : FitsDisk h.job shift count
  pub has_data : HasData h.job shift (length (i.payload h.queue h.number))

pub record IsKept (g : Begun) (t : Target) : Type 0 where
  pub sizes : (disk : ℕ) → size_at t.blocks disk ≡ size_at g.target.blocks disk
  pub asked : AllByRecursion (IsAsked g.inputs g.target.blocks) t.held
