-- The parts of a job on the extents that it touches are the job on the disk.
use Rattle.std.specs.Prelude.{◌≡◌, ◌≤◌, ◌<◌, ℕ, ◌+◌, ◌-◌, ◌↔◌, List, length, nat_lt, if◌then◌else◌}
use Rattle.std.specs.List.{flat_map, range_with_len, sum_by}
use Rattle.mem_bdev.specs.Blocks.{Blocks}
use Rattle.io_commands.specs.declared.jobs.Job.{Job}
use Rattle.io_commands.specs.declared.jobs.Job.TheVariants.{Read, Write, Zero, Flush}
use Rattle.io_commands.specs.Jobs.{HasData, blocks_after, bytes_read, end_of, given_len}
use Rattle.disk_extents.specs.Extents.{extent, extent_number}
use Rattle.disk_extents.specs.Parts.{part_after, part_read, part_len}

-- the job's first block
abbrev pub start_of : Job → ℕ
start_of (Read disk lba count) = lba
start_of (Write disk lba count) = lba
start_of (Zero disk lba count) = lba
start_of (Flush disk) = 0

-- a job touches an extent where one of its blocks lies there
abbrev pub Touches : ℕ → Job → ℕ → Type 0
Touches blocks job e = (i : ℕ) × (start_of job ≤ i) × (i < end_of job)
    × (extent_number blocks i ≡ e)

-- the first extent that a job touches, and the one after the last; 0 and 0 where it has no block
abbrev pub first_touched : ℕ → Job → ℕ
first_touched blocks job = if nat_lt (start_of job) (end_of job)
    then extent_number blocks (start_of job) else 0

abbrev pub end_touched : ℕ → Job → ℕ
end_touched blocks job = if nat_lt (start_of job) (end_of job)
    then extent_number blocks (end_of job - 1) + 1 else 0

-- those that a job touches, in rising order
abbrev pub touched : ℕ → Job → List ℕ
touched blocks job = range_with_len (first_touched blocks job)
    (end_touched blocks job - first_touched blocks job)

-- an extent is touched exactly where it is among them
abbrev pub TouchedAreThose : Type 0
TouchedAreThose = (blocks e : ℕ) (job : Job)
    → Touches blocks job e ↔ ((first_touched blocks job ≤ e) × (e < end_touched blocks job))

-- of a job that fits its disk, with its data
pub record IsTogether (d : Blocks) (job : Job) (payload : List ℕ) : Type 0 where
  -- each extent, after its part, is that of the disk after the job
  pub after : (e : ℕ) → e < 8
      → part_after (extent d e) job payload ≡ extent (blocks_after d job payload) e
  -- one that isn't touched stays
  pub others : (e : ℕ) → e < 8 → ¬ (Touches (length d.blocks) job e)
      → extent (blocks_after d job payload) e ≡ extent d e
  -- what the touched ones give, in rising order, is what the job reads
  pub bytes : flat_map (λ e. part_read (extent d e) job) (touched (length d.blocks) job)
      ≡ bytes_read d job
  pub len : sum_by (λ e. part_len (extent d e) job) (touched (length d.blocks) job)
      ≡ given_len job d.shift

abbrev pub PartsAreTheJob : Type 0
PartsAreTheJob = (d : Blocks) (job : Job) (payload : List ℕ) → end_of job ≤ length d.blocks
    → HasData job d.shift (length payload) → IsTogether d job payload
