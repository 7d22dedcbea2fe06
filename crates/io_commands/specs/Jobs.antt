-- What a held command does to the disk of its namespace, and what it reads there.
use Rattle.std.specs.Prelude.{◌≡◌, ◌≤◌, ℕ, ◌+◌, ◌*◌, ◌^◌, List, []}
use Rattle.mem_bdev.specs.Blocks.{Blocks, range_bytes, written, zeroed}
use Rattle.mem_bdev.specs.declared.limits.TheConstants.{MAX_TRANSFER}
use Rattle.io_commands.specs.declared.jobs.Job.{Job}
use Rattle.io_commands.specs.declared.jobs.Job.TheVariants.{Read, Write, Zero, Flush}

-- the number of the job's disk in the plan, from 0
abbrev pub disk_of : Job → ℕ
disk_of (Read disk lba count) = disk
disk_of (Write disk lba count) = disk
disk_of (Zero disk lba count) = disk
disk_of (Flush disk) = disk

-- the bytes that the host gets
abbrev pub bytes_read : Blocks → Job → List ℕ
bytes_read d (Read disk lba count) = range_bytes d lba count
bytes_read d (Write disk lba count) = []
bytes_read d (Zero disk lba count) = []
bytes_read d (Flush disk) = []

-- the disk after the job, with the data of its capsule
abbrev pub blocks_after : Blocks → Job → List ℕ → Blocks
blocks_after d (Read disk lba count) payload = d
blocks_after d (Write disk lba count) payload = written d lba payload
blocks_after d (Zero disk lba count) payload = zeroed d lba count
blocks_after d (Flush disk) payload = d

-- where the job's blocks end: the number of the block after its last
abbrev pub end_of : Job → ℕ
end_of (Read disk lba count) = lba + count
end_of (Write disk lba count) = lba + count
end_of (Zero disk lba count) = lba + count
end_of (Flush disk) = 0

-- how many bytes of data the job takes from its capsule, with blocks of 2 ^ shift bytes
abbrev pub taken_len : Job → ℕ → ℕ
taken_len (Read disk lba count) shift = 0
taken_len (Write disk lba count) shift = count * 2 ^ shift
taken_len (Zero disk lba count) shift = 0
taken_len (Flush disk) shift = 0

-- how many bytes of data it gives to the host
abbrev pub given_len : Job → ℕ → ℕ
given_len (Read disk lba count) shift = count * 2 ^ shift
given_len (Write disk lba count) shift = 0
given_len (Zero disk lba count) shift = 0
given_len (Flush disk) shift = 0

-- the job's blocks are among so many, of 2 ^ shift bytes, and its data fit a transfer
pub record FitsDisk (job : Job) (shift blocks : ℕ) : Type 0 where
  pub inside : end_of job ≤ blocks
  pub taken : taken_len job shift ≤ MAX_TRANSFER
  pub given : given_len job shift ≤ MAX_TRANSFER

-- the data of a capsule have the length that the job asks; a job that takes none looks at none
abbrev pub HasData : Job → ℕ → ℕ → Type 0
HasData (Read disk lba count) shift len = Unit {0}
HasData (Write disk lba count) shift len = len ≡ count * 2 ^ shift
HasData (Zero disk lba count) shift len = Unit {0}
HasData (Flush disk) shift len = Unit {0}
