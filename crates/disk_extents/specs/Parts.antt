-- The part of a job that falls on one extent.
use Rattle.std.specs.Prelude.{ℕ, ◌+◌, ◌-◌, ◌*◌, ◌^◌, List, [], length, take, drop, nat_lt, if◌then◌else◌}
use Rattle.std.proofs.Common.{min, max}
use Rattle.io_commands.specs.declared.jobs.Job.{Job}
use Rattle.io_commands.specs.declared.jobs.Job.TheVariants.{Read, Write, Zero, Flush}
use Rattle.io_commands.specs.Jobs.{blocks_after, bytes_read, given_len}
use Rattle.disk_extents.specs.Extents.{Part}

-- where the extent ends: the number, on the disk, of the block after its last
abbrev pub end_of_part : Part → ℕ
end_of_part x = x.first + length x.held.blocks

-- where what the extent has of a range begins, and where it ends, in the disk's numbers
abbrev pub met_first : Part → ℕ → ℕ
met_first x lba = max x.first lba

abbrev pub met_end : Part → ℕ → ℕ → ℕ
met_end x lba count = min (end_of_part x) (lba + count)

-- the job on what the extent has of its range, in the extent's own numbers; where it has none,
-- nothing is to be done
abbrev pub on_part : Part → ℕ → ℕ → ℕ → (ℕ → ℕ → Job) → Job
on_part x disk lba count job =
    if nat_lt (met_first x lba) (met_end x lba count)
    then job (met_first x lba - x.first) (met_end x lba count - met_first x lba)
    else Flush disk

abbrev pub part_of : Part → Job → Job
part_of x (Read disk lba count) = on_part x disk lba count (Read disk)
part_of x (Write disk lba count) = on_part x disk lba count (Write disk)
part_of x (Zero disk lba count) = on_part x disk lba count (Zero disk)
part_of x (Flush disk) = Flush disk

-- of a Write's data, the blocks that fall on the extent
abbrev pub piece_of : Part → Job → List ℕ → List ℕ
piece_of x (Read disk lba count) payload = []
piece_of x (Write disk lba count) payload =
    take ((met_end x lba count - met_first x lba) * 2 ^ x.held.shift)
    (drop ((met_first x lba - lba) * 2 ^ x.held.shift) payload)
piece_of x (Zero disk lba count) payload = []
piece_of x (Flush disk) payload = []

-- the extent after its part of the job
abbrev pub part_after : Part → Job → List ℕ → Part
part_after x job payload = record x {
  held = blocks_after x.held (part_of x job) (piece_of x job payload);
}

-- the bytes that the host gets of it
abbrev pub part_read : Part → Job → List ℕ
part_read x job = bytes_read x.held (part_of x job)

-- how many these are
abbrev pub part_len : Part → Job → ℕ
part_len x job = given_len (part_of x job) x.held.shift
