-- The extents that a table's slots hold as a run begins.
use Rattle.std.specs.Prelude.{◌≡◌, ◌<◌, ℕ, ◌+◌, ◌*◌, List, length, Some}
use Rattle.std.specs.List.{flat_map, slice_get}
use Rattle.mem_bdev.specs.Blocks.{Blocks, IsShape}
use Rattle.disk_extents.specs.Extents.{Part, extent, extents}

-- each disk has a shape that a plan may give it
abbrev pub HaveShapes : List Blocks → Type 0
HaveShapes disks = (i : ℕ) (d : Blocks) → slice_get disks i ≡ Some d
    → IsShape d.shift (length d.blocks)

-- the eight extents of each disk, disk after disk
abbrev pub slots_of : List Blocks → List Part
slots_of disks = flat_map extents disks

-- extent e of disk number i is in slot 8 i + e
abbrev pub SlotsAreExtents : Type 0
SlotsAreExtents = (disks : List Blocks) (i e : ℕ) (d : Blocks) → slice_get disks i ≡ Some d → e < 8
    → slice_get (slots_of disks) (8 * i + e) ≡ Some (extent d e)
