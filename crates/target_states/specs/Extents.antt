-- The slots of the running table: which extent of a target's disks stands in each, and which a
-- command touches.
use Rattle.std.specs.Prelude.{◌≡◌, ℕ, ◌/◌, ◌%◌, ◌==◌, ◌&&◌, nat_lt, nat_le, Bool, false, List, Option, Some, None}
use Rattle.std.specs.List.{slice_get}
use Rattle.mem_bdev.specs.Blocks.{Blocks}
use Rattle.ref_state.specs.declared.kinds.Tag.{Tag}
use Rattle.io_commands.specs.declared.jobs.Job.{Job}
use Rattle.disk_extents.specs.Extents.{Part, extent}
use Rattle.disk_extents.specs.Together.{first_touched, end_touched}
use Rattle.tree_target.specs.Model.{Target}
use Rattle.target_states.specs.States.{Begun}
use Rattle.target_states.specs.Sizes.{asked_of, size_at}

-- the eight extents of a disk stand in slots that follow one another, disk after disk
abbrev pub extent_in : ℕ → Option Blocks → Option Part
extent_in e None = None
extent_in e (Some d) = Some (extent d e)

abbrev pub slot_in : List Blocks → ℕ → Option Part
slot_in blocks n = extent_in (n % 8) (slice_get blocks (n / 8))

-- this extent stands in the slot for the target's blocks there
abbrev pub StandsAt : Part → ℕ → Target → Type 0
StandsAt x n t = slot_in t.blocks n ≡ Some x

-- a job touches an extent of a disk of this size
abbrev pub is_touched : Job → ℕ → Option (ℕ × ℕ) → Bool
is_touched job e None = false
is_touched job e (Some size) =
    nat_le (first_touched size.1 job) e && nat_lt e (end_touched size.1 job)

-- what the submit's capsule asks of a disk touches the extent in the slot
abbrev pub touches_of : Begun → Tag → ℕ → ℕ → Bool
touches_of g call disk n = (n / 8 == disk)
    && is_touched (asked_of (g.inputs.entry call.caller call.number) disk) (n % 8)
    (size_at g.target.blocks disk)
