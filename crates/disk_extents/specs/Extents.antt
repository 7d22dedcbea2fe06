-- A disk in eight extents. Blocks and extents are counted from 0.
use Rattle.std.specs.Prelude.{◌≡◌, ◌≤◌, ◌<◌, ℕ, ◌+◌, ◌-◌, ◌*◌, ◌/◌, nat_lt, ◌↔◌, List, length, take, drop, map, if◌then◌else◌}
use Rattle.std.proofs.Common.{min, max}
use Rattle.std.specs.List.{flat_map, range_with_len}
use Rattle.mem_bdev.specs.Blocks.{Blocks}

-- an extent: the number that its first block has on the disk, and its own blocks
pub record Part : Type 0 where
  pub first : ℕ
  pub held : Blocks

-- how many blocks an extent has, but for those at the end: an eighth of the disk's, and at least
-- one
abbrev pub eighth : ℕ → ℕ
eighth blocks = max 1 (blocks / 8)

-- the extent in which a block lies, on a disk of so many blocks
abbrev pub extent_number : ℕ → ℕ → ℕ
extent_number blocks i = min (i / eighth blocks) 7

-- the block at which an extent begins; extent 8, which isn't there, begins where the disk ends
abbrev pub edge : ℕ → ℕ → ℕ
edge blocks e = if nat_lt e 8 then min (e * eighth blocks) blocks else blocks

-- this extent of a disk
abbrev pub extent : Blocks → ℕ → Part
extent d e =
    let n = length d.blocks in
    record {
      first = edge n e;
      held = record d { blocks = take (edge n (e + 1) - edge n e) (drop (edge n e) d.blocks) };
    }

-- all eight, in rising order
abbrev pub extents : Blocks → List Part
extents d = map (extent d) (range_with_len 0 8)

-- an extent has the blocks whose number it is, and no others
abbrev pub EdgesAreByNumber : Type 0
EdgesAreByNumber = (blocks i e : ℕ) → i < blocks → e < 8
    → (extent_number blocks i ≡ e) ↔ ((edge blocks e ≤ i) × (i < edge blocks (e + 1)))

-- the blocks of the extents, one extent after the other, are the disk's
abbrev pub ExtentsAreTheDisk : Type 0
ExtentsAreTheDisk = (d : Blocks) → flat_map (λ (x : Part). x.held.blocks) (extents d) ≡ d.blocks
