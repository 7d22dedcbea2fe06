-- What a write and a zeroing leave, block by block.
use Rattle.std.specs.Prelude.{◌≡◌, ◌≤◌, ◌<◌, ℕ, ◌+◌, ◌*◌, ◌/◌, ◌^◌, List, [], length, take, drop, replicate, slice_index_or}
use Rattle.mem_bdev.specs.Blocks.{Blocks}

-- block i of a disk
abbrev pub block : Blocks → ℕ → List ℕ
block d i = slice_index_or d.blocks i []

-- the disk keeps its shape, and each block outside the range
pub record KeepsOthers (old : Blocks) (lba count : ℕ) (new : Blocks) : Type 0 where
  pub shift : new.shift ≡ old.shift
  pub blocks : length new.blocks ≡ length old.blocks
  pub below : (i : ℕ) → i < lba → block new i ≡ block old i
  pub above : (i : ℕ) → lba + count ≤ i → block new i ≡ block old i

-- block i of the range is the i-th piece of the bytes
pub record IsWriteOf (old : Blocks) (lba : ℕ) (bytes : List ℕ) (new : Blocks) : Type 0 where
  pub others : KeepsOthers old lba (length bytes / 2 ^ old.shift) new
  pub range : (i : ℕ) → i < length bytes / 2 ^ old.shift → block new (lba + i) ≡ take (2 ^ old.shift) (drop (i * 2 ^ old.shift) bytes)

-- block i of the range is zeros
pub record IsZeroOf (old : Blocks) (lba count : ℕ) (new : Blocks) : Type 0 where
  pub others : KeepsOthers old lba count new
  pub range : (i : ℕ) → i < count → block new (lba + i) ≡ replicate (2 ^ old.shift) 0
