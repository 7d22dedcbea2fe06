-- A disk as a list of blocks. Blocks are counted from 0, sizes are in bytes.
use Rattle.std.specs.Prelude.{◌≡◌, ◌⊎◌, ◌≤◌, ℕ, zero, suc, ◌+◌, ◌*◌, ◌/◌, ◌^◌, List, [], ◌∷◌, ◌++◌, length, take, drop, replicate}
use Rattle.std.specs.List.{flat_map}
use Rattle.mem_bdev.specs.declared.limits.TheConstants.{MAX_DISK_BYTES}

-- the blocks, each of 2 ^ shift bytes
pub record Blocks : Type 0 where
  pub shift : ℕ
  pub blocks : List (List ℕ)

abbrev pub block_size : Blocks → ℕ
block_size d = 2 ^ d.shift

-- the first n pieces of this size
abbrev pub cut : ℕ → ℕ → List ℕ → List (List ℕ)
cut zero size bytes = []
cut (suc n) size bytes = take size bytes ∷ cut n size (drop size bytes)

-- n blocks of zeros
abbrev pub zero_blocks : ℕ → ℕ → List (List ℕ)
zero_blocks shift n = replicate n (replicate (2 ^ shift) 0)

-- a disk of zeros
abbrev pub blank : ℕ → ℕ → Blocks
blank shift n = record { shift = shift; blocks = zero_blocks shift n }

-- a shape that a disk may have: blocks of 512 or 4,096 bytes, at least one, at most `MAX_DISK_BYTES` together
pub record IsShape (shift count : ℕ) : Type 0 where
  pub known : (shift ≡ 9) ⊎ (shift ≡ 12)
  pub some : 1 ≤ count
  pub small : count * 2 ^ shift ≤ MAX_DISK_BYTES

-- so many blocks from the block `lba` on lie on the disk
abbrev pub IsInside : Blocks → ℕ → ℕ → Type 0
IsInside d lba count = lba + count ≤ length d.blocks

-- so many bytes are whole blocks, and they lie on the disk from the block `lba` on
pub record IsWhole (d : Blocks) (lba len : ℕ) : Type 0 where
  pub whole : len / 2 ^ d.shift * 2 ^ d.shift ≡ len
  pub inside : lba + len / 2 ^ d.shift ≤ length d.blocks

-- the bytes of `count` blocks from the block `lba` on
abbrev pub range_bytes : Blocks → ℕ → ℕ → List ℕ
range_bytes d lba count = flat_map (λ b. b) (take count (drop lba d.blocks))

-- the disk with these blocks in the place of those from `lba` on
abbrev pub with_blocks : Blocks → ℕ → List (List ℕ) → Blocks
with_blocks d lba new = record d { blocks = take lba d.blocks ++ (new ++ drop (lba + length new) d.blocks) }

-- the disk after a write of these bytes from the block `lba` on
abbrev pub written : Blocks → ℕ → List ℕ → Blocks
written d lba bytes = with_blocks d lba (cut (length bytes / 2 ^ d.shift) (2 ^ d.shift) bytes)

-- the disk after `count` blocks from the block `lba` on were zeroed
abbrev pub zeroed : Blocks → ℕ → ℕ → Blocks
zeroed d lba count = with_blocks d lba (zero_blocks d.shift count)
