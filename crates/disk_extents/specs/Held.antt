-- What an extent keeps: a disk of its own blocks, or none where it has no block.
use Rattle.std.specs.Prelude.{◌≡◌, ◌≤◌, ℕ, ◌+◌, ◌^◌, [], length, Option, Some, None}
use Rattle.mem_bdev.specs.Blocks.{Blocks}

abbrev pub held_in : ℕ → Option Blocks → Blocks
held_in shift None = record { shift = shift; blocks = [] }
held_in shift (Some d) = d

-- it has the block size that is noted, and its blocks end where that is noted
pub record IsHeld (first end size shift : ℕ) (disk : Option Blocks) : Type 0 where
  pub size_is : size ≡ 2 ^ shift
  pub size_small : size ≤ 4096
  pub shift_is : (held_in shift disk).shift ≡ shift
  pub end_is : first + length (held_in shift disk).blocks ≡ end
  pub small : end ≤ 32768
