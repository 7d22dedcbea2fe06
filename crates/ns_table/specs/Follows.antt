-- What the words of a configuration depend on.
use Rattle.std.specs.Prelude.{◌≡◌, ℕ, length, Option, Some, None}
use Rattle.std.specs.List.{slice_get}
use Rattle.mem_bdev.specs.Blocks.{Blocks}
use Rattle.ns_table.specs.Words.{Shape, words_of}

-- the block size and the number of blocks of a disk that is there
abbrev pub size_of : Option Blocks → Option (ℕ × ℕ)
size_of None = None
size_of (Some d) = Some (d.shift, length d.blocks)

-- the same settings, controllers and stamps, over disks of the same sizes
pub record AreAlike (x y : Shape) : Type 0 where
  pub settings : y.tree.settings ≡ x.tree.settings
  pub controllers : y.controllers ≡ x.controllers
  pub stamps : y.stamps ≡ x.stamps
  pub sizes : (i : ℕ) → size_of (slice_get y.blocks i) ≡ size_of (slice_get x.blocks i)

-- neither who holds a disk nor what stands on it is in the words
abbrev pub WordsFollowSettings : Type 0
WordsFollowSettings = (x y : Shape) → AreAlike x y → words_of y ≡ words_of x
