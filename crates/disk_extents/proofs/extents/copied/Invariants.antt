use Rattle.std.proofs.Common.{◌≡◌, ◌-◌, ◌^◌, ◌++◌, length, take, drop}
use Rattle.mem_bdev.specs.Blocks.{zero_blocks}
use Rattle.disk_extents.proofs.extents.copied.Given as goal

abbrev pub invariant-loop-at : goal.invariant-loop-at
invariant-loop-at l = record {
  copied : l.part ≡ record { shift = l.disk.shift; blocks = take l.at (drop l.first l.disk.blocks) ++ zero_blocks l.disk.shift (l.end - l.first - l.at) };
  size : length l.block ≡ 2 ^ l.disk.shift;
}
