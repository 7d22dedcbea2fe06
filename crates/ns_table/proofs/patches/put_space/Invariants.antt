use Rattle.std.proofs.Common.{◌≡◌, length, map}
use Rattle.std.specs.List.{range_with_len}
use Rattle.ns_table.specs.Positions.{Space}
use Rattle.ns_table.specs.Words.{opened_shape}
use Rattle.ns_table.specs.Patches.{words_at}
use Rattle.ns_table.proofs.patches.put_space.Given as goal

abbrev pub invariant-loop-part : goal.invariant-loop-part
invariant-loop-part l = record {
  words : l.p ≡ words_at (opened_shape l.fn.look.tree.now l.fn.look.controllers.now l.fn.look.disks.now) (map (Space l.sub l.nsid) (range_with_len 0 l.part));
  len : length l.p ≡ l.part;
}
