use Rattle.std.proofs.Common.{◌∙◌, ◌-◌, arith}
use Rattle.disk_extents.proofs.Copies.{copied-more}
use Rattle.disk_extents.proofs.extents.copied.Goals as goal

pub loop-at-preserved : goal.loop-at-preserved
loop-at-preserved c = record {
  copied =
      copied-more c.args.disk.now c.loop-at.part c.copy_block.new.to c.args.first (c.args.end - c.args.first) c.loop-at.at c.loop-at.invariant.copied (omega arith) (omega (arith, c.requires.inside, c.requires.some)) c.copy_block.ensures;
  size = c.copy_block.auto.buffer ∙ c.loop-at.invariant.size;
}
