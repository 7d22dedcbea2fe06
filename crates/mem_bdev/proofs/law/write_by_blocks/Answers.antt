use Rattle.mem_bdev.proofs.Pieces.{write_is}
use Rattle.mem_bdev.proofs.law.write_by_blocks.Goals as goal

pub returns : goal.returns
returns c = write_is
