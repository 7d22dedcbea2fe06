use Rattle.std.proofs.Common.{arith}
use Rattle.journal_text.proofs.Lengths.{head_len}
use Rattle.journal_text.proofs.writing.put_journal.Goals as goal

pub put_head-requires : goal.put_head-requires
put_head-requires c = omega (arith, c.requires, head_len c.args.places c.ranges.places.fits)
