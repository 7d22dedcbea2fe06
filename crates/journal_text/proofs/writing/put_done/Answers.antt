use Rattle.std.proofs.Common.{arith}
use Rattle.journal_text.proofs.Lengths.{done_text_len}
use Rattle.journal_text.proofs.writing.put_done.Goals as goal

pub put_done_text-requires : goal.put_done_text-requires
put_done_text-requires c = omega (
  arith,
  c.requires,
  done_text_len c.args.place c.args.line
      c.ranges.place.fits c.ranges.line.fits,
)

pub returns-clause-short : goal.returns-clause-short
returns-clause-short c = done_text_len c.args.place c.args.line c.ranges.place.fits
    c.ranges.line.fits
