use Rattle.std.proofs.Common.{arith}
use Rattle.journal_text.proofs.Lengths.{edit_text_len}
use Rattle.journal_text.proofs.writing.put_edit.Goals as goal

pub put_edit_text-requires : goal.put_edit_text-requires
put_edit_text-requires c = omega (
  arith,
  c.requires,
  edit_text_len c.args.place c.args.line c.args.answer
      c.ranges.place.fits c.ranges.line.fits,
)

pub returns-clause-short : goal.returns-clause-short
returns-clause-short c = edit_text_len c.args.place c.args.line c.args.answer c.ranges.place.fits
    c.ranges.line.fits
