use Rattle.journal_text.proofs.Lengths.{head_len}
use Rattle.journal_text.proofs.writing.put_head.Goals as goal

pub returns-clause-short : goal.returns-clause-short
returns-clause-short c = head_len c.args.places c.ranges.places.fits
