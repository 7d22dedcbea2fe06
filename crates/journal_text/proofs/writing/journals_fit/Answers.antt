use Rattle.journal_text.proofs.Lengths.{fits}
use Rattle.journal_text.proofs.writing.journals_fit.Goals as goal

pub returns : goal.returns
returns c = fits
