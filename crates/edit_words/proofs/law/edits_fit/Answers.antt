use Rattle.edit_words.proofs.Edited.{edits_fit}
use Rattle.edit_words.proofs.law.edits_fit.Goals as goal

pub returns : goal.returns
returns c = edits_fit
