use Rattle.edit_words.proofs.Edited.{edits_keep}
use Rattle.edit_words.proofs.law.edits_keep.Goals as goal

pub returns : goal.returns
returns c = edits_keep
