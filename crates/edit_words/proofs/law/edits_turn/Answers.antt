use Rattle.edit_words.proofs.Edited.{edits_turn}
use Rattle.edit_words.proofs.law.edits_turn.Goals as goal

pub returns : goal.returns
returns c = edits_turn
