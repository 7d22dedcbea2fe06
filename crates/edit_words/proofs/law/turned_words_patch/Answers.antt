use Rattle.edit_words.proofs.Patched.{turned_patch}
use Rattle.edit_words.proofs.law.turned_words_patch.Goals as goal

pub returns : goal.returns
returns c = turned_patch
