use Rattle.edit_words.proofs.Drains.{drains_leave}
use Rattle.edit_words.proofs.law.drains_leave_words.Goals as goal

pub returns : goal.returns
returns c = drains_leave
