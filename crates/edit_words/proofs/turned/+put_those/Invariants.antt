use Rattle.std.proofs.Common.{length}
use Rattle.edit_words.proofs.turned.+put_those.Given as goal

abbrev pub decreases-put_those : goal.decreases-put_those
decreases-put_those g l = length l.words.now
