use Rattle.std.proofs.Common.{length}
use Rattle.patched_tables.proofs.publishing.+set_words.Given as goal

abbrev pub decreases-set_words : goal.decreases-set_words
decreases-set_words g l = length l.words.now
