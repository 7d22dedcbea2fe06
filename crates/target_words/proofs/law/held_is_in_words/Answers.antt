use Rattle.target_words.proofs.Showing.{held_in_words}
use Rattle.target_words.proofs.law.held_is_in_words.Goals as goal

pub returns : goal.returns
returns c = held_in_words
