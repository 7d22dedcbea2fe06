use Rattle.target_words.proofs.Following.{words_computed, words_same}
use Rattle.target_words.proofs.law.words_depend_on_the_desk.Goals as goal

pub returns-clause-follow : goal.returns-clause-follow
returns-clause-follow c = words_same

pub returns-clause-depend : goal.returns-clause-depend
returns-clause-depend c = words_computed
