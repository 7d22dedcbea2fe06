use Rattle.command_words.proofs.Saying.{said_was, said_again}
use Rattle.command_words.proofs.law.words_are_spelled.Goals as goal

pub returns : goal.returns
returns c = λ line w. (said_was line w, said_again line w)
