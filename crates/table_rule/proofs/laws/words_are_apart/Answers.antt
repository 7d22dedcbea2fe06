use Rattle.table_rule.proofs.Addresses.{one_word}
use Rattle.table_rule.proofs.laws.words_are_apart.Goals as goal

pub returns : goal.returns
returns c = one_word
