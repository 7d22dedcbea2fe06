use Rattle.link_rules.proofs.Whole.{line_was, words_again}
use Rattle.link_rules.proofs.laws.lines_spell_edits.Goals as goal

pub returns : goal.returns
returns c = λ line e fit. (line_was line e, words_again line e fit)
