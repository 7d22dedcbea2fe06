use Rattle.ns_table.proofs.Answered.{answered}
use Rattle.ns_table.proofs.law.look_of_words_is_the_shapes.Goals as goal

pub returns : goal.returns
returns c = answered
