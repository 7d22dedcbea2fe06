use Rattle.ns_table.proofs.Kept.{trees}
use Rattle.ns_table.proofs.law.look_of_words_is_the_trees.Goals as goal

pub returns : goal.returns
returns c = trees
