use Rattle.std.proofs.Common.{[]}
use Rattle.table_rule.specs.Words.{IsLaid}
use Rattle.target_table.proofs.opening.lay_biases.Given as goal

abbrev pub invariant-loop-disk : goal.invariant-loop-disk
invariant-loop-disk l = IsLaid l.about l.disk 0 0 [] l.words.items
