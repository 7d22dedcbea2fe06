use Rattle.table_rule.specs.Words.{IsLaid}
use Rattle.target_table.proofs.opening.lay_rows.Given as goal

abbrev pub invariant-loop-word : goal.invariant-loop-word
invariant-loop-word l = IsLaid l.about l.about.disks l.word l.word l.rows l.words.items
