use Rattle.std.proofs.Common.{◌≡◌}
use Rattle.compared_sections.proofs.comparing.other_word.Given as goal

abbrev pub invariant-loop-at : goal.invariant-loop-at
invariant-loop-at g l = g.R.Rows.behind l.rows ≡ g.R.Rows.behind l.fn.rows
