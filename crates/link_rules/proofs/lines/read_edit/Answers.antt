use Rattle.std.proofs.Common.{subst, List, ℕ}
use Rattle.link_rules.proofs.Readers.{spelled, only, fitting}
use Rattle.link_rules.proofs.lines.read_edit.Goals as goal

pub returns-clause-spelled : goal.returns-clause-spelled
returns-clause-spelled c = spelled c.args.l.now.words c.edit_of.result
    (rw c.as_slice.ensures at c.edit_of.ensures)

pub returns-clause-only : goal.returns-clause-only
returns-clause-only c = only c.args.l.now.words c.edit_of.result
    (rw c.as_slice.ensures at c.edit_of.ensures)

pub returns-clause-fitting : goal.returns-clause-fitting
returns-clause-fitting c = fitting c.args.l.now.words c.edit_of.result
    (rw c.as_slice.ensures at c.edit_of.ensures)
