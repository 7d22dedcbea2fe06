use Rattle.tree_target.specs.contracts.target.Target.{the_view}
use Rattle.tree_target.proofs.Simulating.{edit_does, edit_kept}
use Rattle.tree_target.proofs.target.Target.edit.Goals as goal

pub returns-clause-does : goal.returns-clause-does
returns-clause-does c = rw (← c.self.view_is, c.note.ensures, c.replied.ensures)
    (edit_does (the_view c.self.inside) c.args.line c.args.e.now _ c.apply-answer.result
    c.apply-answer.new.t c.apply-answer.ensures.gives c.apply-answer.ensures.stays)

pub invariant_of-self : goal.invariant_of-self
invariant_of-self c = rw c.note.ensures (edit_kept (the_view c.self.inside) _ c.args.e.now _ c.apply-answer.result
    c.apply-answer.new.t c.apply-answer.ensures.gives c.apply-answer.ensures.stays c.self.invariant)
