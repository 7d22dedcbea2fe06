use Rattle.check_records.specs.Editors.{disabled_at, disabled_of}
use Rattle.check_records.proofs.Editing.{done_goes}
use Rattle.check_records.proofs.editor_steps.done_line.Goals as goal

pub returns-clause-steps : goal.returns-clause-steps
returns-clause-steps c = λ t st.
    done_goes _ t (disabled_at c.args.script.now c.args.at.now) (disabled_of c.in-Some.drain) c.args.line _ _ _
    (c.in-Some.ensures.next t _ st) c.in-Some.ensures.is c.if-drain-line.false (c.end_drain.ensures.does t st)
