use Rattle.run_prints.proofs.Making.{makes}
use Rattle.run_prints.proofs.serve.serve_inputs.Goals as goal

pub returns : goal.returns
returns c = λ s holds.
    let start = c.args.inputs.now in
    let runs = rw (c.deref.ensures.value, c.deref-2.ensures.value) at
    (c.in_ok-served.ensures.runs s.plan start.passed_over s.start holds.stands) in
    makes s c.in_ok-served.served start.script.items start.files.items start.passed_over _ _
    holds.script_is holds.files_are holds.passed_over_is runs
    (rw c.deref-3.ensures.value at c.in_ok-journal.ensures) c.in_ok-text.ensures
