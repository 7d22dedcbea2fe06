use Rattle.nvmet_run.proofs.Making.{makes_plan}
use Rattle.nvmet_run.proofs.run.make_run.Goals as goal

pub returns-in-Ok-serve_inputs-clause-made : goal.returns-in-Ok-serve_inputs-clause-made
returns-in-Ok-serve_inputs-clause-made g c = λ name plan_read.
    let read = c.in-Ok.ensures.read in
    makes_plan _ name _ read.known _ _ _ read.plan_is read.was_read
    (c.in-Ok-serve_inputs.ensures read.known read.holds) plan_read
