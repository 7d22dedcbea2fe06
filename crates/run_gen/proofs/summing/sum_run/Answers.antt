use Rattle.run_gen.proofs.Making.{summed}
use Rattle.run_gen.proofs.summing.sum_run.Goals as goal

pub returns-in-Ok-serve_inputs-clause-summed : goal.returns-in-Ok-serve_inputs-clause-summed
returns-in-Ok-serve_inputs-clause-summed g c =
    let read = c.in-Ok.ensures.read in
    summed _ _ read.known _ _ _ read.was_read (c.in-Ok-serve_inputs.ensures read.known read.holds)
