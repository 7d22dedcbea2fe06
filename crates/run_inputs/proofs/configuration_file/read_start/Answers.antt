use Rattle.run_inputs.proofs.Starting.{simple_starts, simple_stops}
use Rattle.run_inputs.proofs.configuration_file.read_start.Goals as goal

pub returns-in-None-clause-read : goal.returns-in-None-clause-read
returns-in-None-clause-read g c =
    simple_starts c.args.plan.now _ c.args.plan.now.config _ c.in-None.is
    c.simple_target.ensures.stands c.simple_target.ensures.none

pub returns-in-None-clause-refused : goal.returns-in-None-clause-refused
returns-in-None-clause-refused g c =
    simple_stops c.args.plan.now _ _ c.args.plan.now.config _ c.simple_target.ensures.memory
