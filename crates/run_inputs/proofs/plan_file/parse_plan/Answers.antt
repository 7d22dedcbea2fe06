use Rattle.run_inputs.proofs.Parsing.{plan_given, plan_refused}
use Rattle.run_inputs.proofs.Sound.{planned}
use Rattle.run_inputs.proofs.plan_file.parse_plan.Goals as goal

pub returns-in-Ok-clause-exact : goal.returns-in-Ok-clause-exact
returns-in-Ok-clause-exact c = plan_given c.args.bytes.now c.in-Ok.plan c.requires
    c.in-Ok.ensures.exact

pub returns-in-Ok-clause-planned : goal.returns-in-Ok-clause-planned
returns-in-Ok-clause-planned c = planned c.args.bytes.now c.in-Ok.plan c.in-Ok.ensures.spelled
    (c.plans_fit_targets.ensures c.args.bytes.now c.in-Ok.plan c.in-Ok.ensures.spelled)

pub returns-in-Err-clause-exact : goal.returns-in-Err-clause-exact
returns-in-Err-clause-exact c = rw c.plan_fault.ensures (plan_refused c.args.bytes.now
    c.in-Err.error c.requires c.in-Err.ensures.exact)
