use Rattle.run_outcomes.specs.declared.numbers.TheConstants.{PLAN}
use Rattle.run_inputs.specs.Gives.{PlanBegins}
use Rattle.run_inputs.proofs.OneFile.{content_stops}
use Rattle.run_inputs.proofs.Parsing.{plan_reads, plan_stops, plan_limited}
use Rattle.run_inputs.proofs.plan_file.read_plan_file.Goals as goal

pub returns-in-Ok-clause-read : goal.returns-in-Ok-clause-read
returns-in-Ok-clause-read g c = plan_reads _ _ c.in-Ok.bytes.items _ c.in-Ok.ensures.told
    (rw c.deref.ensures.value at c.parse_plan.ensures.exact)

pub returns-in-Ok-clause-refused : goal.returns-in-Ok-clause-refused
returns-in-Ok-clause-refused g c = plan_stops _ _ _ c.in-Ok.bytes.items _ c.in-Ok.ensures.told
    (rw c.deref.ensures.value at c.parse_plan.ensures.exact)

pub returns-in-Err-clause-refused : goal.returns-in-Err-clause-refused
returns-in-Err-clause-refused g c = content_stops 65536 _ _ PLAN _ PlanBegins c.in-Err.fault
    plan_limited c.in-Err.ensures.refused
