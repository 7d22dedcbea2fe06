use Rattle.gen_reading.proofs.Plans.{plan_read}
use Rattle.gen_reading.proofs.law.plans_are_read.Goals as goal

pub returns : goal.returns
returns c = plan_read
