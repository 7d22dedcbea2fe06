use Rattle.run_outcomes.proofs.Apart.{plans_have_apart_names}
use Rattle.run_outcomes.proofs.law.plans_have_apart_names.Goals as goal

pub returns : goal.returns
returns c = plans_have_apart_names
