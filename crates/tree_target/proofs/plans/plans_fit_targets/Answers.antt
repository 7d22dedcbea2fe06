use Rattle.tree_target.proofs.PlanDisks.{plans_fit}
use Rattle.tree_target.proofs.plans.plans_fit_targets.Goals as goal

pub returns : goal.returns
returns c = plans_fit
