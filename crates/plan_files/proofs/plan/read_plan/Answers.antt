use Rattle.std.proofs.Common.{Result, subst}
use Rattle.plan_files.specs.declared.items.Plan.{Plan}
use Rattle.plan_files.specs.declared.plan.PlanError.{PlanError}
use Rattle.plan_files.specs.PlanReading.{Gives}
use Rattle.plan_files.proofs.PlanFaulting.{is_fault, found_fault}
use Rattle.plan_files.proofs.PlanLaws.{found_spelled, plan_is_read}
use Rattle.plan_files.proofs.plan.read_plan.Goals as goal

pub returns-clause-spelled : goal.returns-clause-spelled
returns-clause-spelled c = found_spelled c.args.bytes.now c.whole_plan.result c.whole_plan.ensures

pub returns-clause-fault : goal.returns-clause-fault
returns-clause-fault c = found_fault c.args.bytes.now c.whole_plan.result c.whole_plan.ensures

pub returns-clause-faults : goal.returns-clause-faults
returns-clause-faults c = λ e first.
    subst (λ (read : Result Plan PlanError). Gives c.whole_plan.result read)
    (is_fault c.args.bytes.now e first) c.whole_plan.ensures

pub returns-clause-only : goal.returns-clause-only
returns-clause-only c = λ plan is.
    subst (λ (read : Result Plan PlanError). Gives c.whole_plan.result read)
    (plan_is_read c.args.bytes.now plan is) c.whole_plan.ensures
