-- What the bytes of a plan give.
use Rattle.std.specs.Prelude.{ℕ, List, Result, Ok, Err}
use Rattle.plan_files.specs.declared.items.Plan.{Plan}
use Rattle.plan_files.specs.declared.plan.PlanError.{PlanError}
use Rattle.plan_files.specs.declared.plan.PlanError.TheVariants as plans
use Rattle.plan_files.specs.Binding.{◌>>=◌}
use Rattle.plan_files.specs.PlanReading.{plan_in}
use Rattle.run_inputs.specs.declared.contents.TheConstants.{MAX_PLAN_BYTES}
use Rattle.run_outcomes.specs.declared.faults.At.TheVariants as at
use Rattle.run_outcomes.specs.declared.numbers.TheConstants.{PLAN}
use Rattle.run_outcomes.specs.declared.faults.Fault.{Fault}
use Rattle.run_outcomes.specs.declared.faults.Fault.TheVariants as fault
use Rattle.run_inputs.specs.Contents.{content_of}
use Rattle.run_inputs.specs.Known.{Known, begun}

abbrev pub plan_error : PlanError → Fault
plan_error (plans.BadLine line) = fault.Malformed PLAN (at.Line line)
plan_error (plans.TooLong what count) = fault.Limit PLAN what count
plan_error plans.Memory = fault.Memory

abbrev pub or_fault : Result Plan PlanError → Result Plan Fault
or_fault (Ok plan) = Ok plan
or_fault (Err e) = Err (plan_error e)

abbrev pub begun_by : Result Plan Fault → Result Known Fault
begun_by (Ok plan) = Ok (begun plan)
begun_by (Err f) = Err f

-- the plan in a file of at most 64 KiB
unfoldable pub plan_of_file : List ℕ → Result Plan Fault
plan_of_file bytes = content_of MAX_PLAN_BYTES PLAN bytes >>= λ b. or_fault (plan_in b)
