-- What one call answers, for the calls above it.
use Rattle.std.specs.Prelude.{◌≡◌, ◌⊎◌, ℕ, List}
use Rattle.plan_files.specs.declared.items.Plan.{Plan}
use Rattle.run_inputs.specs.InputFiles.{configuration_files}
use Rattle.run_inputs.specs.Known.{Known, begun}
use Rattle.run_inputs.specs.Stages.{StoppedIn}
use Rattle.run_outcomes.specs.declared.faults.Fault.{Fault}
use Rattle.run_outcomes.specs.declared.faults.Fault.TheVariants as fault
use Rattle.run_outcomes.specs.declared.numbers.TheConstants.{SINK}
use Rattle.run_outcomes.specs.Outsides.{Told, Outside, FailedPut}
use Rattle.run_show.specs.Shown.{shown}
use Rattle.run_show.specs.Starts.{StartWasRead}

-- this is the text of the start that the plan of this name has
pub record ShowsText (told : Told) (name text : List ℕ) : Type 0 where
  pub known : Known
  pub was_read : StartWasRead told name known
  pub is : text ≡ shown known

-- why a plan that was read was not shown, before the line of the fault is put
abbrev pub ShowEnds : Outside → Outside → List ℕ → Plan → Fault → Type 0
ShowEnds before after name plan f =
    (StoppedIn before.files after.files (configuration_files plan.config) (begun plan) f
    × (after.sink ≡ before.sink))
    ⊎ ((f ≡ fault.WriteFault SINK) × (text : List ℕ) × ShowsText before.files.told name text
    × FailedPut before.sink after.sink text)
