-- Why a plan was not shown, and what that left.
use Rattle.std.specs.Prelude.{◌≡◌, ℕ, List, [], ◌∷◌, ◌++◌, codes, Option, Some, None, Ok, Err}
use Rattle.plan_files.specs.declared.items.Plan.{Plan}
use Rattle.run_inputs.specs.Gives.{PlanBegins}
use Rattle.run_inputs.specs.InputFiles.{configuration_files, name_of}
use Rattle.run_inputs.specs.Known.{Known, begun}
use Rattle.run_inputs.specs.Reading.{Reading, ReadsFiles, ReadsSo}
use Rattle.run_outcomes.specs.declared.faults.Fault.{Fault}
use Rattle.run_outcomes.specs.declared.faults.Fault.TheVariants as fault
use Rattle.run_outcomes.specs.declared.numbers.TheConstants.{PLAN, SINK}
use Rattle.run_outcomes.specs.Numbers.{file_of}
use Rattle.run_outcomes.specs.Outsides.{Outside, FilesView, Kept, Said, FailedPut}
use Rattle.run_outcomes.specs.Texts.{line_of}
use Rattle.run_show.specs.Shown.{shown}
use Rattle.run_show.specs.Starts.{StartWasRead}

-- the name of a file by its number, where the plan of this name was read or not
abbrev pub name_in : List ℕ → Option Plan → Fault → List ℕ
name_in name None f = name
name_in name (Some plan) f = name_of name plan (file_of f)

-- reading ended by this fault: at the plan itself, or at its configuration
abbrev pub StopsStart : FilesView → FilesView → List ℕ → Option Plan → Fault → Type 0
StopsStart before after name None f = Reading before after PLAN name PlanBegins (Err f)
StopsStart before after name (Some plan) f = ReadsSo before.told name PlanBegins (Ok (begun plan))
    × ReadsFiles before after (configuration_files plan.config) (begun plan) (Err f)

-- The plan or its configuration was not read, or an edit of the configuration was refused. Names
-- hold what they held, and the sink took the line that says so.
pub record NotRead (before after : Outside) (name : List ℕ) (f : Fault) : Type 0 where
  pub plan : Option Plan
  pub cause : StopsStart before.files after.files name plan f
  pub kept : Kept before.files.told after.files.told
  pub said : Said before.sink after.sink (line_of (name_in name plan f) f)

-- The sink did not take the text. Names hold what they held.
pub record NotTaken (before after : Outside) (name : List ℕ) : Type 0 where
  pub known : Known
  pub was_read : StartWasRead before.files.told name known
  pub kept : Kept before.files.told after.files.told
  pub failed : FailedPut before.sink after.sink (shown known)

-- Memory ran out, and nothing but the line that says so was put.
pub record LacksMemory (before after : Outside) : Type 0 where
  pub kept : Kept before.files.told after.files.told
  pub said : Said before.sink after.sink (codes "out of memory" ++ 10 ∷ [])

-- what stands after a plan of this name was not shown, by this fault
abbrev pub ShowRefusal : Outside → Outside → List ℕ → Fault → Type 0
ShowRefusal before after name (fault.Malformed file place) =
    NotRead before after name (fault.Malformed file place)
ShowRefusal before after name (fault.Limit file what count) =
    NotRead before after name (fault.Limit file what count)
ShowRefusal before after name (fault.ReadFault file) =
    NotRead before after name (fault.ReadFault file)
ShowRefusal before after name (fault.ConfigRefused edit errno) =
    NotRead before after name (fault.ConfigRefused edit errno)
ShowRefusal before after name (fault.WriteFault file) = (file ≡ SINK) × NotTaken before after name
ShowRefusal before after name fault.Memory = LacksMemory before after
