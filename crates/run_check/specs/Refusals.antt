-- Why a finished run was not judged, or its verdict not put, and what that left.
use Rattle.std.specs.Prelude.{◌≡◌, ◌⊎◌, ℕ, List, ◌∷◌, [], ◌++◌, codes, Option, Some, None, Ok, Err}
use Rattle.plan_files.specs.declared.items.Plan.{Plan}
use Rattle.run_outcomes.specs.declared.faults.Fault.{Fault}
use Rattle.run_outcomes.specs.declared.faults.Fault.TheVariants as fault
use Rattle.run_outcomes.specs.declared.numbers.TheConstants.{PLAN, SINK}
use Rattle.run_outcomes.specs.Numbers.{file_of}
use Rattle.run_outcomes.specs.Outsides.{Outside, FilesView, Kept, Said, FailedPut}
use Rattle.run_outcomes.specs.Texts.{line_of}
use Rattle.run_inputs.specs.Gives.{PlanBegins}
use Rattle.run_inputs.specs.InputFiles.{input_files, name_of}
use Rattle.run_inputs.specs.Known.{Known, begun}
use Rattle.run_inputs.specs.Reading as inputs
use Rattle.run_inputs.specs.Stages as stages
use Rattle.run_verdicts.specs.Faults.{IsRight}
use Rattle.run_check.specs.Finished.{Finished, number_of, unread}
use Rattle.run_check.specs.ToldRun.{run_of}
use Rattle.run_check.specs.RecordFiles.{record_files}
use Rattle.run_check.specs.RecordReading.{Reading, RecordsAfter, StoppedIn, WasAllRead}
use Rattle.run_check.specs.Texts.{legal_line}

-- ---- before the line is put
-- a file that the plan names was not read, or there was no memory; or a file of records was not
abbrev pub Stops : FilesView → FilesView → Plan → Fault → Type 0
Stops now after plan f =
    stages.StoppedIn now after (input_files plan) (begun plan) f
    ⊎ ((s : Known) × stages.ReadOn now (input_files plan) (begun plan) s
    × StoppedIn now after (record_files s.plan s.files) (unread s) f)

-- ---- the end
-- reading ended by this fault at a file that the plan names, or at a file of records
abbrev pub StopsBehind : FilesView → FilesView → Plan → Fault → Type 0
StopsBehind before after plan f =
    inputs.ReadsFiles before after (input_files plan) (begun plan) (Err f)
    ⊎ ((s : Known) × inputs.ReadsFiles before after (input_files plan) (begun plan) (Ok s)
    × RecordsAfter (Reading before after) s (Err f))

-- reading ended by this fault: at the plan itself, or behind it
abbrev pub StopsBy : FilesView → FilesView → List ℕ → Option Plan → Fault → Type 0
StopsBy before after name None f = inputs.Reading before after PLAN name PlanBegins (Err f)
StopsBy before after name (Some plan) f =
    inputs.ReadsSo before.told name PlanBegins (Ok (begun plan)) × StopsBehind before after plan f

-- the name of a file by its number, where the plan of this name was read or not
abbrev pub name_in : List ℕ → Option Plan → Fault → List ℕ
name_in name None f = name
name_in name (Some plan) f = name_of name plan (file_of f)

-- A file was not read, or an edit of the configuration was refused. No name was touched, and the
-- sink took the line that says so.
pub record Unread (before after : Outside) (name : List ℕ) (f : Fault) : Type 0 where
  pub plan : Option Plan
  pub cause : StopsBy before.files after.files name plan f
  pub kept : Kept before.files.told after.files.told
  pub said : Said before.sink after.sink (line_of (name_in name plan f) f)

-- The sink did not take the line of a run that is right. All else is as where it did.
pub record Unsaid (before after : Outside) (name : List ℕ) : Type 0 where
  pub finished : Finished
  pub was_read : WasAllRead before.files.told name finished
  pub right : IsRight (number_of finished) (run_of finished)
  pub kept : Kept before.files.told after.files.told
  pub failed : FailedPut before.sink after.sink (legal_line (number_of finished))

-- Memory ran out.
pub record NoMemory (before after : Outside) : Type 0 where
  pub kept : Kept before.files.told after.files.told
  pub said : Said before.sink after.sink (codes "out of memory" ++ 10 ∷ [])

-- what stands after a check of the plan of this name that ended by this fault
abbrev pub Refusal : Outside → Outside → List ℕ → Fault → Type 0
Refusal before after name (fault.Malformed file place) =
    Unread before after name (fault.Malformed file place)
Refusal before after name (fault.Limit file what count) =
    Unread before after name (fault.Limit file what count)
Refusal before after name (fault.ReadFault file) = Unread before after name (fault.ReadFault file)
Refusal before after name (fault.ConfigRefused edit errno) =
    Unread before after name (fault.ConfigRefused edit errno)
Refusal before after name (fault.WriteFault file) = (file ≡ SINK) × Unsaid before after name
Refusal before after name fault.Memory = NoMemory before after
