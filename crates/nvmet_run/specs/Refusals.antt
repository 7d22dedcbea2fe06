-- Why a run did not end well, and what it left.
use Rattle.std.specs.Prelude.{◌≡◌, ◌⊎◌, ℕ, List, [], ◌∷◌, ◌++◌, codes, Option, Some, None, Ok, Err}
use Rattle.plan_files.specs.declared.items.Plan.{Plan}
use Rattle.run_inputs.specs.Gives.{PlanBegins}
use Rattle.run_inputs.specs.InputFiles.{input_files, name_of}
use Rattle.run_inputs.specs.Known.{begun}
use Rattle.run_inputs.specs.Reading.{Reading, ReadsFiles, ReadsSo}
use Rattle.run_outcomes.specs.declared.faults.Fault.{Fault}
use Rattle.run_outcomes.specs.declared.faults.Fault.TheVariants as fault
use Rattle.run_outcomes.specs.declared.numbers.TheConstants.{PLAN, SINK}
use Rattle.run_outcomes.specs.Numbers.{file_of}
use Rattle.run_outcomes.specs.Outsides.{Outside, FilesView, Kept, Said, FailedPut}
use Rattle.run_outcomes.specs.Texts.{line_of}
use Rattle.run_outcomes.specs.Written.{StopsAt}
use Rattle.run_transcript.specs.Runs.{Run}
use Rattle.run_transcript.specs.Printing.{summary}
use Rattle.nvmet_run.specs.Headline.{IsRunOf, IsWrittenOut, files_of_run}

-- the name of a file by its number, where the plan of this name was read or not
abbrev pub name_in : List ℕ → Option Plan → Fault → List ℕ
name_in name None f = name
name_in name (Some plan) f = name_of name plan (file_of f)

-- reading ended by this fault: at the plan itself, or at a file that the plan names
abbrev pub StopsBy : FilesView → FilesView → List ℕ → Option Plan → Fault → Type 0
StopsBy before after name None f = Reading before after PLAN name PlanBegins (Err f)
StopsBy before after name (Some plan) f = ReadsSo before.told name PlanBegins (Ok (begun plan))
    × ReadsFiles before after (input_files plan) (begun plan) (Err f)

-- A file was not read, or an edit of the configuration was refused. Nothing was written, and the
-- sink took the line that says so.
pub record Unread (before after : Outside) (name : List ℕ) (f : Fault) : Type 0 where
  pub plan : Option Plan
  pub cause : StopsBy before.files after.files name plan f
  pub kept : Kept before.files.told after.files.told
  pub said : Said before.sink after.sink (line_of (name_in name plan f) f)

-- All was read and served, but a file was not written, or there was no memory for it. The files
-- before it hold the prints of the run, and no later one was touched.
pub record Unwritten (before after : Outside) (name : List ℕ) (f : Fault) : Type 0 where
  pub run : Run
  pub made : IsRunOf before.files.told name run
  pub stops : StopsAt (files_of_run run) before.files after.files f
  pub said : Said before.sink after.sink (line_of (name_of name run.plan (file_of f)) f)

-- The sink did not take the summary. All else is as in a run that ended well.
pub record Unsaid (before after : Outside) (name : List ℕ) : Type 0 where
  pub run : Run
  pub made : IsRunOf before.files.told name run
  pub out : IsWrittenOut before.files.told after.files.told run
  pub failed : FailedPut before.sink after.sink (summary run)

-- Memory ran out, before anything was written.
pub record NoMemory (before after : Outside) : Type 0 where
  pub kept : Kept before.files.told after.files.told
  pub said : Said before.sink after.sink (codes "out of memory" ++ 10 ∷ [])

-- what stands after a run of the plan of this name that ended by this fault
abbrev pub Refusal : Outside → Outside → List ℕ → Fault → Type 0
Refusal before after name (fault.Malformed file place) =
    Unread before after name (fault.Malformed file place)
Refusal before after name (fault.Limit file what count) =
    Unread before after name (fault.Limit file what count)
Refusal before after name (fault.ReadFault file) = Unread before after name (fault.ReadFault file)
Refusal before after name (fault.ConfigRefused edit errno) =
    Unread before after name (fault.ConfigRefused edit errno)
Refusal before after name (fault.WriteFault file) =
    ((file ≡ SINK) × Unsaid before after name)
    ⊎ Unwritten before after name (fault.WriteFault file)
Refusal before after name fault.Memory = NoMemory before after
    ⊎ Unwritten before after name fault.Memory
