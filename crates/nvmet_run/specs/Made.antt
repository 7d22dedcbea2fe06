-- A run that was made and printed, before anything is written.
use Rattle.std.specs.Prelude.{◌≡◌, ◌⊎◌, ℕ, List}
use Rattle.plan_files.specs.declared.items.Plan.{Plan}
use Rattle.run_inputs.specs.InputFiles.{input_files}
use Rattle.run_inputs.specs.Known.{begun}
use Rattle.run_inputs.specs.Stages.{StoppedIn}
use Rattle.run_inputs.specs.Views.{IsEarlier}
use Rattle.run_outcomes.specs.declared.faults.Fault.{Fault}
use Rattle.run_outcomes.specs.declared.faults.Fault.TheVariants as fault
use Rattle.run_outcomes.specs.declared.numbers.TheConstants.{SINK}
use Rattle.run_outcomes.specs.Names.{to_write}
use Rattle.run_outcomes.specs.Outsides.{Told, FilesView, Outside, FailedPut}
use Rattle.run_outcomes.specs.Written.{ToWrite, AllWritten, StopsAt}
use Rattle.run_prints.specs.Prints.{IsPrinted}
use Rattle.run_transcript.specs.Runs.{Run}
use Rattle.nvmet_run.specs.Headline.{IsRunOf}

-- there is this run of the plan of this name, ordered, served and legal, and its prints
pub record MakesPlan (told : Told) (name : List ℕ) (plan : Plan) (records : List (List ℕ))
    (journal_text summary_text : List ℕ) : Type 0 where
  pub run : Run
  pub plan_is : run.plan ≡ plan
  pub made : IsRunOf told name run
  pub printed : IsPrinted run records journal_text summary_text

-- reading the files that a plan names ended by this fault, or there was no memory to serve them
abbrev pub Stops : FilesView → FilesView → Plan → Fault → Type 0
Stops now after plan f = StoppedIn now after (input_files plan) (begun plan) f

-- a file wasn't written, and the sink was not asked; or the sink did not take the text
abbrev pub WriteEnds : List ToWrite → Outside → Outside → List ℕ → Fault → Type 0
WriteEnds files before after text f =
    (StopsAt files before.files after.files f × (after.sink ≡ before.sink))
    ⊎ ((f ≡ fault.WriteFault SINK) × AllWritten files before.files.told after.files.told
    × FailedPut before.sink after.sink text)

-- why a plan that was read was not run to the end, before the line of the fault is put
abbrev pub RunEnds : Outside → Outside → List ℕ → Plan → Fault → Type 0
RunEnds before after name plan f =
    (Stops before.files after.files plan f × IsEarlier before.files after.files
    × (after.sink ≡ before.sink))
    ⊎ ((records : List (List ℕ)) × (journal_text : List ℕ) × (text : List ℕ)
    × MakesPlan before.files.told name plan records journal_text text
    × WriteEnds (to_write plan records journal_text) before after text f)
