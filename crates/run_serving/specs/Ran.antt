-- The run of which an outcome is the print.
use Rattle.std.specs.Prelude.{◌≡◌, ℕ, List, [], ◌∷◌, length}
use Rattle.std.specs.List.{sum_by}
use Rattle.plan_files.specs.declared.items.Plan.{Plan}
use Rattle.tree_target.specs.Model.{Target}
use Rattle.run_transcript.specs.declared.capsule_files.CapsuleFile.{CapsuleFile}
use Rattle.run_transcript.specs.declared.scripts.ScriptEdit.{ScriptEdit}
use Rattle.run_transcript.specs.Runs.{Placed, Run, IsOrdered, IsLegalRun}
use Rattle.run_transcript.specs.Served.{IsServed}
use Rattle.run_transcript.specs.InTurn.{IsInTurn}
use Rattle.run_transcript.specs.Printing.{responses, journal_lines, all_queues}
use Rattle.run_transcript.specs.Sums.{accepted_in, refused_edits_in, drains_in, submits_in, executes_in, refusals_in, events_in, waiting_in, bytes_taken, bytes_given}
use Rattle.run_serving.specs.declared.output.Output.{Output}
use Rattle.run_serving.specs.declared.whole.Served.{Served}
use Rattle.run_serving.specs.Readiness.{files_of}

-- each output holds the records of its queue's list
abbrev pub HoldRecords : List Output → List (List Placed) → Type 0
HoldRecords [] [] = Unit {0}
HoldRecords [] (list ∷ lists) = ⊥
HoldRecords (o ∷ os) [] = ⊥
HoldRecords (o ∷ os) (list ∷ lists) = (o.records.bytes ≡ responses list) × HoldRecords os lists

-- the records, the journal's lines, the number of places and the numbers of the summary are those
-- of the run
pub record IsPrintOf (o : Served) (run : Run) : Type 0 where
  pub records : HoldRecords o.outputs.items run.queues
  pub journal : o.journal.items ≡ journal_lines run.editor
  pub places : o.places ≡ length run.history
  pub accepted : o.accepted ≡ accepted_in run.editor
  pub refused : o.refused ≡ refused_edits_in run.editor
  pub drains : o.drains ≡ drains_in run.editor
  pub submitted : sum_by (λ x. x.submitted) o.outputs.items ≡ submits_in (all_queues run)
  pub executed : sum_by (λ x. x.executed) o.outputs.items ≡ executes_in (all_queues run)
  pub commands_refused : sum_by (λ x. x.refused) o.outputs.items ≡ refusals_in (all_queues run)
  pub events : sum_by (λ x. x.events) o.outputs.items ≡ events_in (all_queues run)
  pub waiting : sum_by (λ x. x.waiting) o.outputs.items ≡ waiting_in (all_queues run)
  pub taken : sum_by (λ x. x.taken) o.outputs.items ≡ bytes_taken (all_queues run)
  pub given : sum_by (λ x. x.given) o.outputs.items ≡ bytes_given (all_queues run)

-- There is a run from this start with these files and this script, made by one caller in turn. It is
-- ordered, served and legal, and the outcome is its print.
pub record Ran (plan : Plan) (passed_over : ℕ) (start : Target) (script : List ScriptEdit)
    (files : List CapsuleFile) (o : Served) : Type 0 where
  pub run : Run
  pub plan_is : run.plan ≡ plan
  pub passed_over_is : run.passed_over ≡ passed_over
  pub start_is : run.start ≡ start
  pub script_is : run.script ≡ script
  pub files_are : run.files ≡ files_of files
  pub ordered : IsOrdered run
  pub served : IsServed run
  pub legal : IsLegalRun run
  pub in_turn : IsInTurn run
  pub printed : IsPrintOf o run
