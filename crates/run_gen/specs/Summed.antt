-- The run of a plan by one caller, and its summary.
use Rattle.std.specs.Prelude.{◌≡◌, ℕ, List}
use Rattle.run_inputs.specs.Ready.{IsRead}
use Rattle.run_outcomes.specs.Outsides.{Told}
use Rattle.run_transcript.specs.InTurn.{IsInTurn}
use Rattle.run_transcript.specs.Printing.{summary}
use Rattle.run_transcript.specs.Runs.{Run, IsOrdered, IsLegalRun}
use Rattle.run_transcript.specs.Served.{IsServed}

-- A run of these files: its plan, start, script and capsules are what the files tell; its callers'
-- lists are ordered, and serve each capsule and each edit once and in its file's order; its history
-- is a legal one of the sequential target; and one caller made it in turn.
pub record IsRunOf (told : Told) (name : List ℕ) (run : Run) : Type 0 where
  pub read : IsRead told name run
  pub ordered : IsOrdered run
  pub served : IsServed run
  pub legal : IsLegalRun run
  pub in_turn : IsInTurn run

-- the text is the summary of such a run
pub record IsSummed (told : Told) (name text : List ℕ) : Type 0 where
  pub run : Run
  pub made : IsRunOf told name run
  pub is : text ≡ summary run
