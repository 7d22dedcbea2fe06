-- The verdict on a finished run.
use Rattle.std.specs.Prelude.{ℕ, List}
use Rattle.run_outcomes.specs.Outsides.{Told}
use Rattle.run_verdicts.specs.declared.verdict.Verdict.{Verdict}
use Rattle.run_verdicts.specs.Faults.{Judges}
use Rattle.run_verdicts.specs.Laws.{IsLaidOut}
use Rattle.run_check.specs.Finished.{Finished, number_of}
use Rattle.run_check.specs.ToldRun.{run_of}
use Rattle.run_check.specs.RecordReading.{WasAllRead}

-- the run that is told is right, or has this first fault
pub record IsJudged (f : Finished) (v : Verdict) : Type 0 where
  pub laid : IsLaidOut (number_of f) (run_of f)
  pub judges : Judges (number_of f) (run_of f) v

-- all was read, and the run that it tells is judged so
pub record WasJudged (told : Told) (name : List ℕ) (v : Verdict) : Type 0 where
  pub finished : Finished
  pub was_read : WasAllRead told name finished
  pub judged : IsJudged finished v
