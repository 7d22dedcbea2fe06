-- A run of what was read, and its prints.
use Rattle.std.specs.Prelude.{◌≡◌, ℕ, List, map}
use Rattle.run_inputs.specs.Known.{Known}
use Rattle.run_transcript.specs.Runs.{Run, IsOrdered, IsLegalRun}
use Rattle.run_transcript.specs.Served.{IsServed}
use Rattle.run_transcript.specs.InTurn.{IsInTurn}
use Rattle.run_transcript.specs.Printing.{responses, journal, summary}

-- the run of what was read
pub record IsOf (s : Known) (run : Run) : Type 0 where
  pub plan : run.plan ≡ s.plan
  pub start : run.start ≡ s.start
  pub passed_over : run.passed_over ≡ s.passed_over
  pub script : run.script ≡ s.script
  pub files : run.files ≡ s.files

-- these texts are its prints
pub record IsPrinted (run : Run) (records : List (List ℕ)) (journal_text summary_text : List ℕ)
    : Type 0 where
  pub records_are : records ≡ map responses run.queues
  pub journal_is : journal_text ≡ journal run
  pub summary_is : summary_text ≡ summary run

-- a run of what was read, ordered, served, legal and made by one caller in turn, and its prints
pub record Makes (s : Known) (records : List (List ℕ)) (journal_text summary_text : List ℕ)
    : Type 0 where
  pub run : Run
  pub of : IsOf s run
  pub ordered : IsOrdered run
  pub served : IsServed run
  pub legal : IsLegalRun run
  pub in_turn : IsInTurn run
  pub printed : IsPrinted run records journal_text summary_text
