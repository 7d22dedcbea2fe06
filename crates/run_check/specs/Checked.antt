-- What a check has found, and what it left.
use Rattle.std.specs.Prelude.{ℕ, List, Option}
use Rattle.run_outcomes.specs.Outsides.{Told, Took, Said, Kept, Outside}
use Rattle.run_verdicts.specs.declared.verdict.Field.{Field}
use Rattle.run_verdicts.specs.Faults.{IsRight, IsFault}
use Rattle.run_verdicts.specs.Laws.{IsTranscript}
use Rattle.run_check.specs.Finished.{Finished, number_of}
use Rattle.run_check.specs.ToldRun.{run_of}
use Rattle.run_check.specs.RecordReading.{WasAllRead}
use Rattle.run_check.specs.Texts.{legal_line, not_legal_line}

-- The finished run is legal: all was read, and the run that the records tell is right, which is to
-- say ordered, served and legal. No name was touched, and the sink took `legal N` and nothing else.
pub record IsLegalFile (before after : Told) (taken_before taken_after : Option (List ℕ))
    (name : List ℕ) : Type 0 where
  pub finished : Finished
  pub was_read : WasAllRead before name finished
  pub right : IsRight (number_of finished) (run_of finished)
  pub transcript : IsTranscript (number_of finished) (run_of finished)
  pub kept : Kept before after
  pub put : Took taken_before taken_after (legal_line (number_of finished))

-- It is not: all was read, and this is the first fault of the run that the records tell. No name was
-- touched, and the sink took the line that names the fault, or a front of it where it failed.
pub record HasFirstFault (before after : Outside) (name : List ℕ) (place : ℕ) (field : Field)
    : Type 0 where
  pub finished : Finished
  pub was_read : WasAllRead before.files.told name finished
  pub fault : IsFault (number_of finished) (run_of finished) place field
  pub kept : Kept before.files.told after.files.told
  pub said : Said before.sink after.sink (not_legal_line place field)
