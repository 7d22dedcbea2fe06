-- Right runs in the words of runs, and faults.
use Rattle.std.specs.Prelude.{◌≡◌, ℕ, length}
use Rattle.run_transcript.specs.Runs.{Run, IsOrdered, IsLegalRun}
use Rattle.run_transcript.specs.Served.{IsServed}
use Rattle.run_verdicts.specs.declared.verdict.Field.{Field}
use Rattle.run_verdicts.specs.Nexts.{told, in_places}
use Rattle.run_verdicts.specs.Faults.{IsRight, IsFault}

-- the history of a run is what its callers tell, in the order of places, and each file has its
-- queue
pub record IsLaidOut (n : ℕ) (run : Run) : Type 0 where
  pub history_is : run.history ≡ in_places n (told run)
  pub queues : length run.queues ≡ length run.files

-- a run of so many places that is ordered, served and legal
pub record IsTranscript (n : ℕ) (run : Run) : Type 0 where
  pub ordered : IsOrdered run
  pub served : IsServed run
  pub legal : IsLegalRun run
  pub places : length run.history ≡ n

-- right runs are such runs
abbrev pub RightIsTranscript : Type 0
RightIsTranscript = (n : ℕ) (run : Run) → IsLaidOut n run → IsRight n run → IsTranscript n run

-- and such runs are right
abbrev pub TranscriptIsRight : Type 0
TranscriptIsRight = (n : ℕ) (run : Run) → IsLaidOut n run → IsTranscript n run → IsRight n run

-- right runs have no fault
abbrev pub RightHasNoFault : Type 0
RightHasNoFault = (n : ℕ) (run : Run) (p : ℕ) (f : Field) → IsRight n run → IsFault n run p f → ⊥

-- two faults are the same: the named one is the first
abbrev pub OneFault : Type 0
OneFault = (n : ℕ) (run : Run) (p q : ℕ) (f g : Field) → IsFault n run p f → IsFault n run q g
    → (p ≡ q) × (f ≡ g)
