-- What a run that ended well has done.
use Rattle.std.specs.Prelude.{ℕ, List, map, Option}
use Rattle.run_inputs.specs.Ready.{IsRead}
use Rattle.run_outcomes.specs.Outsides.{Told, Took}
use Rattle.run_outcomes.specs.Names.{to_write}
use Rattle.run_outcomes.specs.Written.{ToWrite, AreWritten, KeptBut}
use Rattle.run_transcript.specs.Runs.{Run, IsOrdered, IsLegalRun}
use Rattle.run_transcript.specs.Served.{IsServed}
use Rattle.run_transcript.specs.Printing.{responses, journal, summary}

-- ---- written
-- the files that a run writes, in order, with what they are to hold: the responses of each queue,
-- and the journal of a plan that has one
abbrev pub files_of_run : Run → List ToWrite
files_of_run run = to_write run.plan (map responses run.queues) (journal run)

-- ---- the run theorem
-- There is this run: its plan, start, script and capsules are what the files told when they were
-- read; its callers' lists are ordered, and serve each capsule and each edit once and in its file's
-- order; its history is a legal one of the sequential target.
pub record IsRunOf (told : Told) (name : List ℕ) (run : Run) : Type 0 where
  pub read : IsRead told name run
  pub ordered : IsOrdered run
  pub served : IsServed run
  pub legal : IsLegalRun run

-- The response files and the journal hold its prints, and no other name was touched.
pub record IsWrittenOut (before after : Told) (run : Run) : Type 0 where
  pub written : AreWritten before after (files_of_run run)
  pub kept : KeptBut before after (files_of_run run)

-- There is one run, which was read, ordered, served and legal; what it writes was written, and the
-- sink took its summary and nothing else. Where files and sink tell, the files that were read are
-- there, those that are written are there with exactly the prints, and the text is exactly the one
-- before and the summary.
pub record Ran (told_before told_after : Told) (taken_before taken_after : Option (List ℕ))
    (name : List ℕ) : Type 0 where
  pub run : Run
  pub made : IsRunOf told_before name run
  pub out : IsWrittenOut told_before told_after run
  pub put : Took taken_before taken_after (summary run)
