-- What stands once a plan was generated.
use Rattle.std.specs.Prelude.{ℕ, List, Option}
use Rattle.gen_files.specs.Seeds.{Base}
use Rattle.gen_files.specs.Contents.{plan_name}
use Rattle.run_outcomes.specs.Outsides.{Told, Took}
use Rattle.run_outcomes.specs.Written.{AllWritten}
use Rattle.run_transcript.specs.Printing.{summary}
use Rattle.run_transcript.specs.Runs.{Run}
use Rattle.run_gen.specs.Summed.{IsRunOf}
use Rattle.run_gen.specs.Written.{generated}

-- The seven files hold exactly their bytes, and no other name was touched. There is one run, which is
-- read from these very files as they now stand, ordered, served, legal and made by one caller in
-- turn; and the sink took its summary and nothing else.
pub record Generated (before after : Told) (taken taken' : Option (List ℕ)) (b : Base) : Type 0 where
  pub written : AllWritten (generated b) before after
  pub run : Run
  pub made : IsRunOf after (plan_name b.name) run
  pub put : Took taken taken' (summary run)
