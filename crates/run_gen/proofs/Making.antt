-- A run of what was read, and its summary.
use Rattle.std.proofs.Common.{◌≡◌, ℕ, List, [], ◌∷◌, Result, Ok, Err}
use Rattle.run_transcript.specs.Runs.{Run}
use Rattle.run_outcomes.specs.declared.numbers.TheConstants.{PLAN}
use Rattle.run_outcomes.specs.declared.faults.Fault.{Fault}
use Rattle.run_outcomes.specs.Outsides.{Told, HoldsOf}
use Rattle.run_outcomes.specs.Written.{ToWrite, AreWritten}
use Rattle.run_inputs.specs.Gives.{PlanBegins, FileGives}
use Rattle.run_inputs.specs.InputFiles.{InputFile, input_files}
use Rattle.run_inputs.specs.Known.{Known}
use Rattle.run_inputs.specs.Reading.{ReadsSo, WasRead, AllWasRead}
use Rattle.run_inputs.specs.Walk.{Then, Walk}
use Rattle.run_prints.specs.Prints.{Makes}
use Rattle.run_gen.specs.Summed.{IsRunOf, IsSummed}
use Rattle.run_gen.specs.Written.{HoldsJust}
use Rattle.run_gen.proofs.Files.{held_since}

-- by the name of the plan
pub summed : (told : Told) (name : List ℕ) (s : Known) (records : List (List ℕ))
    (written text : List ℕ) → AllWasRead told name s → Makes s records written text
    → IsSummed told name text
summed told name s records written text read m = record {
  run = m.run;
  made = record {
    read = record {
      known = s;
      was_read = read;
      plan = m.of.plan;
      start = m.of.start;
      passed_over = m.of.passed_over;
      script = m.of.script;
      files = m.of.files;
    };
    ordered = m.ordered;
    served = m.served;
    legal = m.legal;
    in_turn = m.in_turn;
  };
  is = m.printed.summary_is;
}

-- ---- the same files, where they stand
abbrev Holds : Told → Told → Type 0
Holds inner after = (name bytes : List ℕ) → HoldsOf inner name bytes → HoldsOf after name bytes

reads_there : (inner after : Told) (name : List ℕ) (gives : List ℕ → Result Known Fault → Type 0)
    (r : Result Known Fault) → Holds inner after → ReadsSo inner name gives r
    → ReadsSo after name gives r
reads_there inner after name gives r holds x = record {
  bytes = x.bytes;
  held = holds name x.bytes x.held;
  is = x.is;
}

walk_there : (inner after : Told) (files : List InputFile) (s t : Known) → Holds inner after
    → Walk (WasRead inner) files s (Ok t) → Walk (WasRead after) files s (Ok t)
walk_there inner after [] s t holds w = w
walk_there inner after (file ∷ files) s t holds w =
    by w.0 w.1 w.2 (λ v rest. walk_there inner after files v t holds rest) where
      by : (u : Result Known Fault) → WasRead inner file.number file.name (FileGives file s) u
          → Then u (Walk (WasRead inner) files) (Ok t)
          → ((v : Known) → Walk (WasRead inner) files v (Ok t)
          → Walk (WasRead after) files v (Ok t))
          → Walk (WasRead after) (file ∷ files) s (Ok t)
      by (Ok v) says rest more = (
        Ok v,
        reads_there inner after file.name (FileGives file s) (Ok v) holds says,
        more v rest,
      )
      by (Err f) says rest more = absurd cc

all_there : (inner after : Told) (name : List ℕ) (s : Known) → Holds inner after
    → AllWasRead inner name s → AllWasRead after name s
all_there inner after name s holds w = by w.0 w.1 w.2 where
  by : (u : Result Known Fault) → WasRead inner PLAN name PlanBegins u
      → Then u (λ v. Walk (WasRead inner) (input_files v.plan) v) (Ok s) → AllWasRead after name s
  by (Ok v) says rest = (
    Ok v,
    reads_there inner after name PlanBegins (Ok v) holds says,
    walk_there inner after (input_files v.plan) v s holds rest,
  )
  by (Err f) says rest = absurd cc

run_there : (inner after : Told) (name : List ℕ) (run : Run) → Holds inner after
    → IsRunOf inner name run → IsRunOf after name run
run_there inner after name run holds m = record {
  read = record {
    known = m.read.known;
    was_read = all_there inner after name m.read.known holds m.read.was_read;
    plan = m.read.plan;
    start = m.read.start;
    passed_over = m.read.passed_over;
    script = m.read.script;
    files = m.read.files;
  };
  ordered = m.ordered;
  served = m.served;
  legal = m.legal;
  in_turn = m.in_turn;
}

-- the summary of files in memory is that of the files that were written
pub summed_there : (ws : List ToWrite) (inner before after : Told) (name text : List ℕ)
    → HoldsJust ws inner → after.tells ≡ before.tells → AreWritten before after ws
    → IsSummed inner name text → IsSummed after name text
summed_there ws inner before after name text just same written m = record {
  run = m.run;
  made = run_there inner after name m.run
      (λ n bytes h. held_since ws inner before after n bytes just same written h) m.made;
  is = m.is;
}
