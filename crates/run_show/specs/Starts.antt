-- The plan and its configuration, the files that say how a run starts, in the order of reading. How
-- one file's reading is told is a parameter, as it is of a run's files.
use Rattle.std.specs.Prelude.{ℕ, List, Result, Ok}
use Rattle.run_outcomes.specs.declared.numbers.TheConstants.{PLAN}
use Rattle.run_outcomes.specs.declared.faults.Fault.{Fault}
use Rattle.run_outcomes.specs.Outsides.{Told, FilesView}
use Rattle.run_inputs.specs.Gives.{PlanBegins}
use Rattle.run_inputs.specs.InputFiles.{configuration_files}
use Rattle.run_inputs.specs.Known.{Known}
use Rattle.run_inputs.specs.Reading.{WasRead, Reading, Tells}
use Rattle.run_inputs.specs.Walk.{Saying, Then, Walk}

-- the plan of this name, then its configuration, where it has one
abbrev pub WalkStart : Saying → List ℕ → Result Known Fault → Type 0
WalkStart Says name r = (u : Result Known Fault) × Says PLAN name PlanBegins u
    × Then u (λ s. Walk Says (configuration_files s.plan.config) s) r

-- what was read of them, or why it ended
abbrev pub ReadsStart : FilesView → FilesView → List ℕ → Result Known Fault → Type 0
ReadsStart before after name r = WalkStart (Reading before after) name r

-- both were read, and gave this
abbrev pub StartWasRead : Told → List ℕ → Known → Type 0
StartWasRead told name s = WalkStart (WasRead told) name (Ok s)

-- Told files give this, or have this first bad place, passed limit or refused edit in the plan and
-- then in its configuration.
abbrev pub StartTells : Told → List ℕ → Result Known Fault → Type 0
StartTells told name r = WalkStart (Tells told) name r
