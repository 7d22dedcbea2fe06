-- The files of a run in the order of reading. How one file's reading is told is a parameter: by
-- what was read, or by what files tell.
use Rattle.std.specs.Prelude.{◌≡◌, ℕ, List, [], ◌∷◌, Result, Ok, Err}
use Rattle.run_outcomes.specs.declared.numbers.FileNo.{FileNo}
use Rattle.run_outcomes.specs.declared.numbers.TheConstants.{PLAN}
use Rattle.run_outcomes.specs.declared.faults.Fault.{Fault}
use Rattle.run_inputs.specs.InputFiles.{InputFile, input_files}
use Rattle.run_inputs.specs.Known.{Known}
use Rattle.run_inputs.specs.Gives.{PlanBegins, FileGives}

-- of the file with this number and name, whose bytes give such results: that it gave this one
abbrev pub Saying : Type 1
Saying = FileNo → List ℕ → (List ℕ → Result Known Fault → Type 0) → Result Known Fault → Type 0

-- after a first fault nothing more is read
abbrev pub Then : Result Known Fault → (Known → Result Known Fault → Type 0) → Result Known Fault
    → Type 0
Then (Ok s) rest r = rest s r
Then (Err f) rest r = r ≡ Err f

-- these files one after another, from what is known on
abbrev pub Walk : Saying → List InputFile → Known → Result Known Fault → Type 0
Walk Says [] s r = r ≡ Ok s
Walk Says (file ∷ files) s r = (u : Result Known Fault)
    × Says file.number file.name (FileGives file s) u × Then u (Walk Says files) r

-- the plan of this name, then the files that it names
abbrev pub WalkAll : Saying → List ℕ → Result Known Fault → Type 0
WalkAll Says name r = (u : Result Known Fault) × Says PLAN name PlanBegins u
    × Then u (λ s. Walk Says (input_files s.plan) s) r
