-- What was read of the files of a run, and what told files give.
use Rattle.std.specs.Prelude.{◌≡◌, ℕ, false, List, Some, Result, Ok, Err}
use Rattle.plan_files.specs.declared.items.Plan.{Plan}
use Rattle.run_outcomes.specs.declared.numbers.FileNo.{FileNo}
use Rattle.run_outcomes.specs.declared.faults.Fault.{Fault}
use Rattle.run_outcomes.specs.declared.faults.Fault.TheVariants as fault
use Rattle.run_outcomes.specs.Outsides.{Told, HoldsOf, FilesView, FailedCall}
use Rattle.run_inputs.specs.InputFiles.{InputFile, input_files}
use Rattle.run_inputs.specs.Known.{Known, begun}
use Rattle.run_inputs.specs.Walk.{Walk, WalkAll}

-- some bytes, which the name holds where that is told, give this
pub record ReadsSo (told : Told) (name : List ℕ) (gives : List ℕ → Result Known Fault → Type 0)
    (r : Result Known Fault) : Type 0 where
  pub bytes : List ℕ
  pub held : HoldsOf told name bytes
  pub is : gives bytes r

-- a file was read and gave this
abbrev pub WasRead : Told → FileNo → List ℕ → (List ℕ → Result Known Fault → Type 0)
    → Result Known Fault → Type 0
WasRead told file name gives r = ReadsSo told name gives r

-- What came of reading this file: what its bytes give, a first bad place, a passed limit and a
-- refused edit among it; a read that failed, the last call on the files; or want of memory.
abbrev pub Reading : FilesView → FilesView → FileNo → List ℕ
    → (List ℕ → Result Known Fault → Type 0) → Result Known Fault → Type 0
Reading before after file name gives (Ok s) = ReadsSo before.told name gives (Ok s)
Reading before after file name gives (Err (fault.Malformed n place)) =
    ReadsSo before.told name gives (Err (fault.Malformed n place))
Reading before after file name gives (Err (fault.Limit n what count)) =
    ReadsSo before.told name gives (Err (fault.Limit n what count))
Reading before after file name gives (Err (fault.ConfigRefused n errno)) =
    ReadsSo before.told name gives (Err (fault.ConfigRefused n errno))
Reading before after file name gives (Err (fault.ReadFault n)) = (n ≡ file)
    × FailedCall false name before after
Reading before after file name gives (Err (fault.WriteFault n)) = ⊥
Reading before after file name gives (Err fault.Memory) = Unit {0}

-- what was read in the order of reading, or why it ended
abbrev pub ReadsFiles : FilesView → FilesView → List InputFile → Known → Result Known Fault → Type 0
ReadsFiles before after files s r = Walk (Reading before after) files s r

abbrev pub ReadsAll : FilesView → FilesView → List ℕ → Result Known Fault → Type 0
ReadsAll before after name r = WalkAll (Reading before after) name r

-- the files that a plan names were read, and gave this
abbrev pub RestWasRead : Told → Plan → Known → Type 0
RestWasRead told plan s = Walk (WasRead told) (input_files plan) (begun plan) (Ok s)

-- all files of a run were read, and gave this
abbrev pub AllWasRead : Told → List ℕ → Known → Type 0
AllWasRead told name s = WalkAll (WasRead told) name (Ok s)

-- ---- what files tell
-- the name tells its bytes, and they give this
abbrev pub Tells : Told → FileNo → List ℕ → (List ℕ → Result Known Fault → Type 0)
    → Result Known Fault → Type 0
Tells told file name gives r = (bytes : List ℕ) × (told.holds name ≡ Some bytes) × gives bytes r

-- Told files give this, or have this first bad place, passed limit or refused edit in the order of
-- reading.
abbrev pub FilesTell : Told → List ℕ → Result Known Fault → Type 0
FilesTell told name r = WalkAll (Tells told) name r
