-- What a run has in hand once its files were read.
use Rattle.std.specs.Prelude.{◌≡◌, ◌≤◌, ◌⊎◌, ℕ, List, map, length, All, Result, Ok, Err, IfErr}
use Rattle.plan_files.specs.declared.capsules.TheConstants.{MAX_CAPSULES}
use Rattle.plan_files.specs.Capsules.{Capsule, IsWholeIn, capsules_in}
use Rattle.plan_files.specs.Rooms.{room_of}
use Rattle.run_transcript.specs.declared.capsule_files.CapsuleFile.{CapsuleFile}
use Rattle.run_inputs.specs.Known.{Known}
use Rattle.run_inputs.specs.declared.inputs.Inputs.{Inputs}
use Rattle.run_inputs.specs.declared.inputs.PlanInputs.{PlanInputs}
use Rattle.run_inputs.specs.Known.{begun}
use Rattle.run_inputs.specs.InputFiles.{input_files}
use Rattle.run_inputs.specs.Stages.{ReadOn}
use Rattle.run_inputs.specs.Reading.{RestWasRead, AllWasRead, ReadsAll, FilesTell}
use Rattle.run_outside.specs.Outside.{Rose}
use Rattle.run_outcomes.specs.Outsides.{Told, FilesView}
use Rattle.run_outcomes.specs.declared.faults.Fault.{Fault}
use Rattle.run_outcomes.specs.declared.faults.Fault.TheVariants as fault
use Rattle.run_transcript.specs.Runs.{Run}
use Rattle.run_transcript.specs.declared.scripts.ScriptEdit.{ScriptEdit}
use Rattle.plan_files.specs.declared.items.Plan.{Plan}
use Rattle.tree_target.specs.Kept.{Kept}
use Rattle.tree_target.specs.Stands.{StandsFor}

-- the capsules of a file
abbrev pub capsules_of_file : CapsuleFile → List Capsule
capsules_of_file f = capsules_in f.bytes.items f.capsules.items

-- the data of each capsule stand in the bytes, they are at most 65,536, and the room is theirs
pub record IsReady (f : CapsuleFile) : Type 0 where
  pub whole : All (IsWholeIn f.bytes.items) f.capsules.items
  pub few : length f.capsules.items ≤ MAX_CAPSULES
  pub room : f.room ≡ room_of (λ c. c.sqe) f.capsules.items

-- the program has in hand what is known
pub record Holds (target : Kept) (passed_over : ℕ) (script : List ScriptEdit)
    (files : List CapsuleFile) (s : Known) : Type 0 where
  pub stands : StandsFor target s.start
  pub passed_over_is : s.passed_over ≡ passed_over
  pub script_is : s.script ≡ script
  pub files_are : s.files ≡ map capsules_of_file files

abbrev pub HoldsInputs : Inputs → Known → Type 0
HoldsInputs i s = Holds i.target i.passed_over i.script.items i.files.items s

abbrev pub HoldsRest : PlanInputs → Known → Type 0
HoldsRest i s = Holds i.target i.passed_over i.script.items i.files.items s

-- these files gave what the program has in hand
pub record ReadsRest (now : FilesView) (plan : Plan) (i : PlanInputs) : Type 0 where
  pub known : Known
  pub plan_is : known.plan ≡ plan
  pub holds : HoldsRest i known
  pub was_read : RestWasRead now.told plan known
  pub read : ReadOn now (input_files plan) (begun plan) known

-- the plan of this name, and the files that it names, gave what the program has in hand
pub record ReadsInputs (told : Told) (name : List ℕ) (i : Inputs) : Type 0 where
  pub known : Known
  pub plan_is : known.plan ≡ i.plan
  pub holds : HoldsInputs i known
  pub was_read : AllWasRead told name known

-- plan, start, script and capsules of a run are what its files gave when they were read
pub record IsRead (told : Told) (name : List ℕ) (run : Run) : Type 0 where
  pub known : Known
  pub was_read : AllWasRead told name known
  pub plan : run.plan ≡ known.plan
  pub start : run.start ≡ known.start
  pub passed_over : run.passed_over ≡ known.passed_over
  pub script : run.script ≡ known.script
  pub files : run.files ≡ known.files

-- ---- what told files settle

-- the answer is this fault, or want of memory
abbrev pub IsFault : {X : Type 0} → Fault → Result X Fault → Type 0
IsFault f (Ok x) = ⊥
IsFault f (Err e) = (e ≡ f) ⊎ (e ≡ fault.Memory)

-- where told files have this first fault, and no call fails, the answer is this fault
abbrev pub IsExact : {X : Type 0} → FilesView → FilesView → List ℕ → Result X Fault → Type 0
IsExact before after name result = (f : Fault) → FilesTell before.told name (Err f)
    → (Rose before.faults after.faults → ⊥) → IsFault f result

-- where told files have none, and no call fails, all is read
abbrev pub IsComplete : {X : Type 0} → FilesView → FilesView → List ℕ → Result X Fault → Type 0
IsComplete before after name result = (s : Known) → FilesTell before.told name (Ok s)
    → (Rose before.faults after.faults → ⊥) → IfErr result (λ e. e ≡ fault.Memory)

-- what told files give is what was read of them, unless a call failed or memory ran out
abbrev pub ToldFilesSettle : Type 0
ToldFilesSettle = (before after : FilesView) (name : List ℕ) (r told : Result Known Fault)
    → ReadsAll before after name r → FilesTell before.told name told
    → (Rose before.faults after.faults → ⊥) → (r ≡ told) ⊎ (r ≡ Err fault.Memory)
