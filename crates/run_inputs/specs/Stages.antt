-- What one call of the reader answers, for the calls above it.
use Rattle.std.specs.Prelude.{◌≡◌, ◌<◌, ◌⊎◌, ℕ, ◌+◌, false, List, [], length, Result, Ok, Err}
use Rattle.text_lines.specs.Answers as answers
use Rattle.plan_files.specs.declared.limits.What.TheVariants.{Bytes}
use Rattle.plan_files.specs.declared.items.QueueLine.{QueueLine}
use Rattle.plan_files.specs.Capsules.{Capsule}
use Rattle.tree_target.specs.Loads.{Loaded, RefusedEdit}
use Rattle.tree_target.specs.Kept.{Kept}
use Rattle.tree_target.specs.Model.{Target}
use Rattle.tree_target.specs.Stands.{StandsFor}
use Rattle.run_outcomes.specs.declared.numbers.FileNo.{FileNo}
use Rattle.run_outcomes.specs.declared.faults.Fault.{Fault}
use Rattle.run_outcomes.specs.declared.faults.Fault.TheVariants as fault
use Rattle.run_outcomes.specs.Outsides.{Told, HoldsOf, FilesView, FailedCall}
use Rattle.run_inputs.specs.Views.{IsEarlier}
use Rattle.run_inputs.specs.InputFiles.{InputFile, capsule_files}
use Rattle.run_inputs.specs.Known.{Known}
use Rattle.run_inputs.specs.ConfigurationFile.{TextStarts}
use Rattle.run_inputs.specs.Reading.{ReadsSo, ReadsFiles}
use Rattle.run_inputs.specs.Gives.{CapsulesGive}
use Rattle.run_inputs.specs.QueueFile.{Counted, with_file}

-- ---- contents

-- the name holds more bytes than so many
pub record IsOver (told : Told) (name : List ℕ) (limit : ℕ) : Type 0 where
  pub bytes : List ℕ
  pub held : HoldsOf told name bytes
  pub over : limit < length bytes

-- why the bytes of a file weren't read
abbrev pub ContentRefused : ℕ → FileNo → List ℕ → FilesView → FilesView → Fault → Type 0
ContentRefused limit file name before after (fault.Limit n what count) =
    (n ≡ file) × (what ≡ Bytes) × (count ≡ limit + 1) × IsOver before.told name limit
ContentRefused limit file name before after (fault.ReadFault n) = (n ≡ file)
    × FailedCall false name before after
ContentRefused limit file name before after fault.Memory = Unit {0}
ContentRefused limit file name before after (fault.Malformed n place) = ⊥
ContentRefused limit file name before after (fault.WriteFault n) = ⊥
ContentRefused limit file name before after (fault.ConfigRefused n errno) = ⊥

-- ---- bytes

-- what bytes give, unless memory ran out
abbrev pub Refuses : {X : Type 0} → Fault → Result X Fault → Type 0
Refuses (fault.Malformed n place) read = read ≡ Err (fault.Malformed n place)
Refuses (fault.Limit n what count) read = read ≡ Err (fault.Limit n what count)
Refuses (fault.ConfigRefused n errno) read = read ≡ Err (fault.ConfigRefused n errno)
Refuses (fault.ReadFault n) read = ⊥
Refuses (fault.WriteFault n) read = ⊥
Refuses fault.Memory read = Unit {0}

-- what a call answered, seen by `view`, is what the bytes give, unless memory ran out
abbrev pub Gives : {X Y : Type 0} → (X → Y) → Result X Fault → Result Y Fault → Type 0
Gives view result read = answers.Gives Refuses view result read

-- bytes give this fault, unless it is want of memory
abbrev pub GivesFault : (Result Known Fault → Type 0) → Fault → Type 0
GivesFault gives (fault.Malformed n place) = gives (Err (fault.Malformed n place))
GivesFault gives (fault.Limit n what count) = gives (Err (fault.Limit n what count))
GivesFault gives (fault.ConfigRefused n errno) = gives (Err (fault.ConfigRefused n errno))
GivesFault gives (fault.ReadFault n) = ⊥
GivesFault gives (fault.WriteFault n) = ⊥
GivesFault gives fault.Memory = Unit {0}

-- a text starts a target that the program has made
pub record StartsText (s : Known) (bytes : List ℕ) (target : Kept) (count : ℕ) : Type 0 where
  pub start : Target
  pub stands : StandsFor target start
  pub is : TextStarts s bytes (Ok (record s { start = start; passed_over = count }))

-- ---- files

-- these files were read, from so much known on to so much, whatever call comes later
abbrev pub ReadOn : FilesView → List InputFile → Known → Known → Type 0
ReadOn now files s t = (before after : FilesView) → IsEarlier before now
    → ReadsFiles before after files s (Ok t)

-- memory ran out, or reading one of them ended by this fault
abbrev pub StoppedIn : FilesView → FilesView → List InputFile → Known → Fault → Type 0
StoppedIn now after files s f =
    (f ≡ fault.Memory)
    ⊎ ((before : FilesView) → IsEarlier before now → ReadsFiles before after files s (Err f))

-- the same of a target that these files start
pub record StartsIn (now : FilesView) (files : List InputFile) (s : Known) (target : Kept)
    (count : ℕ) : Type 0 where
  pub start : Target
  pub stands : StandsFor target start
  pub read : ReadOn now files s (record s { start = start; passed_over = count })

-- ---- configurations

-- an edit is refused, or memory ran out
abbrev pub EditsRefused : Loaded → Fault → Type 0
EditsRefused l (fault.ConfigRefused n errno) = l ≡ RefusedEdit n errno
EditsRefused l fault.Memory = Unit {0}
EditsRefused l (fault.Malformed n place) = ⊥
EditsRefused l (fault.Limit n what count) = ⊥
EditsRefused l (fault.ReadFault n) = ⊥
EditsRefused l (fault.WriteFault n) = ⊥

-- ---- capsule files

-- this file was read, after files with so many bytes and so much room
abbrev pub ReadsQueue : Told → FileNo → List ℕ → ℕ → ℕ → Counted → Type 0
ReadsQueue told file name before room c = (s : Known) → s.input ≡ before → s.output ≡ room
    → ReadsSo told name (CapsulesGive file s) (with_file s (Ok c))

abbrev pub with_files : Known → List (List Capsule) → ℕ → ℕ → Known
with_files s files input output = record s { files = files; input = input; output = output }

-- the capsule files of these queues were read, the first ones of a run
pub record QueuesRead (now : FilesView) (lines : List QueueLine) (files : List (List Capsule))
    : Type 0 where
  pub input : ℕ
  pub output : ℕ
  pub read : (s : Known) → ReadOn now (capsule_files 1 lines) (with_files s [] 0 0)
      (with_files s files input output)
