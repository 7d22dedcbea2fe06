-- The records of a finished run, read in order: what was read, and what told files give.
use Rattle.std.specs.Prelude.{◌≡◌, ◌⊎◌, ℕ, false, List, [], ◌∷◌, Some, Result, Ok, Err}
use Rattle.run_outcomes.specs.declared.numbers.FileNo.{FileNo}
use Rattle.run_outcomes.specs.declared.faults.Fault.{Fault}
use Rattle.run_outcomes.specs.declared.faults.Fault.TheVariants as fault
use Rattle.run_outcomes.specs.Outsides.{Told, HoldsOf, FilesView, FailedCall}
use Rattle.run_inputs.specs.Known.{Known}
use Rattle.run_inputs.specs.Reading.{AllWasRead, ReadsAll, FilesTell}
use Rattle.run_inputs.specs.Views.{IsEarlier}
use Rattle.run_check.specs.Finished.{Finished, unread}
use Rattle.response_files.specs.Responses.{Response}
use Rattle.run_check.specs.RecordFiles.{RecordFile, TheResponses, record_files, gives, kind_gives, responses_in_file}

-- ---- in order
-- of the file with this number and name, whose bytes give such results: that it gave this one
abbrev pub Saying : Type 1
Saying = FileNo → List ℕ → (List ℕ → Result Finished Fault) → Result Finished Fault → Type 0

-- after a first fault nothing more is read
abbrev pub Then : Result Finished Fault → (Finished → Result Finished Fault → Type 0)
    → Result Finished Fault → Type 0
Then (Ok s) rest r = rest s r
Then (Err f) rest r = r ≡ Err f

-- these files one after another, from what is known on
abbrev pub Walk : Saying → List RecordFile → Finished → Result Finished Fault → Type 0
Walk Says [] s r = r ≡ Ok s
Walk Says (file ∷ files) s r = (u : Result Finished Fault)
    × Says file.number file.name (gives file s) u × Then u (Walk Says files) r

-- ---- what was read
-- some bytes, which the name holds where that is told, give this
pub record ReadsSo (told : Told) (name : List ℕ) (given : List ℕ → Result Finished Fault)
    (r : Result Finished Fault) : Type 0 where
  pub bytes : List ℕ
  pub held : HoldsOf told name bytes
  pub is : r ≡ given bytes

abbrev pub WasRead : Told → Saying
WasRead told file name given r = ReadsSo told name given r

-- What came of reading this file: what its bytes give, a first bad place and a passed limit among
-- it; a read that failed, the last call on the files; or want of memory.
abbrev pub Reading : FilesView → FilesView → Saying
Reading before after file name given (Ok s) = ReadsSo before.told name given (Ok s)
Reading before after file name given (Err (fault.Malformed n place)) =
    ReadsSo before.told name given (Err (fault.Malformed n place))
Reading before after file name given (Err (fault.Limit n what count)) =
    ReadsSo before.told name given (Err (fault.Limit n what count))
Reading before after file name given (Err (fault.ConfigRefused n errno)) =
    ReadsSo before.told name given (Err (fault.ConfigRefused n errno))
Reading before after file name given (Err (fault.ReadFault n)) = (n ≡ file)
    × FailedCall false name before after
Reading before after file name given (Err (fault.WriteFault n)) = ⊥
Reading before after file name given (Err fault.Memory) = Unit {0}

-- the records were read in their order, or why that ended
abbrev pub ReadsRecords : FilesView → FilesView → List RecordFile → Finished
    → Result Finished Fault → Type 0
ReadsRecords before after files s r = Walk (Reading before after) files s r

-- the name tells its bytes, and they give this
abbrev pub Tells : Told → Saying
Tells told file name given r = (bytes : List ℕ) × (told.holds name ≡ Some bytes)
    × (r ≡ given bytes)

-- ---- all that a check reads
-- what a run reads, and then its records
abbrev pub RecordsAfter : Saying → Known → Result Finished Fault → Type 0
RecordsAfter Says s r = Walk Says (record_files s.plan s.files) (unread s) r

abbrev pub Behind : Saying → Result Known Fault → Result Finished Fault → Type 0
Behind Says (Ok s) r = RecordsAfter Says s r
Behind Says (Err f) r = r ≡ Err f

-- all was read, and gave this
pub record WasAllRead (told : Told) (name : List ℕ) (f : Finished) : Type 0 where
  pub known : Known
  pub inputs : AllWasRead told name known
  pub records : RecordsAfter (WasRead told) known (Ok f)

-- what came of reading all
abbrev pub ReadsBoth : FilesView → FilesView → List ℕ → Result Finished Fault → Type 0
ReadsBoth before after name r = (u : Result Known Fault) × ReadsAll before after name u
    × Behind (Reading before after) u r

-- Told files give this, or have this first bad place, passed limit or refused edit in the order of
-- reading.
abbrev pub BothTell : Told → List ℕ → Result Finished Fault → Type 0
BothTell told name r = (u : Result Known Fault) × FilesTell told name u
    × Behind (Tells told) u r

-- ---- for the calls above a reader
-- these records were read, from so much known on to so much, whatever call comes later
abbrev pub ReadOn : FilesView → List RecordFile → Finished → Finished → Type 0
ReadOn now files s t = (before after : FilesView) → IsEarlier before now
    → ReadsRecords before after files s (Ok t)

-- memory ran out, or reading one of them ended by this fault
abbrev pub StoppedIn : FilesView → FilesView → List RecordFile → Finished → Fault → Type 0
StoppedIn now after files s f =
    (f ≡ fault.Memory)
    ⊎ ((before : FilesView) → IsEarlier before now → ReadsRecords before after files s (Err f))

-- ---- response files
-- what the bytes of a response file give, where so much was known before
abbrev pub GivesResponses : FileNo → ℕ → Finished → List ℕ → Result Finished Fault
GivesResponses file room s bytes = kind_gives (TheResponses room) file s bytes

-- these records were read of it
pub record ReadsResponses (told : Told) (file : FileNo) (name : List ℕ) (room : ℕ)
    (rs : List Response) : Type 0 where
  pub bytes : List ℕ
  pub held : HoldsOf told name bytes
  pub is : responses_in_file file room bytes ≡ Ok rs
