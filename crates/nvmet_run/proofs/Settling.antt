-- What told files settle.
use Rattle.std.proofs.Common.{◌≡◌, ℕ, List, Some, None, Result, Ok, Err, refl, ap, inl, inr}
use Rattle.std.specs.Prelude.{◌⊎◌}
use Rattle.run_outside.specs.Outside.{Rose}
use Rattle.run_outcomes.specs.declared.faults.Fault.{Fault}
use Rattle.run_outcomes.specs.declared.faults.Fault.TheVariants as fault
use Rattle.run_outcomes.specs.Outsides.{FilesView, Outside}
use Rattle.run_inputs.specs.Known.{Known, begun}
use Rattle.run_inputs.specs.Ready.{IsRead, ToldFilesSettle}
use Rattle.run_inputs.specs.Reading.{ReadsAll, FilesTell}
use Rattle.run_transcript.specs.Runs.{Run}
use Rattle.nvmet_run.specs.Codes.{status_of}
use Rattle.nvmet_run.specs.declared.status.Status.{Status}
use Rattle.nvmet_run.specs.declared.status.Status.TheVariants as status
use Rattle.nvmet_run.specs.Refusals.{Refusal, StopsBy}
use Rattle.run_inputs.proofs.Walking.{reads_all}

stops_all : (before after : FilesView) (name : List ℕ) (plan : _) (f : Fault)
    → StopsBy before after name plan f → ReadsAll before after name (Err f)
stops_all before after name None f r = (Err f, r, refl)
stops_all before after name (Some plan) f r = (Ok (begun plan), r.0, r.1)

-- the answer to a fault of reading
abbrev Answers : Result Known Fault → Fault → Type 0
Answers (Ok s) f = ⊥
Answers (Err e) f = (status_of f ≡ status_of e) ⊎ (status_of f ≡ status.Memory)

abbrev answer_of : Result Known Fault → Status
answer_of (Ok s) = status.Fine
answer_of (Err f) = status_of f

-- a run that read all can't have a first fault
pub read_settles : (before after : FilesView) (name : List ℕ) (run : Run) (f : Fault)
    → ToldFilesSettle → IsRead before.told name run → FilesTell before.told name (Err f)
    → (Rose before.faults after.faults → ⊥) → ⊥
read_settles before after name run f law r tells quiet = elim
    (law before after name (Ok r.known) (Err f)
    (reads_all before after name r.known r.was_read) tells quiet) [
      | inl e ↦ cc
      | inr e ↦ cc
    ]

stop_settles : (before after : FilesView) (name : List ℕ) (plan : _) (f e : Fault)
    → ToldFilesSettle → StopsBy before after name plan f → FilesTell before.told name (Err e)
    → (Rose before.faults after.faults → ⊥)
    → (status_of f ≡ status_of e) ⊎ (status_of f ≡ status.Memory)
stop_settles before after name plan f e law r tells quiet = elim
    (law before after name (Err f) (Err e) (stops_all before after name plan f r) tells quiet) [
      | inl same ↦ inl (ap answer_of same)
      | inr memory ↦ inr (ap answer_of memory)
    ]

stop_completes : (before after : FilesView) (name : List ℕ) (plan : _) (f : Fault) (s : Known)
    → ToldFilesSettle → StopsBy before after name plan f → FilesTell before.told name (Ok s)
    → (Rose before.faults after.faults → ⊥) → status_of f ≡ status.Memory
stop_completes before after name plan f s law r tells quiet = elim
    (law before after name (Err f) (Ok s) (stops_all before after name plan f r) tells quiet) [
      | inl same ↦ absurd cc
      | inr memory ↦ ap answer_of memory
    ]

-- where told files have a first fault
pub exact_fault : (before after : Outside) (name : List ℕ) (f e : Fault) → ToldFilesSettle
    → Refusal before after name f → FilesTell before.files.told name (Err e)
    → (Rose before.files.faults after.files.faults → ⊥)
    → (status_of f ≡ status_of e) ⊎ (status_of f ≡ status.Memory)
exact_fault before after name (fault.Malformed n place) e law r tells quiet =
    stop_settles before.files after.files name r.plan (fault.Malformed n place) e law r.cause tells
    quiet
exact_fault before after name (fault.Limit n what count) e law r tells quiet =
    stop_settles before.files after.files name r.plan (fault.Limit n what count) e law r.cause tells
    quiet
exact_fault before after name (fault.ReadFault n) e law r tells quiet =
    stop_settles before.files after.files name r.plan (fault.ReadFault n) e law r.cause tells quiet
exact_fault before after name (fault.ConfigRefused n errno) e law r tells quiet =
    stop_settles before.files after.files name r.plan (fault.ConfigRefused n errno) e law r.cause
    tells quiet
exact_fault before after name (fault.WriteFault n) e law r tells quiet = elim r [
  | inl sink ↦ absurd (read_settles before.files after.files name sink.1.run e law
      sink.1.made.read tells quiet)
  | inr file ↦ absurd (quiet file.stops.fails.1.rose)
]
exact_fault before after name fault.Memory e law r tells quiet = inr refl

-- where told files have none
pub complete_fault : (before after : Outside) (name : List ℕ) (f : Fault) (s : Known)
    → ToldFilesSettle → Refusal before after name f → FilesTell before.files.told name (Ok s)
    → (Rose before.files.faults after.files.faults → ⊥)
    → (Rose before.sink.faults after.sink.faults → ⊥) → status_of f ≡ status.Memory
complete_fault before after name (fault.Malformed n place) s law r tells quiet calm =
    stop_completes before.files after.files name r.plan (fault.Malformed n place) s law r.cause
    tells quiet
complete_fault before after name (fault.Limit n what count) s law r tells quiet calm =
    stop_completes before.files after.files name r.plan (fault.Limit n what count) s law r.cause
    tells quiet
complete_fault before after name (fault.ReadFault n) s law r tells quiet calm =
    stop_completes before.files after.files name r.plan (fault.ReadFault n) s law r.cause tells
    quiet
complete_fault before after name (fault.ConfigRefused n errno) s law r tells quiet calm =
    stop_completes before.files after.files name r.plan (fault.ConfigRefused n errno) s law r.cause
    tells quiet
complete_fault before after name (fault.WriteFault n) s law r tells quiet calm = elim r [
  | inl sink ↦ absurd (calm sink.1.failed.cause.failed)
  | inr file ↦ absurd (quiet file.stops.fails.1.rose)
]
complete_fault before after name fault.Memory s law r tells quiet calm = refl
