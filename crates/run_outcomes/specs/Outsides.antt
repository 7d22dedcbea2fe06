-- What lies outside of a run, as far as files and sink speak of it, and calls that failed.
use Rattle.std.specs.Prelude.{◌≡◌, ℕ, Bool, true, IsTrue, List, ◌++◌, take, Option, Some, None, IfSome, Result, Err}
use Rattle.run_outside.specs.Outside.{LastCall, Rose, HoldsWritten, SinkTakes, SinkCause}
use Rattle.run_outside.specs.declared.outside.SinkFault.{SinkFault}

-- What names hold, where that is told, and whether the files tell at all: then a name of which
-- nothing is told isn't there.
pub record Told : Type 0 where
  pub tells : Bool
  pub holds : List ℕ → Option (List ℕ)

abbrev pub told_by : Bool → (List ℕ → Option (List ℕ)) → Told
told_by tells holds = record { tells = tells; holds = holds }

-- a name holds these bytes, where that is told; where the files tell at all, it is there
pub record HoldsOf (told : Told) (name bytes : List ℕ) : Type 0 where
  pub where_told : IfSome (told.holds name) (λ b. b ≡ bytes)
  pub there : IsTrue told.tells → told.holds name ≡ Some bytes

-- a name holds exactly these bytes: it is there with them where it was told before or the files tell
-- at all
abbrev pub HoldsNow : Told → Told → List ℕ → List ℕ → Type 0
HoldsNow before after name bytes = HoldsWritten before.tells (before.holds name) (after.holds name)
    bytes

-- what names hold, how many calls have failed, the last call
pub record FilesView : Type 0 where
  pub told : Told
  pub faults : ℕ
  pub last : Option LastCall

-- the bytes taken, how many calls have failed
pub record SinkView : Type 0 where
  pub taken : Option (List ℕ)
  pub faults : ℕ

pub record Outside : Type 0 where
  pub files : FilesView
  pub sink : SinkView

abbrev pub files_view : Told → ℕ → Option LastCall → FilesView
files_view told faults last = record { told = told; faults = faults; last = last }

abbrev pub sink_view : Option (List ℕ) → ℕ → SinkView
sink_view taken faults = record { taken = taken; faults = faults }

abbrev pub outside : Told → ℕ → Option LastCall → Option (List ℕ) → ℕ → Outside
outside told faults last taken sink_faults = record {
  files = files_view told faults last;
  sink = sink_view taken sink_faults;
}

-- ---- files

-- the last call on the files was the read or the write of this name, and the count of faults rose in
-- it
pub record FailedCall (wrote : Bool) (name : List ℕ) (before after : FilesView) : Type 0 where
  pub last : after.last ≡ Some (record { wrote = wrote; name = take 255 name; rose = true })
  pub rose : Rose before.faults after.faults

-- each name holds what it held
abbrev pub Kept : Told → Told → Type 0
Kept before after = (name : List ℕ) → after.holds name ≡ before.holds name

-- ---- the sink

-- where the sink tells what it took, it took exactly this after what it had taken
abbrev pub Took : Option (List ℕ) → Option (List ℕ) → List ℕ → Type 0
Took None new text = Unit {0}
Took (Some old) new text = new ≡ Some (old ++ text)

-- It took this text and nothing else; or a front of it, and then the count of faults rose. Nothing is
-- claimed of bytes where it tells nothing.
pub record Said (before after : SinkView) (text : List ℕ) : Type 0 where
  pub answer : Result (Unit {0}) SinkFault
  pub content : SinkTakes before.taken after.taken text answer
  pub cause : SinkCause before.faults after.faults answer

-- it took a front of this text and nothing else, and the count of faults rose
pub record FailedPut (before after : SinkView) (text : List ℕ) : Type 0 where
  pub error : SinkFault
  pub content : SinkTakes before.taken after.taken text (Err error)
  pub cause : SinkCause before.faults after.faults (Err error)
