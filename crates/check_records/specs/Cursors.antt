-- Where a queue's records stand that were made again.
use Rattle.std.specs.Prelude.{◌≡◌, ◌≤◌, ◌<◌, ℕ, ◌+◌, ◌-◌, Bool, true, false, List, length, Option, Some, None, All}
use Rattle.sqe_cqe.specs.declared.codes.TheConstants.{FABRICS}
use Rattle.plan_files.specs.Capsules.{Capsule, IsWholeIn, capsules_in}
use Rattle.run_records.specs.declared.records.Kind.{Kind}
use Rattle.run_records.specs.declared.records.Kind.TheVariants as kinds
use Rattle.run_transcript.specs.declared.capsule_files.CapsuleFile.{CapsuleFile}
use Rattle.run_transcript.specs.Turns as turns
use Rattle.run_transcript.specs.Turns.{Progress, next_capsule, is_admin_at}
use Rattle.tree_target.specs.Model.{Call}
use Rattle.tree_target.specs.Kept.{Kept, IsIdle, IsHolding}
use Rattle.tree_target.specs.declared.calls.Reply.{Reply}
use Rattle.tree_target.specs.declared.calls.Reply.TheVariants as replies
use Rattle.check_records.specs.declared.cursor.Stage.{Stage}
use Rattle.check_records.specs.declared.cursor.Stage.TheVariants as stages
use Rattle.check_records.specs.declared.cursor.Cursor.{Cursor}
use Rattle.check_records.specs.declared.cursor.Step.{Step}
use Rattle.check_records.specs.Told.{call_told, capsule_at}

abbrev pub capsules_of : CapsuleFile → List Capsule
capsules_of f = capsules_in f.bytes.items f.capsules.items

-- the data of its capsules lie in its bytes, and there are not too many
pub record IsReadFile (f : CapsuleFile) : Type 0 where
  pub whole : All (IsWholeIn f.bytes.items) f.capsules.items
  pub few : length f.capsules.items ≤ 65536

abbrev pub stage_at : Stage → turns.Stage
stage_at stages.Ready = turns.Ready
stage_at stages.Holding = turns.Holding
stage_at stages.Through = turns.Through
stage_at stages.Ended = turns.Ended

abbrev pub progress_at : Cursor → Progress
progress_at at = record { taken = at.taken; stage = stage_at at.stage }

-- the call that a step names
abbrev pub step_call : ℕ → List Capsule → ℕ → Step → Call
step_call queue file taken s = call_told queue file taken s.kind s.number

-- the number of a step: of a held command's execute that of the last capsule taken, else how many
-- were taken
abbrev pub number_at : Stage → ℕ → ℕ
number_at stages.Ready taken = taken
number_at stages.Holding taken = taken - 1
number_at stages.Through taken = taken
number_at stages.Ended taken = taken

-- the command whose execute is owed is held, or none is
abbrev pub HoldsOwed : Stage → Kept → ℕ → ℕ → Capsule → Type 0
HoldsOwed stages.Holding k queue number c = (given : ℕ)
    × IsHolding k queue number (length c.payload) given
HoldsOwed stages.Ready k queue number c = IsIdle k queue
HoldsOwed stages.Through k queue number c = IsIdle k queue
HoldsOwed stages.Ended k queue number c = IsIdle k queue

-- the cursor is in the file
pub record IsInside (file : List Capsule) (at : Cursor) : Type 0 where
  pub inside : at.taken ≤ length file
  pub some : at.stage ≡ stages.Holding → 0 < at.taken

-- and the target is ready for its queue's next call
pub record IsReady (queue : ℕ) (file : List Capsule) (k : Kept) (at : Cursor) : Type 0 where
  pub in_file : IsInside file at
  pub holds : HoldsOwed at.stage k queue (at.taken - 1) (capsule_at file (at.taken - 1))

-- ---- steps
-- a first step is a Control of a fabrics command, a Submit of another, or a poll
abbrev pub IsFirstKind : CapsuleFile → ℕ → Kind → Type 0
IsFirstKind f taken kinds.Submit = taken < length f.capsules.items
IsFirstKind f taken kinds.Execute = ⊥
IsFirstKind f taken kinds.Poll = Unit {0}
IsFirstKind f taken kinds.Control = (taken < length f.capsules.items)
    × ((capsule_at (capsules_of f) taken).entry.opcode ≡ FABRICS)

pub record IsFirstStep (f : CapsuleFile) (taken : ℕ) (s : Step) : Type 0 where
  pub kind_is : IsFirstKind f taken s.kind
  pub number_is : s.number ≡ taken

-- by the stage: an execute of the command that is held, else a first step
abbrev pub IsStepAt : Stage → CapsuleFile → ℕ → Step → Type 0
IsStepAt stages.Ready f taken s = IsFirstStep f taken s
IsStepAt stages.Holding f taken s = (s.kind ≡ kinds.Execute) × (s.number ≡ taken - 1)
IsStepAt stages.Through f taken s = IsFirstStep f taken s
IsStepAt stages.Ended f taken s = ⊥

abbrev pub IsNextStep : CapsuleFile → Cursor → Step → Type 0
IsNextStep f at s = IsStepAt at.stage f at.taken s

abbrev pub polled : Bool → ℕ → Option Step
polled true taken = Some (record { kind = kinds.Poll; number = taken })
polled false taken = None

-- ---- after a call
abbrev pub stage_by : Stage → Reply → Stage
stage_by stages.Through reply = stages.Ready
stage_by stages.Ready replies.NoEvent = stages.Ended
stage_by stages.Holding replies.NoEvent = stages.Ended
stage_by stages.Ended replies.NoEvent = stages.Ended
stage_by s reply = stages.Ready

abbrev pub stage_submitted : Reply → Stage
stage_submitted replies.Held = stages.Holding
stage_submitted reply = stages.Through

-- the cursor behind a call of this kind that replied so
abbrev pub behind : Cursor → Kind → Reply → Cursor
behind at kinds.Submit reply = record { taken = at.taken + 1; stage = stage_submitted reply }
behind at kinds.Execute reply = record { taken = at.taken; stage = stages.Through }
behind at kinds.Poll reply = record { taken = at.taken; stage = stage_by at.stage reply }
behind at kinds.Control reply = record { taken = at.taken + 1; stage = stages.Ready }

-- a call of this kind and number can be made
abbrev pub CanMake : Kind → Kept → ℕ → ℕ → CapsuleFile → Type 0
CanMake kinds.Submit k queue number f = IsIdle k queue × (number < length f.capsules.items)
CanMake kinds.Execute k queue number f = (given : ℕ)
    × IsHolding k queue number (length (capsule_at (capsules_of f) number).payload) given
    × (number < length f.capsules.items)
CanMake kinds.Poll k queue number f = IsIdle k queue
CanMake kinds.Control k queue number f = IsIdle k queue
    × (number < length f.capsules.items)
    × ((capsule_at (capsules_of f) number).entry.opcode ≡ FABRICS)

-- it was made: a submit that was held holds its command, and nothing is held after another call
abbrev pub HoldsBy : Reply → Kept → ℕ → ℕ → Capsule → Type 0
HoldsBy replies.Held k queue number c = (given : ℕ)
    × IsHolding k queue number (length c.payload) given
HoldsBy (replies.Answered cqe) k queue number c = IsIdle k queue
HoldsBy replies.Waiting k queue number c = IsIdle k queue
HoldsBy replies.NoEvent k queue number c = IsIdle k queue
HoldsBy replies.Accepted k queue number c = IsIdle k queue
HoldsBy (replies.Errno errno) k queue number c = IsIdle k queue
HoldsBy replies.Ended k queue number c = IsIdle k queue

abbrev pub HasMade : Kind → Reply → Kept → ℕ → ℕ → CapsuleFile → Type 0
HasMade kinds.Submit reply k queue number f = HoldsBy reply k queue number
    (capsule_at (capsules_of f) number)
HasMade kinds.Execute reply k queue number f = IsIdle k queue
HasMade kinds.Poll reply k queue number f = IsIdle k queue
HasMade kinds.Control reply k queue number f = IsIdle k queue

-- a poll says how many capsules were taken
abbrev pub IsNumbered : Kind → ℕ → ℕ → Type 0
IsNumbered kinds.Poll number taken = number ≡ taken
IsNumbered kinds.Submit number taken = Unit {0}
IsNumbered kinds.Execute number taken = Unit {0}
IsNumbered kinds.Control number taken = Unit {0}
