-- A served run, read capsule by capsule and line by line.
use Rattle.std.specs.Prelude.{◌≡◌, ℕ, ◌+◌, ◌==◌, Bool, true, false, if◌then◌else◌, List, [], ◌∷◌, ◌++◌, map, Option, Some, None}
use Rattle.sqe_cqe.specs.declared.codes.TheConstants.{FABRICS}
use Rattle.plan_files.specs.Capsules.{Capsule}
use Rattle.configfs_tree.specs.declared.configuration.Configuration.{Configuration}
use Rattle.configfs_tree.specs.Phases.{phase_at}
use Rattle.tree_target.specs.declared.calls.Reply.{Reply}
use Rattle.tree_target.specs.declared.calls.Reply.TheVariants as replies
use Rattle.tree_target.specs.declared.edits.Space.{Space}
use Rattle.tree_target.specs.Edits.{disables}
use Rattle.tree_target.specs.Model.{Call, Submit, Execute, Poll, Control, AnEdit, DrainEnd}
use Rattle.tree_target.specs.Steps.{is_draining_phase}
use Rattle.run_transcript.specs.declared.scripts.ScriptEdit.{ScriptEdit}
use Rattle.run_transcript.specs.Runs.{Placed, Run, IsOrdered, target_at, target_after_all}
use Rattle.run_transcript.specs.Turns.{is_admin_at}
use Rattle.run_transcript.specs.Served.{IsServed}

abbrev pub calls : List Placed → List Call
calls list = map (λ x. x.entry.call) list

-- a list in two parts, one after the other
pub record InTwo (First Second : List Placed → Type 0) (list : List Placed) : Type 0 where
  pub first : List Placed
  pub second : List Placed
  pub whole : list ≡ first ++ second
  pub is_first : First first
  pub is_second : Second second

-- ---- a capsule
abbrev pub is_held : Reply → Bool
is_held replies.Held = true
is_held (replies.Answered cqe) = false
is_held replies.Waiting = false
is_held replies.NoEvent = false
is_held replies.Accepted = false
is_held (replies.Errno errno) = false
is_held replies.Ended = false

abbrev pub execute_if : Bool → ℕ → ℕ → Capsule → List Call
execute_if held queue number c = if held then Execute queue number c.payload ∷ [] else []

abbrev pub poll_if : Bool → ℕ → List Call
poll_if admin queue = if admin then Poll queue ∷ [] else []

-- A fabrics command is one Control. Any other command is its Submit, then its Execute exactly where
-- it was held, then one Poll exactly where the queue is an admin queue.
abbrev pub capsule_calls : ℕ → ℕ → Capsule → Bool → Bool → List Call
capsule_calls queue number c held admin = if c.entry.opcode == FABRICS
    then Control queue number c.entry c.payload ∷ []
    else Submit queue number c.entry ∷ execute_if held queue number c ++ poll_if admin queue

-- what a queue did with one capsule, by the reply to its first call and by what the queue was there
abbrev pub ServesCapsule : Run → ℕ → ℕ → Capsule → List Placed → Type 0
ServesCapsule run queue number c [] = ⊥
ServesCapsule run queue number c (x ∷ list) = calls (x ∷ list) ≡ capsule_calls queue number c
    (is_held x.entry.reply) (is_admin_at (target_at run x.place) queue)

-- ---- final polls
abbrev pub is_no_event : Reply → Bool
is_no_event replies.NoEvent = true
is_no_event replies.Held = false
is_no_event (replies.Answered cqe) = false
is_no_event replies.Waiting = false
is_no_event replies.Accepted = false
is_no_event (replies.Errno errno) = false
is_no_event replies.Ended = false

-- polls up to the first that finds no event
abbrev pub PollsToTheEnd : ℕ → List Placed → Type 0
PollsToTheEnd queue [] = ⊥
PollsToTheEnd queue (x ∷ []) = (x.entry.call ≡ Poll queue) × (is_no_event x.entry.reply ≡ true)
PollsToTheEnd queue (x ∷ y ∷ list) = (x.entry.call ≡ Poll queue)
    × (is_no_event x.entry.reply ≡ false) × PollsToTheEnd queue (y ∷ list)

abbrev pub EndsAs : Bool → ℕ → List Placed → Type 0
EndsAs true queue list = PollsToTheEnd queue list
EndsAs false queue list = list ≡ []

-- behind its file an admin queue polls to the end, and another does nothing
abbrev pub EndsFile : Run → ℕ → List Placed → Type 0
EndsFile run queue list = EndsAs (is_admin_at (target_after_all run) queue) queue list

-- ---- a file: its capsules in their order, from this number on, and then the end
abbrev pub ReadsFile : Run → ℕ → ℕ → List Capsule → List Placed → Type 0
ReadsFile run queue number [] list = EndsFile run queue list
ReadsFile run queue number (c ∷ file) list =
    InTwo (ServesCapsule run queue number c) (ReadsFile run queue (number + 1) file) list

-- the files of the queues from this number on
abbrev pub ReadsFiles : Run → ℕ → List (List Capsule) → List (List Placed) → Type 0
ReadsFiles run queue [] [] = Unit {0}
ReadsFiles run queue [] (list ∷ lists) = ⊥
ReadsFiles run queue (file ∷ files) [] = ⊥
ReadsFiles run queue (file ∷ files) (list ∷ lists) = ReadsFile run queue 0 file list
    × ReadsFiles run (queue + 1) files lists

-- ---- the script
abbrev pub drains : Configuration → Option Space → Bool
drains t None = false
drains t (Some s) = is_draining_phase (phase_at t s.sub s.nsid)

abbrev pub drain_end : ℕ → Option Space → List Call
drain_end line None = []
drain_end line (Some s) = DrainEnd line s.sub s.nsid ∷ []

-- An edit, and then the end of the drain of the namespace that it disables, exactly where that
-- namespace drains in the tree right after the edit.
abbrev pub line_calls : Configuration → ScriptEdit → List Call
line_calls t s = AnEdit s.line s.edit
    ∷ (if drains t (disables s.edit) then drain_end s.line (disables s.edit) else [])

abbrev pub ServesLine : Run → ScriptEdit → List Placed → Type 0
ServesLine run s [] = ⊥
ServesLine run s (x ∷ list) =
    calls (x ∷ list) ≡ line_calls (target_at run (x.place + 1)).tree s

abbrev pub ReadsScript : Run → List ScriptEdit → List Placed → Type 0
ReadsScript run [] list = list ≡ []
ReadsScript run (s ∷ script) list = InTwo (ServesLine run s) (ReadsScript run script) list

-- ---- the whole
pub record IsReadThrough (run : Run) : Type 0 where
  pub files : ReadsFiles run 1 run.files run.queues
  pub script : ReadsScript run run.script run.editor

-- an ordered and served run is read through
abbrev pub ServedIsReadThrough : Type 0
ServedIsReadThrough = (run : Run) → IsOrdered run → IsServed run → IsReadThrough run
