-- What each caller's list is for what was read.
use Rattle.std.specs.Prelude.{◌≡◌, ◌<◌, ℕ, ◌+◌, ◌==◌, ◌&&◌, Bool, true, false, if◌then◌else◌, List, [], ◌∷◌, ◌++◌, length, take, Some, None}
use Rattle.std.specs.List.{AllByRecursion}
use Rattle.sqe_cqe.specs.declared.codes.TheConstants.{FABRICS}
use Rattle.plan_files.specs.Capsules.{Capsule}
use Rattle.tree_target.specs.Model.{Call, Submit, Execute, Poll, Control, AnEdit, DrainEnd}
use Rattle.run_transcript.specs.Runs.{Placed, Run, target_at, target_after_all}
use Rattle.run_transcript.specs.Turns.{Stage, Ready, Holding, Through, Ended, Progress, nothing_done, after_entry, next_call, Editing, nothing_edited, editing_after, next_edit}

-- ---- each entry is its caller's next call, and at last no call is left
abbrev pub ServesFile : Run → ℕ → List Capsule → Progress → List Placed → Type 0
ServesFile run queue file p [] = next_call (target_after_all run) queue file p ≡ None
ServesFile run queue file p (x ∷ list) = (next_call (target_at run x.place) queue file p
    ≡ Some x.entry.call) × ServesFile run queue file (after_entry p x.entry) list

-- each queue's list serves its file, for the queues from this number on
abbrev pub ServesQueues : Run → ℕ → List (List Capsule) → List (List Placed) → Type 0
ServesQueues run queue [] [] = Unit {0}
ServesQueues run queue [] (list ∷ lists) = ⊥
ServesQueues run queue (file ∷ files) [] = ⊥
ServesQueues run queue (file ∷ files) (list ∷ lists) = ServesFile run queue file nothing_done list
    × ServesQueues run (queue + 1) files lists

abbrev pub ServesScript : Run → Editing → List Placed → Type 0
ServesScript run p [] = next_edit (target_after_all run) run.script p ≡ None
ServesScript run p (x ∷ list) = (next_edit (target_at run x.place) run.script p
    ≡ Some x.entry.call) × ServesScript run (editing_after p x.entry) list

-- ---- fronts
-- how many fabrics commands a file begins with
abbrev pub front_len : List Capsule → ℕ
front_len [] = 0
front_len (c ∷ file) = if c.entry.opcode == FABRICS then 1 + front_len file else 0

-- what the queues made of the fronts of their files, file after file
abbrev pub fronts : List (List Capsule) → List (List Placed) → List Placed
fronts [] lists = []
fronts (file ∷ files) [] = []
fronts (file ∷ files) (list ∷ lists) = take (front_len file) list ++ fronts files lists

-- n, n + 1, ..
abbrev pub AreFrom : ℕ → List Placed → Type 0
AreFrom n [] = Unit {0}
AreFrom n (x ∷ list) = (x.place ≡ n) × AreFrom (n + 1) list

-- ---- final polls
-- no command is held and no poll is due for one
abbrev pub owes_nothing : Stage → Bool
owes_nothing Ready = true
owes_nothing Holding = false
owes_nothing Through = false
owes_nothing Ended = true

-- A queue has taken so many capsules and has nothing left to serve. What it calls next, if anything,
-- is a final poll.
abbrev pub is_final : ℕ → Progress → Bool
is_final capsules p = owes_nothing p.stage && (p.taken == capsules)

abbrev pub is_poll : Call → Bool
is_poll (Submit queue number e) = false
is_poll (Execute queue number payload) = false
is_poll (Poll queue) = true
is_poll (Control queue number e payload) = false
is_poll (AnEdit line e) = false
is_poll (DrainEnd line sub nsid) = false

-- A poll with nothing left to serve. One behind a poll without event, which no run makes, is such a
-- poll, too: a finished run that shows one is at fault there, and not at the poll before it. A call of
-- another kind is none, wherever it stands.
abbrev pub is_final_poll : ℕ → Progress → Call → Bool
is_final_poll capsules p call = is_poll call && is_final capsules p

-- the final polls in what a queue did with a file of so many capsules
abbrev pub finals_from : ℕ → Progress → List Placed → List Placed
finals_from capsules p [] = []
finals_from capsules p (x ∷ list) =
    if is_final_poll capsules p x.entry.call then x ∷ finals_from capsules (after_entry p x.entry)
    list else finals_from capsules (after_entry p x.entry) list

-- all that it did before them
abbrev pub body_from : ℕ → Progress → List Placed → List Placed
body_from capsules p [] = []
body_from capsules p (x ∷ list) =
    if is_final_poll capsules p x.entry.call then body_from capsules (after_entry p x.entry)
    list else x ∷ body_from capsules (after_entry p x.entry) list

abbrev pub finals_of : List Capsule → List Placed → List Placed
finals_of file list = finals_from (length file) nothing_done list

abbrev pub body_of : List Capsule → List Placed → List Placed
body_of file list = body_from (length file) nothing_done list

abbrev pub finals : List (List Capsule) → List (List Placed) → List Placed
finals [] lists = []
finals (file ∷ files) [] = []
finals (file ∷ files) (list ∷ lists) = finals_of file list ++ finals files lists

abbrev pub bodies : List (List Capsule) → List (List Placed) → List Placed
bodies [] lists = []
bodies (file ∷ files) [] = []
bodies (file ∷ files) (list ∷ lists) = body_of file list ++ bodies files lists

-- each place of the first list is below each of the second
abbrev pub ArePlacedBefore : List Placed → List Placed → Type 0
ArePlacedBefore early late = AllByRecursion (λ x. AllByRecursion (λ y. x.place < y.place) late)
    early

-- Each capsule and each edit was served once and in its file's order. The fabrics commands that
-- files begin with have the first places, file after file, and the final polls of connected admin
-- queues the last.
pub record IsServed (run : Run) : Type 0 where
  pub queues : ServesQueues run 1 run.files run.queues
  pub script : ServesScript run nothing_edited run.editor
  pub first : AreFrom 0 (fronts run.files run.queues)
  pub last : ArePlacedBefore (run.editor ++ bodies run.files run.queues)
      (finals run.files run.queues)
