-- What serving makes of a target, of a queue's list and of its output.
use Rattle.std.specs.Prelude.{◌≡◌, ◌≤◌, ◌<◌, ◌⊎◌, ℕ, zero, suc, ◌+◌, Bool, true, false, List, [], ◌∷◌, ◌++◌, length, Some, None, slice_get}
use Rattle.sqe_cqe.specs.declared.sqe.Sqe.{Sqe}
use Rattle.plan_files.specs.Capsules.{Capsule}
use Rattle.mem_bdev.specs.Texts.{Text, appended}
use Rattle.run_records.specs.Records.{record_bytes}
use Rattle.run_records.specs.declared.records.Kind.TheVariants as kinds
use Rattle.tree_target.specs.declared.calls.Reply.{Reply}
use Rattle.tree_target.specs.declared.calls.Reply.TheVariants as replies
use Rattle.tree_target.specs.Kept.{Kept}
use Rattle.tree_target.specs.Model.{Call, Poll, Entry, Target, binding_at}
use Rattle.tree_target.specs.Steps.{reply_of, target_after}
use Rattle.tree_target.specs.Legal.{IsLegal, after}
use Rattle.tree_target.specs.Stands.{StandsFor, Simulates, room_of_call}
use Rattle.run_transcript.specs.Runs.{Placed, placed_from, calls_of}
use Rattle.run_transcript.specs.Turns.{Stage, Ready, Holding, Through, after_submit, Progress, nothing_done, after_entry, progress_of, is_admin_at, next_call}
use Rattle.run_transcript.specs.Printing.{head_of}
use Rattle.run_transcript.specs.Served.{front_len, is_final_poll}
use Rattle.run_serving.specs.declared.output.Output.{Output}
use Rattle.run_serving.specs.Prints.{Prints}

-- ---- a queue's entries one after another
abbrev pub progress_after : Progress → List Entry → Progress
progress_after p [] = p
progress_after p (e ∷ entries) = progress_after (after_entry p e) entries

-- each entry is its queue's next call at its point; all are final polls, or none is
abbrev pub AreNext : Bool → ℕ → List Capsule → Progress → Target → List Entry → Type 0
AreNext final queue file p t [] = Unit {0}
AreNext final queue file p t (e ∷ entries) = (next_call t queue file p ≡ Some e.call)
    × (is_final_poll (length file) p e.call ≡ final)
    × AreNext final queue file (after_entry p e) (target_after t e.call) entries

-- ---- where a queue stands between two capsules
-- It has taken so many. Either nothing is owed, or the last command is through on a queue that
-- isn't a connected admin queue.
pub record IsSettled (t : Target) (queue taken : ℕ) (p : Progress) : Type 0 where
  pub taken_is : p.taken ≡ taken
  pub stage_is : (p.stage ≡ Ready) ⊎ ((p.stage ≡ Through) × (is_admin_at t queue ≡ false))

abbrev pub HasTaken : ℕ → Target → ℕ → List Capsule → Progress → Type 0
HasTaken n t queue file p = IsSettled t queue n p

abbrev pub HasNothing : Target → ℕ → List Capsule → Progress → Type 0
HasNothing t queue file p = p ≡ nothing_done

abbrev pub HasFront : Target → ℕ → List Capsule → Progress → Type 0
HasFront t queue file p = IsSettled t queue (front_len file) p

abbrev pub HasAll : Target → ℕ → List Capsule → Progress → Type 0
HasAll t queue file p = IsSettled t queue (length file) p

abbrev pub HasEnded : Target → ℕ → List Capsule → Progress → Type 0
HasEnded t queue file p = next_call t queue file p ≡ None

-- it has taken so many, and stands at this stage
abbrev pub IsAt : ℕ → Stage → Target → ℕ → List Capsule → Progress → Type 0
IsAt taken stage t queue file p = p ≡ record { taken = taken; stage = stage }

-- ---- one queue
-- A legal continuation from the target t, in which the queue makes its next calls: the new target
-- stands for what it leaves, and the new output prints it, with its places, behind the list.
pub record Goes (final : Bool) (queue : ℕ) (file : List Capsule) (place : ℕ) (t : Target)
    (list : List Placed) (Post : Target → ℕ → List Capsule → Progress → Type 0) (k : Kept)
    (o : Output) (place' : ℕ) : Type 0 where
  pub group : List Entry
  pub legal : IsLegal t group
  pub turns : AreNext final queue file (progress_of list) t group
  pub stands : StandsFor k (after t (calls_of group))
  pub prints : Prints o (list ++ placed_from place group)
  pub count : place' ≡ place + length group
  pub post : Post (after t (calls_of group)) queue file (progress_after (progress_of list) group)

-- the same from each model that the old target stands for and each list that the old output prints
abbrev pub Makes : Bool → ℕ → List Capsule → (Target → ℕ → List Capsule → Progress → Type 0)
    → Kept → Output → ℕ → (Target → ℕ → List Capsule → Progress → Type 0) → Kept → Output → ℕ
    → Type 0
Makes final queue file Pre k o place Post k' o' place' = (t : Target) (list : List Placed)
    → StandsFor k t → Prints o list → Pre t queue file (progress_of list)
    → Goes final queue file place t list Post k' o' place'

-- the next capsule of a file is served, by its entry and its data
abbrev pub ServesOne : ℕ → ℕ → Sqe → List ℕ → Kept → Output → ℕ → Kept → Output → ℕ → Type 0
ServesOne queue number e payload k o place k' o' place' = (file : List Capsule)
    → slice_get file number ≡ Some (record { entry = e; payload = payload })
    → Makes false queue file (HasTaken number) k o place (HasTaken (number + 1)) k' o' place'

-- a command of the queue's next capsule was submitted
abbrev pub ServesSubmit : ℕ → ℕ → Sqe → Reply → Kept → Output → ℕ → Kept → Output → ℕ → Type 0
ServesSubmit queue number e reply k o place k' o' place' = (file : List Capsule)
    (payload : List ℕ) → slice_get file number ≡ Some (record { entry = e; payload = payload })
    → Makes false queue file (HasTaken number) k o place (IsAt (number + 1) (after_submit reply)) k'
    o' place'

-- the same where it was not held
abbrev pub ServesThrough : ℕ → ℕ → Sqe → Kept → Output → ℕ → Kept → Output → ℕ → Type 0
ServesThrough queue number e k o place k' o' place' = (file : List Capsule)
    (payload : List ℕ) → slice_get file number ≡ Some (record { entry = e; payload = payload })
    → Makes false queue file (HasTaken number) k o place (IsAt (number + 1) Through) k' o' place'

-- the command that was held is executed
abbrev pub ServesExecute : ℕ → ℕ → List ℕ → Kept → Output → ℕ → Kept → Output → ℕ → Type 0
ServesExecute queue number payload k o place k' o' place' = (file : List Capsule) (e : Sqe)
    → slice_get file number ≡ Some (record { entry = e; payload = payload })
    → Makes false queue file (IsAt (number + 1) Holding) k o place (IsAt (number + 1) Through) k' o'
    place'

-- ---- polls
-- polls of a queue, one after another, find no event after so many at the most
abbrev pub EndsWithin : ℕ → Target → ℕ → Type 0
EndsWithin zero t queue = ⊥
EndsWithin (suc n) t queue = (reply_of t (Poll queue) ≡ replies.NoEvent)
    ⊎ EndsWithin n (target_after t (Poll queue)) queue

-- all capsules are taken and nothing is owed, and so many polls end
pub record IsPolling (n : ℕ) (t : Target) (queue : ℕ) (file : List Capsule) (p : Progress)
    : Type 0 where
  pub stands : IsAt (length file) Ready t queue file p
  pub ends : EndsWithin n t queue

-- after such a poll: it ended them, or fewer are left
abbrev pub HasPolled : Reply → ℕ → Target → ℕ → List Capsule → Progress → Type 0
HasPolled replies.NoEvent n t queue file p = HasEnded t queue file p
HasPolled (replies.Answered cqe) n t queue file p = IsPolling n t queue file p
HasPolled replies.Held n t queue file p = ⊥
HasPolled replies.Waiting n t queue file p = ⊥
HasPolled replies.Accepted n t queue file p = ⊥
HasPolled (replies.Errno errno) n t queue file p = ⊥
HasPolled replies.Ended n t queue file p = ⊥

-- the poll behind a command
abbrev pub ServesPoll : ℕ → ℕ → Kept → Output → ℕ → Kept → Output → ℕ → Type 0
ServesPoll queue number k o place k' o' place' = (file : List Capsule)
    → Makes false queue file (IsAt number Through) k o place (HasTaken number) k' o' place'

-- a final poll
abbrev pub ServesFinal : ℕ → ℕ → Reply → Kept → Output → ℕ → Kept → Output → ℕ → Type 0
ServesFinal queue number reply k o place k' o' place' = (file : List Capsule) (n : ℕ)
    → length file ≡ number
    → Makes true queue file (IsPolling (n + 1)) k o place (HasPolled reply n) k' o' place'

-- ---- queues one after another
abbrev pub all_of : List (List Entry) → List Entry
all_of [] = []
all_of (group ∷ groups) = group ++ all_of groups

-- what is said of a file and of how many entries its queue made
abbrev pub AnySize : List Capsule → ℕ → Type 0
AnySize file n = Unit {0}

abbrev pub IsFrontLong : List Capsule → ℕ → Type 0
IsFrontLong file n = n ≡ front_len file

-- each queue makes its next calls, from the queue of this number on
abbrev pub Round : (List Capsule → ℕ → Type 0) → Bool → ℕ → List (List Capsule)
    → List (List Placed) → Target → List (List Entry) → Type 0
Round Size final queue [] [] t [] = Unit {0}
Round Size final queue [] [] t (group ∷ groups) = ⊥
Round Size final queue [] (list ∷ lists) t groups = ⊥
Round Size final queue (file ∷ files) [] t groups = ⊥
Round Size final queue (file ∷ files) (list ∷ lists) t [] = ⊥
Round Size final queue (file ∷ files) (list ∷ lists) t (group ∷ groups) =
    IsLegal t group × AreNext final queue file (progress_of list) t group
    × Size file (length group)
    × Round Size final (queue + 1) files lists (after t (calls_of group)) groups

-- the queues' lists after these groups, the first of which begins at this place
abbrev pub joined : ℕ → List (List Placed) → List (List Entry) → List (List Placed)
joined place [] groups = []
joined place (list ∷ lists) [] = list ∷ lists
joined place (list ∷ lists) (group ∷ groups) = (list ++ placed_from place group)
    ∷ joined (place + length group) lists groups

abbrev pub EachStands : (Target → ℕ → List Capsule → Progress → Type 0) → Target → ℕ
    → List (List Capsule) → List (List Placed) → Type 0
EachStands P t queue [] [] = Unit {0}
EachStands P t queue [] (list ∷ lists) = ⊥
EachStands P t queue (file ∷ files) [] = ⊥
EachStands P t queue (file ∷ files) (list ∷ lists) = P t queue file (progress_of list)
    × EachStands P t (queue + 1) files lists

abbrev pub PrintEach : List Output → List (List Placed) → Type 0
PrintEach [] [] = Unit {0}
PrintEach [] (list ∷ lists) = ⊥
PrintEach (o ∷ os) [] = ⊥
PrintEach (o ∷ os) (list ∷ lists) = Prints o list × PrintEach os lists

-- a legal continuation in which each queue makes its next calls; queues before them stay bound
pub record GoesRound (Size : List Capsule → ℕ → Type 0) (final : Bool) (queue : ℕ)
    (files : List (List Capsule)) (place : ℕ) (t : Target) (lists : List (List Placed))
    (Post : Target → ℕ → List Capsule → Progress → Type 0) (k : Kept) (os : List Output)
    (place' : ℕ) : Type 0 where
  pub groups : List (List Entry)
  pub round : Round Size final queue files lists t groups
  pub stands : StandsFor k (after t (calls_of (all_of groups)))
  pub prints : PrintEach os (joined place lists groups)
  pub count : place' ≡ place + length (all_of groups)
  pub post : EachStands Post (after t (calls_of (all_of groups))) queue files
      (joined place lists groups)
  pub keeps : (q : ℕ) → q < queue
      → binding_at (after t (calls_of (all_of groups))) q ≡ binding_at t q

abbrev pub MakesRound : (List Capsule → ℕ → Type 0) → Bool → ℕ → List (List Capsule)
    → (Target → ℕ → List Capsule → Progress → Type 0) → Kept → List Output → ℕ
    → (Target → ℕ → List Capsule → Progress → Type 0) → Kept → List Output → ℕ → Type 0
MakesRound Size final queue files Pre k os place Post k' os' place' = (t : Target)
    (lists : List (List Placed)) → StandsFor k t → PrintEach os lists
    → EachStands Pre t queue files lists
    → GoesRound Size final queue files place t lists Post k' os' place'

-- ---- an admin command
-- it does what the model does, and its record stands behind what stood, with the data for the host
pub record SubmitsInto (old : Kept) (call : Call) (reply : Reply) (given place number : ℕ)
    (to to' : Text) (new : Kept) : Type 0 where
  pub bytes : List ℕ
  pub does : Simulates old call reply bytes new
  pub given_is : given ≡ length bytes
  pub appends : to' ≡ appended to
      (record_bytes (head_of place kinds.Submit number reply (length bytes)) bytes)
  pub short : length bytes ≤ room_of_call call
