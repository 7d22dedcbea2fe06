-- What the running table's callers ask of the target's states.
use Rattle.std.specs.Prelude.{◌≡◌, ℕ, true, false, List}
use Rattle.configfs_tree.specs.Standing.{IsStanding}
use Rattle.ref_state.specs.declared.kinds.Tag.{Tag}
use Rattle.tree_target.specs.Model.{Call, DrainEnd, Target}
use Rattle.tree_target.specs.Steps.{target_after}
use Rattle.tree_target.specs.Legal.{after}
use Rattle.tree_target.specs.Fixed.{is_editors, is_published, AreQueues}
use Rattle.target_states.specs.States.{Begun, state, fixed_at, desk_at}
use Rattle.target_states.specs.Sizes.{IsStart, IsKept}
use Rattle.target_states.specs.Desks.{IsSame}

-- disks keep their sizes, and what is held is what its capsule asks, whatever is called
abbrev pub StatesAreKept : Type 0
StatesAreKept = (g : Begun) (tags : List Tag) → IsStart g → IsKept g (state g tags)

-- ---- the desk
-- no submit, Execute or poll changes the desk, bindings among it
abbrev pub QueuesLeaveTheDesk : Type 0
QueuesLeaveTheDesk = (t : Target) (call : Call) → is_editors call ≡ false
    → desk_at (target_after t call) ≡ desk_at t

-- an edit, a fabrics command and the end of a drain depend on the desk alone ..
abbrev pub EditorsDependOnTheDesk : Type 0
EditorsDependOnTheDesk = (t u : Target) (call : Call) → is_editors call ≡ true
    → desk_at u ≡ desk_at t → IsSame t u call

-- .. so they come to what they came to before calls of queues
abbrev pub EditorsAreAsComputed : Type 0
EditorsAreAsComputed = (t : Target) (calls : List Call) (call : Call) → AreQueues calls
    → is_editors call ≡ true → IsSame t (after t calls) call

-- ---- what published calls change
-- a call that isn't published leaves it
abbrev pub UnpublishedLeaveFixed : Type 0
UnpublishedLeaveFixed = (t : Target) (call : Call) → IsStanding t.tree
    → is_published t call ≡ false → fixed_at (target_after t call) ≡ fixed_at t

-- .. and the end of a drain does in any case
abbrev pub EndsLeaveFixed : Type 0
EndsLeaveFixed = (t : Target) (line : ℕ) (sub : List ℕ) (nsid : ℕ)
    → fixed_at (target_after t (DrainEnd line sub nsid)) ≡ fixed_at t
