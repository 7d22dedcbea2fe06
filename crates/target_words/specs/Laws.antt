-- What readers of the words and the editor ask of them.
use Rattle.std.specs.Prelude.{◌≡◌, ◌≢◌, ◌≤◌, ℕ, true, false, List, length, Some, slice_index}
use Rattle.std.specs.List.{slice_get}
use Rattle.configfs_tree.specs.Standing.{IsStanding}
use Rattle.disk_extents.specs.Extents.{Part}
use Rattle.tree_target.specs.Model.{Call, DrainEnd, Target}
use Rattle.tree_target.specs.Steps.{target_after}
use Rattle.tree_target.specs.Held.{held_disk}
use Rattle.tree_target.specs.Fixed.{is_editors, is_published}
use Rattle.change_stamps.specs.Stamps.{no_stamps}
use Rattle.ns_table.specs.Words.{words_of, opened_shape}
use Rattle.ns_table.specs.Slots.{slots_of}
use Rattle.target_states.specs.States.{fixed_at, desk_at}
use Rattle.target_states.specs.Sizes.{size_at}
use Rattle.target_states.specs.Extents.{StandsAt}
use Rattle.target_words.specs.Words.{words_at, LeavesWords}

-- a submit's reply is Held only on a disk whose word isn't 0
abbrev pub HeldIsInWords : Type 0
HeldIsInWords = (t : Target) (call : Call) (disk : ℕ) → length t.blocks ≤ 64
    → held_disk t call ≡ Some disk → slice_index (words_at t) disk ≢ 0

-- the words follow what published calls alone change, over disks of the same sizes
abbrev pub WordsFollowFixed : Type 0
WordsFollowFixed = (t u : Target) → fixed_at u ≡ fixed_at t
    → ((disk : ℕ) → size_at u.blocks disk ≡ size_at t.blocks disk) → words_at u ≡ words_at t

-- over such disks an editor's call leaves the same words wherever the desk is the same
abbrev pub WordsDependOnTheDesk : Type 0
WordsDependOnTheDesk = (t u : Target) (call : Call) → is_editors call ≡ true
    → desk_at u ≡ desk_at t → ((disk : ℕ) → size_at u.blocks disk ≡ size_at t.blocks disk)
    → words_at (target_after u call) ≡ words_at (target_after t call)

-- an editor's call that isn't published leaves the words
abbrev pub UnpublishedLeaveWords : Type 0
UnpublishedLeaveWords = (t : Target) (call : Call) → IsStanding t.tree → is_editors call ≡ true
    → is_published t call ≡ false → LeavesWords t (target_after t call)

-- .. and the end of a drain does in any case
abbrev pub EndsLeaveWords : Type 0
EndsLeaveWords = (t : Target) (line : ℕ) (sub : List ℕ) (nsid : ℕ)
    → LeavesWords t (target_after t (DrainEnd line sub nsid))

-- ---- the start
-- where nothing was published yet, the words are those that a table is opened with
abbrev pub StartsAreOpened : Type 0
StartsAreOpened = (t : Target) → t.stamps ≡ no_stamps
    → words_at t ≡ words_of (opened_shape t.tree t.controllers t.blocks)

-- .. and so are the extents in its slots
abbrev pub SlotsStand : Type 0
SlotsStand = (t : Target) (n : ℕ) (x : Part) → slice_get (slots_of t.blocks) n ≡ Some x
    → StandsAt x n t
