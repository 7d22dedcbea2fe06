-- What holds of every edit that the table of edits accepts, and of the ends of drains.
use Rattle.std.specs.Prelude.{◌≡◌, ℕ, List}
use Rattle.mem_bdev.specs.Blocks.{Blocks}
use Rattle.sqe_cqe.specs.declared.controllers.ControllerRow.{ControllerRow}
use Rattle.configfs_tree.specs.declared.configuration.Configuration.{Configuration}
use Rattle.configfs_tree.specs.declared.edits.Change.{Change}
use Rattle.configfs_tree.specs.Drained.{drained}
use Rattle.configfs_tree.specs.Outcome.{Accepts}
use Rattle.configfs_tree.specs.Standing.{IsStanding}
use Rattle.link_rules.specs.declared.edits.Edit.{Edit}
use Rattle.link_rules.specs.Table.{edit_outcome}
use Rattle.change_stamps.specs.Stamps.{Stamps as Kept, stamps_after}
use Rattle.ns_table.specs.Changed.{Keeps}
use Rattle.edit_words.specs.Differing.{differing}
use Rattle.ns_table.specs.Kept.{shape_of, HavePlaces}
use Rattle.ns_table.specs.Patches.{FitsChange, told_places, words_at}
use Rattle.ns_table.specs.Words.{words_of}
use Rattle.edit_words.specs.Exact.{AreTurned}

-- what `words_change_where_told` and `patches_are_whole` ask of an edit
abbrev pub EditsKeep : Type 0
EditsKeep = (t u : Configuration) (e : Edit) (c : Change) → IsStanding t
    → edit_outcome t e ≡ Accepts u c → Keeps t u

-- what `put_change` asks of a change
abbrev pub EditsFit : Type 0
EditsFit = (t u : Configuration) (e : Edit) (c : Change) → IsStanding t
    → edit_outcome t e ≡ Accepts u c → FitsChange c

-- after an accepted edit that was noted, the words of its patch that those before it don't have are
-- the words that it turned
abbrev pub EditsTurn : Type 0
EditsTurn = (t u : Configuration) (e : Edit) (c : Change) (controllers : List ControllerRow)
    (blocks : List Blocks) (stamps : Kept) → IsStanding t → IsStanding u → HavePlaces stamps
    → edit_outcome t e ≡ Accepts u c → AreTurned (words_of (shape_of t controllers blocks stamps))
    (words_of (shape_of u controllers blocks (stamps_after c stamps)))
    (differing (words_of (shape_of t controllers blocks stamps))
    (words_at (shape_of u controllers blocks (stamps_after c stamps)) (told_places u c)))

-- the end of a drain leaves the words
abbrev pub DrainsLeaveWords : Type 0
DrainsLeaveWords = (t : Configuration) (sub : List ℕ) (nsid : ℕ)
    (controllers : List ControllerRow) (blocks : List Blocks) (stamps : Kept)
    → words_of (shape_of (drained t sub nsid) controllers blocks stamps)
    ≡ words_of (shape_of t controllers blocks stamps)
