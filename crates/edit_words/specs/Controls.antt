-- What fabrics commands make of the words.
use Rattle.std.specs.Prelude.{◌≡◌, ◌⊎◌, List, Option, Some, None}
use Rattle.mem_bdev.specs.Blocks.{Blocks}
use Rattle.sqe_cqe.specs.declared.controllers.Binding.{Binding}
use Rattle.sqe_cqe.specs.declared.controllers.Bound.{Bound}
use Rattle.sqe_cqe.specs.declared.controllers.ControllerRow.{ControllerRow}
use Rattle.configfs_tree.specs.declared.configuration.Configuration.{Configuration}
use Rattle.configfs_tree.specs.declared.edits.Touched.TheVariants as touches
use Rattle.configfs_tree.specs.Outcome.{touching}
use Rattle.fabrics_connect.specs.declared.answer.Answer.{Answer}
use Rattle.fabrics_connect.specs.After.{controllers_after, tree_after}
use Rattle.change_stamps.specs.Stamps.{Stamps as Kept, raised}
use Rattle.edit_words.specs.Differing.{differing}
use Rattle.ns_table.specs.Kept.{shape_of, stamps_by}
use Rattle.ns_table.specs.Patches.{told_places, words_at}
use Rattle.ns_table.specs.Positions.{Place, Ready, IsController}
use Rattle.ns_table.specs.Words.{Shape, word_for, words_of}
use Rattle.edit_words.specs.Exact.{AreTurned}

-- the place of the readiness of a queue's own controller
abbrev pub IsOwn : Option Bound → Place → Type 0
IsOwn None p = ⊥
IsOwn (Some bound) p = p ≡ Ready bound.ctrl

abbrev pub shape_after : Configuration → List ControllerRow → List Blocks → Kept → Binding → Answer
    → Shape
shape_after t controllers blocks stamps b a =
    shape_of (tree_after t a) (controllers_after t controllers b a) blocks stamps

-- a fabrics command, whatever its checks come to, turns no word but the readiness of the controller
-- to which its queue is bound
abbrev pub ControlsChangeReadiness : Type 0
ControlsChangeReadiness = (t : Configuration) (controllers : List ControllerRow)
    (blocks : List Blocks) (stamps : Kept) (b : Binding) (a : Answer) (p : Place)
    → (word_for (shape_after t controllers blocks stamps b a) p
    ≡ word_for (shape_of t controllers blocks stamps) p) ⊎ IsOwn b.bound p

-- so what the patch of that controller's row has, and the words before it don't, is what it turned
abbrev pub ControlsTurn : Type 0
ControlsTurn = (t : Configuration) (controllers : List ControllerRow) (blocks : List Blocks)
    (stamps : Kept) (b : Binding) (a : Answer) (bound : Bound) → b.bound ≡ Some bound
    → IsController bound.ctrl → AreTurned (words_of (shape_of t controllers blocks stamps))
    (words_of (shape_after t controllers blocks stamps b a))
    (differing (words_of (shape_of t controllers blocks stamps))
    (words_at (shape_after t controllers blocks stamps b a)
    (told_places (tree_after t a) (touching (touches.Controller bound.ctrl)))))

-- on a queue that isn't bound it turns none
abbrev pub ConnectsLeaveWords : Type 0
ConnectsLeaveWords = (t : Configuration) (controllers : List ControllerRow) (blocks : List Blocks)
    (stamps : Kept) (b : Binding) (a : Answer) → b.bound ≡ None
    → words_of (shape_after t controllers blocks stamps b a)
    ≡ words_of (shape_of t controllers blocks stamps)

-- a change of the controllers that is published raises the serial, and leaves the stamps
abbrev pub RaisedKeepsStamps : Type 0
RaisedKeepsStamps = (s : Kept) → stamps_by (raised s) ≡ stamps_by s
