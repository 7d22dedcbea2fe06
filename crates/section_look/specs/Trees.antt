-- A look over a section is the tree's look, where the words at its place are those of the tree.
use Rattle.std.specs.Prelude.{◌≡◌, ℕ, List}
use Rattle.mem_bdev.specs.Blocks.{Blocks}
use Rattle.sqe_cqe.specs.Answers.{Answers}
use Rattle.sqe_cqe.specs.declared.controllers.ControllerRow.{ControllerRow}
use Rattle.configfs_tree.specs.declared.configuration.Configuration.{Configuration}
use Rattle.change_stamps.specs.Stamps.{Stamps as Kept}
use Rattle.tree_target.specs.Looked.{tree_answers}
use Rattle.ns_table.specs.Words.{words_of}
use Rattle.ns_table.specs.Kept.{shape_of, HavePlaces}
use Rattle.ns_table.specs.Looked.{FitsTable}

-- these words at this serial are the configuration of a target: its tree, its controllers, its disks
-- and the stamps that it keeps
pub record AreOf (t : Configuration) (controllers : List ControllerRow) (blocks : List Blocks)
    (stamps : Kept) (ws : List ℕ) (serial : ℕ) : Type 0 where
  pub fits : FitsTable (shape_of t controllers blocks stamps)
  pub places : HavePlaces stamps
  pub words : ws ≡ words_of (shape_of t controllers blocks stamps)
  pub serial_is : serial ≡ stamps.serial

-- these answers are what the target's look at its tree answers, wherever these words are of it
abbrev pub AnswersAsTree : Answers → List ℕ → ℕ → Type 0
AnswersAsTree a ws serial = (t : Configuration) (controllers : List ControllerRow)
    (blocks : List Blocks) (stamps : Kept) → AreOf t controllers blocks stamps ws serial
    → a ≡ tree_answers t controllers blocks stamps
