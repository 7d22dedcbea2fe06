-- The words of a configuration, as they are listed.
use Rattle.std.specs.Prelude.{◌≡◌, ℕ, List}
use Rattle.mem_bdev.specs.Blocks.{Blocks}
use Rattle.sqe_cqe.specs.declared.controllers.ControllerRow.{ControllerRow}
use Rattle.configfs_tree.specs.declared.configuration.Configuration.{Configuration}
use Rattle.change_stamps.specs.Stamps.{Stamps as Kept}
use Rattle.ns_table.specs.Kept.{shape_of}
use Rattle.ns_table.specs.Words.{words_of}

-- they are those of the tree, its controllers, its disks and the stamps that are kept
abbrev pub AreListed : Configuration → List ControllerRow → List Blocks → Kept → List ℕ → Type 0
AreListed t controllers blocks stamps ws = ws ≡ words_of (shape_of t controllers blocks stamps)
