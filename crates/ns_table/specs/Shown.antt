-- A disk is shown exactly where an enabled namespace is on it.
use Rattle.std.specs.Prelude.{◌≡◌, ◌≢◌, ◌<◌, ℕ, true, List, Some, slice_index}
use Rattle.std.specs.FinMap as maps
use Rattle.sqe_cqe.specs.declared.rows.NsRow.{NsRow}
use Rattle.sqe_cqe.specs.declared.rows.Seen.TheVariants.{On}
use Rattle.configfs_rows.specs.declared.namespaces.NamespaceRow.{NamespaceRow}
use Rattle.configfs_rows.specs.declared.subsystems.SubsystemRow.{SubsystemRow}
use Rattle.configfs_tree.specs.Links.{subsystem_row}
use Rattle.tree_target.specs.Views.{seen_of, space_in}
use Rattle.ns_table.specs.Positions.{Shown, at}
use Rattle.ns_table.specs.Words.{Shape, words_of}

abbrev pub EnabledIsShown : Type 0
EnabledIsShown = (x : Shape) (s n : ℕ) (row : NsRow) → row.disk < 64
    → seen_of x.blocks (space_in n (subsystem_row x.tree s)) ≡ On row
    → slice_index (words_of x) (at (Shown row.disk)) ≢ 0

-- a namespace that is enabled on a disk
pub record IsEnabledOn (x : Shape) (disk : ℕ) : Type 0 where
  pub sub : List ℕ
  pub subsystem : SubsystemRow
  pub nsid : ℕ
  pub namespace : NamespaceRow
  pub there : maps.get x.tree.settings.subsystems sub ≡ Some subsystem
  pub stands : maps.get subsystem.namespaces nsid ≡ Some namespace
  pub enabled : namespace.enabled ≡ true
  pub on : namespace.disk ≡ Some disk

abbrev pub ShownIsEnabled : Type 0
ShownIsEnabled = (x : Shape) (disk : ℕ) → disk < 64
    → slice_index (words_of x) (at (Shown disk)) ≢ 0 → IsEnabledOn x disk
