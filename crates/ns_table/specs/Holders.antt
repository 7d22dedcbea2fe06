-- Whether an enabled namespace is on a disk, by the one that holds it.
use Rattle.std.specs.Prelude.{ℕ, Bool, false, Option, Some, None}
use Rattle.std.specs.List.{slice_get}
use Rattle.configfs_rows.specs.Holders.{holder_of}
use Rattle.configfs_rows.specs.declared.disks.Holder.{Holder}
use Rattle.configfs_rows.specs.declared.namespaces.NamespaceRow.{NamespaceRow}
use Rattle.configfs_tree.specs.declared.configuration.Configuration.{Configuration}
use Rattle.configfs_tree.specs.Links.{subsystem_row}
use Rattle.tree_target.specs.Views.{space_in}
use Rattle.ns_table.specs.Words.{shows}

abbrev pub row_shows : ℕ → Option NamespaceRow → Bool
row_shows disk None = false
row_shows disk (Some n) = shows disk n

abbrev pub holder_shows : Configuration → ℕ → Option Holder → Bool
holder_shows t disk None = false
holder_shows t disk (Some h) = row_shows disk (space_in h.nsid (subsystem_row t h.sub))

-- who holds a disk is enabled on it
abbrev pub is_held_shown : Configuration → ℕ → Bool
is_held_shown t disk = holder_shows t disk (holder_of (slice_get t.disks disk))
