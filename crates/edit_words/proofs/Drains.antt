-- The end of a drain leaves settings, and so the words.
use Rattle.std.proofs.Common.{◌≡◌, ℕ, List, Option, Some, None, refl}
use Rattle.configfs_rows.specs.declared.namespaces.NamespaceRow.{NamespaceRow}
use Rattle.configfs_rows.specs.declared.subsystems.SubsystemRow.{SubsystemRow}
use Rattle.configfs_tree.specs.Drained.{freed_path, freed_by, drained}
use Rattle.configfs_tree.specs.NamespaceRows.{rows_of}
use Rattle.configfs_tree.specs.declared.configuration.Configuration.{Configuration}
use Rattle.ns_table.specs.Kept.{shape_of}
use Rattle.ns_table.proofs.Follows.{words_follow}
use Rattle.edit_words.specs.Laws.{DrainsLeaveWords}

path-leaves : (t : Configuration) (o : Option (List ℕ)) → (freed_path t o).settings ≡ t.settings
path-leaves t None = refl
path-leaves t (Some path) = refl

by-leaves : (t : Configuration) (o : Option (SubsystemRow × NamespaceRow)) → (freed_by t o).settings ≡ t.settings
by-leaves t None = refl
by-leaves t (Some rows) = path-leaves t rows.1.device_path

pub drains_leave : DrainsLeaveWords
drains_leave t sub nsid cs bs s = words_follow (shape_of t cs bs s) (shape_of (drained t sub nsid) cs bs s) (record {
  settings = by-leaves t (rows_of t.settings sub nsid);
  controllers = refl;
  stamps = refl;
  sizes = λ i. refl;
})
