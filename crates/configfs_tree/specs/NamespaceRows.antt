-- The row of a namespace with the row of its subsystem, by their names.
use Rattle.std.specs.Prelude.{ℕ, List, Option, Some, None}
use Rattle.std.specs.FinMap as map
use Rattle.configfs_rows.specs.declared.namespaces.NamespaceRow.{NamespaceRow}
use Rattle.configfs_rows.specs.declared.subsystems.SubsystemRow.{SubsystemRow}
use Rattle.configfs_tree.specs.declared.configuration.Settings.{Settings}

abbrev pub paired : SubsystemRow → Option NamespaceRow → Option (SubsystemRow × NamespaceRow)
paired s None = None
paired s (Some n) = Some (s, n)

abbrev pub rows_in : ℕ → Option SubsystemRow → Option (SubsystemRow × NamespaceRow)
rows_in nsid None = None
rows_in nsid (Some s) = paired s (map.get s.namespaces nsid)

-- where the subsystem and its namespace are there
abbrev pub rows_of : Settings → List ℕ → ℕ → Option (SubsystemRow × NamespaceRow)
rows_of settings sub nsid = rows_in nsid (map.get settings.subsystems sub)
