-- The phase of a namespace: enabled, or draining from the edit that disables it to the end of its
-- drain, or off. A life begins where it gets enabled and ends with its drain. While the life lasts
-- the namespace holds the disk of its path, and no other namespace does, so the disk tells the
-- life.
use Rattle.std.specs.Prelude.{ℕ, Bool, true, false, List, Option, Some, None}
use Rattle.configfs_rows.specs.Holders.{holds_path}
use Rattle.configfs_rows.specs.declared.namespaces.Phase.{Phase}
use Rattle.configfs_rows.specs.declared.namespaces.Phase.TheVariants as phase
use Rattle.configfs_rows.specs.declared.namespaces.NamespaceRow.{NamespaceRow}
use Rattle.configfs_rows.specs.declared.subsystems.SubsystemRow.{SubsystemRow}
use Rattle.configfs_tree.specs.NamespaceRows.{rows_of}
use Rattle.configfs_tree.specs.declared.configuration.Configuration.{Configuration}

-- by whether it is enabled and whether it holds the disk of its path
abbrev pub phase_from : Bool → Bool → Phase
phase_from true holds = phase.Enabled
phase_from false true = phase.Draining
phase_from false false = phase.Off

abbrev pub phase_of : Configuration → SubsystemRow → ℕ → NamespaceRow → Phase
phase_of t s nsid n = phase_from n.enabled (holds_path t.disks s.at nsid n.device_path)

abbrev pub phase_of_rows : Configuration → ℕ → Option (SubsystemRow × NamespaceRow) → Option Phase
phase_of_rows t nsid None = None
phase_of_rows t nsid (Some rows) = Some (phase_of t rows.0 nsid rows.1)

-- the phase of a namespace by its names, where it is there
abbrev pub phase_at : Configuration → List ℕ → ℕ → Option Phase
phase_at t sub nsid = phase_of_rows t nsid (rows_of t.settings sub nsid)
