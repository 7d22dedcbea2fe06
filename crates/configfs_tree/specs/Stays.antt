-- What an accepted edit leaves where controllers are attached.
use Rattle.std.specs.Prelude.{◌≡◌, ℕ, nat_lt, true, Bool, List, Some, slice_index}
use Rattle.std.specs.FinMap as map
use Rattle.configfs_rows.specs.declared.subsystems.SubsystemRow.{SubsystemRow}
use Rattle.configfs_rows.specs.declared.ports.PortRow.{PortRow}
use Rattle.configfs_tree.specs.declared.configuration.Configuration.{Configuration}

-- whether a controller is attached at the position of a subsystem, or of a port
abbrev pub is_subsystem_attached : Configuration → ℕ → Bool
is_subsystem_attached t at = nat_lt 0 (slice_index t.settings.attached.subsystems at)

abbrev pub is_port_attached : Configuration → ℕ → Bool
is_port_attached t at = nat_lt 0 (slice_index t.settings.attached.ports at)

-- the subsystem of this name stands at this position
pub record SubsystemAt (t : Configuration) (sub : List ℕ) (at : ℕ) : Type 0 where
  pub row : SubsystemRow
  pub found : map.get t.settings.subsystems sub ≡ Some row
  pub at_is : row.at ≡ at

-- the port of this ID stands at this position
pub record PortAt (t : Configuration) (id : ℕ) (at : ℕ) : Type 0 where
  pub row : PortRow
  pub found : map.get t.settings.ports id ≡ Some row
  pub at_is : row.at ≡ at

-- no controller comes or goes, and where one is attached the subsystem and the port stay, at their
-- positions
pub record Stays (t u : Configuration) : Type 0 where
  pub attached : u.settings.attached ≡ t.settings.attached
  pub subsystems : (sub : List ℕ) (at : ℕ) → is_subsystem_attached t at ≡ true
      → SubsystemAt t sub at → SubsystemAt u sub at
  pub ports : (id at : ℕ) → is_port_attached t at ≡ true → PortAt t id at → PortAt u id at
