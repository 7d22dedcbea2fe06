-- A subsystem and a port as an edit of a link finds them, by name and by position.
use Rattle.std.specs.Prelude.{◌≡◌, ℕ, List, Some, IsTrue}
use Rattle.std.specs.FinMap as map
use Rattle.configfs_rows.specs.declared.ports.PortRow.{PortRow}
use Rattle.configfs_rows.specs.declared.subsystems.SubsystemRow.{SubsystemRow}
use Rattle.configfs_tree.specs.Asked.{port_place_taken, subsystem_place_taken}
use Rattle.configfs_tree.specs.Links.{port_row, subsystem_row}
use Rattle.configfs_tree.specs.declared.configuration.Configuration.{Configuration}

-- the subsystem of this name, which stands at its position
pub record SubsystemFound (t : Configuration) (sub : List ℕ) (s : SubsystemRow) : Type 0 where
  pub found : map.get t.settings.subsystems sub ≡ Some s
  pub stands : subsystem_row t s.at ≡ Some s
  pub in_use : IsTrue (subsystem_place_taken t s.at)
  pub named : s.nqn ≡ sub

-- the port of this ID, which stands at its position
pub record PortFound (t : Configuration) (id : ℕ) (p : PortRow) : Type 0 where
  pub found : map.get t.settings.ports id ≡ Some p
  pub stands : port_row t p.at ≡ Some p
  pub in_use : IsTrue (port_place_taken t p.at)
  pub numbered : p.id ≡ id
