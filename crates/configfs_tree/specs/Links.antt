-- Rows by their positions, the two kinds of link, and the controllers that are attached.
use Rattle.std.specs.Prelude.{◌≡◌, ℕ, ◌+◌, ◌==◌, ◌&&◌, ◌||◌, Bool, false, List, Option, Some, None, if◌then◌else◌, slice_set, slice_index, codes}
use Rattle.std.specs.Str.{bytes_eq}
use Rattle.std.specs.List.{find}
use Rattle.std.specs.FinMap as map
use Rattle.configfs_rows.specs.Nqns.{is_nqn}
use Rattle.configfs_rows.specs.Subsystems.{put_allowed}
use Rattle.configfs_rows.specs.Ports.{put_link}
use Rattle.configfs_tree.specs.Outcome.{with_settings, on_subsystem, on_port}
use Rattle.configfs_rows.specs.declared.subsystems.SubsystemRow.{SubsystemRow}
use Rattle.configfs_rows.specs.declared.ports.PortRow.{PortRow}
use Rattle.configfs_tree.specs.declared.configuration.Configuration.{Configuration}

-- ---- rows and positions
abbrev pub subsystem_row : Configuration → ℕ → Option SubsystemRow
subsystem_row t at = find (λ (s : SubsystemRow). s.at == at) (map.values t.settings.subsystems)

abbrev pub port_row : Configuration → ℕ → Option PortRow
port_row t at = find (λ (p : PortRow). p.at == at) (map.values t.settings.ports)

abbrev pub subsystem_place : Option SubsystemRow → Option ℕ
subsystem_place None = None
subsystem_place (Some s) = Some s.at

abbrev pub port_place : Option PortRow → Option ℕ
port_place None = None
port_place (Some p) = Some p.at

-- the position of the subsystem of a name; a text that isn't an NQN names none
abbrev pub place_named : Configuration → List ℕ → Option ℕ
place_named t name = if is_nqn name then subsystem_place (map.get t.settings.subsystems name) else
    None

-- a name leads to the row at its position, and a position to the row of its name
pub record SubsystemPositions (t : Configuration) : Type 0 where
  pub of_name : (sub : List ℕ) (s : SubsystemRow) → map.get t.settings.subsystems sub ≡ Some s
      → subsystem_row t s.at ≡ Some s
  pub of_position : (at : ℕ) (s : SubsystemRow) → subsystem_row t at ≡ Some s
      → map.get t.settings.subsystems s.nqn ≡ Some s

pub record PortPositions (t : Configuration) : Type 0 where
  pub of_id : (id : ℕ) (p : PortRow) → map.get t.settings.ports id ≡ Some p
      → port_row t p.at ≡ Some p
  pub of_position : (at : ℕ) (p : PortRow) → port_row t at ≡ Some p
      → map.get t.settings.ports p.id ≡ Some p

-- ---- links
abbrev pub allowed_in : Configuration → List ℕ → Bool → Option SubsystemRow → Configuration
allowed_in t host linked None = t
allowed_in t host linked (Some s) = on_subsystem t s.nqn (put_allowed host linked)

-- the tree with the link from a subsystem to a host made, or taken away
abbrev pub with_allowed : Configuration → ℕ → List ℕ → Bool → Configuration
with_allowed t sub host linked = allowed_in t host linked (subsystem_row t sub)

abbrev pub linked_in : Configuration → Bool → Option PortRow → Option SubsystemRow → Configuration
linked_in t linked None s = t
linked_in t linked (Some p) None = t
linked_in t linked (Some p) (Some s) = on_port t p.id (put_link s.nqn linked)

-- the tree with the link from a port to a subsystem made, or taken away
abbrev pub with_link : Configuration → ℕ → ℕ → Bool → Configuration
with_link t port sub linked = linked_in t linked (port_row t port) (subsystem_row t sub)

-- any host is allowed, or the host is linked
abbrev pub admits : List ℕ → Option SubsystemRow → Bool
admits host None = false
admits host (Some s) = s.allow_any_host || (is_nqn host && map.contains_key s.allowed_hosts host)

-- the port links the subsystem
abbrev pub links_it : Option PortRow → Option SubsystemRow → Bool
links_it None s = false
links_it (Some p) None = false
links_it (Some p) (Some s) = map.contains_key p.links s.nqn

-- what a link asks of its ends
abbrev pub allows_any : Option SubsystemRow → Bool
allows_any None = false
allows_any (Some s) = s.allow_any_host

abbrev pub is_loop : Option PortRow → Bool
is_loop None = false
is_loop (Some p) = bytes_eq p.trtype (codes "loop")

-- ---- controllers
abbrev pub one_more : List ℕ → ℕ → List ℕ
one_more counts at = slice_set counts at (slice_index counts at + 1)

-- one more controller is attached, at the positions of its subsystem and its port
abbrev pub with_attached : Configuration → ℕ → ℕ → Configuration
with_attached t sub port = with_settings t (record t.settings {
  attached = record {
    subsystems = one_more t.settings.attached.subsystems sub;
    ports = one_more t.settings.attached.ports port;
  };
})

-- no ANA change is counted
abbrev pub with_no_changes : Configuration → Configuration
with_no_changes t = with_settings t (record t.settings { ana_count = 0 })
