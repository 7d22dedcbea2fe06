-- What stands of the rows of a configuration: their names, numbers and texts, where their links
-- lead, and the numbers of disks.
use Rattle.std.specs.Prelude.{◌≡◌, ◌≤◌, ◌==◌, ◌&&◌, ◌||◌, ℕ, nat_lt, Bool, true, false, List, length, codes, Option, Some, None, IsTrue}
use Rattle.std.specs.Str.{bytes_eq}
use Rattle.std.specs.FinMap as map
use Rattle.std.specs.FinMap.{FinMap}
use Rattle.configfs_rows.specs.Nqns.{name_order, is_nqn, discovery_nqn}
use Rattle.configfs_rows.specs.Holders.{are_apart, disk_number, paths_of}
use Rattle.configfs_rows.specs.Values.{is_text, is_short, is_path, is_trtype, is_adrfam, is_treq}
use Rattle.configfs_rows.specs.Ports.{address_of}
use Rattle.configfs_rows.specs.declared.limits.TheConstants.{MAX_HOSTS, MAX_DISKS, MAX_ANA_GROUPS, SERIAL_LEN, MODEL_LEN, TRADDR_LEN, TRSVCID_LEN}
use Rattle.sqe_cqe.specs.declared.rows.TheConstants.{MAX_NSID}
use Rattle.configfs_rows.specs.declared.namespaces.NamespaceRow.{NamespaceRow}
use Rattle.configfs_rows.specs.declared.subsystems.SubsystemRow.{SubsystemRow}
use Rattle.configfs_rows.specs.declared.ports.PortRow.{PortRow}
use Rattle.configfs_rows.specs.declared.ports.Address.{Address}
use Rattle.configfs_rows.specs.declared.ports.Address.TheVariants.{Trtype, Adrfam, Traddr, Trsvcid, Treq}
use Rattle.sqe_cqe.specs.declared.rows.Ana.{Ana}
use Rattle.configfs_tree.specs.declared.configuration.Configuration.{Configuration}

-- a device path that is set
abbrev pub is_kept_path : Option (List ℕ) → Bool
is_kept_path None = true
is_kept_path (Some path) = is_text path && is_path path

-- a namespace of this NSID, over disks of these paths
pub record NamespaceStands (paths : List (List ℕ)) (nsid : ℕ) (n : NamespaceRow) : Type 0 where
  pub nsid_low : 1 ≤ nsid
  pub nsid_high : nsid ≤ MAX_NSID
  pub group_low : 1 ≤ n.group
  pub group_high : n.group ≤ MAX_ANA_GROUPS
  pub path : IsTrue (is_kept_path n.device_path)
  -- it keeps the number of the disk that its path names
  pub disk : n.disk ≡ disk_number paths n.device_path

abbrev pub Hosts : Type 0
Hosts = FinMap name_order (Unit {0})

-- a subsystem of this name, in a tree with these hosts
pub record SubsystemStands (hosts : Hosts) (paths : List (List ℕ)) (sub : List ℕ) (s : SubsystemRow)
    : Type 0 where
  pub nqn : IsTrue (is_nqn sub)
  pub not_discovery : bytes_eq sub discovery_nqn ≡ false
  pub serial : IsTrue (is_short s.serial SERIAL_LEN)
  pub model_name : IsTrue (is_short s.model_name MODEL_LEN && nat_lt 0 (length s.model_name))
  -- one that allows any host has no list of hosts
  pub any_host : IsTrue s.allow_any_host → map.len s.allowed_hosts ≡ 0
  -- each host that it allows is there
  pub allowed : (host : List ℕ) → IsTrue (map.contains_key s.allowed_hosts host)
      → IsTrue (map.contains_key hosts host)
  pub namespaces : (nsid : ℕ) (n : NamespaceRow) → map.get s.namespaces nsid ≡ Some n
      → NamespaceStands paths nsid n

-- what an address of a port may be; the transport type is empty until it is set
abbrev pub is_address : Address → List ℕ → Bool
is_address Trtype value = (length value == 0) || is_trtype value
is_address Adrfam value = is_adrfam value
is_address Traddr value = is_short value TRADDR_LEN
is_address Trsvcid value = is_short value TRSVCID_LEN
is_address Treq value = is_treq value

-- a port, in a tree with these subsystems
pub record PortStands (subsystems : FinMap name_order SubsystemRow) (p : PortRow) : Type 0 where
  pub addresses : (a : Address) → IsTrue (is_address a (address_of a p))
  pub group_low : (group : ℕ) (state : Ana) → map.get p.groups group ≡ Some state → 1 ≤ group
  pub group_high : (group : ℕ) (state : Ana) → map.get p.groups group ≡ Some state
      → group ≤ MAX_ANA_GROUPS
  -- each subsystem that it links is there, and a port that links one has the transport type loop
  pub links : (sub : List ℕ) → IsTrue (map.contains_key p.links sub)
      → IsTrue (map.contains_key subsystems sub)
  pub loop : (sub : List ℕ) → IsTrue (map.contains_key p.links sub) → p.trtype ≡ codes "loop"

abbrev pub EachSubsystem : Hosts → List (List ℕ) → FinMap name_order SubsystemRow → Type 0
EachSubsystem hosts paths m = (sub : List ℕ) (s : SubsystemRow) → map.get m sub ≡ Some s
    → SubsystemStands hosts paths sub s

pub record IsSound (t : Configuration) : Type 0 where
  pub few_hosts : map.len t.settings.hosts ≤ MAX_HOSTS
  pub hosts : (host : List ℕ) → IsTrue (map.contains_key t.settings.hosts host)
      → IsTrue (is_nqn host)
  pub few_disks : length t.disks ≤ MAX_DISKS
  pub disks_apart : IsTrue (are_apart (paths_of t.disks))
  pub subsystems : EachSubsystem t.settings.hosts (paths_of t.disks) t.settings.subsystems
  pub ports : (id : ℕ) (p : PortRow) → map.get t.settings.ports id ≡ Some p
      → PortStands t.settings.subsystems p
