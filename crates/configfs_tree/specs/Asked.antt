-- What the rows of the table ask of the tree.
use Rattle.std.specs.Prelude.{ℕ, ◌==◌, ◌&&◌, ◌||◌, not, nat_lt, Bool, true, false, List, slice_index}
use Rattle.std.specs.List.{list_any}
use Rattle.std.specs.FinMap as map
use Rattle.configfs_rows.specs.Holders.{holds_path, has_disk, is_held}
use Rattle.configfs_rows.specs.declared.namespaces.NamespaceRow.{NamespaceRow}
use Rattle.configfs_rows.specs.declared.subsystems.SubsystemRow.{SubsystemRow}
use Rattle.configfs_rows.specs.declared.ports.PortRow.{PortRow}
use Rattle.configfs_tree.specs.declared.configuration.Configuration.{Configuration}
use Rattle.configfs_rows.specs.Nqns.{is_nqn}
use Rattle.configfs_rows.specs.Values.{is_text}
use Rattle.configfs_tree.specs.declared.edits.Attr.{Attr}
use Rattle.configfs_tree.specs.declared.edits.Attr.TheVariants as attr
use Rattle.configfs_tree.specs.declared.edits.Folder.{Folder}
use Rattle.configfs_tree.specs.declared.edits.Folder.TheVariants as folder
use Rattle.configfs_tree.specs.declared.edits.FolderEdit.{FolderEdit}
use Rattle.configfs_tree.specs.declared.edits.FolderEdit.TheVariants as edit

-- ---- phases and disks
-- enabled or draining: the namespace holds the disk of its path
abbrev pub is_busy : Configuration → SubsystemRow → ℕ → NamespaceRow → Bool
is_busy t s nsid n = n.enabled || holds_path t.disks s.at nsid n.device_path

abbrev pub is_draining : Configuration → SubsystemRow → ℕ → NamespaceRow → Bool
is_draining t s nsid n = not n.enabled && holds_path t.disks s.at nsid n.device_path

-- its path is set and names a disk of the plan
abbrev pub path_names_disk : Configuration → NamespaceRow → Bool
path_names_disk t n = has_disk t.disks n.device_path

-- a namespace that is enabled or draining has its path
abbrev pub path_is_held : Configuration → NamespaceRow → Bool
path_is_held t n = is_held t.disks n.device_path

-- ---- links and attached controllers
abbrev pub some_port_links : Configuration → List ℕ → Bool
some_port_links t sub = list_any (λ (p : PortRow). map.contains_key p.links sub)
    (map.values t.settings.ports)

abbrev pub some_subsystem_allows : Configuration → List ℕ → Bool
some_subsystem_allows t host = list_any (λ (s : SubsystemRow). map.contains_key s.allowed_hosts
    host) (map.values t.settings.subsystems)

abbrev pub controller_at_subsystem : Configuration → SubsystemRow → Bool
controller_at_subsystem t s = nat_lt 0 (slice_index t.settings.attached.subsystems s.at)

abbrev pub controller_at_port : Configuration → PortRow → Bool
controller_at_port t p = nat_lt 0 (slice_index t.settings.attached.ports p.at)

-- ---- positions
abbrev pub subsystem_place_taken : Configuration → ℕ → Bool
subsystem_place_taken t at = list_any (λ (s : SubsystemRow). s.at == at)
    (map.values t.settings.subsystems)

abbrev pub port_place_taken : Configuration → ℕ → Bool
port_place_taken t at = list_any (λ (p : PortRow). p.at == at) (map.values t.settings.ports)

-- ---- edits as a script or a configuration brings them
-- the attribute is one of the folder's
abbrev pub fits : Folder → Attr → Bool
fits (folder.Subsystem sub) attr.AllowAnyHost = true
fits (folder.Subsystem sub) attr.Serial = true
fits (folder.Subsystem sub) attr.ModelName = true
fits (folder.Namespace sub nsid) attr.DevicePath = true
fits (folder.Namespace sub nsid) attr.DeviceUuid = true
fits (folder.Namespace sub nsid) attr.DeviceNguid = true
fits (folder.Namespace sub nsid) attr.AnaGrpid = true
fits (folder.Namespace sub nsid) attr.Enable = true
fits (folder.Port id) attr.Trtype = true
fits (folder.Port id) attr.Adrfam = true
fits (folder.Port id) attr.Treq = true
fits (folder.Port id) attr.Traddr = true
fits (folder.Port id) attr.Trsvcid = true
fits (folder.AnaGroup id group) attr.AnaState = true
fits f a = false

-- the name of a folder, where it has one, is an NQN: so it is of each folder that a program makes
abbrev pub has_name : Folder → Bool
has_name (folder.Host host) = is_nqn host
has_name (folder.Subsystem sub) = is_nqn sub
has_name (folder.Namespace sub nsid) = is_nqn sub
has_name (folder.Port id) = true
has_name (folder.AnaGroup id group) = true

abbrev pub is_named : FolderEdit → Bool
is_named (edit.Mkdir f) = has_name f
is_named (edit.Rmdir f) = has_name f
is_named (edit.Set f a value) = has_name f

-- an edit that may take memory: it makes a folder, or writes a text
abbrev pub is_text_attr : Attr → Bool
is_text_attr attr.Serial = true
is_text_attr attr.ModelName = true
is_text_attr attr.DevicePath = true
is_text_attr attr.Trtype = true
is_text_attr attr.Adrfam = true
is_text_attr attr.Traddr = true
is_text_attr attr.Trsvcid = true
is_text_attr attr.Treq = true
is_text_attr a = false

abbrev pub may_grow : FolderEdit → Bool
may_grow (edit.Mkdir f) = true
may_grow (edit.Rmdir f) = false
may_grow (edit.Set f a value) = is_text_attr a

-- and a value is a text
abbrev pub is_fitting : FolderEdit → Bool
is_fitting (edit.Mkdir f) = true
is_fitting (edit.Rmdir f) = true
is_fitting (edit.Set f a value) = fits f a && is_text value
