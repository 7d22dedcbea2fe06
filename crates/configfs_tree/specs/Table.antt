-- The table of edits on folders, in the table's order. Each edit is decided by the first of its
-- rows, from the top, whose condition holds. If none holds it is accepted. A folder that must be
-- there and isn't is ENOENT, before any row.
use Rattle.std.specs.Prelude.{ℕ, ◌==◌, ◌&&◌, ◌||◌, not, nat_lt, nat_le, Bool, true, false, List, [], ◌∷◌, length, codes, Option, Some, None}
use Rattle.std.specs.Str.{bytes_eq}
use Rattle.std.specs.FinMap as map
use Rattle.configfs_rows.specs.Nqns.{discovery_nqn}
use Rattle.configfs_rows.specs.Values.{is_path, has_path, is_trtype, is_adrfam, is_treq, group_named, same_state, same_bool}
use Rattle.configfs_rows.specs.Subsystems.{fresh_subsystem, put_in_subsystem, put_namespace, add_namespace, remove_namespace}
use Rattle.configfs_rows.specs.Ports.{fresh_port, address_of, with_address, put_group, remove_group}
use Rattle.configfs_tree.specs.Asked.{is_busy, is_draining, path_names_disk, path_is_held, some_port_links, some_subsystem_allows, controller_at_subsystem, controller_at_port, subsystem_place_taken, port_place_taken}
use Rattle.configfs_rows.specs.Holders.{hold, number_of, paths_of, path_or_empty}
use Rattle.configfs_rows.specs.Places.{lowest_free}
use Rattle.configfs_tree.specs.Outcome.{Outcome, Refuses, Accepts, first_of, either, touching, namespace_change, port_change, group_change, unless_stands, with_settings, on_subsystem, on_port, counted, in_subsystem, in_namespace, in_port, in_group}
use Rattle.uuid.specs.Text.{parsed}
use Rattle.sqe_cqe.specs.Anas.{ana_named}
use Rattle.configfs_rows.specs.declared.limits.TheConstants.{MAX_HOSTS, MAX_SUBSYSTEMS, MAX_PORTS, MAX_ANA_GROUPS, SERIAL_LEN, MODEL_LEN, TRADDR_LEN, TRSVCID_LEN}
use Rattle.sqe_cqe.specs.declared.rows.TheConstants.{MAX_NSID}
use Rattle.configfs_rows.specs.declared.namespaces.NamespaceRow.{NamespaceRow}
use Rattle.configfs_rows.specs.declared.namespaces.NamespacePut.{NamespacePut}
use Rattle.configfs_rows.specs.declared.namespaces.NamespacePut.TheVariants.{Path, Identifier as NewIdentifier, Group, Enabled}
use Rattle.configfs_rows.specs.declared.namespaces.Identifier.{Identifier}
use Rattle.configfs_rows.specs.declared.namespaces.Identifier.TheVariants.{Uuid, Nguid}
use Rattle.configfs_rows.specs.Rows.{identifier_of}
use Rattle.configfs_rows.specs.declared.subsystems.SubsystemRow.{SubsystemRow}
use Rattle.configfs_rows.specs.declared.subsystems.SubsystemPut.TheVariants.{AllowAnyHost, Serial, ModelName}
use Rattle.sqe_cqe.specs.declared.rows.Ana.{Ana}
use Rattle.sqe_cqe.specs.declared.rows.Ana.TheVariants as state
use Rattle.configfs_rows.specs.declared.ports.PortRow.{PortRow}
use Rattle.configfs_rows.specs.declared.ports.Address.{Address}
use Rattle.configfs_rows.specs.declared.ports.Address.TheVariants.{Trtype, Adrfam, Traddr, Trsvcid, Treq}
use Rattle.configfs_tree.specs.declared.edits.Attr.{Attr}
use Rattle.configfs_tree.specs.declared.edits.Attr.TheVariants as attr
use Rattle.configfs_tree.specs.declared.edits.Folder.{Folder}
use Rattle.configfs_tree.specs.declared.edits.Folder.TheVariants as folder
use Rattle.configfs_tree.specs.declared.edits.FolderEdit.{FolderEdit}
use Rattle.configfs_tree.specs.declared.edits.FolderEdit.TheVariants as edit
use Rattle.configfs_tree.specs.declared.edits.Errno.TheVariants.{EPERM, ENOENT, EACCES, EBUSY, EEXIST, EINVAL, ENOTEMPTY, ENOSPC}
use Rattle.configfs_tree.specs.declared.edits.Touched.TheVariants as touches
use Rattle.configfs_tree.specs.declared.configuration.Configuration.{Configuration}

-- ---- mkdir
unfoldable pub mkdir_host : Configuration → List ℕ → Outcome
mkdir_host t host = first_of (
    (map.contains_key t.settings.hosts host, EEXIST)
    ∷ (not (nat_lt (map.len t.settings.hosts) MAX_HOSTS), ENOSPC)
    ∷ [])
    (Accepts (with_settings t (record t.settings {
      hosts =
          map.insert t.settings.hosts host tt;
    })) (touching touches.Nothing))

unfoldable pub mkdir_subsystem : Configuration → List ℕ → Outcome
mkdir_subsystem t sub = first_of (
    (bytes_eq sub discovery_nqn, EINVAL)
    ∷ (map.contains_key t.settings.subsystems sub, EEXIST)
    ∷ (not (nat_lt (map.len t.settings.subsystems) MAX_SUBSYSTEMS), ENOSPC)
    ∷ [])
    (let at = lowest_free MAX_SUBSYSTEMS 0 (subsystem_place_taken t) in
    Accepts (with_settings t (record t.settings {
      subsystems =
          map.insert t.settings.subsystems sub (fresh_subsystem sub at);
    }))
    (touching (touches.Subsystem at)))

unfoldable pub mkdir_namespace : Configuration → List ℕ → ℕ → Outcome
mkdir_namespace t sub nsid = in_subsystem t sub (λ s. first_of (
    ((nsid == 0) || nat_lt MAX_NSID nsid, EINVAL)
    ∷ (map.contains_key s.namespaces nsid, EEXIST)
    ∷ [])
    (Accepts (on_subsystem t sub (add_namespace nsid)) (touching (touches.Namespace s.at nsid))))

unfoldable pub mkdir_port : Configuration → ℕ → Outcome
mkdir_port t id = first_of (
    (map.contains_key t.settings.ports id, EEXIST)
    ∷ (not (nat_lt (map.len t.settings.ports) MAX_PORTS), ENOSPC)
    ∷ [])
    (let at = lowest_free MAX_PORTS 0 (port_place_taken t) in
    Accepts (with_settings t (record t.settings {
      ports =
          map.insert t.settings.ports id (fresh_port id at);
    })) (touching (touches.Port at)))

-- an ANA change of the port; the group is inaccessible, as it was before it was made
unfoldable pub mkdir_ana_group : Configuration → ℕ → ℕ → Outcome
mkdir_ana_group t id group = in_port t id (λ p. first_of (
    ((group == 0) || nat_lt MAX_ANA_GROUPS group, EINVAL)
    ∷ (map.contains_key p.groups group, EEXIST)
    ∷ [])
    (Accepts (counted (on_port t id (put_group group state.Inaccessible)))
    (port_change p.at group)))

-- ---- rmdir
unfoldable pub rmdir_host : Configuration → List ℕ → Outcome
rmdir_host t host = first_of (
    (not (map.contains_key t.settings.hosts host), ENOENT)
    ∷ (some_subsystem_allows t host, EBUSY)
    ∷ [])
    (Accepts (with_settings t (record t.settings {
      hosts =
          map.remove t.settings.hosts host;
    })) (touching touches.Nothing))

unfoldable pub rmdir_subsystem : Configuration → List ℕ → Outcome
rmdir_subsystem t sub = in_subsystem t sub (λ s. first_of (
    (some_port_links t sub || controller_at_subsystem t s, EBUSY)
    ∷ (nat_lt 0 (map.len s.namespaces) || nat_lt 0 (map.len s.allowed_hosts), ENOTEMPTY)
    ∷ [])
    (Accepts (with_settings t (record t.settings {
      subsystems =
          map.remove t.settings.subsystems sub;
    })) (touching (touches.Subsystem s.at))))

unfoldable pub rmdir_namespace : Configuration → List ℕ → ℕ → Outcome
rmdir_namespace t sub nsid = in_namespace t sub nsid (λ s n. first_of (
    (is_busy t s nsid n, EBUSY)
    ∷ [])
    (Accepts (on_subsystem t sub (remove_namespace nsid)) (touching (touches.Namespace s.at nsid))))

-- group 1 is always there, so more than one group is another than group 1
unfoldable pub rmdir_port : Configuration → ℕ → Outcome
rmdir_port t id = in_port t id (λ p. first_of (
    (controller_at_port t p, EBUSY)
    ∷ (nat_lt 0 (map.len p.links) || nat_lt 1 (map.len p.groups), ENOTEMPTY)
    ∷ [])
    (Accepts (with_settings t (record t.settings {
      ports =
          map.remove t.settings.ports id;
    })) (touching (touches.Port p.at))))

-- an ANA change of the port
unfoldable pub rmdir_ana_group : Configuration → ℕ → ℕ → Outcome
rmdir_ana_group t id group = in_group t id group (λ p state. first_of (
    (group == 1, EPERM)
    ∷ [])
    (Accepts (counted (on_port t id (remove_group group))) (port_change p.at group)))

-- ---- set, on a subsystem
unfoldable pub set_attr_allow_any_host : Configuration → List ℕ → List ℕ → Outcome
set_attr_allow_any_host t sub value = in_subsystem t sub (λ s.
    let any = bytes_eq value (codes "1") in
    first_of (
    (not (any || bytes_eq value (codes "0")), EINVAL)
    ∷ (any && nat_lt 0 (map.len s.allowed_hosts), EINVAL)
    ∷ [])
    (unless_stands (same_bool s.allow_any_host any) t
    (Accepts (on_subsystem t sub (put_in_subsystem (AllowAnyHost any)))
    (touching (touches.Subsystem s.at)))))

unfoldable pub set_attr_serial : Configuration → List ℕ → List ℕ → Outcome
set_attr_serial t sub value = in_subsystem t sub (λ s. first_of (
    (nat_lt SERIAL_LEN (length value) || controller_at_subsystem t s, EINVAL)
    ∷ [])
    (unless_stands (bytes_eq s.serial value) t
    (Accepts (on_subsystem t sub (put_in_subsystem (Serial value)))
    (touching (touches.Subsystem s.at)))))

unfoldable pub set_attr_model : Configuration → List ℕ → List ℕ → Outcome
set_attr_model t sub value = in_subsystem t sub (λ s. first_of (
    ((length value == 0) || nat_lt MODEL_LEN (length value) || controller_at_subsystem t s, EINVAL)
    ∷ [])
    (unless_stands (bytes_eq s.model_name value) t
    (Accepts (on_subsystem t sub (put_in_subsystem (ModelName value)))
    (touching (touches.Subsystem s.at)))))

-- ---- set, on a namespace
abbrev pub put_on : Configuration → List ℕ → ℕ → ℕ → NamespacePut → Outcome
put_on t sub at nsid put = Accepts (on_subsystem t sub (put_namespace nsid put))
    (touching (touches.Namespace at nsid))

unfoldable pub set_device_path : Configuration → List ℕ → ℕ → List ℕ → Outcome
set_device_path t sub nsid value = in_namespace t sub nsid (λ s n. first_of (
    (is_busy t s nsid n, EBUSY)
    ∷ (not (is_path value), EINVAL)
    ∷ [])
    (unless_stands (has_path n.device_path value) t (put_on t sub s.at nsid
    (Path value (number_of value (paths_of t.disks))))))

-- what the text parses to is put
abbrev pub put_parsed : Option (List ℕ) → (List ℕ → Outcome) → Outcome
put_parsed None put = Refuses EINVAL
put_parsed (Some bytes) put = put bytes

-- the UUID or the NGUID
unfoldable pub set_identifier : Configuration → List ℕ → ℕ → Identifier → List ℕ → Outcome
set_identifier t sub nsid which value = in_namespace t sub nsid (λ s n. first_of (
    (is_busy t s nsid n, EBUSY)
    ∷ [])
    (put_parsed (parsed value) (λ bytes. unless_stands (bytes_eq (identifier_of which n) bytes) t
    (put_on t sub s.at nsid (NewIdentifier which bytes)))))

-- an ANA change of the subsystem, where the value changes
abbrev pub put_group_of : Configuration → List ℕ → ℕ → SubsystemRow → NamespaceRow → Option ℕ
    → Outcome
put_group_of t sub nsid s n None = Refuses EINVAL
put_group_of t sub nsid s n (Some group) = unless_stands (n.group == group) t
    (Accepts (counted (on_subsystem t sub (put_namespace nsid (Group group))))
    (group_change s.at nsid))

unfoldable pub set_ana_grpid : Configuration → List ℕ → ℕ → List ℕ → Outcome
set_ana_grpid t sub nsid value = in_namespace t sub nsid (λ s n. put_group_of t sub nsid s n
    (group_named value))

-- enabled to draining: the disk stays held until the drain ends
abbrev pub disabled : Configuration → List ℕ → ℕ → SubsystemRow → NamespaceRow → Outcome
disabled t sub nsid s n = unless_stands (not n.enabled) t
    (Accepts (on_subsystem t sub (put_namespace nsid (Enabled false)))
    (namespace_change s.at nsid true))

-- off to enabled: the namespace holds the disk of its path
abbrev pub enabled : Configuration → List ℕ → ℕ → SubsystemRow → NamespaceRow → Outcome
enabled t sub nsid s n = unless_stands n.enabled t
    (Accepts (record (on_subsystem t sub (put_namespace nsid (Enabled true))) {
      disks = hold (path_or_empty n.device_path) (Some (record {
        sub = s.at;
        nsid = nsid;
      })) t.disks;
    })
    (namespace_change s.at nsid false))

unfoldable pub set_enable : Configuration → List ℕ → ℕ → List ℕ → Outcome
set_enable t sub nsid value = in_namespace t sub nsid (λ s n.
    either (bytes_eq value (codes "0")) (disabled t sub nsid s n) (first_of (
    (not (bytes_eq value (codes "1")), EINVAL)
    ∷ (is_draining t s nsid n, EBUSY)
    ∷ (not n.enabled && not (path_names_disk t n), ENOENT)
    ∷ (not n.enabled && path_is_held t n, EBUSY)
    ∷ [])
    (enabled t sub nsid s n)))

-- ---- set, on a port: an address of a port that links a subsystem stands
abbrev pub set_address : Configuration → ℕ → Address → Bool → List ℕ → Outcome
set_address t id address good value = in_port t id (λ p. first_of (
    (nat_lt 0 (map.len p.links), EACCES)
    ∷ (not good, EINVAL)
    ∷ [])
    (unless_stands (bytes_eq (address_of address p) value) t
    (Accepts (on_port t id (with_address address value)) (touching (touches.Port p.at)))))

unfoldable pub set_addr_trtype : Configuration → ℕ → List ℕ → Outcome
set_addr_trtype t id value = set_address t id Trtype (is_trtype value) value

unfoldable pub set_addr_adrfam : Configuration → ℕ → List ℕ → Outcome
set_addr_adrfam t id value = set_address t id Adrfam (is_adrfam value) value

unfoldable pub set_addr_treq : Configuration → ℕ → List ℕ → Outcome
set_addr_treq t id value = set_address t id Treq (is_treq value) value

unfoldable pub set_addr_traddr : Configuration → ℕ → List ℕ → Outcome
set_addr_traddr t id value = set_address t id Traddr (nat_le (length value) TRADDR_LEN) value

unfoldable pub set_addr_trsvcid : Configuration → ℕ → List ℕ → Outcome
set_addr_trsvcid t id value = set_address t id Trsvcid (nat_le (length value) TRSVCID_LEN) value

-- ---- set, on an ANA group: an ANA change of the port, where the value changes
abbrev pub put_state : Configuration → ℕ → ℕ → PortRow → Ana → Option Ana → Outcome
put_state t id group p old None = Refuses EINVAL
put_state t id group p old (Some new) = unless_stands (same_state old new) t
    (Accepts (counted (on_port t id (put_group group new))) (port_change p.at group))

unfoldable pub set_ana_state : Configuration → ℕ → ℕ → List ℕ → Outcome
set_ana_state t id group value = in_group t id group (λ p old. put_state t id group p old
    (ana_named value))

-- ---- the whole table
abbrev pub mkdir : Configuration → Folder → Outcome
mkdir t (folder.Host host) = mkdir_host t host
mkdir t (folder.Subsystem sub) = mkdir_subsystem t sub
mkdir t (folder.Namespace sub nsid) = mkdir_namespace t sub nsid
mkdir t (folder.Port id) = mkdir_port t id
mkdir t (folder.AnaGroup id group) = mkdir_ana_group t id group

abbrev pub rmdir : Configuration → Folder → Outcome
rmdir t (folder.Host host) = rmdir_host t host
rmdir t (folder.Subsystem sub) = rmdir_subsystem t sub
rmdir t (folder.Namespace sub nsid) = rmdir_namespace t sub nsid
rmdir t (folder.Port id) = rmdir_port t id
rmdir t (folder.AnaGroup id group) = rmdir_ana_group t id group

-- an attribute that the folder doesn't have is refused; no edit that is read has one
abbrev pub set_of_subsystem : Configuration → List ℕ → Attr → List ℕ → Outcome
set_of_subsystem t sub attr.AllowAnyHost value = set_attr_allow_any_host t sub value
set_of_subsystem t sub attr.Serial value = set_attr_serial t sub value
set_of_subsystem t sub attr.ModelName value = set_attr_model t sub value
set_of_subsystem t sub a value = Refuses EINVAL

abbrev pub set_of_namespace : Configuration → List ℕ → ℕ → Attr → List ℕ → Outcome
set_of_namespace t sub nsid attr.DevicePath value = set_device_path t sub nsid value
set_of_namespace t sub nsid attr.DeviceUuid value = set_identifier t sub nsid Uuid value
set_of_namespace t sub nsid attr.DeviceNguid value = set_identifier t sub nsid Nguid value
set_of_namespace t sub nsid attr.AnaGrpid value = set_ana_grpid t sub nsid value
set_of_namespace t sub nsid attr.Enable value = set_enable t sub nsid value
set_of_namespace t sub nsid a value = Refuses EINVAL

abbrev pub set_of_port : Configuration → ℕ → Attr → List ℕ → Outcome
set_of_port t id attr.Trtype value = set_addr_trtype t id value
set_of_port t id attr.Adrfam value = set_addr_adrfam t id value
set_of_port t id attr.Treq value = set_addr_treq t id value
set_of_port t id attr.Traddr value = set_addr_traddr t id value
set_of_port t id attr.Trsvcid value = set_addr_trsvcid t id value
set_of_port t id a value = Refuses EINVAL

abbrev pub set_of_group : Configuration → ℕ → ℕ → Attr → List ℕ → Outcome
set_of_group t id group attr.AnaState value = set_ana_state t id group value
set_of_group t id group a value = Refuses EINVAL

abbrev pub set : Configuration → Folder → Attr → List ℕ → Outcome
set t (folder.Host host) a value = Refuses EINVAL
set t (folder.Subsystem sub) a value = set_of_subsystem t sub a value
set t (folder.Namespace sub nsid) a value = set_of_namespace t sub nsid a value
set t (folder.Port id) a value = set_of_port t id a value
set t (folder.AnaGroup id group) a value = set_of_group t id group a value

abbrev pub edit_outcome : Configuration → FolderEdit → Outcome
edit_outcome t (edit.Mkdir f) = mkdir t f
edit_outcome t (edit.Rmdir f) = rmdir t f
edit_outcome t (edit.Set f a value) = set t f a value
