-- The edits that the saved text of a tree brings.
use Rattle.std.specs.Prelude.{ℕ, ◌^◌, ◌&&◌, nat_lt, Bool, List, [], ◌∷◌, ◌++◌, Some}
use Rattle.std.specs.List.{list_all}
use Rattle.std.specs.Fmt.{decimal}
use Rattle.std.specs.FinMap as maps
use Rattle.uuid.specs.Text.{hyphenated_text, lower}
use Rattle.configfs_rows.specs.Nqns.{is_nqn}
use Rattle.configfs_rows.specs.Values.{is_text}
use Rattle.configfs_tree.specs.declared.edits.Attr.TheVariants as attr
use Rattle.configfs_tree.specs.declared.edits.Folder.TheVariants as folder
use Rattle.configfs_rows.specs.declared.namespaces.NamespaceRow.{NamespaceRow}
use Rattle.configfs_rows.specs.declared.subsystems.SubsystemRow.{SubsystemRow}
use Rattle.sqe_cqe.specs.declared.rows.Ana.{Ana}
use Rattle.sqe_cqe.specs.Anas.{ana_text}
use Rattle.configfs_rows.specs.declared.ports.PortRow.{PortRow}
use Rattle.configfs_tree.specs.declared.configuration.Configuration.{Configuration}
use Rattle.link_rules.specs.declared.edits.Edit.{Edit}
use Rattle.nvmetcli_json.specs.Edits.{made, set_some, allowed, linked}
use Rattle.nvmetcli_json.specs.Loading.{enabling, made_group}
use Rattle.nvmetcli_json.specs.Saving.{flag_text, if_set, set_is_text}

unfoldable pub flat : {X : Type 0} → (X → List Edit) → List X → List Edit
flat f [] = []
flat f (x ∷ xs) = f x ++ flat f xs

abbrev pub host_written : List ℕ → List Edit
host_written nqn = made (folder.Host nqn) ∷ []

abbrev pub device_written : List ℕ → ℕ → NamespaceRow → List Edit
device_written sub nsid n =
    set_some (folder.Namespace sub nsid) attr.DeviceNguid (Some (hyphenated_text lower n.nguid))
    ++ set_some (folder.Namespace sub nsid) attr.DevicePath n.device_path
    ++ set_some (folder.Namespace sub nsid) attr.DeviceUuid (Some (hyphenated_text lower n.uuid))

unfoldable pub namespace_written : List ℕ → ℕ → NamespaceRow → List Edit
namespace_written sub nsid n =
    made (folder.Namespace sub nsid) ∷ []
    ++ device_written sub nsid n
    ++ set_some (folder.Namespace sub nsid) attr.AnaGrpid (Some (decimal n.group))
    ++ enabling (folder.Namespace sub nsid) n.enabled

abbrev pub entry_written : List ℕ → ℕ × NamespaceRow → List Edit
entry_written sub e = namespace_written sub e.0 e.1

unfoldable pub subsystem_written : SubsystemRow → List Edit
subsystem_written s =
    made (folder.Subsystem s.nqn) ∷ []
    ++ (set_some (folder.Subsystem s.nqn) attr.AllowAnyHost (Some (flag_text s.allow_any_host))
    ++ set_some (folder.Subsystem s.nqn) attr.ModelName (Some s.model_name)
    ++ set_some (folder.Subsystem s.nqn) attr.Serial (Some s.serial))
    ++ flat (λ host. allowed s.nqn host ∷ []) (maps.keys s.allowed_hosts)
    ++ flat (entry_written s.nqn) (maps.entries s.namespaces)

unfoldable pub group_written : ℕ → ℕ → Ana → List Edit
group_written id group state = made_group id group
    ++ set_some (folder.AnaGroup id group) attr.AnaState (Some (ana_text state))

abbrev pub group_entry_written : ℕ → ℕ × Ana → List Edit
group_entry_written id e = group_written id e.0 e.1

unfoldable pub port_written : PortRow → List Edit
port_written p =
    made (folder.Port p.id) ∷ []
    ++ (set_some (folder.Port p.id) attr.Adrfam (Some p.adrfam)
    ++ set_some (folder.Port p.id) attr.Traddr (Some p.traddr)
    ++ set_some (folder.Port p.id) attr.Treq (Some p.treq)
    ++ set_some (folder.Port p.id) attr.Trsvcid (Some p.trsvcid)
    ++ set_some (folder.Port p.id) attr.Trtype (if_set p.trtype))
    ++ flat (group_entry_written p.id) (maps.entries p.groups)
    ++ []
    ++ flat (λ sub. linked p.id sub ∷ []) (maps.keys p.links)

unfoldable pub tree_written : Configuration → List Edit
tree_written t =
    flat host_written (maps.keys t.settings.hosts)
    ++ flat subsystem_written (maps.values t.settings.subsystems)
    ++ flat port_written (maps.values t.settings.ports)

-- ---- rows whose saved form is read
abbrev pub namespace_reads : ℕ × NamespaceRow → Bool
namespace_reads e = nat_lt e.0 (2 ^ 32) && set_is_text e.1.device_path

unfoldable pub subsystem_reads : SubsystemRow → Bool
subsystem_reads s =
    is_nqn s.nqn && is_text s.serial && is_text s.model_name
    && list_all is_nqn (maps.keys s.allowed_hosts)
    && list_all namespace_reads (maps.entries s.namespaces)

abbrev pub group_reads : ℕ × Ana → Bool
group_reads e = nat_lt e.0 (2 ^ 32)

unfoldable pub addresses_read : PortRow → Bool
addresses_read p = is_text p.adrfam && is_text p.traddr && is_text p.treq && is_text p.trsvcid
    && set_is_text (if_set p.trtype)

-- the number of a port has 16 bits
abbrev pub has_short_id : PortRow → Bool
has_short_id p = nat_lt p.id 65536

unfoldable pub port_reads : PortRow → Bool
port_reads p =
    has_short_id p && addresses_read p
    && list_all group_reads (maps.entries p.groups)
    && list_all is_nqn (maps.keys p.links)

-- a tree whose saved text is read
unfoldable pub tree_reads : Configuration → Bool
tree_reads t =
    list_all is_nqn (maps.keys t.settings.hosts)
    && list_all subsystem_reads (maps.values t.settings.subsystems)
    && list_all port_reads (maps.values t.settings.ports)
