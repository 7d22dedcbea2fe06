-- The text of a tree in the JSON of nvmetcli.
use Rattle.std.specs.Prelude.{ℕ, ◌==◌, ◌&&◌, Bool, true, false, List, [], map, codes, length, Option, Some, None, if◌then◌else◌}
use Rattle.std.specs.List.{list_all}
use Rattle.std.specs.FinMap as maps
use Rattle.std.specs.FinMap.{FinMap}
use Rattle.std.specs.Ordering.{nat_cmp}
use Rattle.uuid.specs.Text.{hyphenated_text, lower}
use Rattle.serde_json.specs.Data.{Data, number, unsigned, string, array, object, Members, no_members, member}
use Rattle.serde_json.specs.View.{items_of}
use Rattle.serde_json.specs.Written.{compact_text}
use Rattle.configfs_rows.specs.Nqns.{name_order}
use Rattle.configfs_rows.specs.Values.{is_text}
use Rattle.configfs_rows.specs.declared.namespaces.NamespaceRow.{NamespaceRow}
use Rattle.configfs_rows.specs.declared.subsystems.SubsystemRow.{SubsystemRow}
use Rattle.sqe_cqe.specs.declared.rows.Ana.{Ana}
use Rattle.sqe_cqe.specs.Anas.{ana_text}
use Rattle.configfs_rows.specs.declared.ports.PortRow.{PortRow}
use Rattle.configfs_tree.specs.declared.configuration.Configuration.{Configuration}

abbrev pub count : ℕ → Data
count n = number (unsigned n)

abbrev pub list_of : {X : Type 0} → (X → Data) → List X → Data
list_of shown xs = array (items_of (map shown xs))

abbrev pub flag_number : Bool → ℕ
flag_number true = 1
flag_number false = 0

abbrev pub flag_text : Bool → List ℕ
flag_text true = codes "1"
flag_text false = codes "0"

-- ---- hosts
unfoldable pub host_data : List ℕ → Data
host_data nqn = object (member (codes "nqn") (string nqn) no_members)

-- ---- namespaces
abbrev pub uuid_data : List ℕ → Data
uuid_data bytes = string (hyphenated_text lower bytes)

-- an unset text is left out
abbrev pub set_member : List ℕ → Option (List ℕ) → Members → Members
set_member name None ms = ms
set_member name (Some value) ms = member name (string value) ms

unfoldable pub device_data : NamespaceRow → Data
device_data n = object (
    member (codes "nguid") (uuid_data n.nguid)
    (set_member (codes "path") n.device_path
    (member (codes "uuid") (uuid_data n.uuid)
    no_members)))

unfoldable pub namespace_data : ℕ → NamespaceRow → Data
namespace_data nsid n = object (
    member (codes "ana_grpid") (count n.group)
    (member (codes "device") (device_data n)
    (member (codes "enable") (count (flag_number n.enabled))
    (member (codes "nsid") (count nsid)
    no_members))))

-- a namespace with its NSID
abbrev pub namespace_entry : ℕ × NamespaceRow → Data
namespace_entry e = namespace_data e.0 e.1

-- ---- subsystems
unfoldable pub attributes_data : SubsystemRow → Data
attributes_data s = object (
    member (codes "allow_any_host") (string (flag_text s.allow_any_host))
    (member (codes "model") (string s.model_name)
    (member (codes "serial") (string s.serial)
    no_members)))

unfoldable pub names_data : FinMap name_order (Unit {0}) → Data
names_data m = list_of string (maps.keys m)

unfoldable pub namespaces_data : FinMap nat_cmp NamespaceRow → Data
namespaces_data m = list_of namespace_entry (maps.entries m)

unfoldable pub subsystem_data : SubsystemRow → Data
subsystem_data s = object (
    member (codes "allowed_hosts") (names_data s.allowed_hosts)
    (member (codes "attr") (attributes_data s)
    (member (codes "namespaces") (namespaces_data s.namespaces)
    (member (codes "nqn") (string s.nqn)
    no_members))))

-- ---- ports
unfoldable pub group_data : ℕ → Ana → Data
group_data group s = object (
    member (codes "ana") (object (member (codes "state") (string (ana_text s)) no_members))
    (member (codes "grpid") (count group)
    no_members))

-- an ANA group with its number
abbrev pub group_entry : ℕ × Ana → Data
group_entry e = group_data e.0 e.1

unfoldable pub groups_data : FinMap nat_cmp Ana → Data
groups_data m = list_of group_entry (maps.entries m)

abbrev pub if_set : List ℕ → Option (List ℕ)
if_set value = if length value == 0 then None else Some value

unfoldable pub addresses_data : PortRow → Data
addresses_data p = object (
    member (codes "adrfam") (string p.adrfam)
    (member (codes "traddr") (string p.traddr)
    (member (codes "treq") (string p.treq)
    (member (codes "trsvcid") (string p.trsvcid)
    (set_member (codes "trtype") (if_set p.trtype)
    no_members)))))

unfoldable pub port_data : PortRow → Data
port_data p = object (
    member (codes "addr") (addresses_data p)
    (member (codes "ana_groups") (groups_data p.groups)
    (member (codes "portid") (count p.id)
    (member (codes "referrals") (array (items_of []))
    (member (codes "subsystems") (names_data p.links)
    no_members)))))

-- ---- the whole
unfoldable pub tree_data : Configuration → Data
tree_data t = object (
    member (codes "hosts") (list_of host_data (maps.keys t.settings.hosts))
    (member (codes "ports") (list_of port_data (maps.values t.settings.ports))
    (member (codes "subsystems") (list_of subsystem_data (maps.values t.settings.subsystems))
    no_members)))

abbrev pub saved : Configuration → List ℕ
saved t = compact_text (tree_data t)

-- ---- rows whose values are texts, as those of every tree are
abbrev pub set_is_text : Option (List ℕ) → Bool
set_is_text None = true
set_is_text (Some path) = is_text path

unfoldable pub namespaces_are_text : FinMap nat_cmp NamespaceRow → Bool
namespaces_are_text m = list_all (λ e. set_is_text e.1.device_path) (maps.entries m)

unfoldable pub subsystem_is_text : SubsystemRow → Bool
subsystem_is_text s = is_text s.serial && is_text s.model_name && namespaces_are_text s.namespaces

unfoldable pub port_is_text : PortRow → Bool
port_is_text p =
    is_text p.trtype && is_text p.adrfam && is_text p.traddr && is_text p.trsvcid && is_text p.treq
