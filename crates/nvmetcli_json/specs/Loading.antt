-- The edits of a configuration in the JSON of nvmetcli.
use Rattle.std.specs.Prelude.{◌≡◌, ℕ, ◌^◌, ◌==◌, Bool, true, false, List, [], ◌∷◌, ◌++◌, codes, length, if◌then◌else◌, Option, Some, None, Ok, IsUtf8}
use Rattle.std.specs.Fmt.{decimal}
use Rattle.serde_json.specs.Data.{Data}
use Rattle.serde_json.specs.Read.{read}
use Rattle.configfs_tree.specs.declared.edits.Attr.TheVariants as attr
use Rattle.configfs_tree.specs.declared.edits.Folder.{Folder}
use Rattle.configfs_tree.specs.declared.edits.Folder.TheVariants as folder
use Rattle.link_rules.specs.declared.edits.Edit.{Edit}
use Rattle.nvmetcli_json.specs.Faults.{Found, ◌>>=◌, must, may, in_object}
use Rattle.nvmetcli_json.specs.Kinds.{nqn_in, value_in, number_in, flag_in}
use Rattle.nvmetcli_json.specs.Edits.{Loads, in_array, made, set, allowed, linked, set_some}

abbrev pub some_value : Data → Found (Option (List ℕ))
some_value d = value_in d >>= λ value. Ok (Some value)

-- a member that may be missing, as the value of an attribute
abbrev pub attribute : List ℕ → Data → Found (Option (List ℕ))
attribute name d = may name None some_value d

-- ---- hosts
abbrev pub host_members : Data → Loads
host_members d = must (codes "nqn") nqn_in d >>= λ nqn. Ok (made (folder.Host nqn) ∷ [])

unfoldable pub host_in : Data → Loads
host_in d = in_object host_members d

-- ---- namespaces
abbrev pub device_members : List ℕ → ℕ → Data → Loads
device_members sub nsid d =
    attribute (codes "nguid") d >>= λ nguid.
    attribute (codes "path") d >>= λ path.
    attribute (codes "uuid") d >>= λ uuid.
    Ok (set_some (folder.Namespace sub nsid) attr.DeviceNguid nguid
    ++ set_some (folder.Namespace sub nsid) attr.DevicePath path
    ++ set_some (folder.Namespace sub nsid) attr.DeviceUuid uuid)

unfoldable pub device_in : List ℕ → ℕ → Data → Loads
device_in sub nsid d = in_object (device_members sub nsid) d

-- the group that a member `ana` names, as the text of an attribute
abbrev pub some_number : ℕ → Data → Found (Option (List ℕ))
some_number limit d = number_in limit d >>= λ n. Ok (Some (decimal n))

abbrev pub ana_members : Data → Found (Option (List ℕ))
ana_members d = may (codes "grpid") None (some_number (2 ^ 32)) d

unfoldable pub ana_in : Data → Found (Option (List ℕ))
ana_in d = in_object ana_members d

abbrev pub enabling : Folder → Bool → List Edit
enabling f false = []
enabling f true = set f attr.Enable (codes "1") ∷ []

abbrev pub namespace_members : List ℕ → Data → Loads
namespace_members sub d =
    must (codes "nsid") (number_in (2 ^ 32)) d >>= λ nsid.
    may (codes "ana") None ana_in d >>= λ ana.
    may (codes "ana_grpid") ana some_value d >>= λ group.
    may (codes "device") [] (device_in sub nsid) d >>= λ device.
    may (codes "enable") false flag_in d >>= λ enable.
    Ok (made (folder.Namespace sub nsid) ∷ []
    ++ device
    ++ set_some (folder.Namespace sub nsid) attr.AnaGrpid group
    ++ enabling (folder.Namespace sub nsid) enable)

unfoldable pub namespace_in : List ℕ → Data → Loads
namespace_in sub d = in_object (namespace_members sub) d

-- ---- subsystems
abbrev pub subsystem_attributes : List ℕ → Data → Loads
subsystem_attributes sub d =
    attribute (codes "allow_any_host") d >>= λ any.
    attribute (codes "model") d >>= λ model.
    attribute (codes "serial") d >>= λ serial.
    Ok (set_some (folder.Subsystem sub) attr.AllowAnyHost any
    ++ set_some (folder.Subsystem sub) attr.ModelName model
    ++ set_some (folder.Subsystem sub) attr.Serial serial)

unfoldable pub attributes_in : List ℕ → Data → Loads
attributes_in sub d = in_object (subsystem_attributes sub) d

unfoldable pub allowed_in : List ℕ → Data → Loads
allowed_in sub d = nqn_in d >>= λ host. Ok (allowed sub host ∷ [])

abbrev pub subsystem_members : Data → Loads
subsystem_members d =
    must (codes "nqn") nqn_in d >>= λ sub.
    may (codes "allowed_hosts") [] (in_array (allowed_in sub)) d >>= λ hosts.
    may (codes "attr") [] (attributes_in sub) d >>= λ attributes.
    may (codes "namespaces") [] (in_array (namespace_in sub)) d >>= λ namespaces.
    Ok (made (folder.Subsystem sub) ∷ [] ++ attributes ++ hosts ++ namespaces)

unfoldable pub subsystem_in : Data → Loads
subsystem_in d = in_object subsystem_members d

-- ---- ports
-- an empty transport type is taken as missing
abbrev pub unless_empty : Option (List ℕ) → Option (List ℕ)
unless_empty None = None
unless_empty (Some value) = if length value == 0 then None else Some value

abbrev pub address_members : ℕ → Data → Loads
address_members id d =
    attribute (codes "adrfam") d >>= λ adrfam.
    attribute (codes "traddr") d >>= λ traddr.
    attribute (codes "treq") d >>= λ treq.
    attribute (codes "trsvcid") d >>= λ trsvcid.
    attribute (codes "trtype") d >>= λ trtype.
    Ok (set_some (folder.Port id) attr.Adrfam adrfam
    ++ set_some (folder.Port id) attr.Traddr traddr
    ++ set_some (folder.Port id) attr.Treq treq
    ++ set_some (folder.Port id) attr.Trsvcid trsvcid
    ++ set_some (folder.Port id) attr.Trtype (unless_empty trtype))

unfoldable pub addresses_in : ℕ → Data → Loads
addresses_in id d = in_object (address_members id) d

-- group 1 of a port is there from the port's making
abbrev pub made_group : ℕ → ℕ → List Edit
made_group id group = if group == 1 then [] else made (folder.AnaGroup id group) ∷ []

abbrev pub state_members : Data → Found (Option (List ℕ))
state_members d = attribute (codes "state") d

unfoldable pub state_in : Data → Found (Option (List ℕ))
state_in d = in_object state_members d

abbrev pub group_members : ℕ → Data → Loads
group_members id d =
    must (codes "grpid") (number_in (2 ^ 32)) d >>= λ group.
    may (codes "ana") None state_in d >>= λ state.
    Ok (made_group id group ++ set_some (folder.AnaGroup id group) attr.AnaState state)

unfoldable pub group_in : ℕ → Data → Loads
group_in id d = in_object (group_members id) d

unfoldable pub linked_in : ℕ → Data → Loads
linked_in id d = nqn_in d >>= λ sub. Ok (linked id sub ∷ [])

-- a referral is passed over, whatever it is: it brings no edit
unfoldable pub referral_in : Data → Loads
referral_in d = Ok []

abbrev pub port_members : Data → Loads
port_members d =
    must (codes "portid") (number_in 65536) d >>= λ id.
    may (codes "addr") [] (addresses_in id) d >>= λ addresses.
    may (codes "ana_groups") [] (in_array (group_in id)) d >>= λ groups.
    may (codes "referrals") [] (in_array referral_in) d >>= λ referrals.
    may (codes "subsystems") [] (in_array (linked_in id)) d >>= λ links.
    Ok (made (folder.Port id) ∷ [] ++ addresses ++ groups ++ referrals ++ links)

unfoldable pub port_in : Data → Loads
port_in d = in_object port_members d

-- ---- the whole
abbrev pub members_in : Data → Loads
members_in d =
    may (codes "hosts") [] (in_array host_in) d >>= λ hosts.
    may (codes "subsystems") [] (in_array subsystem_in) d >>= λ subsystems.
    may (codes "ports") [] (in_array port_in) d >>= λ ports.
    Ok (hosts ++ subsystems ++ ports)

unfoldable pub edits_in : Data → Loads
edits_in d = in_object members_in d

-- the bytes are UTF-8 and the text of this JSON value, in which arrays and objects nest at most 127
-- deep
pub record IsJson (bytes : List ℕ) (d : Data) : Type 0 where
  pub utf8 : IsUtf8 bytes
  pub value : read bytes ≡ Some d
