-- What is saved has no float.
use Rattle.std.proofs.Common.{◌≡◌, ℕ, Bool, true, false, ◌||◌, List, [], ◌∷◌, map, Option, Some, None, refl}
use Rattle.std.specs.FinMap as maps
use Rattle.std.specs.FinMap.{FinMap}
use Rattle.std.specs.Ordering.{nat_cmp}
use Rattle.serde_json.specs.Data.{Data, string, member, Members}
use Rattle.serde_json.specs.View.{items_of}
use Rattle.serde_json.specs.Written.{has_float, items_have_float, members_have_float}
use Rattle.configfs_rows.specs.declared.namespaces.NamespaceRow.{NamespaceRow}
use Rattle.configfs_rows.specs.declared.subsystems.SubsystemRow.{SubsystemRow}
use Rattle.sqe_cqe.specs.declared.rows.Ana.{Ana}
use Rattle.configfs_rows.specs.declared.ports.PortRow.{PortRow}
use Rattle.configfs_tree.specs.declared.configuration.Configuration.{Configuration}
use Rattle.nvmetcli_json.specs.Saving.{list_of, host_data, set_member, device_data, namespace_data, namespace_entry, attributes_data, names_data, namespaces_data, subsystem_data, group_data, group_entry, groups_data, if_set, addresses_data, port_data, tree_data}

both : (a b : Bool) → a ≡ false → b ≡ false → (a || b) ≡ false
both true b e f = e
both false b e f = f

none_in : {X : Type 0} (shows : X → Data) (xs : List X) → ((x : X) → has_float (shows x) ≡ false)
    → items_have_float (items_of (map shows xs)) ≡ false
none_in shows [] h = refl
none_in shows (x ∷ xs) h = both (has_float (shows x)) (items_have_float (items_of (map shows xs)))
    (h x) (none_in shows xs h)

none_in_list : {X : Type 0} (shows : X → Data) (xs : List X) → ((x : X)
    → has_float (shows x) ≡ false) → has_float (list_of shows xs) ≡ false
none_in_list shows xs h = none_in shows xs h

more : (k : List ℕ) (d : Data) (ms : Members) → has_float d ≡ false → members_have_float ms ≡ false
    → members_have_float (member k d ms) ≡ false
more k d ms h rest = both (has_float d) (members_have_float ms) h rest

maybe : (k : List ℕ) (o : Option (List ℕ)) (ms : Members) → members_have_float ms ≡ false
    → members_have_float (set_member k o ms) ≡ false
maybe k None ms h = h
maybe k (Some v) ms h = h

host : (nqn : List ℕ) → has_float (host_data nqn) ≡ false
unfolding host_data
host nqn = refl

device : (n : NamespaceRow) → has_float (device_data n) ≡ false
unfolding device_data
device n = maybe _ n.device_path _ refl

namespace : (nsid : ℕ) (n : NamespaceRow) → has_float (namespace_data nsid n) ≡ false
unfolding namespace_data
namespace nsid n = both (has_float (device_data n)) false (device n) refl

namespaces : (m : FinMap nat_cmp NamespaceRow) → has_float (namespaces_data m) ≡ false
unfolding namespaces_data
namespaces m = none_in_list namespace_entry (maps.entries m) (λ e. namespace e.0 e.1)

attributes : (s : SubsystemRow) → has_float (attributes_data s) ≡ false
unfolding attributes_data
attributes s = refl

subsystem : (s : SubsystemRow) → has_float (subsystem_data s) ≡ false
unfolding subsystem_data names_data
subsystem s =
    let hosts = none_in_list string (maps.keys s.allowed_hosts) (λ x. refl) in
    both (has_float (list_of string (maps.keys s.allowed_hosts))) (has_float (attributes_data s)
    || (has_float (namespaces_data s.namespaces) || false)) hosts
    (both (has_float (attributes_data s)) (has_float (namespaces_data s.namespaces)
    || false) (attributes s)
    (both (has_float (namespaces_data s.namespaces)) false (namespaces s.namespaces) refl))

group : (n : ℕ) (s : Ana) → has_float (group_data n s) ≡ false
unfolding group_data
group n s = refl

groups : (m : FinMap nat_cmp Ana) → has_float (groups_data m) ≡ false
unfolding groups_data
groups m = none_in_list group_entry (maps.entries m) (λ e. group e.0 e.1)

addresses : (p : PortRow) → has_float (addresses_data p) ≡ false
unfolding addresses_data
addresses p = maybe _ (if_set p.trtype) _ refl

port : (p : PortRow) → has_float (port_data p) ≡ false
unfolding port_data names_data
port p =
    let links = none_in_list string (maps.keys p.links) (λ x. refl) in
    both (has_float (addresses_data p)) (has_float (groups_data p.groups)
    || (has_float (list_of string (maps.keys p.links)) || false)) (addresses p)
    (both (has_float (groups_data p.groups)) (has_float (list_of string (maps.keys p.links))
    || false) (groups p.groups)
    (both (has_float (list_of string (maps.keys p.links))) false links refl))

pub tree_has_none : (t : Configuration) → has_float (tree_data t) ≡ false
unfolding tree_data
tree_has_none t =
    let hosts = none_in_list host_data (maps.keys t.settings.hosts) host in
    let ports = none_in_list port_data (maps.values t.settings.ports) port in
    let subsystems = none_in_list subsystem_data (maps.values t.settings.subsystems) subsystem in
    both (has_float (list_of host_data (maps.keys t.settings.hosts))) (has_float (list_of port_data
    (maps.values t.settings.ports))
    || (has_float (list_of subsystem_data (maps.values t.settings.subsystems)) || false)) hosts
    (both (has_float (list_of port_data (maps.values t.settings.ports))) (has_float
    (list_of subsystem_data (maps.values t.settings.subsystems)) || false) ports
    (both (has_float (list_of subsystem_data
    (maps.values t.settings.subsystems))) false subsystems refl))
