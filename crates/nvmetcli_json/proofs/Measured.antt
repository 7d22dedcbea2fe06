-- What is saved nests at most six deep, and nothing of it is passed over.
use Rattle.std.proofs.Common.{◌≡◌, ℕ, ◌+◌, ◌≤◌, max, List, [], ◌∷◌, map, Option, Some, None, refl, arith}
use Rattle.std.specs.FinMap as maps
use Rattle.std.specs.FinMap.{FinMap}
use Rattle.std.specs.Ordering.{nat_cmp}
use Rattle.std.specs.Prelude.{codes}
use Rattle.uuid.specs.Text.{hyphenated_text, lower}
use Rattle.serde_json.specs.Data.{Data, string, object, member, no_members, depth, items_depth}
use Rattle.serde_json.specs.View.{items_of}
use Rattle.configfs_rows.specs.declared.namespaces.NamespaceRow.{NamespaceRow}
use Rattle.configfs_rows.specs.declared.subsystems.SubsystemRow.{SubsystemRow}
use Rattle.sqe_cqe.specs.declared.rows.Ana.{Ana}
use Rattle.configfs_rows.specs.declared.ports.PortRow.{PortRow}
use Rattle.configfs_tree.specs.declared.configuration.Configuration.{Configuration}
use Rattle.nvmetcli_json.specs.Counting.{others_among, total_among, host_count, namespace_count, subsystem_count, group_count, port_count, passed_over}
use Rattle.nvmetcli_json.specs.Saving.{list_of, host_data, set_member, device_data, namespace_data, namespace_entry, attributes_data, names_data, namespaces_data, subsystem_data, group_data, group_entry, groups_data, if_set, addresses_data, port_data, tree_data}

-- ---- depth
highest : (a b k : ℕ) → a ≤ k → b ≤ k → max a b ≤ k
highest a b k x y = omega arith

list_depth : {X : Type 0} (shows : X → Data) (xs : List X) (k : ℕ) → ((x : X) → depth (shows x) ≤ k)
    → items_depth (items_of (map shows xs)) ≤ k
list_depth shows [] k each = omega arith
list_depth shows (x ∷ xs) k each = highest (depth (shows x)) (items_depth (items_of
    (map shows xs))) k (each x) (list_depth shows xs k each)

flat_string : (s : List ℕ) → depth (string s) ≤ 0
flat_string s = omega arith

host_depth : (nqn : List ℕ) → depth (host_data nqn) ≤ 1
unfolding host_data
host_depth nqn = omega arith

device_depth_by : (a b : List ℕ) (k l m : List ℕ) (o : Option (List ℕ))
    → depth (object (member k (string a) (set_member l o (member m (string b) no_members)))) ≤ 1
device_depth_by a b k l m None = omega arith
device_depth_by a b k l m (Some v) = omega arith

device_depth : (n : NamespaceRow) → depth (device_data n) ≤ 1
unfolding device_data
device_depth n = device_depth_by (hyphenated_text lower n.nguid) (hyphenated_text lower n.uuid)
    (codes "nguid") (codes "path") (codes "uuid") n.device_path

namespace_depth : (nsid : ℕ) (n : NamespaceRow) → depth (namespace_data nsid n) ≤ 2
unfolding namespace_data
namespace_depth nsid n = let h = device_depth n in omega (arith, h)

namespaces_depth : (m : FinMap nat_cmp NamespaceRow) → depth (namespaces_data m) ≤ 3
unfolding namespaces_data
namespaces_depth m = let h = list_depth namespace_entry (maps.entries m) 2
    (λ e. namespace_depth e.0 e.1) in omega (arith, h)

strings_depth : (xs : List (List ℕ)) → depth (list_of string xs) ≤ 1
strings_depth xs = let h = list_depth string xs 0 flat_string in omega (arith, h)

attributes_depth : (s : SubsystemRow) → depth (attributes_data s) ≤ 1
unfolding attributes_data
attributes_depth s = omega arith

subsystem_depth : (s : SubsystemRow) → depth (subsystem_data s) ≤ 4
unfolding subsystem_data names_data
subsystem_depth s =
    let a = strings_depth (maps.keys s.allowed_hosts) in
    let b = attributes_depth s in
    let c = namespaces_depth s.namespaces in
    omega (arith, a, b, c)

group_depth : (n : ℕ) (s : Ana) → depth (group_data n s) ≤ 2
unfolding group_data
group_depth n s = omega arith

groups_depth : (m : FinMap nat_cmp Ana) → depth (groups_data m) ≤ 3
unfolding groups_data
groups_depth m = let h = list_depth group_entry (maps.entries m) 2 (λ e. group_depth e.0 e.1)
    in omega (arith, h)

address_depth_by : (a b c d : List ℕ) (k l m n r : List ℕ) (o : Option (List ℕ))
    → depth (object (member k (string a) (member l (string b) (member m (string c) (member n
    (string d) (set_member r o no_members)))))) ≤ 1
address_depth_by a b c d k l m n r None = omega arith
address_depth_by a b c d k l m n r (Some v) = omega arith

addresses_depth : (p : PortRow) → depth (addresses_data p) ≤ 1
unfolding addresses_data
addresses_depth p = address_depth_by p.adrfam p.traddr p.treq p.trsvcid (codes "adrfam")
    (codes "traddr") (codes "treq") (codes "trsvcid") (codes "trtype") (if_set p.trtype)

port_depth : (p : PortRow) → depth (port_data p) ≤ 4
unfolding port_data names_data
port_depth p =
    let a = addresses_depth p in
    let b = groups_depth p.groups in
    let c = strings_depth (maps.keys p.links) in
    omega (arith, a, b, c)

pub tree_depth : (t : Configuration) → depth (tree_data t) ≤ 127
unfolding tree_data
tree_depth t =
    let a = list_depth host_data (maps.keys t.settings.hosts) 1 host_depth in
    let b = list_depth port_data (maps.values t.settings.ports) 4 port_depth in
    let c = list_depth subsystem_data (maps.values t.settings.subsystems) 4 subsystem_depth in
    omega (arith, a, b, c)

-- ---- nothing is passed over
none_among : {X : Type 0} (counts : Data → ℕ) (shows : X → Data) (xs : List X) → ((x : X)
    → counts (shows x) ≡ 0) → total_among counts (items_of (map shows xs)) ≡ 0
unfolding total_among
none_among counts shows [] each = refl
none_among counts shows (x ∷ xs) each = let h = each x in let rest = none_among counts shows xs each
    in omega (arith, h, rest)

plus_none : (n : ℕ) → n ≡ 0 → 0 + n ≡ 0
plus_none n h = omega (arith, h)

host_none : (nqn : List ℕ) → host_count (host_data nqn) ≡ 0
unfolding host_count host_data others_among
host_none nqn = refl

namespace_none_by : (o : Option (List ℕ)) (nsid : ℕ) (n : NamespaceRow) → n.device_path ≡ o
    → namespace_count (namespace_data nsid n) ≡ 0
unfolding namespace_count namespace_data device_data others_among
namespace_none_by None nsid n is = rw is refl
namespace_none_by (Some path) nsid n is = rw is refl

subsystem_none : (s : SubsystemRow) → subsystem_count (subsystem_data s) ≡ 0
unfolding subsystem_count subsystem_data attributes_data namespaces_data others_among
subsystem_none s = let h = none_among namespace_count namespace_entry (maps.entries s.namespaces)
    (λ e. namespace_none_by e.1.device_path e.0 e.1 refl) in plus_none _ h

group_none : (n : ℕ) (s : Ana) → group_count (group_data n s) ≡ 0
unfolding group_count group_data others_among
group_none n s = refl

port_none_by : (o : Option (List ℕ)) (p : PortRow) → if_set p.trtype ≡ o
    → port_count (port_data p) ≡ 0
unfolding port_count port_data addresses_data groups_data others_among total_among
port_none_by None p is = let h = none_among group_count group_entry (maps.entries p.groups)
    (λ e. group_none e.0 e.1) in rw is (plus_none _ h)
port_none_by (Some v) p is = let h = none_among group_count group_entry (maps.entries p.groups)
    (λ e. group_none e.0 e.1) in rw is (plus_none _ h)

pub tree_none : (t : Configuration) → passed_over (tree_data t) ≡ 0
unfolding passed_over tree_data others_among
tree_none t =
    let a = none_among host_count host_data (maps.keys t.settings.hosts) host_none in
    let b = none_among subsystem_count subsystem_data
    (maps.values t.settings.subsystems) subsystem_none in
    let c = none_among port_count port_data (maps.values t.settings.ports) (λ p. port_none_by
    (if_set p.trtype) p refl) in
    omega (arith, a, b, c)
