-- The whole tree is made again.
use Rattle.std.proofs.Common.{◌≡◌, ◌≤◌, ◌<◌, ◌+◌, ℕ, Bool, true, false, IsTrue, List, [], ◌∷◌, ◌++◌, map as each, length, codes, cond, Option, Some, None, refl, sym, ap, ◌∙◌, arith}
use Rattle.std.proofs.lemmas.Bool.{lt-ltb}
use Rattle.std.proofs.lemmas.List.{append-nil}
use Rattle.std.specs.List.{list_any, list_all}
use Rattle.std.specs.Option.{option_and_then}
use Rattle.std.specs.Str.{bytes_eq}
use Rattle.std.specs.Ordering.{nat_cmp, eq_by_cmp}
use Rattle.std.specs.Cmp.{nat_cmp_total}
use Rattle.std.specs.Cmp.Lexicographic.{nat_list_cmp_total}
use Rattle.std.specs.FinMap as map
use Rattle.serde_json.specs.Data.{Data, array, object, member, no_members}
use Rattle.serde_json.specs.View.{items_of}
use Rattle.serde_json.specs.Written.{compact_text}
use Rattle.mem_bdev.specs.declared.disk.DiskLine.{DiskLine}
use Rattle.configfs_rows.specs.Holders.{disk_of, holder_of, paths_of}
use Rattle.configfs_rows.specs.Nqns.{name_order}
use Rattle.configfs_rows.specs.declared.limits.TheConstants.{MAX_SUBSYSTEMS, MAX_PORTS}
use Rattle.configfs_rows.specs.declared.disks.DiskRow.{DiskRow}
use Rattle.configfs_rows.specs.declared.ports.PortRow.{PortRow}
use Rattle.configfs_rows.specs.declared.subsystems.SubsystemRow.{SubsystemRow}
use Rattle.configfs_rows.proofs.Gets.{some_same, none_some}
use Rattle.configfs_tree.specs.Outcome.{Outcome, Refuses, Accepts}
use Rattle.configfs_tree.specs.Standing.{placed_in, IsStanding}
use Rattle.configfs_tree.specs.Start.{empty_tree, free_disk, line_path}
use Rattle.configfs_tree.specs.declared.configuration.Configuration.{Configuration}
use Rattle.link_rules.specs.Table.{edit_outcome}
use Rattle.link_rules.specs.declared.edits.Edit.{Edit}
use Rattle.nvmetcli_json.specs.Laws.{made_tree, all_edited}
use Rattle.nvmetcli_json.specs.Saving.{list_of, host_data, tree_data, subsystem_data, attributes_data, port_data, addresses_data}
use Rattle.nvmetcli_json.specs.Written.{flat, host_written, subsystem_written, port_written, tree_written, has_short_id}
use Rattle.nvmetcli_json.proofs.Rebuilt.{hosts_made}
use Rattle.nvmetcli_json.proofs.ReadingPorts.{tree_read}
use Rattle.nvmetcli_json.proofs.Sorted.{all_values}
use Rattle.nvmetcli_json.proofs.Standing.{standing_reads}
use Rattle.tree_target.specs.Loads.{LoadedTree, load_on, load_from}
use Rattle.json_round_trip.specs.Reloads.{unplaced_subsystem, unplaced_port, IsTyped, HasDisksOf, Reloads}
use Rattle.json_round_trip.proofs.Steps.{Rows, Ports, tree_of, Goes, goes_then}
use Rattle.json_round_trip.proofs.Alike.{Alike, keys_alike, get_alike, shown_alike}
use Rattle.json_round_trip.proofs.Counted.{few_places}
use Rattle.json_round_trip.proofs.Growing.{Grows}
use Rattle.json_round_trip.proofs.Listed.{value_has}
use Rattle.json_round_trip.proofs.Made.{subsystems_made, no_entries}
use Rattle.json_round_trip.proofs.PortsMade.{ports_made}

-- ---- what edits make is what loading makes
load_step : (n : ℕ) (es : List Edit) (u : Configuration) (o : Outcome)
    → ((v : Configuration) → all_edited v es ≡ Some u → load_from (n + 1) v es ≡ LoadedTree u)
    → option_and_then (λ v. all_edited v es) (made_tree o) ≡ Some u
    → load_on n o (λ v. load_from (n + 1) v es) ≡ LoadedTree u
load_step n es u (Refuses errno) rest is = absurd (none_some u is)
load_step n es u (Accepts v change) rest is = rest v is

load_all : (es : List Edit) (n : ℕ) (t u : Configuration) → all_edited t es ≡ Some u
    → load_from n t es ≡ LoadedTree u
unfolding all_edited
load_all [] n t u is = ap LoadedTree (some_same t u is)
load_all (e ∷ es) n t u is = load_step n es u (edit_outcome t e) (λ v. load_all es (n + 1) v u) is

-- ---- the empty tree
free_paths : (lines : List DiskLine) → paths_of (each free_disk lines) ≡ each line_path lines
free_paths [] = refl
free_paths (l ∷ lines) = ap (λ ps. l.path ∷ ps) (free_paths lines)

free_at : (b : Bool) (path : List ℕ) (found : Option DiskRow) → holder_of found ≡ None
    → holder_of (cond b (Some (record { path = path; holder = None })) found) ≡ None
free_at true path found is = refl
free_at false path found is = is

all_free : (path : List ℕ) (lines : List DiskLine) → holder_of (disk_of path (each free_disk lines))
    ≡ None
all_free path [] = refl
all_free path (l ∷ lines) = free_at (bytes_eq l.path path) l.path
    (disk_of path (each free_disk lines)) (all_free path lines)

nothing_grown : (t : Configuration) (lines : List DiskLine) → HasDisksOf lines t
    → Grows t map.empty (each free_disk lines)
nothing_grown t lines disks = record {
  paths = free_paths lines ∙ sym disks;
  places = record {
    own_key = λ k x e. absurd (none_some x (sym (map.get-empty name_order k) ∙ e));
    below = λ k x e. absurd (none_some x (sym (map.get-empty name_order k) ∙ e));
    apart = λ j k x y e f level. absurd (none_some x (sym (map.get-empty name_order j) ∙ e));
  };
  holders = λ path d h e f. absurd (none_some h (sym (all_free path lines)
      ∙ (ap holder_of e ∙ f)));
  rows = λ sub nsid x e. absurd (none_some x (sym (ap (placed_in nsid)
      (map.get-empty name_order sub)) ∙ e));
}

-- ---- what is saved of rows doesn't tell their positions
same_subsystem_data : (s : SubsystemRow) → subsystem_data (unplaced_subsystem s) ≡ subsystem_data s
unfolding subsystem_data attributes_data
same_subsystem_data s = refl

same_port_data : (p : PortRow) → port_data (unplaced_port p) ≡ port_data p
unfolding port_data addresses_data
same_port_data p = refl

module _ (lines : List DiskLine) (t : Configuration) (stands : IsStanding t) (typed : IsTyped t)
    (disks : HasDisksOf lines t) where
  short_ids : list_all has_short_id (map.values t.settings.ports) ≡ true
  short_ids = all_values nat_cmp_total has_short_id t.settings.ports (λ id p is. lt-ltb p.id 65536
      (value_has (λ (q : PortRow). q.id < 65536) t.settings.ports typed.short_ids id p is))

  few_subsystems : map.len t.settings.subsystems ≤ MAX_SUBSYSTEMS
  few_subsystems = few_places nat_list_cmp_total (λ (s : SubsystemRow). s.nqn)
      (λ (s : SubsystemRow). s.at) MAX_SUBSYSTEMS t.settings.subsystems stands.placed.subsystems

  few_ports : map.len t.settings.ports ≤ MAX_PORTS
  few_ports = few_places nat_cmp_total (λ (p : PortRow). p.id) (λ (p : PortRow). p.at) MAX_PORTS
      t.settings.ports stands.placed.ports

  abbrev free : List DiskRow
  free = each free_disk lines

  hosts_go : Goes (empty_tree lines) (flat host_written (map.keys t.settings.hosts))
      (tree_of t.settings.hosts map.empty map.empty 0 free)
  hosts_go rest =
      let size : map.len t.settings.hosts ≡ length (map.entries t.settings.hosts) =
      map.len-entries t.settings.hosts in
      let few = stands.sound.few_hosts in
      hosts_made (map.entries t.settings.hosts) [] (empty_tree lines) rest t.settings.hosts
      (no_entries (List ℕ) (Unit {0}) name_order) refl (omega arith)

  -- a name that is in one map is in another with the same names
  same_keys : (m n : Rows) → Alike name_order unplaced_subsystem (map.entries m) (map.entries n)
      → (sub : List ℕ) → IsTrue (map.contains_key n sub) → IsTrue (map.contains_key m sub)
  same_keys m n alike sub is = map.contains_key-keys m sub
      ∙ (ap (list_any (eq_by_cmp name_order sub)) (keys_alike name_order unplaced_subsystem
      (map.entries m) (map.entries n) alike)
      ∙ (sym (map.contains_key-keys n sub) ∙ is))

  same_tree_data : (m : Rows) (ports : Ports) (count : ℕ) (ds : List DiskRow)
      → Alike name_order unplaced_subsystem (map.entries m) (map.entries t.settings.subsystems)
      → Alike nat_cmp unplaced_port (map.entries ports) (map.entries t.settings.ports)
      → tree_data (tree_of t.settings.hosts m ports count ds) ≡ tree_data t
  unfolding tree_data
  same_tree_data m ports count ds subs_alike ports_alike =
      ap (λ (ps : List Data). shown ps (each subsystem_data (map.values m)))
      (shown_alike nat_cmp unplaced_port port_data same_port_data (map.entries ports)
      (map.entries t.settings.ports) ports_alike)
      ∙ ap (λ (ss : List Data). shown (each port_data (map.values t.settings.ports)) ss)
      (shown_alike name_order unplaced_subsystem subsystem_data same_subsystem_data (map.entries m)
      (map.entries t.settings.subsystems) subs_alike) where
        shown : List Data → List Data → Data
        shown ps ss = object (
            member (codes "hosts") (list_of host_data (map.keys t.settings.hosts))
            (member (codes "ports") (array (items_of ps))
            (member (codes "subsystems") (array (items_of ss))
            no_members)))

  pub reloads : Reloads lines t
  unfolding tree_written all_edited
  reloads =
      let subs = subsystems_made t stands typed map.empty (map.entries t.settings.subsystems) [] []
      map.empty 0 free (no_entries (List ℕ) SubsystemRow name_order) refl refl few_subsystems
      (nothing_grown t lines disks) in
      let ports = ports_made t stands subs.m' (same_keys subs.m' t.settings.subsystems subs.alike)
      (map.entries t.settings.ports) [] [] map.empty subs.count' subs.disks'
      (no_entries ℕ PortRow nat_cmp) refl refl few_ports in
      let u = tree_of t.settings.hosts subs.m' ports.ports' ports.count' subs.disks' in
      let goes : Goes (empty_tree lines) (tree_written t) u = goes_then _ _ _
      (flat host_written (map.keys t.settings.hosts)
      ++ flat subsystem_written (map.values t.settings.subsystems))
      (flat port_written (map.values t.settings.ports))
      (goes_then _ _ _ (flat host_written (map.keys t.settings.hosts))
      (flat subsystem_written (map.values t.settings.subsystems)) hosts_go subs.goes)
      ports.goes in
      let same = same_tree_data subs.m' ports.ports' ports.count' subs.disks' subs.alike
      ports.alike in
      record {
        edits = tree_written t;
        read = tree_read t (standing_reads t stands short_ids);
        tree = u;
        made = load_all (tree_written t) 1 (empty_tree lines) u
            (ap (all_edited (empty_tree lines)) (sym (append-nil (tree_written t))) ∙ goes []);
        same_tree = record {
          hosts = refl;
          subsystems = get_alike name_order unplaced_subsystem subs.m' t.settings.subsystems
              subs.alike;
          ports = get_alike nat_cmp unplaced_port ports.ports' t.settings.ports ports.alike;
          paths = subs.grows.paths;
        };
        same_data = same;
        same_text = ap compact_text same;
      }
