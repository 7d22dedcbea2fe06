-- Each row group of the table keeps the standing facts.
use Rattle.std.proofs.Common.{◌≡◌, ℕ, ◌&&◌, ◌||◌, ◌<◌, not, Bool, true, false, cond, List, [], ◌∷◌, Option, Some, None, is_some, refl, sym, ap, subst, ◌∙◌, IsTrue, Result, Ok, Err, codes}
use mathlib.Core.Logic.{⊎_elim}
use Rattle.std.specs.Str.{bytes_eq}
use Rattle.std.proofs.lemmas.Bool.{both_ways, not-false}
use Rattle.std.specs.Ordering.{nat_cmp}
use Rattle.std.specs.Cmp.{nat_cmp_total}
use Rattle.std.specs.Cmp.Lexicographic.{nat_list_cmp_total}
use Rattle.std.specs.FinMap as map
use Rattle.std.specs.FinMap.{FinMap, nat_cmp-IsAntisymmetric}
use Rattle.configfs_rows.specs.Nqns.{name_order}
use Rattle.configfs_rows.specs.Maps.{update_at}
use Rattle.configfs_rows.specs.Rows.{put_in, fresh_namespace}
use Rattle.configfs_rows.specs.Subsystems.{fresh_subsystem, put_in_subsystem, put_allowed, put_namespace}
use Rattle.configfs_rows.specs.Ports.{fresh_port, with_address, put_link, put_group, remove_group}
use Rattle.configfs_rows.specs.Places.{lowest_free}
use Rattle.configfs_rows.specs.Holders.{disk_of, holder_of, hold, number_of, paths_of, holds_path, has_disk, is_held, path_or_empty}
use Rattle.configfs_tree.specs.Outcome.{Outcome, unless_stands, on_subsystem, on_port}
use Rattle.configfs_tree.specs.Standing.{Placed, placed_row, placed_in, placed, HasHolders, IsPlaced}
use Rattle.configfs_rows.specs.declared.limits.TheConstants.{MAX_SUBSYSTEMS, MAX_PORTS}
use Rattle.configfs_rows.specs.declared.disks.DiskRow.{DiskRow}
use Rattle.configfs_rows.specs.declared.disks.Holder.{Holder}
use Rattle.configfs_rows.specs.declared.namespaces.NamespaceRow.{NamespaceRow}
use Rattle.configfs_rows.specs.declared.subsystems.SubsystemRow.{SubsystemRow}
use Rattle.sqe_cqe.specs.declared.rows.Ana.{Ana}
use Rattle.configfs_rows.specs.declared.ports.PortRow.{PortRow}
use Rattle.configfs_tree.specs.declared.configuration.Configuration.{Configuration}
use Rattle.configfs_rows.proofs.Gets.{some_same, none_some, cases_key, get-insert_at, get-insert_beside, get-remove_at, get-remove_beside, get-update_at, get-update_beside}
use Rattle.configfs_tree.proofs.Kept.{names_same, no_namespaces, placed_made, placed_removed, placed_others, placed_here, placed_was, subsystems_changed, changed_beside, count_changed, subsystem_put, namespace_put, namespace_free, port_put, one_put, one_removed}
use Rattle.configfs_tree.proofs.Decided.{left_false, right_false, none_of_test, room_of}
use Rattle.configfs_tree.proofs.Holds.{Holds, refuses, holds_row, holds_end, holds_last, holds_either, holds_unless, holds_if_subsystem, holds_if_rows, holds_if_port, holds_if_group, holds_parsed}
use Rattle.configfs_rows.proofs.Placing.{places_inserted, places_removed, places_updated, place_is_free, stands_at_none}
use Rattle.configfs_tree.proofs.Held.{here, moved_same, enabled_kept, drained_kept, holder_holds, holding}
use Rattle.std.specs.Prelude.{OnOk, OnErr}
use Rattle.mem_bdev.specs.declared.disk.DiskLine.{DiskLine}
use Rattle.configfs_rows.specs.declared.namespaces.Phase.TheVariants as phase
use Rattle.configfs_tree.specs.Phases.{phase_from, phase_of_rows, phase_at}
use Rattle.configfs_tree.specs.NamespaceRows.{paired, rows_in}
use Rattle.configfs_tree.specs.Drained.{freed_path, freed_by, drained}
use Rattle.configfs_tree.specs.Start.{free_disk, empty_tree}
use Rattle.configfs_tree.specs.Links.{allowed_in, linked_in}
use Rattle.configfs_tree.specs.Standing.{AnotherHas, HeldMeansAnother}
use mathlib.Core.List.{map as map_list}
use Rattle.uuid.specs.Text.{parsed}
use Rattle.sqe_cqe.specs.Anas.{ana_named}
use Rattle.configfs_rows.specs.Values.{group_named}
use Rattle.configfs_tree.specs.Asked.{is_busy, path_names_disk, path_is_held, subsystem_place_taken, port_place_taken}
use Rattle.configfs_rows.specs.declared.namespaces.NamespacePut.TheVariants.{Path, Identifier as NewIdentifier, Group, Enabled}
use Rattle.configfs_rows.specs.declared.namespaces.Identifier.{Identifier}
use Rattle.configfs_rows.specs.declared.namespaces.Identifier.TheVariants.{Uuid, Nguid}
use Rattle.configfs_rows.specs.Rows.{identifier_of}
use Rattle.configfs_rows.specs.declared.subsystems.SubsystemPut.{SubsystemPut}
use Rattle.configfs_rows.specs.declared.subsystems.SubsystemPut.TheVariants.{AllowAnyHost, Serial, ModelName}
use Rattle.sqe_cqe.specs.declared.rows.Ana.TheVariants as state
use Rattle.configfs_rows.specs.declared.ports.Address.{Address}
use Rattle.configfs_rows.specs.declared.ports.Address.TheVariants as address
use Rattle.configfs_tree.specs.declared.edits.Attr.{Attr}
use Rattle.configfs_tree.specs.declared.edits.Attr.TheVariants as attr
use Rattle.configfs_tree.specs.declared.edits.Folder.{Folder}
use Rattle.configfs_tree.specs.declared.edits.Folder.TheVariants as folder
use Rattle.configfs_tree.specs.declared.edits.FolderEdit.{FolderEdit}
use Rattle.configfs_tree.specs.declared.edits.FolderEdit.TheVariants as edit
use Rattle.configfs_tree.specs.Table.{mkdir, rmdir, set, set_of_subsystem, set_of_namespace, set_of_port, set_of_group, edit_outcome, put_on, put_group_of, put_state, set_address, disabled, enabled}
use Rattle.configfs_tree.specs.Table.{mkdir_host, mkdir_subsystem, mkdir_namespace, mkdir_port, mkdir_ana_group, rmdir_host, rmdir_subsystem, rmdir_namespace, rmdir_port, rmdir_ana_group}
use Rattle.configfs_tree.specs.Table.{set_attr_allow_any_host, set_attr_serial, set_attr_model, set_device_path, set_identifier, set_ana_grpid, set_enable, set_addr_trtype, set_addr_adrfam, set_addr_treq, set_addr_traddr, set_addr_trsvcid, set_ana_state}

-- what an outcome leaves, if it accepts, keeps the standing facts
abbrev pub Keeps : Outcome → Type 0
Keeps o = Holds (λ u change. IsPlaced u) o

-- ---- mkdir
k_mkdir_host : (t : Configuration) (host : List ℕ) → IsPlaced t → Keeps (mkdir_host t host)
unfolding mkdir_host
k_mkdir_host t host h = holds_row _ _ _ _ (λ _. holds_last _ _ _ _ (λ _.
    changed_beside t (map.insert t.settings.hosts host tt) t.settings.attached t.settings.ana_count
    h))

k_mkdir_subsystem : (t : Configuration) (sub : List ℕ) → IsPlaced t → Keeps (mkdir_subsystem t sub)
unfolding mkdir_subsystem
k_mkdir_subsystem t sub h = holds_row _ _ _ _ (λ _. holds_row _ _ _ _
    (λ absent. holds_last _ _ _ _ (λ room.
    let m = t.settings.subsystems in
    let at = lowest_free MAX_SUBSYSTEMS 0 (subsystem_place_taken t) in
    let f = place_is_free nat_list_cmp_total names_same (λ (s : SubsystemRow). s.nqn)
    (λ (s : SubsystemRow). s.at) MAX_SUBSYSTEMS m (room_of (map.len m) MAX_SUBSYSTEMS room) in
    let low : at < MAX_SUBSYSTEMS = f.below in
    subsystems_changed t (map.insert m sub (fresh_subsystem sub at))
    (places_inserted nat_list_cmp_total names_same (λ (s : SubsystemRow). s.nqn)
    (λ (s : SubsystemRow). s.at) MAX_SUBSYSTEMS m sub (fresh_subsystem sub at) refl low
    (stands_at_none nat_list_cmp_total names_same (λ (s : SubsystemRow). s.nqn)
    (λ (s : SubsystemRow). s.at) MAX_SUBSYSTEMS m at f.free) h.subsystems)
    (moved_same (placed m) (placed (map.insert m sub (fresh_subsystem sub at))) t.disks
    (placed_made m sub at (none_of_test (map.get m sub) absent)) h.holders) h)))

k_mkdir_namespace : (t : Configuration) (sub : List ℕ) (nsid : ℕ) → IsPlaced t
    → Keeps (mkdir_namespace t sub nsid)
unfolding mkdir_namespace
k_mkdir_namespace t sub nsid h = holds_if_subsystem _ _ (λ s e. holds_row _ _ _ _
    (λ _. holds_last _ _ _ _ (λ absent.
    let none = none_of_test (map.get s.namespaces nsid) absent in
    namespace_free t sub nsid (λ ns. map.insert ns nsid fresh_namespace) s e
    (λ ns j ne. get-insert_beside nat_cmp_total nat_cmp-IsAntisymmetric ns nsid fresh_namespace j
    ne)
    (λ n found. absurd (none_some n (sym none ∙ found)))
    (λ n found. subst (λ (m : NamespaceRow). m.enabled
    ≡ false) (some_same fresh_namespace n (sym (get-insert_at nat_cmp_total
    nat_cmp-IsAntisymmetric s.namespaces nsid fresh_namespace) ∙ found)) refl) h)))

k_mkdir_port : (t : Configuration) (id : ℕ) → IsPlaced t → Keeps (mkdir_port t id)
unfolding mkdir_port
k_mkdir_port t id h = holds_row _ _ _ _ (λ _. holds_last _ _ _ _ (λ room.
    let m = t.settings.ports in
    let at = lowest_free MAX_PORTS 0 (port_place_taken t) in
    let f = place_is_free nat_cmp_total nat_cmp-IsAntisymmetric (λ (p : PortRow). p.id)
    (λ (p : PortRow). p.at) MAX_PORTS m (room_of (map.len m) MAX_PORTS room) in
    let low : at < MAX_PORTS = f.below in
    record {
      subsystems = h.subsystems;
      ports = places_inserted nat_cmp_total nat_cmp-IsAntisymmetric (λ (p : PortRow). p.id)
          (λ (p : PortRow). p.at) MAX_PORTS m id (fresh_port id at) refl low
          (stands_at_none nat_cmp_total nat_cmp-IsAntisymmetric (λ (p : PortRow). p.id)
          (λ (p : PortRow). p.at) MAX_PORTS m at f.free) h.ports;
      group_one = λ q p e. ⊎_elim
          (λ (is : q ≡ id).
          let p_is : fresh_port id at ≡ p = some_same (fresh_port id at) p
          (sym (get-insert_at nat_cmp_total nat_cmp-IsAntisymmetric m id (fresh_port id at))
          ∙ (ap (λ (i : ℕ). map.get (map.insert m id (fresh_port id at)) i) (sym is) ∙ e)) in
          subst (λ (y : PortRow). IsTrue (map.contains_key y.groups 1)) p_is
          (ap is_some (get-insert_at nat_cmp_total nat_cmp-IsAntisymmetric map.empty 1
          state.Optimized)))
          (λ ne. h.group_one q p (sym (get-insert_beside nat_cmp_total nat_cmp-IsAntisymmetric m id
          (fresh_port id at) q ne) ∙ e))
          (cases_key nat_cmp_total nat_cmp-IsAntisymmetric q id);
      holders = h.holders;
    }))

k_mkdir_ana_group : (t : Configuration) (id group : ℕ) → IsPlaced t
    → Keeps (mkdir_ana_group t id group)
unfolding mkdir_ana_group
k_mkdir_ana_group t id group h = holds_if_port _ _ (λ p e. holds_row _ _ _ _
    (λ _. holds_last _ _ _ _ (λ _.
    count_changed (on_port t id (put_group group state.Inaccessible))
    (port_put t id (put_group group state.Inaccessible) (λ q. refl) (λ q. refl)
    (λ q one. one_put q group state.Inaccessible one) h))))

-- ---- rmdir
k_rmdir_host : (t : Configuration) (host : List ℕ) → IsPlaced t → Keeps (rmdir_host t host)
unfolding rmdir_host
k_rmdir_host t host h = holds_row _ _ _ _ (λ _. holds_last _ _ _ _ (λ _.
    changed_beside t (map.remove t.settings.hosts host) t.settings.attached t.settings.ana_count
    h))

k_rmdir_subsystem : (t : Configuration) (sub : List ℕ) → IsPlaced t → Keeps (rmdir_subsystem t sub)
unfolding rmdir_subsystem
k_rmdir_subsystem t sub h = holds_if_subsystem _ _ (λ s e. holds_row _ _ _ _
    (λ _. holds_last _ _ _ _ (λ unfilled.
    let m = t.settings.subsystems in
    let empty = no_namespaces s unfilled in
    subsystems_changed t (map.remove m sub)
    (places_removed nat_list_cmp_total names_same (λ (x : SubsystemRow). x.nqn)
    (λ (x : SubsystemRow). x.at) MAX_SUBSYSTEMS m sub h.subsystems)
    (moved_same (placed m) (placed (map.remove m sub)) t.disks (placed_removed m sub s e empty)
    h.holders) h)))

-- a namespace that isn't busy holds no disk
free_of : (t : Configuration) (s : SubsystemRow) (nsid : ℕ) (n m : NamespaceRow)
    (found : Option NamespaceRow) → found ≡ Some n → is_busy t s nsid n ≡ false → found ≡ Some m
    → holds_path t.disks s.at nsid m.device_path ≡ false
free_of t s nsid n m found e free f = subst (λ (x : NamespaceRow). holds_path t.disks s.at nsid
    x.device_path ≡ false) (some_same n m (sym e
    ∙ f)) (right_false n.enabled (holds_path t.disks s.at nsid n.device_path) free)

k_rmdir_namespace : (t : Configuration) (sub : List ℕ) (nsid : ℕ) → IsPlaced t
    → Keeps (rmdir_namespace t sub nsid)
unfolding rmdir_namespace
k_rmdir_namespace t sub nsid h = holds_if_rows _ _ _ (λ s e n f. holds_last _ _ _ _ (λ free.
    namespace_free t sub nsid (λ ns. map.remove ns nsid) s e
    (λ ns j ne. get-remove_beside nat_cmp_total nat_cmp-IsAntisymmetric ns nsid j ne)
    (λ m found. free_of t s nsid n m (map.get s.namespaces nsid) f free found)
    (λ m found. absurd (none_some m (sym (get-remove_at nat_cmp_total nat_cmp-IsAntisymmetric
    s.namespaces nsid) ∙ found))) h))

k_rmdir_port : (t : Configuration) (id : ℕ) → IsPlaced t → Keeps (rmdir_port t id)
unfolding rmdir_port
k_rmdir_port t id h = holds_if_port _ _ (λ p e. holds_row _ _ _ _ (λ _. holds_last _ _ _ _ (λ _.
    let m = t.settings.ports in
    record {
      subsystems = h.subsystems;
      ports = places_removed nat_cmp_total nat_cmp-IsAntisymmetric (λ (q : PortRow). q.id)
          (λ (q : PortRow). q.at) MAX_PORTS m id h.ports;
      group_one = λ q x found. ⊎_elim
          (λ (is : q ≡ id). absurd (none_some x (sym (get-remove_at nat_cmp_total
          nat_cmp-IsAntisymmetric m id) ∙ (ap (λ (i : ℕ). map.get (map.remove m id) i) (sym is)
          ∙ found))))
          (λ ne. h.group_one q x (sym (get-remove_beside nat_cmp_total nat_cmp-IsAntisymmetric m id
          q ne) ∙ found))
          (cases_key nat_cmp_total nat_cmp-IsAntisymmetric q id);
      holders = h.holders;
    })))

k_rmdir_ana_group : (t : Configuration) (id group : ℕ) → IsPlaced t
    → Keeps (rmdir_ana_group t id group)
unfolding rmdir_ana_group
k_rmdir_ana_group t id group h = holds_if_port _ _ (λ p e. holds_if_group _ _
    (λ old _. holds_last _ _ _ _ (λ other.
    count_changed (on_port t id (remove_group group)) (port_put t id (remove_group group)
    (λ q. refl) (λ q. refl) (λ q one. one_removed q group other one) h))))

-- ---- set, on a subsystem
attr_put : (t : Configuration) (sub : List ℕ) (put : SubsystemPut) → IsPlaced t
    → IsPlaced (on_subsystem t sub (put_in_subsystem put))
attr_put t sub (AllowAnyHost any) h = subsystem_put t sub (put_in_subsystem (AllowAnyHost any))
    (λ s. refl) (λ s. refl) (λ s j. refl) h
attr_put t sub (Serial value) h = subsystem_put t sub (put_in_subsystem (Serial value)) (λ s. refl)
    (λ s. refl) (λ s j. refl) h
attr_put t sub (ModelName value) h = subsystem_put t sub (put_in_subsystem (ModelName value))
    (λ s. refl) (λ s. refl) (λ s j. refl) h

k_set_of_subsystem : (t : Configuration) (sub : List ℕ) (a : Attr) (value : List ℕ) → IsPlaced t
    → Keeps (set_of_subsystem t sub a value)
unfolding set_attr_allow_any_host set_attr_serial set_attr_model
k_set_of_subsystem t sub attr.AllowAnyHost value h =
    holds_if_subsystem _ _ (λ s e. holds_row _ _ _ _ (λ _. holds_end _ _ _
    (λ _. holds_unless _ t _ _ h (λ _. attr_put t sub (AllowAnyHost (bytes_eq value (codes "1")))
    h))))
k_set_of_subsystem t sub attr.Serial value h =
    holds_if_subsystem _ _ (λ s e. holds_end _ _ _ (λ _. holds_unless _ t _ _ h
    (λ _. attr_put t sub (Serial value) h)))
k_set_of_subsystem t sub attr.ModelName value h =
    holds_if_subsystem _ _ (λ s e. holds_end _ _ _ (λ _. holds_unless _ t _ _ h
    (λ _. attr_put t sub (ModelName value) h)))
k_set_of_subsystem t sub a value h = refuses _

-- ---- set, on a namespace
k_set_device_path : (t : Configuration) (sub : List ℕ) (nsid : ℕ) (value : List ℕ) → IsPlaced t
    → Keeps (set_device_path t sub nsid value)
unfolding set_device_path
k_set_device_path t sub nsid value h =
    holds_if_rows _ _ _ (λ s e n f. holds_row _ _ _ _
    (λ free. holds_end _ _ _ (λ _. holds_unless _ t _ _ h (λ _.
    namespace_free t sub nsid (λ ns. update_at ns nsid (put_in
    (Path value (number_of value (paths_of t.disks))))) s e
    (λ ns j ne. get-update_beside nat_cmp_total nat_cmp-IsAntisymmetric ns nsid
    (put_in (Path value (number_of value (paths_of t.disks)))) j ne)
    (λ m found. free_of t s nsid n m (map.get s.namespaces nsid) f free found)
    (λ m found. ap (λ (x : NamespaceRow). x.enabled) (sym (some_same
    (put_in (Path value (number_of value (paths_of t.disks))) n) m
    (sym (get-update_at nat_cmp_total nat_cmp-IsAntisymmetric s.namespaces nsid
    (put_in (Path value (number_of value (paths_of t.disks)))) n f) ∙ found)))
    ∙ left_false n.enabled (holds_path t.disks s.at nsid n.device_path) free) h))))

k_set_identifier : (t : Configuration) (sub : List ℕ) (nsid : ℕ) (which : Identifier)
    (value : List ℕ) → IsPlaced t → Keeps (set_identifier t sub nsid which value)
unfolding set_identifier
k_set_identifier t sub nsid which value h =
    holds_if_rows _ _ _ (λ s e n f. holds_end _ _ _
    (λ _. holds_parsed (parsed value) (λ (bytes : List ℕ). unless_stands
    (bytes_eq (identifier_of which n) bytes) t (put_on t sub s.at nsid (NewIdentifier which bytes)))
    (λ bytes. holds_unless _ t _ _ h (λ _.
    namespace_put t sub nsid (NewIdentifier which bytes) s n e f refl (λ on. on) h))))

keeps_group_of : (t : Configuration) (sub : List ℕ) (nsid : ℕ) (s : SubsystemRow) (n : NamespaceRow)
    (group : Option ℕ) → map.get t.settings.subsystems sub ≡ Some s
    → map.get s.namespaces nsid ≡ Some n → IsPlaced t → Keeps (put_group_of t sub nsid s n group)
keeps_group_of t sub nsid s n None e f h = refuses _
keeps_group_of t sub nsid s n (Some group) e f h =
    holds_unless _ t _ _ h (λ _. count_changed (on_subsystem t sub
    (put_namespace nsid (Group group))) (namespace_put t sub nsid (Group group) s n e f refl
    (λ on. on) h))

k_set_ana_grpid : (t : Configuration) (sub : List ℕ) (nsid : ℕ) (value : List ℕ) → IsPlaced t
    → Keeps (set_ana_grpid t sub nsid value)
unfolding set_ana_grpid
k_set_ana_grpid t sub nsid value h = holds_if_rows _ _ _ (λ s e n f.
    keeps_group_of t sub nsid s n (group_named value) e f h)

-- the disk of a path that is free
record FreeDisk (disks : List DiskRow) (q : Option (List ℕ)) : Type 0 where
  pub path : List ℕ
  pub is : q ≡ Some path
  pub d : DiskRow
  pub found : disk_of path disks ≡ Some d
  pub free : d.holder ≡ None

free_found : (disks : List DiskRow) (path : List ℕ) (found : Option DiskRow)
    → disk_of path disks ≡ found → is_some found ≡ true → is_some (holder_of found) ≡ false
    → FreeDisk disks (Some path)
free_found disks path None e there free = absurd (both_ways false refl there)
free_found disks path (Some d) e there free = record {
  path = path;
  is = refl;
  d = d;
  found = e;
  free = none_of_test d.holder free;
}

free_disk_of : (disks : List DiskRow) (q : Option (List ℕ)) → has_disk disks q ≡ true
    → is_held disks q ≡ false → FreeDisk disks q
free_disk_of disks None there free = absurd (both_ways false refl there)
free_disk_of disks (Some path) there free =
    free_found disks path (disk_of path disks) refl there free

condition_off : (on c : Bool) → on ≡ false → (not on && c) ≡ false → c ≡ false
condition_off true c off e = absurd (both_ways true off refl)
condition_off false c off e = e

keeps_enabled : (t : Configuration) (sub : List ℕ) (nsid : ℕ) (s : SubsystemRow) (n : NamespaceRow)
    → map.get t.settings.subsystems sub ≡ Some s → map.get s.namespaces nsid ≡ Some n
    → (not n.enabled && not (path_names_disk t n)) ≡ false → (not n.enabled && path_is_held t n)
    ≡ false → IsPlaced t → Keeps (enabled t sub nsid s n)
keeps_enabled t sub nsid s n e f named unheld h = holds_unless _ t _ _ h (λ off.
    let m = t.settings.subsystems in
    let g = λ (ns : FinMap nat_cmp NamespaceRow). update_at ns nsid (put_in (Enabled true)) in
    let x = free_disk_of t.disks n.device_path (not-false (path_names_disk t n)
    (condition_off n.enabled (not (path_names_disk t n)) off named))
    (condition_off n.enabled (path_is_held t n) off unheld) in
    record {
      subsystems = places_updated nat_list_cmp_total names_same (λ (r : SubsystemRow). r.nqn)
          (λ (r : SubsystemRow). r.at) MAX_SUBSYSTEMS m sub (put_namespace nsid (Enabled true))
          (λ r. refl) (λ r. refl) h.subsystems;
      ports = h.ports;
      group_one = h.group_one;
      holders = subst (λ (q : List ℕ). HasHolders (placed (update_at m sub
          (put_namespace nsid (Enabled true)))) (hold q (Some (record {
            sub = s.at;
            nsid = nsid;
          })) t.disks)) (sym (ap path_or_empty x.is))
          (enabled_kept (placed m) (placed (update_at m sub (put_namespace nsid (Enabled true))))
          t.disks sub nsid
          (placed_others m sub nsid g (λ ns j ne. get-update_beside nat_cmp_total
          nat_cmp-IsAntisymmetric ns nsid (put_in (Enabled true)) j ne))
          s.at n (put_in (Enabled true) n) x.path x.d (placed_was m sub nsid s (Some n) e f)
          (placed_here m sub nsid g s e ∙ ap (placed_row s.at)
          (get-update_at nat_cmp_total nat_cmp-IsAntisymmetric s.namespaces nsid
          (put_in (Enabled true)) n f))
          x.is x.is x.found x.free h.holders);
    })

keeps_disabled : (t : Configuration) (sub : List ℕ) (nsid : ℕ) (s : SubsystemRow) (n : NamespaceRow)
    → map.get t.settings.subsystems sub ≡ Some s → map.get s.namespaces nsid ≡ Some n → IsPlaced t
    → Keeps (disabled t sub nsid s n)
keeps_disabled t sub nsid s n e f h = holds_unless _ t _ _ h
    (λ _. namespace_put t sub nsid (Enabled false) s n e f refl
    (λ on. absurd (both_ways false refl on)) h)

pub k_set_enable : (t : Configuration) (sub : List ℕ) (nsid : ℕ) (value : List ℕ) → IsPlaced t
    → Keeps (set_enable t sub nsid value)
unfolding set_enable
k_set_enable t sub nsid value h = holds_if_rows _ _ _ (λ s e n f. holds_either _ _ _
    (keeps_disabled t sub nsid s n e f h)
    (holds_row _ _ _ _ (λ _. holds_row _ _ _ _ (λ _. holds_row _ _ _ _
    (λ named. holds_end _ _ _ (λ unheld. keeps_enabled t sub nsid s n e f named unheld h))))))

k_set_of_namespace : (t : Configuration) (sub : List ℕ) (nsid : ℕ) (a : Attr) (value : List ℕ)
    → IsPlaced t → Keeps (set_of_namespace t sub nsid a value)
k_set_of_namespace t sub nsid attr.DevicePath value h = k_set_device_path t sub nsid value h
k_set_of_namespace t sub nsid attr.DeviceUuid value h = k_set_identifier t sub nsid Uuid value h
k_set_of_namespace t sub nsid attr.DeviceNguid value h = k_set_identifier t sub nsid Nguid value h
k_set_of_namespace t sub nsid attr.AnaGrpid value h = k_set_ana_grpid t sub nsid value h
k_set_of_namespace t sub nsid attr.Enable value h = k_set_enable t sub nsid value h
k_set_of_namespace t sub nsid a value h = refuses _

-- ---- set, on a port
address_put : (t : Configuration) (id : ℕ) (a : Address) (value : List ℕ) → IsPlaced t
    → IsPlaced (on_port t id (with_address a value))
address_put t id address.Trtype value h =
    port_put t id (with_address address.Trtype value) (λ p. refl) (λ p. refl) (λ p one. one) h
address_put t id address.Adrfam value h =
    port_put t id (with_address address.Adrfam value) (λ p. refl) (λ p. refl) (λ p one. one) h
address_put t id address.Traddr value h =
    port_put t id (with_address address.Traddr value) (λ p. refl) (λ p. refl) (λ p one. one) h
address_put t id address.Trsvcid value h =
    port_put t id (with_address address.Trsvcid value) (λ p. refl) (λ p. refl) (λ p one. one) h
address_put t id address.Treq value h =
    port_put t id (with_address address.Treq value) (λ p. refl) (λ p. refl) (λ p one. one) h

keeps_address : (t : Configuration) (id : ℕ) (a : Address) (good : Bool) (value : List ℕ)
    → IsPlaced t → Keeps (set_address t id a good value)
keeps_address t id a good value h = holds_if_port _ _ (λ p e. holds_row _ _ _ _
    (λ _. holds_end _ _ _ (λ _. holds_unless _ t _ _ h (λ _. address_put t id a value h))))

k_set_of_port : (t : Configuration) (id : ℕ) (a : Attr) (value : List ℕ) → IsPlaced t
    → Keeps (set_of_port t id a value)
unfolding set_addr_trtype set_addr_adrfam set_addr_treq set_addr_traddr set_addr_trsvcid
k_set_of_port t id attr.Trtype value h = keeps_address t id address.Trtype _ value h
k_set_of_port t id attr.Adrfam value h = keeps_address t id address.Adrfam _ value h
k_set_of_port t id attr.Treq value h = keeps_address t id address.Treq _ value h
k_set_of_port t id attr.Traddr value h = keeps_address t id address.Traddr _ value h
k_set_of_port t id attr.Trsvcid value h = keeps_address t id address.Trsvcid _ value h
k_set_of_port t id a value h = refuses _

-- ---- set, on an ANA group
keeps_state : (t : Configuration) (id group : ℕ) (p : PortRow) (old : Ana) (new : Option Ana)
    → IsPlaced t → Keeps (put_state t id group p old new)
keeps_state t id group p old None h = refuses _
keeps_state t id group p old (Some new) h =
    holds_unless _ t _ _ h (λ _. count_changed (on_port t id (put_group group new))
    (port_put t id (put_group group new) (λ q. refl) (λ q. refl) (λ q one. one_put q group new one)
    h))

k_set_ana_state : (t : Configuration) (id group : ℕ) (value : List ℕ) → IsPlaced t
    → Keeps (set_ana_state t id group value)
unfolding set_ana_state
k_set_ana_state t id group value h = holds_if_port _ _ (λ p e. holds_if_group _ _
    (λ old _. keeps_state t id group p old (ana_named value) h))

k_set_of_group : (t : Configuration) (id group : ℕ) (a : Attr) (value : List ℕ) → IsPlaced t
    → Keeps (set_of_group t id group a value)
k_set_of_group t id group attr.AnaState value h = k_set_ana_state t id group value h
k_set_of_group t id group a value h = refuses _

-- ---- the whole table
k_mkdir : (t : Configuration) (f : Folder) → IsPlaced t → Keeps (mkdir t f)
k_mkdir t (folder.Host host) h = k_mkdir_host t host h
k_mkdir t (folder.Subsystem sub) h = k_mkdir_subsystem t sub h
k_mkdir t (folder.Namespace sub nsid) h = k_mkdir_namespace t sub nsid h
k_mkdir t (folder.Port id) h = k_mkdir_port t id h
k_mkdir t (folder.AnaGroup id group) h = k_mkdir_ana_group t id group h

k_rmdir : (t : Configuration) (f : Folder) → IsPlaced t → Keeps (rmdir t f)
k_rmdir t (folder.Host host) h = k_rmdir_host t host h
k_rmdir t (folder.Subsystem sub) h = k_rmdir_subsystem t sub h
k_rmdir t (folder.Namespace sub nsid) h = k_rmdir_namespace t sub nsid h
k_rmdir t (folder.Port id) h = k_rmdir_port t id h
k_rmdir t (folder.AnaGroup id group) h = k_rmdir_ana_group t id group h

k_set : (t : Configuration) (f : Folder) (a : Attr) (value : List ℕ) → IsPlaced t
    → Keeps (set t f a value)
k_set t (folder.Host host) a value h = refuses _
k_set t (folder.Subsystem sub) a value h = k_set_of_subsystem t sub a value h
k_set t (folder.Namespace sub nsid) a value h = k_set_of_namespace t sub nsid a value h
k_set t (folder.Port id) a value h = k_set_of_port t id a value h
k_set t (folder.AnaGroup id group) a value h = k_set_of_group t id group a value h

pub edit_keeps : (t : Configuration) (e : FolderEdit) → IsPlaced t → Keeps (edit_outcome t e)
edit_keeps t (edit.Mkdir f) h = k_mkdir t f h
edit_keeps t (edit.Rmdir f) h = k_rmdir t f h
edit_keeps t (edit.Set f a value) h = k_set t f a value h

-- ---- calls
stands_along : (old new : Configuration) → new ≡ old → IsPlaced old → IsPlaced new
stands_along old new e h = subst (λ (t : Configuration). IsPlaced t) (sym e) h

pub either_stands : {E : Type 0} (r : Result (Unit {0}) E) (old new to : Configuration)
    → OnOk r (new ≡ to) → OnErr r (new ≡ old) → IsPlaced to → IsPlaced old → IsPlaced new
either_stands (Ok x) old new to g f k h = stands_along to new g k
either_stands (Err x) old new to g f k h = stands_along old new f h

-- ---- links
pub allowed_stands : (t : Configuration) (host : List ℕ) (linked : Bool)
    (found : Option SubsystemRow) → IsPlaced t → IsPlaced (allowed_in t host linked found)
allowed_stands t host linked None h = h
allowed_stands t host linked (Some s) h =
    subsystem_put t s.nqn (put_allowed host linked) (λ x. refl) (λ x. refl) (λ x j. refl) h

pub linked_stands : (t : Configuration) (linked : Bool) (p : Option PortRow)
    (s : Option SubsystemRow) → IsPlaced t → IsPlaced (linked_in t linked p s)
linked_stands t linked None s h = h
linked_stands t linked (Some p) None h = h
linked_stands t linked (Some p) (Some s) h =
    port_put t p.id (put_link s.nqn linked) (λ x. refl) (λ x. refl) (λ x one. one) h

-- ---- the end of a drain
record IsDrain (on holds : Bool) : Type 0 where
  off : on ≡ false
  held : holds ≡ true

drain_of : (on holds : Bool) → phase_from on holds ≡ phase.Draining → IsDrain on holds
drain_of true holds e = absurd (other e) where
  other : phase.Enabled ≡ phase.Draining → ⊥
  other e = cc
drain_of false true e = record { off = refl; held = refl }
drain_of false false e = absurd (other e) where
  other : phase.Off ≡ phase.Draining → ⊥
  other e = cc

-- the subsystem of a namespace that is placed
record PlacedBy (m : FinMap name_order SubsystemRow) (a : List ℕ) (x : Placed) : Type 0 where
  s : SubsystemRow
  found : map.get m a ≡ Some s
  at : s.at ≡ x.at

row_at : (at : ℕ) (n : Option NamespaceRow) (x : Placed) → placed_row at n ≡ Some x → at ≡ x.at
row_at at None x e = absurd (none_some x e)
row_at at (Some n) x e = ap (λ (y : Placed). y.at) (some_same (here at n) x e)

placed_found : (m : FinMap name_order SubsystemRow) (a : List ℕ) (j : ℕ) (x : Placed)
    (found : Option SubsystemRow) → map.get m a ≡ found → placed_in j found ≡ Some x
    → PlacedBy m a x
placed_found m a j x None e f = absurd (none_some x f)
placed_found m a j x (Some s) e f = record {
  s = s;
  found = e;
  at = row_at s.at (map.get s.namespaces j) x f;
}

free_path_stands : (t : Configuration) (sub : List ℕ) (nsid : ℕ) (s : SubsystemRow)
    (n : NamespaceRow) (q : Option (List ℕ)) → map.get t.settings.subsystems sub ≡ Some s
    → map.get s.namespaces nsid ≡ Some n → n.device_path ≡ q → n.enabled ≡ false
    → IsTrue (holds_path t.disks s.at nsid q) → IsPlaced t → IsPlaced (freed_path t q)
free_path_stands t sub nsid s n None e f is off held h = h
free_path_stands t sub nsid s n (Some path) e f is off held h =
    let m = t.settings.subsystems in
    record {
      subsystems = h.subsystems;
      ports = h.ports;
      group_one = h.group_one;
      holders = drained_kept (placed m) t.disks sub nsid s.at n path
          (placed_was m sub nsid s (Some n) e f) is off held
          (λ a j x found at. let w = placed_found m a j x (map.get m a) refl found in
          h.subsystems.apart a sub w.s s w.found e (w.at ∙ at)) h.holders;
    }

free_row_stands : (t : Configuration) (sub : List ℕ) (nsid : ℕ) (s : SubsystemRow)
    (n : Option NamespaceRow) → map.get t.settings.subsystems sub ≡ Some s
    → map.get s.namespaces nsid ≡ n → phase_of_rows t nsid (paired s n) ≡ Some phase.Draining
    → IsPlaced t → IsPlaced (freed_by t (paired s n))
free_row_stands t sub nsid s None e f is h = h
free_row_stands t sub nsid s (Some n) e f is h =
    let d = drain_of n.enabled (holds_path t.disks s.at nsid n.device_path)
    (some_same (phase_from n.enabled (holds_path t.disks s.at nsid n.device_path))
    phase.Draining is) in
    free_path_stands t sub nsid s n n.device_path e f refl d.off d.held h

free_in_stands : (t : Configuration) (sub : List ℕ) (nsid : ℕ) (found : Option SubsystemRow)
    → map.get t.settings.subsystems sub ≡ found
    → phase_of_rows t nsid (rows_in nsid found) ≡ Some phase.Draining → IsPlaced t
    → IsPlaced (freed_by t (rows_in nsid found))
free_in_stands t sub nsid None e is h = h
free_in_stands t sub nsid (Some s) e is h =
    free_row_stands t sub nsid s (map.get s.namespaces nsid) e refl is h

pub drained_stands : (t : Configuration) (sub : List ℕ) (nsid : ℕ)
    → phase_at t sub nsid ≡ Some phase.Draining → IsPlaced t → IsPlaced (drained t sub nsid)
drained_stands t sub nsid is h = free_in_stands t sub nsid (map.get t.settings.subsystems sub) refl
    is h

-- ---- the empty tree
no_holder : (lines : List DiskLine) (path : List ℕ) (d : DiskRow)
    → disk_of path (map_list free_disk lines) ≡ Some d → d.holder ≡ None
no_holder [] path d e = absurd (none_some d e)
no_holder (l ∷ lines) path d e = one_free (bytes_eq l.path path) (free_disk l)
    (disk_of path (map_list free_disk lines)) refl e (no_holder lines path d) where
      one_free : (b : Bool) (x : DiskRow) (rest : Option DiskRow) → x.holder ≡ None
          → cond b (Some x) rest ≡ Some d → (rest ≡ Some d → d.holder ≡ None) → d.holder ≡ None
      one_free true x rest free e later = ap (λ (y : DiskRow). y.holder)
          (sym (some_same x d e)) ∙ free
      one_free false x rest free e later = later e

pub empty_stands : (lines : List DiskLine) → IsPlaced (empty_tree lines)
empty_stands lines = record {
  subsystems = record {
    own_key = λ k x e. absurd (none_some x (sym (map.get-empty name_order k) ∙ e));
    below = λ k x e. absurd (none_some x (sym (map.get-empty name_order k) ∙ e));
    apart = λ j k x y e f level. absurd (none_some x (sym (map.get-empty name_order j) ∙ e));
  };
  ports = record {
    own_key = λ k x e. absurd (none_some x (sym (map.get-empty nat_cmp k) ∙ e));
    below = λ k x e. absurd (none_some x (sym (map.get-empty nat_cmp k) ∙ e));
    apart = λ j k x y e f level. absurd (none_some x (sym (map.get-empty nat_cmp j) ∙ e));
  };
  group_one = λ id p e. absurd (none_some p (sym (map.get-empty nat_cmp id) ∙ e));
  holders = record {
    enabled_holds = λ a j x e on. absurd (none_some x (sym (ap (placed_in j)
        (map.get-empty name_order a)) ∙ e));
    holder_stands = λ path d k e f. absurd (none_some k (sym (no_holder lines path d e) ∙ f));
  };
}

-- ---- a held path is another namespace's
record HeldPath (disks : List DiskRow) (path : List ℕ) : Type 0 where
  d : DiskRow
  h : Holder
  found : disk_of path disks ≡ Some d
  held : d.holder ≡ Some h

held_disk : (disks : List DiskRow) (path : List ℕ) (d : DiskRow) (holder : Option Holder)
    → disk_of path disks ≡ Some d → d.holder ≡ holder → is_some holder ≡ true → HeldPath disks path
held_disk disks path d None e f is = absurd (both_ways false refl is)
held_disk disks path d (Some h) e f is = record { d = d; h = h; found = e; held = f }

live_right : (on holds : Bool) → IsTrue holds → IsTrue (on || holds)
live_right true holds e = refl
live_right false holds e = e

pub live_holds : (on holds : Bool) → IsTrue (on || holds) → (IsTrue on → IsTrue holds)
    → IsTrue holds
live_holds true holds e h = h refl
live_holds false holds e h = e

held_path : (disks : List DiskRow) (path : List ℕ) (found : Option DiskRow)
    → disk_of path disks ≡ found → is_some (holder_of found) ≡ true → HeldPath disks path
held_path disks path None e is = absurd (both_ways false refl is)
held_path disks path (Some d) e is = held_disk disks path d d.holder e refl is

pub held_means_another : (t : Configuration) (sub : List ℕ) (nsid : ℕ) → IsPlaced t
    → HeldMeansAnother t sub nsid
held_means_another t sub nsid h x path stands x_path off =
    (λ is. another_of (held_path t.disks path (disk_of path t.disks) refl is), held_of) where
      another_of : HeldPath t.disks path → AnotherHas t path sub nsid
      another_of k =
          let w = h.holders.holder_stands path k.d k.h k.found k.held in
          record {
            other = w.sub;
            number = k.h.nsid;
            differs = λ same_sub same_nsid.
                let x_is : x ≡ here k.h.sub w.row = some_same x (here k.h.sub w.row) (sym stands
                ∙ (ap (λ (j : ℕ). placed t.settings.subsystems sub j) (sym same_nsid)
                ∙ (ap (λ (a : List ℕ). placed t.settings.subsystems a k.h.nsid) (sym same_sub)
                ∙ w.stands))) in
                let holds : IsTrue (holds_path t.disks k.h.sub k.h.nsid w.row.device_path) =
                holder_holds t.disks path k.d k.h w.row.device_path k.found k.held w.same_path in
                let mine : IsTrue (holds_path t.disks x.at k.h.nsid x.row.device_path) =
                subst (λ (y : Placed). IsTrue (holds_path t.disks y.at k.h.nsid y.row.device_path))
                (sym x_is) holds in
                let mine' : IsTrue (holds_path t.disks x.at nsid x.row.device_path) =
                subst (λ (j : ℕ). IsTrue (holds_path t.disks x.at j x.row.device_path)) same_nsid
                mine in
                off (live_right x.row.enabled (holds_path t.disks x.at nsid x.row.device_path)
                mine');
            x = here k.h.sub w.row;
            stands = w.stands;
            live = live_right w.row.enabled (holds_path t.disks k.h.sub k.h.nsid w.row.device_path)
                (holder_holds t.disks path k.d k.h w.row.device_path k.found k.held w.same_path);
            same_path = w.same_path;
          }

      held_of : AnotherHas t path sub nsid → IsTrue (is_held t.disks (Some path))
      held_of a =
          let holds : IsTrue (holds_path t.disks a.x.at a.number a.x.row.device_path) =
          live_holds a.x.row.enabled (holds_path t.disks a.x.at a.number a.x.row.device_path) a.live
          (h.holders.enabled_holds a.other a.number a.x a.stands) in
          let k = holding t.disks a.x.at a.number path (ap (holds_path t.disks a.x.at a.number)
          (sym a.same_path) ∙ holds) in
          ap (λ o. is_some (holder_of o)) k.found ∙ ap is_some k.held
