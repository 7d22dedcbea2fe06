-- The change of each row of the table tells what differs.
use Rattle.std.proofs.Common.{◌≡◌, ◌≤◌, ◌-◌, cond, arith, inl, inr, ℕ, ◌==◌, not, Bool, true, false, List, Option, Some, None, is_some, nat_lt, refl, sym, ap, ◌∙◌, codes, IsTrue}
use Rattle.std.specs.Str.{bytes_eq}
use Rattle.std.proofs.lemmas.Bool.{both_ways, not-false, ltb-false}
use Rattle.std.specs.Cmp.{nat_cmp_total}
use Rattle.std.specs.Cmp.Lexicographic.{nat_list_cmp_total}
use Rattle.std.specs.FinMap as map
use Rattle.std.specs.FinMap.{FinMap, nat_cmp-IsAntisymmetric}
use Rattle.configfs_rows.specs.Nqns.{name_order}
use Rattle.configfs_rows.specs.Maps.{update_at}
use Rattle.configfs_rows.specs.Rows.{put_in, fresh_namespace}
use Rattle.configfs_rows.specs.Subsystems.{fresh_subsystem, put_in_subsystem, put_namespace}
use Rattle.configfs_rows.specs.Ports.{fresh_port, address_of, with_address, put_group, remove_group}
use Rattle.configfs_rows.specs.Places.{lowest_free}
use Rattle.configfs_rows.specs.Holders.{hold, number_of, paths_of, holds_path, path_or_empty}
use Rattle.configfs_tree.specs.Outcome.{Outcome, unless_stands, on_subsystem}
use Rattle.configfs_tree.specs.Standing.{Placed, placed_in}
use Rattle.configfs_rows.specs.declared.limits.TheConstants.{MAX_SUBSYSTEMS, MAX_PORTS}
use Rattle.configfs_rows.specs.declared.namespaces.NamespaceRow.{NamespaceRow}
use Rattle.configfs_rows.specs.declared.subsystems.SubsystemRow.{SubsystemRow}
use Rattle.sqe_cqe.specs.declared.rows.Ana.{Ana}
use Rattle.configfs_rows.specs.declared.ports.PortRow.{PortRow}
use Rattle.configfs_tree.specs.declared.configuration.Configuration.{Configuration}
use Rattle.configfs_rows.proofs.Gets.{some_same, none_some, get-insert_at, get-insert_beside, get-remove_beside, get-update_beside, get-remove_at, get-update_at}
use Rattle.std.specs.Ordering.{nat_cmp}
use Rattle.configfs_tree.proofs.Kept.{names_same, no_namespaces, placed_made, placed_removed}
use Rattle.configfs_tree.proofs.Holds.{Holds, refuses, holds_row, holds_end, holds_last, holds_either, holds_unless, holds_if_subsystem, holds_if_rows, holds_if_port, holds_if_group, holds_parsed}
use Rattle.configfs_tree.proofs.Held.{here}
use Rattle.uuid.specs.Text.{parsed}
use Rattle.sqe_cqe.specs.Anas.{ana_named, ana_number}
use Rattle.configfs_rows.specs.Values.{group_named}
use Rattle.configfs_tree.specs.Asked.{subsystem_place_taken, port_place_taken}
use Rattle.configfs_rows.specs.declared.namespaces.NamespacePut.TheVariants.{Path, Identifier as NewIdentifier, Group, Enabled}
use Rattle.configfs_rows.specs.declared.namespaces.Identifier.{Identifier}
use Rattle.configfs_rows.specs.declared.namespaces.Identifier.TheVariants.{Uuid, Nguid}
use Rattle.configfs_rows.specs.Rows.{identifier_of}
use Rattle.configfs_rows.specs.declared.subsystems.SubsystemPut.{SubsystemPut}
use Rattle.configfs_rows.specs.declared.subsystems.SubsystemPut.TheVariants.{AllowAnyHost, Serial, ModelName}
use Rattle.sqe_cqe.specs.declared.rows.Ana.TheVariants as state
use Rattle.configfs_rows.specs.declared.ports.Address.{Address}
use Rattle.configfs_rows.specs.declared.ports.Address.TheVariants as address
use Rattle.configfs_tree.specs.declared.edits.Attr.{Attr}
use Rattle.configfs_tree.specs.declared.edits.Attr.TheVariants as attr
use Rattle.configfs_tree.specs.declared.edits.Folder.{Folder}
use Rattle.configfs_tree.specs.declared.edits.Folder.TheVariants as folder
use Rattle.configfs_tree.specs.declared.edits.FolderEdit.{FolderEdit}
use Rattle.configfs_tree.specs.declared.edits.FolderEdit.TheVariants as edit
use Rattle.configfs_tree.specs.Table.{mkdir, rmdir, set, set_of_subsystem, set_of_namespace, set_of_port, set_of_group, edit_outcome, put_on, put_group_of, put_state, set_address, disabled, enabled}
use Rattle.configfs_tree.specs.Table.{mkdir_host, mkdir_subsystem, mkdir_namespace, mkdir_port, mkdir_ana_group, rmdir_host, rmdir_subsystem, rmdir_namespace, rmdir_port, rmdir_ana_group}
use Rattle.configfs_tree.specs.Table.{set_attr_allow_any_host, set_attr_serial, set_attr_model, set_device_path, set_identifier, set_ana_grpid, set_enable, set_addr_trtype, set_addr_adrfam, set_addr_treq, set_addr_traddr, set_addr_trsvcid, set_ana_state}
use Rattle.std.proofs.lemmas.Slice.Eq.{bytes_eq-Decides}
use Rattle.std.proofs.lemmas.Bool.{eq-eqb}
use Rattle.configfs_tree.specs.Outcome.{touching}
use Rattle.configfs_rows.specs.Subsystems.{add_namespace, remove_namespace}
use Rattle.configfs_tree.specs.Told.{Tells, group_in}
use Rattle.configfs_tree.specs.Standing.{IsPlaced}
use Rattle.configfs_rows.specs.Values.{has_path, same_bool, same_state}
use Rattle.configfs_tree.specs.declared.edits.Touched.TheVariants as touches
use Rattle.configfs_rows.specs.declared.namespaces.NamespacePut.{NamespacePut}
use Rattle.configfs_tree.proofs.Kept.{placed_attr}
use Rattle.configfs_tree.proofs.Decided.{left_false, none_of_test, right_false}
use Rattle.configfs_tree.proofs.Slots.{slot_put, slot_made, slot_gone, put_ports, made_ports, gone_ports}
use Rattle.configfs_tree.proofs.Tells.{insert_differs, insert_other, remove_differs, update_differs, tells_nothing, hosts_tell, rows_tell, slot_tells, turn_tells, move_tells, ports_tell, port_tells}

-- of what an outcome accepts
abbrev pub Told : Configuration → Outcome → Type 0
Told t o = Holds (λ u change. Tells t u change) o

other_bytes : (a b : List ℕ) → bytes_eq a b ≡ false → a ≡ b → ⊥
other_bytes a b e is = both_ways (bytes_eq a b) e ((bytes_eq-Decides a b).1 is)

-- ---- mkdir
u_mkdir_host : (t : Configuration) (host : List ℕ) → Told t (mkdir_host t host)
unfolding mkdir_host
u_mkdir_host t host = holds_row _ _ _ _ (λ absent. holds_last _ _ _ _ (λ _.
    hosts_tell t (record t.settings {
      hosts =
          map.insert t.settings.hosts host tt;
    }) touches.Nothing refl refl refl
    (insert_differs nat_list_cmp_total names_same t.settings.hosts host tt
    (none_of_test (map.get t.settings.hosts host) absent))))

u_mkdir_subsystem : (t : Configuration) (sub : List ℕ) → Told t (mkdir_subsystem t sub)
unfolding mkdir_subsystem
u_mkdir_subsystem t sub = holds_row _ _ _ _ (λ _. holds_row _ _ _ _
    (λ absent. holds_last _ _ _ _ (λ _.
    let m = t.settings.subsystems in
    let at = lowest_free MAX_SUBSYSTEMS 0 (subsystem_place_taken t) in
    let none = none_of_test (map.get m sub) absent in
    rows_tell t (map.insert m sub (fresh_subsystem sub at)) sub (fresh_subsystem sub at)
    (inr (get-insert_at nat_list_cmp_total names_same m sub (fresh_subsystem sub at)))
    (λ a ne. get-insert_beside nat_list_cmp_total names_same m sub (fresh_subsystem sub at) a ne)
    (insert_differs nat_list_cmp_total names_same m sub (fresh_subsystem sub at) none)
    (placed_made m sub at none))))

u_mkdir_namespace : (t : Configuration) (sub : List ℕ) (nsid : ℕ)
    → Told t (mkdir_namespace t sub nsid)
unfolding mkdir_namespace
u_mkdir_namespace t sub nsid = holds_if_subsystem _ _ (λ s e. holds_row _ _ _ _
    (λ _. holds_last _ _ _ _ (λ absent.
    let m = t.settings.subsystems in
    slot_tells t (update_at m sub (add_namespace nsid)) sub nsid None
    (Some (here s.at fresh_namespace)) (here s.at fresh_namespace) (inr refl)
    (slot_made m sub nsid s e (none_of_test (map.get s.namespaces nsid) absent))
    (λ f. none_some (here s.at fresh_namespace) (sym f)) refl (λ x y f g. absurd (none_some x f)))))

u_mkdir_port : (t : Configuration) (id : ℕ) → Told t (mkdir_port t id)
unfolding mkdir_port
u_mkdir_port t id = holds_row _ _ _ _ (λ absent. holds_last _ _ _ _ (λ _.
    let m = t.settings.ports in
    let at = lowest_free MAX_PORTS 0 (port_place_taken t) in
    let none = none_of_test (map.get m id) absent in
    ports_tell t (map.insert m id (fresh_port id at)) id (fresh_port id at)
    (inr (get-insert_at nat_cmp_total nat_cmp-IsAntisymmetric m id (fresh_port id at)))
    (λ k ne. get-insert_beside nat_cmp_total nat_cmp-IsAntisymmetric m id (fresh_port id at) k ne)
    (λ j ne. ap (λ (o : Option PortRow). group_in o j) (get-insert_at nat_cmp_total
    nat_cmp-IsAntisymmetric m id (fresh_port id at))
    ∙ (get-insert_beside nat_cmp_total nat_cmp-IsAntisymmetric map.empty 1 state.Optimized j ne
    ∙ (map.get-empty nat_cmp j ∙ sym (ap (λ (o : Option PortRow). group_in o j) none))))
    (insert_differs nat_cmp_total nat_cmp-IsAntisymmetric m id (fresh_port id at) none)
    (made_ports m id (fresh_port id at) none)))

u_mkdir_ana_group : (t : Configuration) (id group : ℕ) → Told t (mkdir_ana_group t id group)
unfolding mkdir_ana_group
u_mkdir_ana_group t id group = holds_if_port _ _ (λ p e. holds_row _ _ _ _
    (λ _. holds_last _ _ _ _ (λ absent.
    port_tells t id group (put_group group state.Inaccessible) p e
    (insert_differs nat_cmp_total nat_cmp-IsAntisymmetric p.groups group state.Inaccessible
    (none_of_test (map.get p.groups group) absent))
    refl (λ j ne. get-insert_beside nat_cmp_total nat_cmp-IsAntisymmetric p.groups group
    state.Inaccessible j ne))))

-- ---- rmdir
gone_differs : (m : FinMap name_order (Unit {0})) (k : List ℕ) (found : Option (Unit {0}))
    → map.get m k ≡ found → not (is_some found) ≡ false → map.remove m k ≡ m → ⊥
gone_differs m k None e is = absurd (both_ways true is refl)
gone_differs m k (Some x) e is = remove_differs nat_list_cmp_total names_same m k x e

u_rmdir_host : (t : Configuration) (host : List ℕ) → Told t (rmdir_host t host)
unfolding rmdir_host
u_rmdir_host t host = holds_row _ _ _ _ (λ there. holds_last _ _ _ _ (λ _.
    hosts_tell t (record t.settings {
      hosts =
          map.remove t.settings.hosts host;
    }) touches.Nothing refl refl refl
    (gone_differs t.settings.hosts host (map.get t.settings.hosts host) refl there)))

u_rmdir_subsystem : (t : Configuration) (sub : List ℕ) → Told t (rmdir_subsystem t sub)
unfolding rmdir_subsystem
u_rmdir_subsystem t sub = holds_if_subsystem _ _ (λ s e. holds_row _ _ _ _
    (λ _. holds_last _ _ _ _ (λ unfilled.
    let m = t.settings.subsystems in
    let empty = no_namespaces s unfilled in
    rows_tell t (map.remove m sub) sub s (inl e)
    (λ a ne. get-remove_beside nat_list_cmp_total names_same m sub a ne)
    (remove_differs nat_list_cmp_total names_same m sub s e)
    (placed_removed m sub s e empty))))

u_rmdir_namespace : (t : Configuration) (sub : List ℕ) (nsid : ℕ)
    → Told t (rmdir_namespace t sub nsid)
unfolding rmdir_namespace
u_rmdir_namespace t sub nsid = holds_if_rows _ _ _ (λ s e n f. holds_last _ _ _ _ (λ free.
    let m = t.settings.subsystems in
    slot_tells t (update_at m sub (remove_namespace nsid)) sub nsid (Some (here s.at n)) None
    (here s.at n) (inl refl)
    (slot_gone m sub nsid s n e f)
    (λ g. none_some (here s.at n) g)
    (sym (left_false n.enabled (holds_path t.disks s.at nsid n.device_path) free))
    (λ x y g h. absurd (none_some y h))))

-- group 1 is the one of a port that has no other
only_one : (m : FinMap nat_cmp Ana) (j : ℕ) → IsTrue (map.contains_key m 1)
    → nat_lt 1 (map.len m) ≡ false → (j ≡ 1 → ⊥) → map.get m j ≡ None
only_one m j one few ne =
    let low : map.len m ≤ 1 = ltb-false 1 (map.len m) few in
    let less : map.len (map.remove m 1) ≡ map.len m - 1 = map.len-remove nat_cmp_total m 1
    ∙ ap (λ b. cond b (map.len m - 1) (map.len m)) one in
    let none : map.len (map.remove m 1) ≡ 0 = omega arith in
    sym (get-remove_beside nat_cmp_total nat_cmp-IsAntisymmetric m 1 j ne)
    ∙ (ap (λ (n : FinMap nat_cmp Ana). map.get n j) (map.empty_of_len (map.remove m 1) none)
    ∙ map.get-empty nat_cmp j)

u_rmdir_port : (t : Configuration) (id : ℕ) → IsPlaced t → Told t (rmdir_port t id)
unfolding rmdir_port
u_rmdir_port t id h = holds_if_port _ _ (λ p e. holds_row _ _ _ _
    (λ _. holds_last _ _ _ _ (λ unfilled.
    let m = t.settings.ports in
    ports_tell t (map.remove m id) id p (inl e)
    (λ k ne. get-remove_beside nat_cmp_total nat_cmp-IsAntisymmetric m id k ne)
    (λ j ne. ap (λ (o : Option PortRow). group_in o j) (get-remove_at nat_cmp_total
    nat_cmp-IsAntisymmetric m id)
    ∙ sym (ap (λ (o : Option PortRow). group_in o j) e
    ∙ only_one p.groups j (h.group_one id p e) (right_false (nat_lt 0 (map.len p.links))
    (nat_lt 1 (map.len p.groups)) unfilled) ne))
    (remove_differs nat_cmp_total nat_cmp-IsAntisymmetric m id p e)
    (gone_ports m id))))

u_rmdir_ana_group : (t : Configuration) (id group : ℕ) → Told t (rmdir_ana_group t id group)
unfolding rmdir_ana_group
u_rmdir_ana_group t id group = holds_if_port _ _ (λ p e. holds_if_group _ _
    (λ old f. holds_last _ _ _ _ (λ _.
    port_tells t id group (remove_group group) p e
    (remove_differs nat_cmp_total nat_cmp-IsAntisymmetric p.groups group old f)
    refl (λ j ne. get-remove_beside nat_cmp_total nat_cmp-IsAntisymmetric p.groups group j ne))))

-- ---- set, on a subsystem
attr_tells : (t : Configuration) (sub : List ℕ) (put : SubsystemPut) (s : SubsystemRow)
    → map.get t.settings.subsystems sub ≡ Some s → (put_in_subsystem put s ≡ s → ⊥)
    → ((r : SubsystemRow) (j : ℕ) → placed_in j (Some (put_in_subsystem put r))
    ≡ placed_in j (Some r)) → Tells t (on_subsystem t sub (put_in_subsystem put))
    (touching (touches.Subsystem s.at))
attr_tells t sub put s e ne same =
    let m = t.settings.subsystems in
    rows_tell t (update_at m sub (put_in_subsystem put)) sub s (inl e)
    (λ a beside. get-update_beside nat_list_cmp_total names_same m sub (put_in_subsystem put) a
    beside)
    (update_differs nat_list_cmp_total names_same m sub (put_in_subsystem put) s e ne)
    (placed_attr m sub (put_in_subsystem put) same)

other_bool : (a b : Bool) → same_bool a b ≡ false → b ≡ a → ⊥
other_bool true b e is = both_ways b e is
other_bool false b e is = both_ways (not b) e (ap not is)

u_set_of_subsystem : (t : Configuration) (sub : List ℕ) (a : Attr) (value : List ℕ)
    → Told t (set_of_subsystem t sub a value)
unfolding set_attr_allow_any_host set_attr_serial set_attr_model
u_set_of_subsystem t sub attr.AllowAnyHost value =
    holds_if_subsystem _ _ (λ s e. holds_row _ _ _ _ (λ _. holds_end _ _ _
    (λ _. holds_unless _ t _ _ (tells_nothing t) (λ other.
    let any = bytes_eq value (codes "1") in
    attr_tells t sub (AllowAnyHost any) s e (λ is. other_bool s.allow_any_host any other
    (ap (λ (r : SubsystemRow). r.allow_any_host) is)) (λ r j. refl)))))
u_set_of_subsystem t sub attr.Serial value =
    holds_if_subsystem _ _ (λ s e. holds_end _ _ _ (λ _. holds_unless _ t _ _ (tells_nothing t)
    (λ other.
    attr_tells t sub (Serial value) s e (λ is. other_bytes s.serial value other
    (sym (ap (λ (r : SubsystemRow). r.serial) is))) (λ r j. refl))))
u_set_of_subsystem t sub attr.ModelName value =
    holds_if_subsystem _ _ (λ s e. holds_end _ _ _ (λ _. holds_unless _ t _ _ (tells_nothing t)
    (λ other.
    attr_tells t sub (ModelName value) s e (λ is. other_bytes s.model_name value other
    (sym (ap (λ (r : SubsystemRow). r.model_name) is))) (λ r j. refl))))
u_set_of_subsystem t sub a value = refuses _

-- ---- set, on a namespace
put_tells : (t : Configuration) (sub : List ℕ) (nsid : ℕ) (put : NamespacePut) (s : SubsystemRow)
    (n : NamespaceRow) → map.get t.settings.subsystems sub ≡ Some s
    → map.get s.namespaces nsid ≡ Some n → (put_in put n ≡ n → ⊥)
    → (put_in put n).enabled ≡ n.enabled → (put_in put n).group ≡ n.group
    → Tells t (on_subsystem t sub (put_namespace nsid put)) (touching (touches.Namespace s.at nsid))
put_tells t sub nsid put s n e f ne on group =
    let m = t.settings.subsystems in
    let x = here s.at n in
    let y = here s.at (put_in put n) in
    slot_tells t (update_at m sub (put_namespace nsid put)) sub nsid (Some x) (Some y) x (inl refl)
    (slot_put m sub nsid put s n e f)
    (λ is. ne (ap (λ (z : Placed). z.row) (some_same y x is))) on
    (λ p q g h. ap (λ (z : Placed). z.row.group) (sym (some_same y q h))
    ∙ (group ∙ ap (λ (z : Placed). z.row.group) (some_same x p g)))

other_path : (q : Option (List ℕ)) (value : List ℕ) → has_path q value ≡ false → Some value ≡ q → ⊥
other_path None value e is = none_some value (sym is)
other_path (Some path) value e is = other_bytes path value e (some_same path value (sym is))

u_set_device_path : (t : Configuration) (sub : List ℕ) (nsid : ℕ) (value : List ℕ)
    → Told t (set_device_path t sub nsid value)
unfolding set_device_path
u_set_device_path t sub nsid value = holds_if_rows _ _ _ (λ s e n f.
    holds_row _ _ _ _ (λ _. holds_end _ _ _ (λ _. holds_unless _ t _ _ (tells_nothing t)
    (λ other.
    put_tells t sub nsid (Path value (number_of value (paths_of t.disks))) s n e f
    (λ is. other_path n.device_path value other (ap (λ (r : NamespaceRow). r.device_path) is))
    refl refl))))

put_identifier : (which : Identifier) (bytes : List ℕ) (n : NamespaceRow)
    → identifier_of which (put_in (NewIdentifier which bytes) n) ≡ bytes
put_identifier Uuid bytes n = refl
put_identifier Nguid bytes n = refl

u_set_identifier : (t : Configuration) (sub : List ℕ) (nsid : ℕ) (which : Identifier)
    (value : List ℕ) → Told t (set_identifier t sub nsid which value)
unfolding set_identifier
u_set_identifier t sub nsid which value =
    holds_if_rows _ _ _ (λ s e n f. holds_end _ _ _
    (λ _. holds_parsed (parsed value) (λ (bytes : List ℕ). unless_stands
    (bytes_eq (identifier_of which n) bytes) t (put_on t sub s.at nsid (NewIdentifier which bytes)))
    (λ bytes. holds_unless _ t _ _ (tells_nothing t) (λ other.
    put_tells t sub nsid (NewIdentifier which bytes) s n e f
    (λ is. other_bytes (identifier_of which n) bytes other
    (sym (ap (λ (r : NamespaceRow). identifier_of which r) is)
    ∙ put_identifier which bytes n)) refl refl))))

u_put_group_of : (t : Configuration) (sub : List ℕ) (nsid : ℕ) (s : SubsystemRow) (n : NamespaceRow)
    (group : Option ℕ) → map.get t.settings.subsystems sub ≡ Some s
    → map.get s.namespaces nsid ≡ Some n → Told t (put_group_of t sub nsid s n group)
u_put_group_of t sub nsid s n None e f = refuses _
u_put_group_of t sub nsid s n (Some group) e f = holds_unless _ t _ _ (tells_nothing t) (λ other.
    let m = t.settings.subsystems in
    move_tells t (update_at m sub (put_namespace nsid (Group group))) sub nsid s.at n group
    (λ is. both_ways (n.group == group) other (eq-eqb n.group group is))
    (slot_put m sub nsid (Group group) s n e f))

u_set_ana_grpid : (t : Configuration) (sub : List ℕ) (nsid : ℕ) (value : List ℕ)
    → Told t (set_ana_grpid t sub nsid value)
unfolding set_ana_grpid
u_set_ana_grpid t sub nsid value = holds_if_rows _ _ _ (λ s e n f.
    u_put_group_of t sub nsid s n (group_named value) e f)

u_disabled : (t : Configuration) (sub : List ℕ) (nsid : ℕ) (s : SubsystemRow) (n : NamespaceRow)
    → map.get t.settings.subsystems sub ≡ Some s → map.get s.namespaces nsid ≡ Some n
    → Told t (disabled t sub nsid s n)
u_disabled t sub nsid s n e f = holds_unless _ t _ _ (tells_nothing t) (λ on.
    let m = t.settings.subsystems in
    turn_tells t (update_at m sub (put_namespace nsid (Enabled false))) t.disks sub nsid s.at n true
    (not-false n.enabled on)
    (slot_put m sub nsid (Enabled false) s n e f))

u_enabled : (t : Configuration) (sub : List ℕ) (nsid : ℕ) (s : SubsystemRow) (n : NamespaceRow)
    → map.get t.settings.subsystems sub ≡ Some s → map.get s.namespaces nsid ≡ Some n
    → Told t (enabled t sub nsid s n)
u_enabled t sub nsid s n e f = holds_unless _ t _ _ (tells_nothing t) (λ off.
    let m = t.settings.subsystems in
    turn_tells t (update_at m sub (put_namespace nsid (Enabled true)))
    (hold (path_or_empty n.device_path) (Some (record {
      sub = s.at;
      nsid = nsid;
    })) t.disks) sub nsid s.at n false off
    (slot_put m sub nsid (Enabled true) s n e f))

pub u_set_enable : (t : Configuration) (sub : List ℕ) (nsid : ℕ) (value : List ℕ)
    → Told t (set_enable t sub nsid value)
unfolding set_enable
u_set_enable t sub nsid value = holds_if_rows _ _ _ (λ s e n f. holds_either _ _ _
    (u_disabled t sub nsid s n e f)
    (holds_row _ _ _ _ (λ _. holds_row _ _ _ _ (λ _. holds_row _ _ _ _
    (λ _. holds_end _ _ _ (λ _. u_enabled t sub nsid s n e f))))))

u_set_of_namespace : (t : Configuration) (sub : List ℕ) (nsid : ℕ) (a : Attr) (value : List ℕ)
    → Told t (set_of_namespace t sub nsid a value)
u_set_of_namespace t sub nsid attr.DevicePath value = u_set_device_path t sub nsid value
u_set_of_namespace t sub nsid attr.DeviceUuid value = u_set_identifier t sub nsid Uuid value
u_set_of_namespace t sub nsid attr.DeviceNguid value = u_set_identifier t sub nsid Nguid value
u_set_of_namespace t sub nsid attr.AnaGrpid value = u_set_ana_grpid t sub nsid value
u_set_of_namespace t sub nsid attr.Enable value = u_set_enable t sub nsid value
u_set_of_namespace t sub nsid a value = refuses _

-- ---- set, on a port
put_address : (a : Address) (value : List ℕ) (p : PortRow) → address_of a (with_address a value p)
    ≡ value
put_address address.Trtype value p = refl
put_address address.Adrfam value p = refl
put_address address.Traddr value p = refl
put_address address.Trsvcid value p = refl
put_address address.Treq value p = refl

address_groups : (a : Address) (value : List ℕ) (p : PortRow)
    → (with_address a value p).groups ≡ p.groups
address_groups address.Trtype value p = refl
address_groups address.Adrfam value p = refl
address_groups address.Traddr value p = refl
address_groups address.Trsvcid value p = refl
address_groups address.Treq value p = refl

u_address : (t : Configuration) (id : ℕ) (a : Address) (good : Bool) (value : List ℕ)
    → Told t (set_address t id a good value)
u_address t id a good value = holds_if_port _ _ (λ p e. holds_row _ _ _ _
    (λ _. holds_end _ _ _ (λ _. holds_unless _ t _ _ (tells_nothing t) (λ other.
    let m = t.settings.ports in
    ports_tell t (update_at m id (with_address a value)) id p (inl e)
    (λ k ne. get-update_beside nat_cmp_total nat_cmp-IsAntisymmetric m id (with_address a value) k
    ne)
    (λ j ne. ap (λ (o : Option PortRow). group_in o j) (get-update_at nat_cmp_total
    nat_cmp-IsAntisymmetric m id (with_address a value) p e)
    ∙ (ap (λ (gs : FinMap nat_cmp Ana). map.get gs j) (address_groups a value p)
    ∙ sym (ap (λ (o : Option PortRow). group_in o j) e)))
    (update_differs nat_cmp_total nat_cmp-IsAntisymmetric m id (with_address a value) p e
    (λ same. other_bytes (address_of a p) value other (sym (ap (address_of a) same)
    ∙ put_address a value p)))
    (put_ports m id (with_address a value) (address_groups a value))))))

u_set_of_port : (t : Configuration) (id : ℕ) (a : Attr) (value : List ℕ)
    → Told t (set_of_port t id a value)
unfolding set_addr_trtype set_addr_adrfam set_addr_treq set_addr_traddr set_addr_trsvcid
u_set_of_port t id attr.Trtype value = u_address t id address.Trtype _ value
u_set_of_port t id attr.Adrfam value = u_address t id address.Adrfam _ value
u_set_of_port t id attr.Treq value = u_address t id address.Treq _ value
u_set_of_port t id attr.Traddr value = u_address t id address.Traddr _ value
u_set_of_port t id attr.Trsvcid value = u_address t id address.Trsvcid _ value
u_set_of_port t id a value = refuses _

-- ---- set, on an ANA group
u_state : (t : Configuration) (id group : ℕ) (p : PortRow) (old : Ana) (new : Option Ana)
    → map.get t.settings.ports id ≡ Some p → map.get p.groups group ≡ Some old
    → Told t (put_state t id group p old new)
u_state t id group p old None e f = refuses _
u_state t id group p old (Some new) e f = holds_unless _ t _ _ (tells_nothing t) (λ other.
    port_tells t id group (put_group group new) p e
    (insert_other nat_cmp_total nat_cmp-IsAntisymmetric p.groups group new old f
    (λ is. both_ways (same_state old new) other (eq-eqb (ana_number old) (ana_number new)
    (ap ana_number (sym is)))))
    refl (λ j ne. get-insert_beside nat_cmp_total nat_cmp-IsAntisymmetric p.groups group new j ne))

u_set_ana_state : (t : Configuration) (id group : ℕ) (value : List ℕ)
    → Told t (set_ana_state t id group value)
unfolding set_ana_state
u_set_ana_state t id group value = holds_if_port _ _ (λ p e. holds_if_group _ _
    (λ old f. u_state t id group p old (ana_named value) e f))

u_set_of_group : (t : Configuration) (id group : ℕ) (a : Attr) (value : List ℕ)
    → Told t (set_of_group t id group a value)
u_set_of_group t id group attr.AnaState value = u_set_ana_state t id group value
u_set_of_group t id group a value = refuses _

-- ---- the whole table
u_mkdir : (t : Configuration) (f : Folder) → Told t (mkdir t f)
u_mkdir t (folder.Host host) = u_mkdir_host t host
u_mkdir t (folder.Subsystem sub) = u_mkdir_subsystem t sub
u_mkdir t (folder.Namespace sub nsid) = u_mkdir_namespace t sub nsid
u_mkdir t (folder.Port id) = u_mkdir_port t id
u_mkdir t (folder.AnaGroup id group) = u_mkdir_ana_group t id group

u_rmdir : (t : Configuration) (f : Folder) → IsPlaced t → Told t (rmdir t f)
u_rmdir t (folder.Host host) h = u_rmdir_host t host
u_rmdir t (folder.Subsystem sub) h = u_rmdir_subsystem t sub
u_rmdir t (folder.Namespace sub nsid) h = u_rmdir_namespace t sub nsid
u_rmdir t (folder.Port id) h = u_rmdir_port t id h
u_rmdir t (folder.AnaGroup id group) h = u_rmdir_ana_group t id group

u_set : (t : Configuration) (f : Folder) (a : Attr) (value : List ℕ) → Told t (set t f a value)
u_set t (folder.Host host) a value = refuses _
u_set t (folder.Subsystem sub) a value = u_set_of_subsystem t sub a value
u_set t (folder.Namespace sub nsid) a value = u_set_of_namespace t sub nsid a value
u_set t (folder.Port id) a value = u_set_of_port t id a value
u_set t (folder.AnaGroup id group) a value = u_set_of_group t id group a value

pub edit_tells : (t : Configuration) (e : FolderEdit) → IsPlaced t → Told t (edit_outcome t e)
edit_tells t (edit.Mkdir f) h = u_mkdir t f
edit_tells t (edit.Rmdir f) h = u_rmdir t f h
edit_tells t (edit.Set f a value) h = u_set t f a value
