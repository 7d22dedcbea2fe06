-- Each accepted edit leaves the rows where controllers are attached.
use Rattle.std.proofs.Common.{◌≡◌, ℕ, Bool, true, false, List, Option, Some, None, refl, ap, ◌∙◌, codes}
use Rattle.std.specs.Str.{bytes_eq}
use Rattle.std.specs.Cmp.{nat_cmp_total}
use Rattle.std.specs.Cmp.Lexicographic.{nat_list_cmp_total}
use Rattle.std.specs.FinMap as map
use Rattle.std.specs.FinMap.{nat_cmp-IsAntisymmetric}
use Rattle.uuid.specs.Text.{parsed}
use Rattle.configfs_rows.specs.declared.limits.TheConstants.{MAX_SUBSYSTEMS, MAX_PORTS}
use Rattle.configfs_rows.specs.Maps.{update_at}
use Rattle.configfs_rows.specs.Subsystems.{fresh_subsystem, put_in_subsystem, put_namespace, add_namespace, remove_namespace}
use Rattle.configfs_rows.specs.Ports.{fresh_port, with_address, put_group, remove_group}
use Rattle.configfs_rows.specs.Places.{lowest_free}
use Rattle.configfs_rows.specs.Values.{group_named}
use Rattle.configfs_rows.specs.Holders.{number_of, paths_of}
use Rattle.sqe_cqe.specs.Anas.{ana_named}
use Rattle.sqe_cqe.specs.declared.rows.Ana.{Ana}
use Rattle.sqe_cqe.specs.declared.rows.Ana.TheVariants as state
use Rattle.configfs_tree.specs.Asked.{some_port_links, controller_at_subsystem, subsystem_place_taken, port_place_taken}
use Rattle.configfs_tree.specs.Outcome.{Outcome, on_subsystem, on_port, unless_stands, with_settings}
use Rattle.configfs_tree.specs.Table.{mkdir_host, mkdir_subsystem, mkdir_namespace, mkdir_port, mkdir_ana_group, rmdir_host, rmdir_subsystem, rmdir_namespace, rmdir_port, rmdir_ana_group, set_attr_allow_any_host, set_attr_serial, set_attr_model, put_on, set_device_path, set_identifier, put_group_of, set_ana_grpid, set_enable, set_address, set_addr_trtype, set_addr_adrfam, set_addr_treq, set_addr_traddr, set_addr_trsvcid, put_state, set_ana_state, mkdir, rmdir, set_of_subsystem, set_of_namespace, set_of_port, set_of_group, set as set_outcome, edit_outcome}
use Rattle.configfs_tree.specs.declared.configuration.Configuration.{Configuration}
use Rattle.configfs_rows.specs.declared.disks.DiskRow.{DiskRow}
use Rattle.configfs_rows.specs.declared.namespaces.NamespaceRow.{NamespaceRow}
use Rattle.configfs_rows.specs.declared.namespaces.NamespacePut.{NamespacePut}
use Rattle.configfs_rows.specs.declared.namespaces.NamespacePut.TheVariants.{Path, Identifier as NewIdentifier, Group, Enabled}
use Rattle.configfs_rows.specs.declared.namespaces.Identifier.{Identifier}
use Rattle.configfs_rows.specs.declared.namespaces.Identifier.TheVariants.{Uuid, Nguid}
use Rattle.configfs_rows.specs.Rows.{identifier_of}
use Rattle.configfs_rows.specs.declared.subsystems.SubsystemRow.{SubsystemRow}
use Rattle.configfs_rows.specs.declared.subsystems.SubsystemPut.{SubsystemPut}
use Rattle.configfs_rows.specs.declared.subsystems.SubsystemPut.TheVariants.{AllowAnyHost, Serial, ModelName}
use Rattle.configfs_rows.specs.declared.ports.PortRow.{PortRow}
use Rattle.configfs_rows.specs.declared.ports.Address.{Address}
use Rattle.configfs_rows.specs.declared.ports.Address.TheVariants as address
use Rattle.configfs_tree.specs.declared.edits.Attr.{Attr}
use Rattle.configfs_tree.specs.declared.edits.Attr.TheVariants as attr
use Rattle.configfs_tree.specs.declared.edits.Folder.{Folder}
use Rattle.configfs_tree.specs.declared.edits.Folder.TheVariants as folder
use Rattle.configfs_tree.specs.declared.edits.FolderEdit.{FolderEdit}
use Rattle.configfs_tree.specs.declared.edits.FolderEdit.TheVariants as edit
use Rattle.configfs_tree.proofs.Kept.{Rows, names_same}
use Rattle.configfs_tree.proofs.Slots.{Ports}
use Rattle.configfs_tree.specs.Sound.{Hosts}
use Rattle.configfs_tree.proofs.Decided.{none_of_test, right_false}
use Rattle.configfs_tree.proofs.Holds.{Holds, refuses, holds_row, holds_end, holds_last, holds_either, holds_unless, holds_if_subsystem, holds_if_rows, holds_if_port, holds_if_group, holds_parsed}
use Rattle.configfs_tree.specs.Stays.{is_subsystem_attached, is_port_attached, SubsystemAt, PortAt, Stays}
use Rattle.configfs_rows.proofs.Each.{RowAt, StaysAt, stays_inserted, stays_removed, stays_updated}

abbrev pub StaysBy : Configuration → Outcome → Type 0
StaysBy t o = Holds (λ u change. Stays t u) o

-- ---- from the maps
sub_at : (t : Configuration) (m : Rows) (sub : List ℕ) (at : ℕ)
    → StaysAt (λ (s : SubsystemRow). s.at) (is_subsystem_attached t) t.settings.subsystems m
    → is_subsystem_attached t at ≡ true → SubsystemAt t sub at
    → RowAt (λ (s : SubsystemRow). s.at) m sub at
sub_at t m sub at stays busy x =
    let w = stays sub x.row x.found (ap (is_subsystem_attached t) x.at_is ∙ busy) in
    record { row = w.row; found = w.found; at_is = w.at_is ∙ x.at_is }

port_at : (t : Configuration) (m : Ports) (id at : ℕ)
    → StaysAt (λ (p : PortRow). p.at) (is_port_attached t) t.settings.ports m
    → is_port_attached t at ≡ true → PortAt t id at → RowAt (λ (p : PortRow). p.at) m id at
port_at t m id at stays busy x =
    let w = stays id x.row x.found (ap (is_port_attached t) x.at_is ∙ busy) in
    record { row = w.row; found = w.found; at_is = w.at_is ∙ x.at_is }

pub stays : (t : Configuration) → Stays t t
stays t = record { attached = refl; subsystems = λ sub at b x. x; ports = λ id at b x. x }

subs_changed : (t : Configuration) (m : Rows) (disks : List DiskRow) (count : ℕ)
    → StaysAt (λ (s : SubsystemRow). s.at) (is_subsystem_attached t) t.settings.subsystems m
    → Stays t (record {
      settings = record t.settings { subsystems = m; ana_count = count };
      disks = disks;
    })
subs_changed t m disks count kept = record {
  attached = refl;
  subsystems = λ sub at b x. let w = sub_at t m sub at kept b x in
      record { row = w.row; found = w.found; at_is = w.at_is };
  ports = λ id at b x. record { row = x.row; found = x.found; at_is = x.at_is };
}

ports_changed : (t : Configuration) (m : Ports) (count : ℕ)
    → StaysAt (λ (p : PortRow). p.at) (is_port_attached t) t.settings.ports m
    → Stays t (record t { settings = record t.settings { ports = m; ana_count = count } })
ports_changed t m count kept = record {
  attached = refl;
  subsystems = λ sub at b x. record { row = x.row; found = x.found; at_is = x.at_is };
  ports = λ id at b x. let w = port_at t m id at kept b x in
      record { row = w.row; found = w.found; at_is = w.at_is };
}

sub_put : (t : Configuration) (sub : List ℕ) (f : SubsystemRow
    → SubsystemRow) (disks : List DiskRow) (count : ℕ) → ((s : SubsystemRow) → (f s).at ≡ s.at)
    → Stays t (record {
      settings = record t.settings {
        subsystems =
            update_at t.settings.subsystems sub f;
        ana_count = count;
      };
      disks = disks;
    })
sub_put t sub f disks count ats = subs_changed t (update_at t.settings.subsystems sub f) disks count
    (stays_updated nat_list_cmp_total names_same (λ (s : SubsystemRow). s.at)
    (is_subsystem_attached t) t.settings.subsystems sub f ats)

port_put : (t : Configuration) (id : ℕ) (f : PortRow → PortRow) (count : ℕ)
    → ((p : PortRow) → (f p).at ≡ p.at) → Stays t (record t {
      settings =
          record t.settings { ports = update_at t.settings.ports id f; ana_count = count };
    })
port_put t id f count ats = ports_changed t (update_at t.settings.ports id f) count
    (stays_updated nat_cmp_total nat_cmp-IsAntisymmetric (λ (p : PortRow). p.at)
    (is_port_attached t) t.settings.ports id f ats)

hosts_changed : (t : Configuration) (hosts : Hosts) → Stays t (with_settings t (record t.settings {
  hosts =
      hosts;
}))
hosts_changed t hosts = record {
  attached = refl;
  subsystems = λ sub at b x. record { row = x.row; found = x.found; at_is = x.at_is };
  ports = λ id at b x. record { row = x.row; found = x.found; at_is = x.at_is };
}

-- ---- mkdir
s_mkdir_host : (t : Configuration) (host : List ℕ) → StaysBy t (mkdir_host t host)
unfolding mkdir_host
s_mkdir_host t host = holds_row _ _ _ _ (λ _. holds_last _ _ _ _ (λ _.
    hosts_changed t (map.insert t.settings.hosts host tt)))

s_mkdir_subsystem : (t : Configuration) (sub : List ℕ) → StaysBy t (mkdir_subsystem t sub)
unfolding mkdir_subsystem
s_mkdir_subsystem t sub = holds_row _ _ _ _ (λ _. holds_row _ _ _ _
    (λ absent. holds_last _ _ _ _ (λ room.
    let m = t.settings.subsystems in
    let v = fresh_subsystem sub (lowest_free MAX_SUBSYSTEMS 0 (subsystem_place_taken t)) in
    subs_changed t (map.insert m sub v) t.disks t.settings.ana_count
    (stays_inserted nat_list_cmp_total names_same (λ (s : SubsystemRow). s.at)
    (is_subsystem_attached t) m sub v (none_of_test (map.get m sub) absent)))))

s_mkdir_namespace : (t : Configuration) (sub : List ℕ) (nsid : ℕ)
    → StaysBy t (mkdir_namespace t sub nsid)
unfolding mkdir_namespace
s_mkdir_namespace t sub nsid = holds_if_subsystem _ _ (λ s e. holds_row _ _ _ _
    (λ _. holds_last _ _ _ _ (λ absent.
    sub_put t sub (add_namespace nsid) t.disks t.settings.ana_count (λ x. refl))))

s_mkdir_port : (t : Configuration) (id : ℕ) → StaysBy t (mkdir_port t id)
unfolding mkdir_port
s_mkdir_port t id = holds_row _ _ _ _ (λ absent. holds_last _ _ _ _ (λ _.
    let m = t.settings.ports in
    let v = fresh_port id (lowest_free MAX_PORTS 0 (port_place_taken t)) in
    ports_changed t (map.insert m id v) t.settings.ana_count
    (stays_inserted nat_cmp_total nat_cmp-IsAntisymmetric (λ (p : PortRow). p.at)
    (is_port_attached t) m id v (none_of_test (map.get m id) absent))))

s_mkdir_ana_group : (t : Configuration) (id group : ℕ) → StaysBy t (mkdir_ana_group t id group)
unfolding mkdir_ana_group
s_mkdir_ana_group t id group = holds_if_port _ _ (λ p e. holds_row _ _ _ _
    (λ _. holds_last _ _ _ _ (λ _. port_put t id (put_group group state.Inaccessible) _
    (λ q. refl))))

-- ---- rmdir
s_rmdir_host : (t : Configuration) (host : List ℕ) → StaysBy t (rmdir_host t host)
unfolding rmdir_host
s_rmdir_host t host = holds_row _ _ _ _ (λ _. holds_last _ _ _ _ (λ _.
    hosts_changed t (map.remove t.settings.hosts host)))

s_rmdir_subsystem : (t : Configuration) (sub : List ℕ) → StaysBy t (rmdir_subsystem t sub)
unfolding rmdir_subsystem
s_rmdir_subsystem t sub = holds_if_subsystem _ _ (λ s e. holds_row _ _ _ _
    (λ free. holds_last _ _ _ _ (λ _.
    let m = t.settings.subsystems in
    subs_changed t (map.remove m sub) t.disks t.settings.ana_count
    (stays_removed nat_list_cmp_total names_same (λ (x : SubsystemRow). x.at)
    (is_subsystem_attached t) m sub s e (right_false (some_port_links t sub)
    (controller_at_subsystem t s) free)))))

s_rmdir_namespace : (t : Configuration) (sub : List ℕ) (nsid : ℕ)
    → StaysBy t (rmdir_namespace t sub nsid)
unfolding rmdir_namespace
s_rmdir_namespace t sub nsid = holds_if_rows _ _ _ (λ s e n f. holds_last _ _ _ _ (λ free.
    sub_put t sub (remove_namespace nsid) t.disks t.settings.ana_count (λ x. refl)))

s_rmdir_port : (t : Configuration) (id : ℕ) → StaysBy t (rmdir_port t id)
unfolding rmdir_port
s_rmdir_port t id = holds_if_port _ _ (λ p e. holds_row _ _ _ _ (λ free. holds_last _ _ _ _ (λ _.
    ports_changed t (map.remove t.settings.ports id) t.settings.ana_count
    (stays_removed nat_cmp_total nat_cmp-IsAntisymmetric (λ (q : PortRow). q.at)
    (is_port_attached t) t.settings.ports id p e free))))

s_rmdir_ana_group : (t : Configuration) (id group : ℕ) → StaysBy t (rmdir_ana_group t id group)
unfolding rmdir_ana_group
s_rmdir_ana_group t id group = holds_if_port _ _ (λ p e. holds_if_group _ _
    (λ old _. holds_last _ _ _ _ (λ _. port_put t id (remove_group group) _ (λ q. refl))))

-- ---- set, on a subsystem
attr_put : (t : Configuration) (sub : List ℕ) (put : SubsystemPut)
    → Stays t (on_subsystem t sub (put_in_subsystem put))
attr_put t sub (AllowAnyHost any) = sub_put t sub (put_in_subsystem (AllowAnyHost any)) t.disks
    t.settings.ana_count (λ s. refl)
attr_put t sub (Serial value) = sub_put t sub (put_in_subsystem (Serial value)) t.disks
    t.settings.ana_count (λ s. refl)
attr_put t sub (ModelName value) = sub_put t sub (put_in_subsystem (ModelName value)) t.disks
    t.settings.ana_count (λ s. refl)

s_set_of_subsystem : (t : Configuration) (sub : List ℕ) (a : Attr) (value : List ℕ)
    → StaysBy t (set_of_subsystem t sub a value)
unfolding set_attr_allow_any_host set_attr_serial set_attr_model
s_set_of_subsystem t sub attr.AllowAnyHost value =
    holds_if_subsystem _ _ (λ s e. holds_row _ _ _ _ (λ _. holds_end _ _ _
    (λ _. holds_unless _ t _ _ (stays t) (λ _. attr_put t sub
    (AllowAnyHost (bytes_eq value (codes "1")))))))
s_set_of_subsystem t sub attr.Serial value =
    holds_if_subsystem _ _ (λ s e. holds_end _ _ _ (λ _. holds_unless _ t _ _ (stays t)
    (λ _. attr_put t sub (Serial value))))
s_set_of_subsystem t sub attr.ModelName value =
    holds_if_subsystem _ _ (λ s e. holds_end _ _ _ (λ _. holds_unless _ t _ _ (stays t)
    (λ _. attr_put t sub (ModelName value))))
s_set_of_subsystem t sub a value = refuses _

-- ---- set, on a namespace
plain_put : (t : Configuration) (sub : List ℕ) (nsid : ℕ) (put : NamespacePut)
    (disks : List DiskRow) → Stays t (record (on_subsystem t sub (put_namespace nsid put)) {
      disks =
          disks;
    })
plain_put t sub nsid put disks = sub_put t sub (put_namespace nsid put) disks t.settings.ana_count
    (λ s. refl)

s_set_device_path : (t : Configuration) (sub : List ℕ) (nsid : ℕ) (value : List ℕ)
    → StaysBy t (set_device_path t sub nsid value)
unfolding set_device_path
s_set_device_path t sub nsid value = holds_if_rows _ _ _ (λ s e n f.
    holds_row _ _ _ _ (λ free. holds_end _ _ _ (λ _. holds_unless _ t _ _ (stays t)
    (λ _. plain_put t sub nsid (Path value (number_of value (paths_of t.disks))) t.disks))))

s_set_identifier : (t : Configuration) (sub : List ℕ) (nsid : ℕ) (which : Identifier)
    (value : List ℕ) → StaysBy t (set_identifier t sub nsid which value)
unfolding set_identifier
s_set_identifier t sub nsid which value =
    holds_if_rows _ _ _ (λ s e n f. holds_end _ _ _
    (λ _. holds_parsed (parsed value) (λ (bytes : List ℕ). unless_stands
    (bytes_eq (identifier_of which n) bytes) t (put_on t sub s.at nsid (NewIdentifier which bytes)))
    (λ bytes. holds_unless _ t _ _ (stays t) (λ _. plain_put t sub nsid (NewIdentifier which bytes)
    t.disks))))

s_group_of : (t : Configuration) (sub : List ℕ) (nsid : ℕ) (s : SubsystemRow) (n : NamespaceRow)
    (group : Option ℕ) → StaysBy t (put_group_of t sub nsid s n group)
s_group_of t sub nsid s n None = refuses _
s_group_of t sub nsid s n (Some group) =
    holds_unless _ t _ _ (stays t) (λ _. sub_put t sub (put_namespace nsid (Group group)) t.disks _
    (λ x. refl))

s_set_ana_grpid : (t : Configuration) (sub : List ℕ) (nsid : ℕ) (value : List ℕ)
    → StaysBy t (set_ana_grpid t sub nsid value)
unfolding set_ana_grpid
s_set_ana_grpid t sub nsid value = holds_if_rows _ _ _ (λ s e n f.
    s_group_of t sub nsid s n (group_named value))

s_set_enable : (t : Configuration) (sub : List ℕ) (nsid : ℕ) (value : List ℕ)
    → StaysBy t (set_enable t sub nsid value)
unfolding set_enable
s_set_enable t sub nsid value = holds_if_rows _ _ _ (λ s e n f. holds_either _ _ _
    (holds_unless _ t _ _ (stays t) (λ _. plain_put t sub nsid (Enabled false) t.disks))
    (holds_row _ _ _ _ (λ _. holds_row _ _ _ _ (λ _. holds_row _ _ _ _
    (λ _. holds_end _ _ _ (λ _. holds_unless _ t _ _ (stays t)
    (λ _. plain_put t sub nsid (Enabled true) _)))))))

s_set_of_namespace : (t : Configuration) (sub : List ℕ) (nsid : ℕ) (a : Attr) (value : List ℕ)
    → StaysBy t (set_of_namespace t sub nsid a value)
s_set_of_namespace t sub nsid attr.DevicePath value = s_set_device_path t sub nsid value
s_set_of_namespace t sub nsid attr.DeviceUuid value = s_set_identifier t sub nsid Uuid value
s_set_of_namespace t sub nsid attr.DeviceNguid value = s_set_identifier t sub nsid Nguid value
s_set_of_namespace t sub nsid attr.AnaGrpid value = s_set_ana_grpid t sub nsid value
s_set_of_namespace t sub nsid attr.Enable value = s_set_enable t sub nsid value
s_set_of_namespace t sub nsid a value = refuses _

-- ---- set, on a port and a group
address_put : (t : Configuration) (id : ℕ) (a : Address) (value : List ℕ)
    → Stays t (on_port t id (with_address a value))
address_put t id address.Trtype value =
    port_put t id (with_address address.Trtype value) t.settings.ana_count (λ p. refl)
address_put t id address.Adrfam value =
    port_put t id (with_address address.Adrfam value) t.settings.ana_count (λ p. refl)
address_put t id address.Traddr value =
    port_put t id (with_address address.Traddr value) t.settings.ana_count (λ p. refl)
address_put t id address.Trsvcid value =
    port_put t id (with_address address.Trsvcid value) t.settings.ana_count (λ p. refl)
address_put t id address.Treq value = port_put t id (with_address address.Treq value)
    t.settings.ana_count (λ p. refl)

s_address : (t : Configuration) (id : ℕ) (a : Address) (good : Bool) (value : List ℕ)
    → StaysBy t (set_address t id a good value)
s_address t id a good value = holds_if_port _ _ (λ p e. holds_row _ _ _ _
    (λ _. holds_end _ _ _ (λ _. holds_unless _ t _ _ (stays t) (λ _. address_put t id a value))))

s_set_of_port : (t : Configuration) (id : ℕ) (a : Attr) (value : List ℕ)
    → StaysBy t (set_of_port t id a value)
unfolding set_addr_trtype set_addr_adrfam set_addr_treq set_addr_traddr set_addr_trsvcid
s_set_of_port t id attr.Trtype value = s_address t id address.Trtype _ value
s_set_of_port t id attr.Adrfam value = s_address t id address.Adrfam _ value
s_set_of_port t id attr.Treq value = s_address t id address.Treq _ value
s_set_of_port t id attr.Traddr value = s_address t id address.Traddr _ value
s_set_of_port t id attr.Trsvcid value = s_address t id address.Trsvcid _ value
s_set_of_port t id a value = refuses _

s_state : (t : Configuration) (id group : ℕ) (p : PortRow) (old : Ana) (new : Option Ana)
    → StaysBy t (put_state t id group p old new)
s_state t id group p old None = refuses _
s_state t id group p old (Some new) = holds_unless _ t _ _ (stays t)
    (λ _. port_put t id (put_group group new) _ (λ q. refl))

s_set_of_group : (t : Configuration) (id group : ℕ) (a : Attr) (value : List ℕ)
    → StaysBy t (set_of_group t id group a value)
unfolding set_ana_state
s_set_of_group t id group attr.AnaState value =
    holds_if_port _ _ (λ p e. holds_if_group _ _ (λ old _. s_state t id group p old
    (ana_named value)))
s_set_of_group t id group a value = refuses _

-- ---- the whole table
s_mkdir : (t : Configuration) (f : Folder) → StaysBy t (mkdir t f)
s_mkdir t (folder.Host host) = s_mkdir_host t host
s_mkdir t (folder.Subsystem sub) = s_mkdir_subsystem t sub
s_mkdir t (folder.Namespace sub nsid) = s_mkdir_namespace t sub nsid
s_mkdir t (folder.Port id) = s_mkdir_port t id
s_mkdir t (folder.AnaGroup id group) = s_mkdir_ana_group t id group

s_rmdir : (t : Configuration) (f : Folder) → StaysBy t (rmdir t f)
s_rmdir t (folder.Host host) = s_rmdir_host t host
s_rmdir t (folder.Subsystem sub) = s_rmdir_subsystem t sub
s_rmdir t (folder.Namespace sub nsid) = s_rmdir_namespace t sub nsid
s_rmdir t (folder.Port id) = s_rmdir_port t id
s_rmdir t (folder.AnaGroup id group) = s_rmdir_ana_group t id group

s_set : (t : Configuration) (f : Folder) (a : Attr) (value : List ℕ)
    → StaysBy t (set_outcome t f a value)
s_set t (folder.Host host) a value = refuses _
s_set t (folder.Subsystem sub) a value = s_set_of_subsystem t sub a value
s_set t (folder.Namespace sub nsid) a value = s_set_of_namespace t sub nsid a value
s_set t (folder.Port id) a value = s_set_of_port t id a value
s_set t (folder.AnaGroup id group) a value = s_set_of_group t id group a value

pub edit_stays : (t : Configuration) (e : FolderEdit) → StaysBy t (edit_outcome t e)
edit_stays t (edit.Mkdir f) = s_mkdir t f
edit_stays t (edit.Rmdir f) = s_rmdir t f
edit_stays t (edit.Set f a value) = s_set t f a value
