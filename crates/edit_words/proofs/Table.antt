-- Each row of the table of edits keeps what the words rest on, and names what is in the table.
use Rattle.std.proofs.Common.{◌≡◌, ◌<◌, ℕ, ◌||◌, Bool, true, false, List, Option, Some, None, refl, sym, subst, codes, IsTrue}
use Rattle.std.proofs.lemmas.Bool.{both_ways}
use Rattle.std.specs.Str.{bytes_eq}
use Rattle.std.specs.Cmp.{nat_cmp_total}
use Rattle.std.specs.Cmp.Lexicographic.{nat_list_cmp_total}
use Rattle.std.specs.FinMap as map
use Rattle.std.specs.FinMap.{nat_cmp-IsAntisymmetric}
use Rattle.uuid.specs.Text.{parsed}
use Rattle.sqe_cqe.specs.Anas.{ana_named}
use Rattle.sqe_cqe.specs.declared.rows.Ana.{Ana}
use Rattle.sqe_cqe.specs.declared.rows.Ana.TheVariants as state
use Rattle.sqe_cqe.specs.declared.rows.TheConstants.{MAX_NSID}
use Rattle.configfs_rows.specs.declared.limits.TheConstants.{MAX_SUBSYSTEMS, MAX_PORTS, MAX_ANA_GROUPS}
use Rattle.configfs_rows.specs.Rows.{fresh_namespace, identifier_of}
use Rattle.configfs_rows.specs.Subsystems.{fresh_subsystem, put_in_subsystem, put_allowed, add_namespace, remove_namespace}
use Rattle.configfs_rows.specs.Ports.{fresh_port, with_address, put_link, put_group, remove_group}
use Rattle.configfs_rows.specs.Places.{lowest_free}
use Rattle.configfs_rows.specs.Values.{group_named}
use Rattle.configfs_rows.specs.Holders.{number_of, paths_of, holds_path}
use Rattle.configfs_rows.specs.declared.namespaces.NamespaceRow.{NamespaceRow}
use Rattle.configfs_rows.specs.declared.namespaces.NamespacePut.TheVariants.{Path, Identifier as NewIdentifier, Group, Enabled}
use Rattle.configfs_rows.specs.declared.namespaces.Identifier.{Identifier}
use Rattle.configfs_rows.specs.declared.namespaces.Identifier.TheVariants.{Uuid, Nguid}
use Rattle.configfs_rows.specs.declared.subsystems.SubsystemRow.{SubsystemRow}
use Rattle.configfs_rows.specs.declared.subsystems.SubsystemPut.{SubsystemPut}
use Rattle.configfs_rows.specs.declared.subsystems.SubsystemPut.TheVariants.{AllowAnyHost, Serial, ModelName}
use Rattle.configfs_rows.specs.declared.ports.PortRow.{PortRow}
use Rattle.configfs_rows.specs.declared.ports.Address.{Address}
use Rattle.configfs_rows.specs.declared.ports.Address.TheVariants as address
use Rattle.configfs_rows.proofs.Gets.{none_some}
use Rattle.configfs_rows.proofs.Each.{stays_inserted}
use Rattle.configfs_rows.proofs.Placing.{place_is_free}
use Rattle.configfs_tree.specs.Asked.{subsystem_place_taken, port_place_taken}
use Rattle.configfs_tree.specs.Outcome.{Outcome, on_subsystem, unless_stands, Accepts, nothing, touching}
use Rattle.configfs_tree.specs.Standing.{placed_in, IsStanding}
use Rattle.configfs_tree.specs.Table.{mkdir_host, mkdir_subsystem, mkdir_namespace, mkdir_port, mkdir_ana_group, rmdir_host, rmdir_subsystem, rmdir_namespace, rmdir_port, rmdir_ana_group, set_attr_allow_any_host, set_attr_serial, set_attr_model, put_on, set_device_path, set_identifier, put_group_of, set_ana_grpid, set_enable, set_address, set_addr_trtype, set_addr_adrfam, set_addr_treq, set_addr_traddr, set_addr_trsvcid, put_state, set_ana_state, mkdir, rmdir, set_of_subsystem, set_of_namespace, set_of_port, set_of_group, set as set_outcome, edit_outcome as folder_outcome}
use Rattle.configfs_tree.specs.declared.edits.Attr.{Attr}
use Rattle.configfs_tree.specs.declared.edits.Attr.TheVariants as attr
use Rattle.configfs_tree.specs.declared.edits.Change.{Change}
use Rattle.configfs_tree.specs.declared.edits.Touched.TheVariants as touches
use Rattle.configfs_tree.specs.declared.edits.Folder.{Folder}
use Rattle.configfs_tree.specs.declared.edits.Folder.TheVariants as folder
use Rattle.configfs_tree.specs.declared.edits.FolderEdit.{FolderEdit}
use Rattle.configfs_tree.specs.declared.edits.FolderEdit.TheVariants as edit
use Rattle.configfs_tree.specs.declared.configuration.Configuration.{Configuration}
use Rattle.configfs_tree.proofs.Decided.{left_false, none_of_test, room_of, low_of, high_of}
use Rattle.configfs_tree.proofs.Held.{here}
use Rattle.configfs_tree.proofs.Holds.{Holds, accepted, refuses, holds_row, holds_end, holds_last, holds_either, holds_unless, holds_if_subsystem, holds_if_rows, holds_if_port, holds_if_group, holds_parsed}
use Rattle.configfs_tree.proofs.Kept.{names_same, no_namespaces, placed_made, placed_removed}
use Rattle.configfs_tree.proofs.Slots.{slot_made, slot_gone}
use Rattle.link_rules.specs.declared.edits.Edit.{Edit}
use Rattle.link_rules.specs.declared.edits.Edit.TheVariants as either
use Rattle.link_rules.specs.declared.edits.LinkEdit.{LinkEdit}
use Rattle.link_rules.specs.declared.edits.LinkEdit.TheVariants as link
use Rattle.link_rules.specs.Table.{allow_host, disallow_host, link_subsystem, unlink_subsystem, link_outcome, edit_outcome}
use Rattle.ns_table.specs.Positions.{IsGroup}
use Rattle.edit_words.proofs.Rows.{IsFit, ats_stay, ats_removed, disks_same, subs_keep, ports_keep, hosts_keep, nothing_keeps, sub_put, space_keeps, put_keeps, port_put, fits_nothing, fits_hosts, fits_sub, fits_port, fits_space, fits_turn, fits_group, fits_state, sub_below, port_below, nsid_in}

abbrev pub FitBy : Configuration → Outcome → Type 0
FitBy t o = Holds (λ u c. IsFit t u c) o

no_truth : false ≡ true → ⊥
no_truth e = both_ways false refl e

same : (t : Configuration) → IsFit t t nothing
same t = record { keeps = nothing_keeps t; fits = fits_nothing }

module _ (t : Configuration) (st : IsStanding t) where
  -- ---- mkdir
  f_mkdir_host : (host : List ℕ) → FitBy t (mkdir_host t host)
  unfolding mkdir_host
  f_mkdir_host host = holds_row _ _ _ _ (λ _. holds_last _ _ _ _ (λ _.
      record { keeps = hosts_keep t (map.insert t.settings.hosts host tt); fits = fits_hosts }))

  f_mkdir_subsystem : (sub : List ℕ) → FitBy t (mkdir_subsystem t sub)
  unfolding mkdir_subsystem
  f_mkdir_subsystem sub = holds_row _ _ _ _ (λ _. holds_row _ _ _ _ (λ absent. holds_last _ _ _ _
      (λ _.
      let m = t.settings.subsystems in
      let at = lowest_free MAX_SUBSYSTEMS 0 (subsystem_place_taken t) in
      let v = fresh_subsystem sub at in
      let none = none_of_test (map.get m sub) absent in
      record {
        keeps = subs_keep t (map.insert m sub v) t.disks t.settings.ana_count
            (ats_stay (λ (s : SubsystemRow). s.at) m (map.insert m sub v)
            (stays_inserted nat_list_cmp_total names_same (λ (s : SubsystemRow). s.at)
            (λ n. true) m sub v none))
            (disks_same m (map.insert m sub v) (placed_made m sub at none));
        fits = fits_sub at;
      })))

  f_mkdir_namespace : (sub : List ℕ) (nsid : ℕ) → FitBy t (mkdir_namespace t sub nsid)
  unfolding mkdir_namespace
  f_mkdir_namespace sub nsid = holds_if_subsystem _ _ (λ s e. holds_row _ _ _ _ (λ limits.
      holds_last _ _ _ _ (λ absent. record {
        keeps = space_keeps t sub nsid (add_namespace nsid) t.disks t.settings.ana_count None
            (Some (here s.at fresh_namespace)) (λ r. refl)
            (slot_made t.settings.subsystems sub nsid s e
            (none_of_test (map.get s.namespaces nsid) absent))
            (λ x y g h. absurd (none_some x g));
        fits = fits_space s.at nsid
            (sub_below t st sub s e, low_of nsid MAX_NSID limits, high_of nsid MAX_NSID limits);
      })))

  f_mkdir_port : (id : ℕ) → FitBy t (mkdir_port t id)
  unfolding mkdir_port
  f_mkdir_port id = holds_row _ _ _ _ (λ absent. holds_last _ _ _ _ (λ room.
      let m = t.settings.ports in
      let at = lowest_free MAX_PORTS 0 (port_place_taken t) in
      let v = fresh_port id at in
      let free = place_is_free nat_cmp_total nat_cmp-IsAntisymmetric (λ (p : PortRow). p.id)
      (λ (p : PortRow). p.at) MAX_PORTS m (room_of (map.len m) MAX_PORTS room) in
      let low : at < MAX_PORTS = free.below in
      record {
        keeps = ports_keep t (map.insert m id v) t.settings.ana_count
            (ats_stay (λ (p : PortRow). p.at) m (map.insert m id v)
            (stays_inserted nat_cmp_total nat_cmp-IsAntisymmetric (λ (p : PortRow). p.at)
            (λ n. true) m id v (none_of_test (map.get m id) absent)));
        fits = fits_port at low;
      }))

  f_mkdir_ana_group : (id group : ℕ) → FitBy t (mkdir_ana_group t id group)
  unfolding mkdir_ana_group
  f_mkdir_ana_group id group = holds_if_port _ _ (λ p e. holds_row _ _ _ _ (λ limits.
      holds_last _ _ _ _ (λ _. record {
        keeps = port_put t id (put_group group state.Inaccessible) _ (λ q. refl);
        fits = fits_state p.at group (
          port_below t st id p e,
          low_of group MAX_ANA_GROUPS limits,
          high_of group MAX_ANA_GROUPS limits,
        );
      })))

  -- ---- rmdir
  f_rmdir_host : (host : List ℕ) → FitBy t (rmdir_host t host)
  unfolding rmdir_host
  f_rmdir_host host = holds_row _ _ _ _ (λ _. holds_last _ _ _ _ (λ _.
      record { keeps = hosts_keep t (map.remove t.settings.hosts host); fits = fits_hosts }))

  f_rmdir_subsystem : (sub : List ℕ) → FitBy t (rmdir_subsystem t sub)
  unfolding rmdir_subsystem
  f_rmdir_subsystem sub = holds_if_subsystem _ _ (λ s e. holds_row _ _ _ _ (λ _.
      holds_last _ _ _ _ (λ unfilled.
      let m = t.settings.subsystems in
      record {
        keeps = subs_keep t (map.remove m sub) t.disks t.settings.ana_count
            (ats_removed (λ (x : SubsystemRow). x.at) nat_list_cmp_total names_same m sub)
            (disks_same m (map.remove m sub) (placed_removed m sub s e (no_namespaces s unfilled)));
        fits = fits_sub s.at;
      })))

  f_rmdir_namespace : (sub : List ℕ) (nsid : ℕ) → FitBy t (rmdir_namespace t sub nsid)
  unfolding rmdir_namespace
  f_rmdir_namespace sub nsid = holds_if_rows _ _ _ (λ s e n f. holds_last _ _ _ _ (λ _. record {
    keeps = space_keeps t sub nsid (remove_namespace nsid) t.disks t.settings.ana_count
        (Some (here s.at n)) None (λ r. refl) (slot_gone t.settings.subsystems sub nsid s n e f)
        (λ x y g h. absurd (none_some y h));
    fits = fits_space s.at nsid (nsid_in t st sub nsid s n e f);
  }))

  f_rmdir_port : (id : ℕ) → FitBy t (rmdir_port t id)
  unfolding rmdir_port
  f_rmdir_port id = holds_if_port _ _ (λ p e. holds_row _ _ _ _ (λ _. holds_last _ _ _ _ (λ _.
      record {
        keeps = ports_keep t (map.remove t.settings.ports id) t.settings.ana_count
            (ats_removed (λ (q : PortRow). q.at) nat_cmp_total nat_cmp-IsAntisymmetric
            t.settings.ports id);
        fits = fits_port p.at (port_below t st id p e);
      })))

  group_in : (id group : ℕ) (p : PortRow) (old : Ana) → map.get t.settings.ports id ≡ Some p
      → map.get p.groups group ≡ Some old → IsGroup p.at group
  group_in id group p old e f =
      let stands = st.sound.ports id p e in
      (port_below t st id p e, stands.group_low group old f, stands.group_high group old f)

  f_rmdir_ana_group : (id group : ℕ) → FitBy t (rmdir_ana_group t id group)
  unfolding rmdir_ana_group
  f_rmdir_ana_group id group = holds_if_port _ _ (λ p e. holds_if_group _ _ (λ old f.
      holds_last _ _ _ _ (λ _. record {
        keeps = port_put t id (remove_group group) _ (λ q. refl);
        fits = fits_state p.at group (group_in id group p old e f);
      })))

  -- ---- set, on a subsystem
  attr_fit : (sub : List ℕ) (put : SubsystemPut) (at : ℕ) → ((s : SubsystemRow)
      → (put_in_subsystem put s).at ≡ s.at) → ((s : SubsystemRow) (j : ℕ)
      → placed_in j (Some (put_in_subsystem put s)) ≡ placed_in j (Some s))
      → IsFit t (on_subsystem t sub (put_in_subsystem put)) (touching (touches.Subsystem at))
  attr_fit sub put at ats spaces =
      record { keeps = sub_put t sub (put_in_subsystem put) ats spaces; fits = fits_sub at }

  f_set_of_subsystem : (sub : List ℕ) (a : Attr) (value : List ℕ)
      → FitBy t (set_of_subsystem t sub a value)
  unfolding set_attr_allow_any_host set_attr_serial set_attr_model
  f_set_of_subsystem sub attr.AllowAnyHost value =
      holds_if_subsystem _ _ (λ s e. holds_row _ _ _ _ (λ _. holds_end _ _ _
      (λ _. holds_unless _ t _ _ (same t) (λ _. attr_fit sub
      (AllowAnyHost (bytes_eq value (codes "1"))) s.at (λ r. refl) (λ r j. refl)))))
  f_set_of_subsystem sub attr.Serial value =
      holds_if_subsystem _ _ (λ s e. holds_end _ _ _ (λ _. holds_unless _ t _ _ (same t)
      (λ _. attr_fit sub (Serial value) s.at (λ r. refl) (λ r j. refl))))
  f_set_of_subsystem sub attr.ModelName value =
      holds_if_subsystem _ _ (λ s e. holds_end _ _ _ (λ _. holds_unless _ t _ _ (same t)
      (λ _. attr_fit sub (ModelName value) s.at (λ r. refl) (λ r j. refl))))
  f_set_of_subsystem sub a value = refuses _

  -- ---- set, on a namespace
  -- a namespace that isn't busy is off
  off_stays : (on : Bool) (X : Type 0) → on ≡ false → IsTrue (on || on) → X
  off_stays true X off h = absurd (no_truth (sym off))
  off_stays false X off h = absurd (no_truth h)

  f_set_device_path : (sub : List ℕ) (nsid : ℕ) (value : List ℕ)
      → FitBy t (set_device_path t sub nsid value)
  unfolding set_device_path
  f_set_device_path sub nsid value = holds_if_rows _ _ _ (λ s e n f. holds_row _ _ _ _ (λ free.
      holds_end _ _ _ (λ _. holds_unless _ t _ _ (same t) (λ _. record {
        keeps = put_keeps t sub nsid (Path value (number_of value (paths_of t.disks))) s n t.disks
            t.settings.ana_count e f (λ on. off_stays n.enabled _
            (left_false n.enabled (holds_path t.disks s.at nsid n.device_path) free) on);
        fits = fits_space s.at nsid (nsid_in t st sub nsid s n e f);
      }))))

  f_set_identifier : (sub : List ℕ) (nsid : ℕ) (which : Identifier) (value : List ℕ)
      → FitBy t (set_identifier t sub nsid which value)
  unfolding set_identifier
  f_set_identifier sub nsid which value = holds_if_rows _ _ _ (λ s e n f. holds_end _ _ _ (λ _.
      holds_parsed (parsed value) (λ (bytes : List ℕ). unless_stands
      (bytes_eq (identifier_of which n) bytes) t (put_on t sub s.at nsid (NewIdentifier which bytes)))
      (λ bytes. holds_unless _ t _ _ (same t) (λ _. record {
        keeps = put_keeps t sub nsid (NewIdentifier which bytes) s n t.disks t.settings.ana_count e
            f (λ _. refl);
        fits = fits_space s.at nsid (nsid_in t st sub nsid s n e f);
      }))))

  f_group_of : (sub : List ℕ) (nsid : ℕ) (s : SubsystemRow) (n : NamespaceRow) (group : Option ℕ)
      → map.get t.settings.subsystems sub ≡ Some s → map.get s.namespaces nsid ≡ Some n
      → FitBy t (put_group_of t sub nsid s n group)
  f_group_of sub nsid s n None e f = refuses _
  f_group_of sub nsid s n (Some group) e f = holds_unless _ t _ _ (same t) (λ _. record {
    keeps = put_keeps t sub nsid (Group group) s n t.disks _ e f (λ _. refl);
    fits = fits_group s.at nsid (nsid_in t st sub nsid s n e f);
  })

  f_set_ana_grpid : (sub : List ℕ) (nsid : ℕ) (value : List ℕ)
      → FitBy t (set_ana_grpid t sub nsid value)
  unfolding set_ana_grpid
  f_set_ana_grpid sub nsid value = holds_if_rows _ _ _ (λ s e n f.
      f_group_of sub nsid s n (group_named value) e f)

  f_set_enable : (sub : List ℕ) (nsid : ℕ) (value : List ℕ) → FitBy t (set_enable t sub nsid value)
  unfolding set_enable
  f_set_enable sub nsid value = holds_if_rows _ _ _ (λ s e n f. holds_either _ _ _
      (holds_unless _ t _ _ (same t) (λ _. record {
        keeps = put_keeps t sub nsid (Enabled false) s n t.disks t.settings.ana_count e f
            (λ _. refl);
        fits = fits_turn s.at nsid true (nsid_in t st sub nsid s n e f);
      }))
      (holds_row _ _ _ _ (λ _. holds_row _ _ _ _ (λ _. holds_row _ _ _ _ (λ _. holds_end _ _ _
      (λ _. holds_unless _ t _ _ (same t) (λ _. record {
        keeps = put_keeps t sub nsid (Enabled true) s n _ t.settings.ana_count e f (λ _. refl);
        fits = fits_turn s.at nsid false (nsid_in t st sub nsid s n e f);
      })))))))

  f_set_of_namespace : (sub : List ℕ) (nsid : ℕ) (a : Attr) (value : List ℕ)
      → FitBy t (set_of_namespace t sub nsid a value)
  f_set_of_namespace sub nsid attr.DevicePath value = f_set_device_path sub nsid value
  f_set_of_namespace sub nsid attr.DeviceUuid value = f_set_identifier sub nsid Uuid value
  f_set_of_namespace sub nsid attr.DeviceNguid value = f_set_identifier sub nsid Nguid value
  f_set_of_namespace sub nsid attr.AnaGrpid value = f_set_ana_grpid sub nsid value
  f_set_of_namespace sub nsid attr.Enable value = f_set_enable sub nsid value
  f_set_of_namespace sub nsid a value = refuses _

  -- ---- set, on a port and a group
  address_at : (a : Address) (value : List ℕ) (p : PortRow) → (with_address a value p).at ≡ p.at
  address_at address.Trtype value p = refl
  address_at address.Adrfam value p = refl
  address_at address.Traddr value p = refl
  address_at address.Trsvcid value p = refl
  address_at address.Treq value p = refl

  f_address : (id : ℕ) (a : Address) (good : Bool) (value : List ℕ)
      → FitBy t (set_address t id a good value)
  f_address id a good value = holds_if_port _ _ (λ p e. holds_row _ _ _ _ (λ _. holds_end _ _ _
      (λ _. holds_unless _ t _ _ (same t) (λ _. record {
        keeps = port_put t id (with_address a value) t.settings.ana_count (address_at a value);
        fits = fits_port p.at (port_below t st id p e);
      }))))

  f_set_of_port : (id : ℕ) (a : Attr) (value : List ℕ) → FitBy t (set_of_port t id a value)
  unfolding set_addr_trtype set_addr_adrfam set_addr_treq set_addr_traddr set_addr_trsvcid
  f_set_of_port id attr.Trtype value = f_address id address.Trtype _ value
  f_set_of_port id attr.Adrfam value = f_address id address.Adrfam _ value
  f_set_of_port id attr.Treq value = f_address id address.Treq _ value
  f_set_of_port id attr.Traddr value = f_address id address.Traddr _ value
  f_set_of_port id attr.Trsvcid value = f_address id address.Trsvcid _ value
  f_set_of_port id a value = refuses _

  f_state : (id group : ℕ) (p : PortRow) (old : Ana) (new : Option Ana)
      → map.get t.settings.ports id ≡ Some p → map.get p.groups group ≡ Some old
      → FitBy t (put_state t id group p old new)
  f_state id group p old None e f = refuses _
  f_state id group p old (Some new) e f = holds_unless _ t _ _ (same t) (λ _. record {
    keeps = port_put t id (put_group group new) _ (λ q. refl);
    fits = fits_state p.at group (group_in id group p old e f);
  })

  f_set_of_group : (id group : ℕ) (a : Attr) (value : List ℕ)
      → FitBy t (set_of_group t id group a value)
  unfolding set_ana_state
  f_set_of_group id group attr.AnaState value = holds_if_port _ _ (λ p e. holds_if_group _ _
      (λ old f. f_state id group p old (ana_named value) e f))
  f_set_of_group id group a value = refuses _

  -- ---- links
  f_link : (e : LinkEdit) → FitBy t (link_outcome t e)
  unfolding allow_host disallow_host link_subsystem unlink_subsystem
  f_link (link.AllowHost sub host) = holds_if_subsystem _ _ (λ s e. holds_row _ _ _ _
      (λ _. holds_row _ _ _ _ (λ _. holds_last _ _ _ _ (λ _. record {
        keeps = sub_put t sub (put_allowed host true) (λ r. refl) (λ r j. refl);
        fits = fits_sub s.at;
      }))))
  f_link (link.DisallowHost sub host) = holds_if_subsystem _ _ (λ s e. holds_row _ _ _ _
      (λ _. holds_last _ _ _ _ (λ _. record {
        keeps = sub_put t sub (put_allowed host false) (λ r. refl) (λ r j. refl);
        fits = fits_sub s.at;
      })))
  f_link (link.LinkSubsystem id sub) = holds_if_port _ _ (λ p e. holds_if_subsystem _ _
      (λ s _. holds_row _ _ _ _ (λ _. holds_last _ _ _ _ (λ _. record {
        keeps = port_put t id (put_link sub true) t.settings.ana_count (λ q. refl);
        fits = fits_port p.at (port_below t st id p e);
      }))))
  f_link (link.UnlinkSubsystem id sub) = holds_if_port _ _ (λ p e. holds_if_subsystem _ _
      (λ s _. holds_last _ _ _ _ (λ _. record {
        keeps = port_put t id (put_link sub false) t.settings.ana_count (λ q. refl);
        fits = fits_port p.at (port_below t st id p e);
      })))

  -- ---- the whole table
  f_mkdir : (f : Folder) → FitBy t (mkdir t f)
  f_mkdir (folder.Host host) = f_mkdir_host host
  f_mkdir (folder.Subsystem sub) = f_mkdir_subsystem sub
  f_mkdir (folder.Namespace sub nsid) = f_mkdir_namespace sub nsid
  f_mkdir (folder.Port id) = f_mkdir_port id
  f_mkdir (folder.AnaGroup id group) = f_mkdir_ana_group id group

  f_rmdir : (f : Folder) → FitBy t (rmdir t f)
  f_rmdir (folder.Host host) = f_rmdir_host host
  f_rmdir (folder.Subsystem sub) = f_rmdir_subsystem sub
  f_rmdir (folder.Namespace sub nsid) = f_rmdir_namespace sub nsid
  f_rmdir (folder.Port id) = f_rmdir_port id
  f_rmdir (folder.AnaGroup id group) = f_rmdir_ana_group id group

  f_set : (f : Folder) (a : Attr) (value : List ℕ) → FitBy t (set_outcome t f a value)
  f_set (folder.Host host) a value = refuses _
  f_set (folder.Subsystem sub) a value = f_set_of_subsystem sub a value
  f_set (folder.Namespace sub nsid) a value = f_set_of_namespace sub nsid a value
  f_set (folder.Port id) a value = f_set_of_port id a value
  f_set (folder.AnaGroup id group) a value = f_set_of_group id group a value

  f_folder : (e : FolderEdit) → FitBy t (folder_outcome t e)
  f_folder (edit.Mkdir f) = f_mkdir f
  f_folder (edit.Rmdir f) = f_rmdir f
  f_folder (edit.Set f a value) = f_set f a value

  f_edit : (e : Edit) → FitBy t (edit_outcome t e)
  f_edit (either.Folder e) = f_folder e
  f_edit (either.Link e) = f_link e

  pub edit_fits : (u : Configuration) (e : Edit) (c : Change) → edit_outcome t e ≡ Accepts u c
      → IsFit t u c
  edit_fits u e c is = accepted u c (subst (λ (o : Outcome). FitBy t o) is (f_edit e))
