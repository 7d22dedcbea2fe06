-- The subsystems are made again one after another, in the order of their names: each at a position
-- of its own.
use Rattle.std.proofs.Common.{◌≡◌, ◌≤◌, ◌<◌, ◌+◌, ℕ, T, List, [], ◌∷◌, ◌++◌, map as each, length, Some, None, refl, sym, ap, subst, ◌∙◌, append_assoc, arith}
use Rattle.std.proofs.lemmas.List.{append-nil, length-append, nil_from_length}
use Rattle.std.specs.Ordering.{nat_cmp}
use Rattle.std.specs.Cmp.Lexicographic.{nat_list_cmp_total}
use Rattle.std.specs.declared.cmp.Ordering.{Ordering}
use Rattle.std.specs.FinMap as map
use Rattle.std.specs.FinMap.{find, put, is_sorted}
use Rattle.configfs_rows.specs.Nqns.{name_order}
use Rattle.configfs_rows.specs.Places.{lowest_free}
use Rattle.configfs_rows.specs.Subsystems.{fresh_subsystem}
use Rattle.configfs_rows.specs.declared.limits.TheConstants.{MAX_SUBSYSTEMS}
use Rattle.configfs_rows.specs.declared.disks.DiskRow.{DiskRow}
use Rattle.configfs_rows.specs.declared.namespaces.NamespaceRow.{NamespaceRow}
use Rattle.configfs_rows.specs.declared.subsystems.SubsystemRow.{SubsystemRow}
use Rattle.configfs_tree.specs.Asked.{subsystem_place_taken}
use Rattle.configfs_tree.specs.Standing.{IsStanding}
use Rattle.configfs_tree.specs.declared.edits.Attr.TheVariants as attr
use Rattle.configfs_tree.specs.declared.edits.Folder.TheVariants as folder
use Rattle.configfs_tree.specs.declared.configuration.Configuration.{Configuration}
use Rattle.nvmetcli_json.specs.Edits.{made, set_some, allowed}
use Rattle.nvmetcli_json.specs.Saving.{flag_text}
use Rattle.nvmetcli_json.specs.Written.{flat, entry_written, subsystem_written}
use Rattle.nvmetcli_json.proofs.Sorted.{put_last, find_none, find_here}
use Rattle.json_round_trip.specs.Reloads.{IsTyped, unplaced_subsystem}
use Rattle.json_round_trip.proofs.Steps.{Hosts, Rows, Ports, tree_of, Goes, goes_one, goes_nowhere, goes_then}
use Rattle.json_round_trip.proofs.Alike.{plain_entry, Alike, sorted_alike, length_alike, append_alike}
use Rattle.json_round_trip.proofs.Spaces.{with_sub}
use Rattle.json_round_trip.proofs.Growing.{Grows, subsystem_grown}
use Rattle.json_round_trip.proofs.Listed.{spaces_listed}
use Rattle.json_round_trip.proofs.Subsystems.{subsystem_added, any_set, model_set, serial_set, hosts_allowed}

pub no_entries : (K X : Type 0) (R : K → K → Ordering) → map.entries (map.empty {X = X} {R = R}) ≡ []
no_entries K X R = nil_from_length _ (sym (map.len-entries (map.empty {X = X} {R = R}))
    ∙ map.len-empty R X)

module _ (t : Configuration) (stands : IsStanding t) (typed : IsTyped t) (ports : Ports) where
  abbrev hosts : Hosts
  hosts = t.settings.hosts

  -- the tree with one more subsystem, as it is in that tree but for its position
  pub record Made (m : Rows) (count : ℕ) (disks : List DiskRow) (s : SubsystemRow) : Type 0 where
    pub at : ℕ
    pub count' : ℕ
    pub disks' : List DiskRow
    pub goes : Goes (tree_of hosts m ports count disks) (subsystem_written s)
        (with_sub hosts m ports (record s { at = at }) count' disks')
    pub grows : Grows t (map.insert m s.nqn (record s { at = at })) disks'

  pub subsystem_made : (m : Rows) (count : ℕ) (disks : List DiskRow) (s : SubsystemRow)
      → map.get t.settings.subsystems s.nqn ≡ Some s → map.get m s.nqn ≡ None
      → map.len m < MAX_SUBSYSTEMS → Grows t m disks → Made m count disks s
  unfolding subsystem_written
  subsystem_made m count disks s found new room g =
      let row = stands.sound.subsystems s.nqn s found in
      let f = folder.Subsystem s.nqn in
      let at = lowest_free MAX_SUBSYSTEMS 0
      (subsystem_place_taken (tree_of hosts m ports count disks)) in
      let r1 = fresh_subsystem s.nqn at in
      let r2 = record r1 { allow_any_host = s.allow_any_host } in
      let r3 = record r2 { model_name = s.model_name } in
      let r4 = record r3 { serial = s.serial } in
      let r5 = record r4 { allowed_hosts = s.allowed_hosts } in
      let any = set_some f attr.AllowAnyHost (Some (flag_text s.allow_any_host)) in
      let model = set_some f attr.ModelName (Some s.model_name) in
      let serial = set_some f attr.Serial (Some s.serial) in
      let links = flat (λ host. allowed s.nqn host ∷ []) (map.keys s.allowed_hosts) in
      let g5 : Grows t (map.insert m s.nqn r5) disks = subsystem_grown t m disks r5 g new refl room
      refl in
      let all = spaces_listed t stands typed hosts m ports (map.entries s.namespaces) [] r5 count
      disks s.namespaces (no_entries ℕ NamespaceRow nat_cmp) refl
      (λ nsid n e. record { s = s; found = found; space = e }) g5 in
      record {
        at = at;
        count' = all.count';
        disks' = all.disks';
        goes = goes_then _ _ _ (made f ∷ [] ++ (any ++ model ++ serial) ++ links)
            (flat (entry_written s.nqn) (map.entries s.namespaces))
            (goes_then _ _ _ (made f ∷ [] ++ (any ++ model ++ serial)) links
            (goes_then _ _ _ (made f ∷ []) (any ++ model ++ serial)
            (goes_one _ _ _ (subsystem_added hosts m ports s.nqn count disks row.not_discovery new
            room))
            (goes_then _ _ _ any (model ++ serial)
            (goes_one _ _ _ (any_set hosts m ports r1 count disks s.allow_any_host
            (map.len-empty name_order (Unit {0}))))
            (goes_then _ _ _ model serial
            (goes_one _ _ _ (model_set hosts m ports r2 count disks s.model_name row.model_name))
            (goes_one _ _ _ (serial_set hosts m ports r3 count disks s.serial row.serial)))))
            (hosts_allowed hosts m ports (map.entries s.allowed_hosts) [] r4 count disks
            s.allowed_hosts (no_entries (List ℕ) (Unit {0}) name_order) refl row.any_host
            row.allowed))
            all.goes;
        grows = all.grows;
      }

  -- ---- all subsystems
  pub record MadeAll (m : Rows) (count : ℕ) (disks : List DiskRow)
      (xs : List (List ℕ × SubsystemRow)) : Type 0 where
    pub m' : Rows
    pub count' : ℕ
    pub disks' : List DiskRow
    pub goes : Goes (tree_of hosts m ports count disks)
        (flat subsystem_written (each (λ (e : List ℕ × SubsystemRow). e.1) xs))
        (tree_of hosts m' ports count' disks')
    pub alike : Alike name_order unplaced_subsystem (map.entries m')
        (map.entries t.settings.subsystems)
    pub grows : Grows t m' disks'

  pub subsystems_made : (xs done old : List (List ℕ × SubsystemRow)) (m : Rows) (count : ℕ)
      (disks : List DiskRow) → map.entries m ≡ done → Alike name_order unplaced_subsystem done old
      → map.entries t.settings.subsystems ≡ old ++ xs
      → map.len t.settings.subsystems ≤ MAX_SUBSYSTEMS → Grows t m disks
      → MadeAll m count disks xs
  unfolding flat
  subsystems_made [] done old m count disks now alike is few g = record {
    m' = m;
    count' = count;
    disks' = disks;
    goes = goes_nowhere _ _ refl;
    alike = ap (λ (es : List (List ℕ × SubsystemRow)). each
        (plain_entry name_order unplaced_subsystem) es) now ∙ (alike
        ∙ ap (λ (es : List (List ℕ × SubsystemRow)). each
        (plain_entry name_order unplaced_subsystem) es) (sym (append-nil old) ∙ sym is));
    grows = g;
  }
  subsystems_made (x ∷ xs) done old m count disks now alike is few g =
      let s = x.1 in
      let sorted : T (is_sorted name_order (old ++ x ∷ xs)) = subst (λ es. T
      (is_sorted name_order es)) is (map.entries_sorted t.settings.subsystems) in
      let found : map.get t.settings.subsystems x.0 ≡ Some s =
      map.get-entries t.settings.subsystems x.0
      ∙ (ap (find name_order x.0) is ∙ find_here nat_list_cmp_total old x xs sorted) in
      let own : s.nqn ≡ x.0 = stands.placed.subsystems.own_key x.0 s found in
      let found' : map.get t.settings.subsystems s.nqn ≡ Some s =
      ap (map.get t.settings.subsystems) own ∙ found in
      let last = λ (at : ℕ). append_alike name_order unplaced_subsystem done old
      ((s.nqn, record s { at = at }) ∷ []) (x ∷ []) alike
      (ap (λ (k : List ℕ). (k, unplaced_subsystem s) ∷ []) own) in
      let sorted' = λ (at : ℕ). sorted_alike name_order unplaced_subsystem (old ++ x ∷ xs)
      (done ++ (s.nqn, record s { at = at }) ∷ xs) (append_alike name_order unplaced_subsystem old done
      (x ∷ xs) ((s.nqn, record s { at = at }) ∷ xs) (sym alike)
      (ap (λ (k : List ℕ). (k, unplaced_subsystem s) ∷ each (plain_entry name_order unplaced_subsystem) xs)
      (sym own))) sorted in
      let new : map.get m s.nqn ≡ None = map.get-entries m s.nqn ∙ (ap (find name_order s.nqn) now
      ∙ find_none nat_list_cmp_total done (s.nqn, record s { at = 0 }) xs (sorted' 0)) in
      let size : map.len m ≡ length old = map.len-entries m ∙ (ap length now
      ∙ length_alike name_order unplaced_subsystem done old alike) in
      let all : map.len t.settings.subsystems ≡ length (old ++ x ∷ xs) =
      map.len-entries t.settings.subsystems ∙ ap length is in
      let more : length (old ++ x ∷ xs) ≡ length old + length (x ∷ xs) =
      length-append old (x ∷ xs) in
      let room : map.len m < MAX_SUBSYSTEMS = omega (arith, size, all, more, few) in
      let one = subsystem_made m count disks s found' new room g in
      let row = record s { at = one.at } in
      let now' : map.entries (map.insert m s.nqn row) ≡ done ++ (s.nqn, row) ∷ [] =
      map.entries-insert nat_list_cmp_total m s.nqn row ∙ (ap (put name_order s.nqn row) now
      ∙ put_last nat_list_cmp_total done (s.nqn, row) xs (sorted' one.at)) in
      let rest = subsystems_made xs (done ++ (s.nqn, row) ∷ []) (old ++ x ∷ []) (map.insert m s.nqn
      row) one.count' one.disks' now' (last one.at) (is ∙ sym (append_assoc old (x ∷ []) xs)) few
      one.grows in
      record {
        m' = rest.m';
        count' = rest.count';
        disks' = rest.disks';
        goes = goes_then _ _ _ (subsystem_written s)
            (flat subsystem_written (each (λ (e : List ℕ × SubsystemRow). e.1) xs))
            one.goes rest.goes;
        alike = rest.alike;
        grows = rest.grows;
      }
