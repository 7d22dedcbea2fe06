-- The namespaces of a subsystem are made again one after another, in the order of their NSIDs.
use Rattle.std.proofs.Common.{◌≡◌, inl, ℕ, Bool, true, false, T, List, [], ◌∷◌, ◌++◌, map as each, cond, Option, Some, None, refl, sym, ap, subst, ◌∙◌, append_assoc}
use Rattle.std.proofs.lemmas.List.{append-nil}
use Rattle.std.specs.Fmt.{decimal}
use mathlib.Core.Logic.{⊎_elim}
use Rattle.std.proofs.lemmas.Bool.{cases_Bool}
use Rattle.std.proofs.lemmas.List.Elements.{All-map, recursion_from_All}
use Rattle.std.specs.List.{All, AllByRecursion}
use Rattle.std.specs.declared.cmp.Ordering.{Ordering}
use Rattle.std.specs.Ordering.{nat_cmp, eq_by_cmp}
use Rattle.std.specs.Cmp.{nat_cmp_total}
use Rattle.std.specs.FinMap as map
use Rattle.std.specs.FinMap.{FinMap, find, put, is_sorted}
use Rattle.uuid.specs.Text.{lower, hyphenated_text, parsed}
use Rattle.uuid.proofs.RoundTrips.{parses_hyphenated}
use Rattle.configfs_rows.specs.Holders.{disk_number}
use Rattle.configfs_rows.specs.Values.{is_text, is_path}
use Rattle.configfs_rows.specs.declared.disks.DiskRow.{DiskRow}
use Rattle.configfs_rows.specs.declared.namespaces.NamespaceRow.{NamespaceRow}
use Rattle.configfs_rows.specs.declared.subsystems.SubsystemRow.{SubsystemRow}
use Rattle.configfs_rows.proofs.Decimals.{group_names_again}
use Rattle.configfs_rows.proofs.Gets.{some_same, none_some}
use Rattle.configfs_tree.specs.Sound.{is_kept_path}
use Rattle.configfs_tree.specs.Standing.{IsStanding}
use Rattle.configfs_tree.specs.declared.configuration.Configuration.{Configuration}
use Rattle.nvmetcli_json.specs.Written.{flat, entry_written, namespace_written}
use Rattle.nvmetcli_json.proofs.Shown.{right_true}
use Rattle.nvmetcli_json.proofs.Sorted.{put_last, find_none, find_here}
use Rattle.json_round_trip.specs.Reloads.{IsIdentifier, HasIdentifiers, HasAllIdentifiers, IsTyped}
use Rattle.json_round_trip.proofs.Steps.{Hosts, Rows, Ports, Spaces, Goes, goes_nowhere, goes_then}
use Rattle.json_round_trip.proofs.Spaces.{with_sub, with_space, sub_found, sub_put, disks_after, is_good_path, SpaceReady, space_made}
use Rattle.json_round_trip.proofs.Growing.{Grows, RowOf, is_idle, can_enable, grown}

good_path : (path : Option (List ℕ)) → is_kept_path path ≡ true → is_good_path path ≡ true
good_path None is = refl
good_path (Some path) is = right_true (is_text path) (is_path path) is

reads_again : (bytes : List ℕ) → IsIdentifier bytes → parsed (hyphenated_text lower bytes) ≡ Some bytes
reads_again bytes is = sym (parses_hyphenated lower bytes (inl refl) is.long is.small)

-- what all rows of a map have, one that is found has
found_has : {K X : Type 0} (R : K → K → Ordering) (P : X → Type 0) (q : K) (es : List (K × X)) (x : X)
    → AllByRecursion P (each (λ (e : K × X). e.1) es) → find R q es ≡ Some x → P x
found_has R P q [] x all is = absurd (none_some x is)
found_has R P q (e ∷ es) x all is = ⊎_elim
    (λ (hit : eq_by_cmp R q e.0 ≡ true). subst P (some_same e.1 x
    (sym (ap (λ (b : Bool). cond b (Some e.1) (find R q es)) hit) ∙ is)) all.0)
    (λ (miss : eq_by_cmp R q e.0 ≡ false). found_has R P q es x all.1
    (sym (ap (λ (b : Bool). cond b (Some e.1) (find R q es)) miss) ∙ is))
    (cases_Bool (eq_by_cmp R q e.0))

pub value_has : {K X : Type 0} {R : K → K → Ordering} (P : X → Type 0) (m : FinMap R X)
    → All P (map.values m) → (q : K) (x : X) → map.get m q ≡ Some x → P x
value_has {R = R} P m all q x is = found_has R P q (map.entries m) x
    (recursion_from_All P (map.values m) all) (sym (map.get-entries m q) ∙ is)

identified : (t : Configuration) → IsTyped t → (sub : List ℕ) (s : SubsystemRow) (nsid : ℕ)
    (n : NamespaceRow) → map.get t.settings.subsystems sub ≡ Some s
    → map.get s.namespaces nsid ≡ Some n → HasIdentifiers n
identified t typed sub s nsid n found space = value_has HasIdentifiers s.namespaces
    (All-map HasIdentifiers (λ (e : ℕ × NamespaceRow). e.1) (map.entries s.namespaces)
    (value_has HasAllIdentifiers t.settings.subsystems typed.identifiers sub s found))
    nsid n space

module _ (t : Configuration) (stands : IsStanding t) (typed : IsTyped t) (hosts : Hosts) (m : Rows)
    (ports : Ports) where
  space_ready : (s : SubsystemRow) (nsid : ℕ) (n : NamespaceRow) (disks : List DiskRow)
      → Grows t (map.insert m s.nqn s) disks → map.get s.namespaces nsid ≡ None
      → RowOf t s.nqn nsid n → SpaceReady s nsid disks n
  space_ready s nsid n disks g new of =
      let row = (stands.sound.subsystems s.nqn of.s of.found).namespaces nsid n of.space in
      let ids = identified t typed s.nqn of.s nsid n of.found of.space in
      let here_is = sub_found hosts m ports s in
      record {
        low = row.nsid_low;
        high = row.nsid_high;
        new = new;
        reads = record {
          path_is = good_path n.device_path row.path;
          uuid_is = reads_again n.uuid ids.uuid;
          nguid_is = reads_again n.nguid ids.nguid;
        };
        group = (group_names_again (decimal n.group) n.group).1
            (row.group_low, row.group_high, refl);
        disk = row.disk ∙ ap (λ (ps : List (List ℕ)). disk_number ps n.device_path) (sym g.paths);
        idle = is_idle t (map.insert m s.nqn s) disks s nsid n stands g here_is new of;
        can = can_enable t (map.insert m s.nqn s) disks s nsid n stands g here_is new of;
      }

  -- the tree with all of a subsystem's namespaces
  pub record Listed (s : SubsystemRow) (count : ℕ) (disks : List DiskRow)
      (xs : List (ℕ × NamespaceRow)) (all : Spaces) : Type 0 where
    pub count' : ℕ
    pub disks' : List DiskRow
    pub goes : Goes (with_sub hosts m ports s count disks) (flat (entry_written s.nqn) xs)
        (with_sub hosts m ports (record s { namespaces = all }) count' disks')
    pub grows : Grows t (map.insert m s.nqn (record s { namespaces = all })) disks'

  pub spaces_listed : (xs done : List (ℕ × NamespaceRow)) (s : SubsystemRow) (count : ℕ)
      (disks : List DiskRow) (all : Spaces) → map.entries s.namespaces ≡ done
      → map.entries all ≡ done ++ xs
      → ((nsid : ℕ) (n : NamespaceRow) → map.get all nsid ≡ Some n → RowOf t s.nqn nsid n)
      → Grows t (map.insert m s.nqn s) disks → Listed s count disks xs all
  unfolding flat
  spaces_listed [] done s count disks all now is of g =
      let same : s.namespaces ≡ all = map.same_entries_map _ _ (now ∙ (sym (append-nil done)
      ∙ sym is)) in
      record {
        count' = count;
        disks' = disks;
        goes = goes_nowhere _ _ (ap (λ (ns : Spaces). with_sub hosts m ports (record s {
          namespaces = ns;
        }) count disks) same);
        grows = subst (λ (ns : Spaces). Grows t (map.insert m s.nqn (record s {
          namespaces = ns;
        })) disks) same g;
      }
  spaces_listed (x ∷ xs) done s count disks all now is of g =
      let sorted : T (is_sorted nat_cmp (done ++ x ∷ xs)) = subst (λ es. T
      (is_sorted nat_cmp es)) is (map.entries_sorted all) in
      let new : map.get s.namespaces x.0 ≡ None = map.get-entries s.namespaces x.0
      ∙ (ap (find nat_cmp x.0) now ∙ find_none nat_cmp_total done x xs sorted) in
      let found : map.get all x.0 ≡ Some x.1 = map.get-entries all x.0
      ∙ (ap (find nat_cmp x.0) is ∙ find_here nat_cmp_total done x xs sorted) in
      let row : RowOf t s.nqn x.0 x.1 = of x.0 x.1 found in
      let here_is = sub_found hosts m ports s in
      let now' : map.entries (map.insert s.namespaces x.0 x.1) ≡ done ++ x ∷ [] =
      map.entries-insert nat_cmp_total s.namespaces x.0 x.1
      ∙ (ap (put nat_cmp x.0 x.1) now ∙ put_last nat_cmp_total done x xs sorted) in
      let s' = with_space hosts m ports s x.0 x.1 in
      let disks' = disks_after s.at x.0 x.1.device_path x.1.enabled disks in
      let g' : Grows t (map.insert m s.nqn s') disks' =
      subst (λ (w : Rows). Grows t w disks')
      (sub_put hosts m ports s (λ (r : SubsystemRow). record r {
        namespaces = map.insert r.namespaces x.0 x.1;
      }))
      (grown t (map.insert m s.nqn s) disks s x.0 x.1 stands g here_is new row) in
      let rest = spaces_listed xs (done ++ x ∷ []) s' _ disks' all now'
      (is ∙ sym (append_assoc done (x ∷ []) xs)) of g' in
      record {
        count' = rest.count';
        disks' = rest.disks';
        goes = goes_then _ _ _ (namespace_written s.nqn x.0 x.1) (flat (entry_written s.nqn) xs)
            (space_made hosts m ports s x.0 count x.1 disks
            (space_ready s x.0 x.1 disks g new row))
            rest.goes;
        grows = rest.grows;
      }
