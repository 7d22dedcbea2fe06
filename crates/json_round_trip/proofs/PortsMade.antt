-- The ports are made again one after another, in the order of their numbers: each at a position of
-- its own.
use Rattle.std.proofs.Common.{◌≡◌, ◌⊎◌, ◌≤◌, ◌<◌, ◌+◌, ◌==◌, ◌||◌, nat_le, ℕ, Bool, true, false, cond, IsTrue, T, List, [], ◌∷◌, ◌++◌, map as each, length, Some, None, is_some, refl, sym, ap, subst, ◌∙◌, append_assoc, arith}
use mathlib.Core.Logic.{⊎_elim}
use Rattle.std.proofs.lemmas.Bool.{cases_Bool, both_ways, eqb-true}
use Rattle.std.proofs.lemmas.List.{append-nil, length-append, nil_from_length}
use Rattle.std.specs.Ordering.{nat_cmp, is_lt, eq_by_cmp}
use Rattle.std.specs.Cmp.{nat_cmp_total, ranked}
use Rattle.std.specs.declared.cmp.Ordering.{Ordering}
use Rattle.std.specs.declared.cmp.Ordering.TheVariants.{Less, Equal, Greater}
use Rattle.std.specs.FinMap as map
use Rattle.std.specs.FinMap.{find, put, is_sorted, nat_cmp-IsAntisymmetric}
use Rattle.std.specs.FinMap.Entries.{below_all}
use Rattle.configfs_rows.specs.Nqns.{name_order}
use Rattle.configfs_rows.specs.Places.{lowest_free}
use Rattle.configfs_rows.specs.Values.{is_text, is_short, is_trtype, is_adrfam, is_treq, same_state}
use Rattle.configfs_rows.specs.Ports.{fresh_port}
use Rattle.configfs_rows.specs.declared.limits.TheConstants.{MAX_PORTS, MAX_ANA_GROUPS, TRADDR_LEN, TRSVCID_LEN}
use Rattle.configfs_rows.specs.declared.disks.DiskRow.{DiskRow}
use Rattle.configfs_rows.specs.declared.ports.PortRow.{PortRow}
use Rattle.configfs_rows.specs.declared.ports.Address.TheVariants.{Trtype, Adrfam, Traddr, Trsvcid, Treq}
use Rattle.configfs_rows.proofs.Gets.{tied_is, get-insert_at}
use Rattle.sqe_cqe.specs.declared.rows.Ana.{Ana}
use Rattle.sqe_cqe.specs.declared.rows.Ana.TheVariants.{Optimized}
use Rattle.configfs_tree.specs.Asked.{port_place_taken}
use Rattle.configfs_tree.specs.Standing.{IsStanding}
use Rattle.configfs_tree.specs.Table.{set_addr_trtype, set_addr_adrfam, set_addr_treq, set_addr_traddr, set_addr_trsvcid}
use Rattle.configfs_tree.specs.declared.edits.Attr.TheVariants as attr
use Rattle.configfs_tree.specs.declared.edits.Folder.TheVariants as folder
use Rattle.configfs_tree.specs.declared.configuration.Configuration.{Configuration}
use Rattle.nvmetcli_json.specs.Edits.{made, set, set_some, linked}
use Rattle.nvmetcli_json.specs.Laws.{edited}
use Rattle.nvmetcli_json.specs.Saving.{if_set}
use Rattle.nvmetcli_json.specs.Written.{flat, group_written, group_entry_written, port_written}
use Rattle.nvmetcli_json.proofs.Shown.{right_true}
use Rattle.nvmetcli_json.proofs.Sorted.{put_last, find_none, find_here}
use Rattle.json_round_trip.specs.Reloads.{unplaced_port}
use Rattle.json_round_trip.proofs.Steps.{Hosts, Rows, Ports, tree_of, Goes, goes_one, goes_nowhere, goes_then}
use Rattle.json_round_trip.proofs.Spaces.{next}
use Rattle.json_round_trip.proofs.Alike.{plain_entry, Alike, sorted_alike, length_alike, append_alike}
use Rattle.json_round_trip.proofs.Counted.{first, second}
use Rattle.json_round_trip.proofs.Ports.{with_port, with_groups, port_added, address_put, state_set, groups_made, links_made, Groups}

-- ---- group 1 of a port is its first
less : (o : Ordering) → T (is_lt o) → o ≡ Less
less Less p = refl
less Equal p = absurd p
less Greater p = absurd p

find_above : (k : ℕ) (es : List (ℕ × Ana)) → 1 < k → T (below_all nat_cmp k es)
    → find nat_cmp 1 es ≡ None
find_above k [] high below = refl
find_above k (e ∷ es) high below =
    let above : k < e.0 = ranked k e.0 Less (sym (less (nat_cmp k e.0) (first
    (is_lt (nat_cmp k e.0)) (below_all nat_cmp k es) below))) in
    let other : eq_by_cmp nat_cmp 1 e.0 ≡ false = ⊎_elim
    (λ (hit : eq_by_cmp nat_cmp 1 e.0 ≡ true). absurd (let is : 1 ≡ e.0 =
    tied_is nat_cmp_total nat_cmp-IsAntisymmetric 1 e.0 hit in omega arith)) (λ miss. miss)
    (cases_Bool (eq_by_cmp nat_cmp 1 e.0)) in
    ap (λ (b : Bool). cond b (Some e.1) (find nat_cmp 1 es)) other
    ∙ find_above k es high (second (is_lt (nat_cmp k e.0)) (below_all nat_cmp k es) below)

record FirstGroup (es : List (ℕ × Ana)) : Type 0 where
  state : Ana
  rest : List (ℕ × Ana)
  is : es ≡ (1, state) ∷ rest

one_or_above : (k : ℕ) → 1 ≤ k → (1 ≡ k) ⊎ (1 < k)
one_or_above k low = grind arith

first_group : (all : Groups) (es : List (ℕ × Ana)) → map.entries all ≡ es
    → ((group : ℕ) (state : Ana) → map.get all group ≡ Some state → 1 ≤ group)
    → IsTrue (map.contains_key all 1) → FirstGroup es
first_group all [] is low one = absurd (both_ways (map.contains_key all 1) (ap is_some
    (map.get-entries all 1 ∙ ap (find nat_cmp 1) is)) one)
first_group all (e ∷ es) is low one =
    let sorted : T (is_sorted nat_cmp (e ∷ es)) = subst (λ xs. T (is_sorted nat_cmp xs)) is
    (map.entries_sorted all) in
    let found : map.get all e.0 ≡ Some e.1 = map.get-entries all e.0 ∙ (ap (find nat_cmp e.0) is
    ∙ find_here nat_cmp_total [] e es sorted) in
    ⊎_elim
    (λ (here : 1 ≡ e.0). record {
      state = e.1;
      rest = es;
      is = ap (λ (k : ℕ). (k, e.1) ∷ es) (sym here);
    })
    (λ (above : 1 < e.0).
    let other : eq_by_cmp nat_cmp 1 e.0 ≡ false = ⊎_elim
    (λ (hit : eq_by_cmp nat_cmp 1 e.0 ≡ true). absurd (let same : 1 ≡ e.0 =
    tied_is nat_cmp_total nat_cmp-IsAntisymmetric 1 e.0 hit in omega arith)) (λ miss. miss)
    (cases_Bool (eq_by_cmp nat_cmp 1 e.0)) in
    absurd (both_ways (map.contains_key all 1) (ap is_some (map.get-entries all 1
    ∙ (ap (find nat_cmp 1) is
    ∙ (ap (λ (b : Bool). cond b (Some e.1) (find nat_cmp 1 es)) other
    ∙ find_above e.0 es above (first (below_all nat_cmp e.0 es) (is_sorted nat_cmp es) sorted)))))
    one))
    (one_or_above e.0 (low e.0 e.1 found))

no_names : map.entries (map.empty {X = Unit {0}} {R = name_order}) ≡ []
no_names = nil_from_length _ (sym (map.len-entries (map.empty {X = Unit {0}} {R = name_order}))
    ∙ map.len-empty name_order (Unit {0}))

no_groups : map.entries (map.empty {X = Ana} {R = nat_cmp}) ≡ []
no_groups = nil_from_length _ (sym (map.len-entries (map.empty {X = Ana} {R = nat_cmp}))
    ∙ map.len-empty nat_cmp Ana)

nil_of : (value : List ℕ) → (length value == 0) ≡ true → value ≡ []
nil_of value e = nil_from_length value (eqb-true (length value) 0 e)

module _ (t : Configuration) (stands : IsStanding t) (m : Rows)
    (there : (sub : List ℕ) → IsTrue (map.contains_key t.settings.subsystems sub)
    → IsTrue (map.contains_key m sub)) where
  abbrev hosts : Hosts
  hosts = t.settings.hosts

  -- ---- the transport type, where it is set
  trtype_goes : (ports : Ports) (p : PortRow) (value : List ℕ) (count : ℕ) (disks : List DiskRow)
      (b : Bool) → (length value == 0) ≡ b → ((length value == 0) || is_trtype value) ≡ true
      → p.trtype ≡ [] → map.len p.links ≡ 0
      → Goes (with_port hosts m ports p count disks)
      (set_some (folder.Port p.id) attr.Trtype (cond b None (Some value)))
      (with_port hosts m ports (record p { trtype = value }) count disks)
  unfolding set_addr_trtype
  trtype_goes ports p value count disks true empty good unset none = goes_nowhere _ _
      (ap (λ (v : List ℕ). with_port hosts m ports (record p { trtype = v }) count disks)
      (unset ∙ sym (nil_of value empty)))
  trtype_goes ports p value count disks false filled good unset none = goes_one _ _ _ (address_put
      hosts m ports p Trtype (is_trtype value) value count disks
      (sym (ap (λ b. b || is_trtype value) filled) ∙ good) none)

  adrfam_set : (ports : Ports) (p : PortRow) (value : List ℕ) (count : ℕ) (disks : List DiskRow)
      → is_adrfam value ≡ true → map.len p.links ≡ 0
      → edited (with_port hosts m ports p count disks) (set (folder.Port p.id) attr.Adrfam value)
      ≡ Some (with_port hosts m ports (record p { adrfam = value }) count disks)
  unfolding set_addr_adrfam
  adrfam_set ports p value count disks good none = address_put hosts m ports p Adrfam
      (is_adrfam value) value count disks good none

  traddr_set : (ports : Ports) (p : PortRow) (value : List ℕ) (count : ℕ) (disks : List DiskRow)
      → is_short value TRADDR_LEN ≡ true → map.len p.links ≡ 0
      → edited (with_port hosts m ports p count disks) (set (folder.Port p.id) attr.Traddr value)
      ≡ Some (with_port hosts m ports (record p { traddr = value }) count disks)
  unfolding set_addr_traddr
  traddr_set ports p value count disks short none = address_put hosts m ports p Traddr
      (nat_le (length value) TRADDR_LEN) value count disks (right_true (is_text value) _ short) none

  trsvcid_set : (ports : Ports) (p : PortRow) (value : List ℕ) (count : ℕ) (disks : List DiskRow)
      → is_short value TRSVCID_LEN ≡ true → map.len p.links ≡ 0
      → edited (with_port hosts m ports p count disks) (set (folder.Port p.id) attr.Trsvcid value)
      ≡ Some (with_port hosts m ports (record p { trsvcid = value }) count disks)
  unfolding set_addr_trsvcid
  trsvcid_set ports p value count disks short none = address_put hosts m ports p Trsvcid
      (nat_le (length value) TRSVCID_LEN) value count disks (right_true (is_text value) _ short) none

  treq_set : (ports : Ports) (p : PortRow) (value : List ℕ) (count : ℕ) (disks : List DiskRow)
      → is_treq value ≡ true → map.len p.links ≡ 0
      → edited (with_port hosts m ports p count disks) (set (folder.Port p.id) attr.Treq value)
      ≡ Some (with_port hosts m ports (record p { treq = value }) count disks)
  unfolding set_addr_treq
  treq_set ports p value count disks good none = address_put hosts m ports p Treq
      (is_treq value) value count disks good none

  -- ---- all ANA groups: group 1 is there, and gets its state
  record GroupsGo (ports : Ports) (p : PortRow) (count : ℕ) (disks : List DiskRow) (all : Groups)
      : Type 0 where
    count' : ℕ
    goes : Goes (with_port hosts m ports (with_groups p (map.insert map.empty 1 Optimized)) count
        disks) (flat (group_entry_written p.id) (map.entries all))
        (with_port hosts m ports (with_groups p all) count' disks)

  groups_go : (ports : Ports) (p : PortRow) (count : ℕ) (disks : List DiskRow) (all : Groups)
      → ((group : ℕ) (state : Ana) → map.get all group ≡ Some state → 1 ≤ group)
      → ((group : ℕ) (state : Ana) → map.get all group ≡ Some state → group ≤ MAX_ANA_GROUPS)
      → IsTrue (map.contains_key all 1) → GroupsGo ports p count disks all
  unfolding flat group_written
  groups_go ports p count disks all low high one =
      let first = first_group all (map.entries all) refl low one in
      let count1 = cond (same_state Optimized first.state) count (next count) in
      let q = with_groups p (map.insert map.empty 1 first.state) in
      let now : map.entries q.groups ≡ (1, first.state) ∷ [] =
      map.entries-insert nat_cmp_total (map.empty {X = Ana} {R = nat_cmp}) 1 first.state
      ∙ ap (put nat_cmp 1 first.state) no_groups in
      let rest = groups_made hosts m ports first.rest ((1, first.state) ∷ []) q count1 disks all now
      first.is (ap is_some (get-insert_at nat_cmp_total nat_cmp-IsAntisymmetric
      (map.empty {X = Ana} {R = nat_cmp}) 1 first.state)) low high in
      record {
        count' = rest.count';
        goes = subst (λ (es : List (ℕ × Ana)). Goes (with_port hosts m ports (with_groups p
            (map.insert map.empty 1 Optimized)) count disks) (flat (group_entry_written p.id) es)
            (with_port hosts m ports (with_groups p all) rest.count' disks)) (sym first.is)
            (goes_then _ _ _ (group_written p.id 1 first.state)
            (flat (group_entry_written p.id) first.rest)
            (goes_one _ _ _ (state_set hosts m ports p map.empty 1 count Optimized first.state
            disks))
            rest.goes);
      }

  -- the tree with one more port, as it is in that tree but for its position
  pub record PortMade (ports : Ports) (count : ℕ) (disks : List DiskRow) (p : PortRow)
      : Type 0 where
    pub at : ℕ
    pub count' : ℕ
    pub goes : Goes (tree_of hosts m ports count disks) (port_written p)
        (with_port hosts m ports (record p { at = at }) count' disks)

  pub port_made : (ports : Ports) (count : ℕ) (disks : List DiskRow) (p : PortRow)
      → map.get t.settings.ports p.id ≡ Some p → map.get ports p.id ≡ None
      → map.len ports < MAX_PORTS → PortMade ports count disks p
  unfolding port_written
  port_made ports count disks p found new room =
      let row = stands.sound.ports p.id p found in
      let f = folder.Port p.id in
      let at = lowest_free MAX_PORTS 0 (port_place_taken (tree_of hosts m ports count disks)) in
      let r1 = fresh_port p.id at in
      let r2 = record r1 { adrfam = p.adrfam } in
      let r3 = record r2 { traddr = p.traddr } in
      let r4 = record r3 { treq = p.treq } in
      let r5 = record r4 { trsvcid = p.trsvcid } in
      let r6 = record r5 { trtype = p.trtype } in
      let r7 = with_groups r6 p.groups in
      let none : map.len r1.links ≡ 0 = map.len-empty name_order (Unit {0}) in
      let adrfam = set_some f attr.Adrfam (Some p.adrfam) in
      let traddr = set_some f attr.Traddr (Some p.traddr) in
      let treq = set_some f attr.Treq (Some p.treq) in
      let trsvcid = set_some f attr.Trsvcid (Some p.trsvcid) in
      let trtype = set_some f attr.Trtype (if_set p.trtype) in
      let addresses = adrfam ++ traddr ++ treq ++ trsvcid ++ trtype in
      let groups = flat (group_entry_written p.id) (map.entries p.groups) in
      let links = flat (λ sub. linked p.id sub ∷ []) (map.keys p.links) in
      let all = groups_go ports r6 count disks p.groups row.group_low row.group_high
      (stands.placed.group_one p.id p found) in
      record {
        at = at;
        count' = all.count';
        goes = goes_then _ _ _ (made f ∷ [] ++ addresses ++ groups ++ []) links
            (goes_then _ _ _ (made f ∷ [] ++ addresses ++ groups) []
            (goes_then _ _ _ (made f ∷ [] ++ addresses) groups
            (goes_then _ _ _ (made f ∷ []) addresses
            (goes_one _ _ _ (port_added hosts m ports p.id count disks new room))
            (goes_then _ _ _ (adrfam ++ traddr ++ treq ++ trsvcid) trtype
            (goes_then _ _ _ (adrfam ++ traddr ++ treq) trsvcid
            (goes_then _ _ _ (adrfam ++ traddr) treq
            (goes_then _ _ _ adrfam traddr
            (goes_one _ _ _ (adrfam_set ports r1 p.adrfam count disks (row.addresses Adrfam) none))
            (goes_one _ _ _ (traddr_set ports r2 p.traddr count disks (row.addresses Traddr) none)))
            (goes_one _ _ _ (treq_set ports r3 p.treq count disks (row.addresses Treq) none)))
            (goes_one _ _ _ (trsvcid_set ports r4 p.trsvcid count disks (row.addresses Trsvcid)
            none)))
            (trtype_goes ports r5 p.trtype count disks (length p.trtype == 0) refl
            (row.addresses Trtype) refl none)))
            all.goes)
            (goes_nowhere _ _ refl))
            (links_made hosts m ports (map.entries p.links) [] r7 all.count' disks p.links no_names
            refl (λ sub e. there sub (row.links sub e)) row.loop);
      }

  -- ---- all ports
  pub record PortsMade (ports : Ports) (count : ℕ) (disks : List DiskRow)
      (xs : List (ℕ × PortRow)) : Type 0 where
    pub ports' : Ports
    pub count' : ℕ
    pub goes : Goes (tree_of hosts m ports count disks)
        (flat port_written (each (λ (e : ℕ × PortRow). e.1) xs))
        (tree_of hosts m ports' count' disks)
    pub alike : Alike nat_cmp unplaced_port (map.entries ports') (map.entries t.settings.ports)

  pub ports_made : (xs done old : List (ℕ × PortRow)) (ports : Ports) (count : ℕ)
      (disks : List DiskRow) → map.entries ports ≡ done → Alike nat_cmp unplaced_port done old
      → map.entries t.settings.ports ≡ old ++ xs → map.len t.settings.ports ≤ MAX_PORTS
      → PortsMade ports count disks xs
  unfolding flat
  ports_made [] done old ports count disks now alike is few = record {
    ports' = ports;
    count' = count;
    goes = goes_nowhere _ _ refl;
    alike = ap (λ (es : List (ℕ × PortRow)). each (plain_entry nat_cmp unplaced_port) es) now
        ∙ (alike ∙ ap (λ (es : List (ℕ × PortRow)). each (plain_entry nat_cmp unplaced_port) es)
        (sym (append-nil old) ∙ sym is));
  }
  ports_made (x ∷ xs) done old ports count disks now alike is few =
      let p = x.1 in
      let sorted : T (is_sorted nat_cmp (old ++ x ∷ xs)) = subst (λ es. T
      (is_sorted nat_cmp es)) is (map.entries_sorted t.settings.ports) in
      let found : map.get t.settings.ports x.0 ≡ Some p = map.get-entries t.settings.ports x.0
      ∙ (ap (find nat_cmp x.0) is ∙ find_here nat_cmp_total old x xs sorted) in
      let own : p.id ≡ x.0 = stands.placed.ports.own_key x.0 p found in
      let found' : map.get t.settings.ports p.id ≡ Some p =
      ap (map.get t.settings.ports) own ∙ found in
      let last = λ (at : ℕ). append_alike nat_cmp unplaced_port done old
      ((p.id, record p { at = at }) ∷ []) (x ∷ []) alike
      (ap (λ (k : ℕ). (k, unplaced_port p) ∷ []) own) in
      let sorted' = λ (at : ℕ). sorted_alike nat_cmp unplaced_port (old ++ x ∷ xs)
      (done ++ (p.id, record p { at = at }) ∷ xs) (append_alike nat_cmp unplaced_port old done
      (x ∷ xs) ((p.id, record p { at = at }) ∷ xs) (sym alike)
      (ap (λ (k : ℕ). (k, unplaced_port p) ∷ each (plain_entry nat_cmp unplaced_port) xs) (sym own)))
      sorted in
      let new : map.get ports p.id ≡ None = map.get-entries ports p.id ∙ (ap (find nat_cmp p.id) now
      ∙ find_none nat_cmp_total done (p.id, record p { at = 0 }) xs (sorted' 0)) in
      let size : map.len ports ≡ length old = map.len-entries ports ∙ (ap length now
      ∙ length_alike nat_cmp unplaced_port done old alike) in
      let all : map.len t.settings.ports ≡ length (old ++ x ∷ xs) =
      map.len-entries t.settings.ports ∙ ap length is in
      let more : length (old ++ x ∷ xs) ≡ length old + length (x ∷ xs) =
      length-append old (x ∷ xs) in
      let room : map.len ports < MAX_PORTS = omega (arith, size, all, more, few) in
      let one = port_made ports count disks p found' new room in
      let row = record p { at = one.at } in
      let now' : map.entries (map.insert ports p.id row) ≡ done ++ (p.id, row) ∷ [] =
      map.entries-insert nat_cmp_total ports p.id row ∙ (ap (put nat_cmp p.id row) now
      ∙ put_last nat_cmp_total done (p.id, row) xs (sorted' one.at)) in
      let rest = ports_made xs (done ++ (p.id, row) ∷ []) (old ++ x ∷ []) (map.insert ports p.id
      row) one.count' disks now' (last one.at) (is ∙ sym (append_assoc old (x ∷ []) xs)) few in
      record {
        ports' = rest.ports';
        count' = rest.count';
        goes = goes_then _ _ _ (port_written p)
            (flat port_written (each (λ (e : ℕ × PortRow). e.1) xs))
            one.goes rest.goes;
        alike = rest.alike;
      }
