-- A port is made again: its addresses, its ANA groups and their states, and its links.
use Rattle.std.proofs.Common.{◌≡◌, ◌≤◌, ◌<◌, ◌==◌, ◌||◌, not, nat_lt, ℕ, Bool, true, false, cond, IsTrue, T, List, [], ◌∷◌, ◌++◌, map as each, codes, Option, Some, None, is_some, refl, sym, ap, subst, ◌∙◌, append_assoc, arith}
use mathlib.Core.Logic.{⊎_elim}
use Rattle.std.proofs.lemmas.Bool.{cases_Bool, both_ways, lt-ltb, eqb-true}
use Rattle.std.proofs.lemmas.Bool.Decides.{nat_tests}
use Rattle.std.proofs.lemmas.List.{append-nil}
use Rattle.std.proofs.lemmas.Slice.Eq.{bytes_eq-Decides}
use Rattle.std.specs.Str.{bytes_eq}
use Rattle.std.specs.Ordering.{nat_cmp}
use Rattle.std.specs.Cmp.{nat_cmp_total}
use Rattle.std.specs.Cmp.Lexicographic.{nat_list_cmp_total}
use Rattle.std.specs.FinMap as map
use Rattle.std.specs.FinMap.{FinMap, find, put, is_sorted, nat_cmp-IsAntisymmetric}
use Rattle.configfs_rows.specs.Nqns.{name_order}
use Rattle.configfs_rows.specs.Maps.{update_at}
use Rattle.configfs_rows.specs.Places.{lowest_free}
use Rattle.configfs_rows.specs.Values.{same_state}
use Rattle.configfs_rows.specs.Ports.{fresh_port, address_of, with_address, put_group, put_link}
use Rattle.configfs_rows.specs.declared.limits.TheConstants.{MAX_PORTS, MAX_ANA_GROUPS}
use Rattle.configfs_rows.specs.declared.disks.DiskRow.{DiskRow}
use Rattle.configfs_rows.specs.declared.ports.PortRow.{PortRow}
use Rattle.configfs_rows.specs.declared.ports.Address.{Address}
use Rattle.configfs_rows.specs.declared.ports.Address.TheVariants.{Trtype, Adrfam, Traddr, Trsvcid, Treq}
use Rattle.configfs_rows.specs.declared.subsystems.SubsystemRow.{SubsystemRow}
use Rattle.configfs_rows.proofs.Gets.{get-insert_at}
use Rattle.sqe_cqe.specs.Anas.{ana_text, ana_named}
use Rattle.sqe_cqe.specs.declared.rows.Ana.{Ana}
use Rattle.sqe_cqe.specs.declared.rows.Ana.TheVariants.{Optimized, NonOptimized, Inaccessible, PersistentLoss, Changing}
use Rattle.configfs_tree.specs.Asked.{port_place_taken}
use Rattle.configfs_tree.specs.Outcome.{Accepts, unless_stands, touching, if_group}
use Rattle.configfs_tree.specs.Table.{mkdir_port, mkdir_ana_group, set_address, set_ana_state, put_state}
use Rattle.configfs_tree.specs.declared.edits.Attr.TheVariants as attr
use Rattle.configfs_tree.specs.declared.edits.Touched.TheVariants as touches
use Rattle.configfs_tree.specs.declared.edits.Folder.TheVariants as folder
use Rattle.configfs_tree.specs.declared.configuration.Configuration.{Configuration}
use Rattle.configfs_tree.proofs.Kept.{one_put}
use Rattle.link_rules.specs.Table.{link_subsystem}
use Rattle.link_rules.specs.declared.edits.Edit.{Edit}
use Rattle.nvmetcli_json.specs.Edits.{made, set, set_some, linked}
use Rattle.nvmetcli_json.specs.Laws.{made_tree, edited}
use Rattle.nvmetcli_json.specs.Loading.{made_group}
use Rattle.nvmetcli_json.specs.Written.{flat, group_written, group_entry_written}
use Rattle.nvmetcli_json.proofs.Sorted.{put_last, find_none, find_here}
use Rattle.json_round_trip.proofs.Steps.{Hosts, Rows, Ports, tree_of, Goes, goes_one, goes_nowhere, goes_then, passes, in_sub, at_port, update_here, insert_again}
use Rattle.json_round_trip.proofs.Spaces.{next, or_same}

abbrev pub Names : Type 0
Names = FinMap name_order (Unit {0})

abbrev pub Groups : Type 0
Groups = FinMap nat_cmp Ana

abbrev pub with_groups : PortRow → Groups → PortRow
with_groups p groups = record p { groups = groups }

same_state_is : (a b : Ana) → same_state a b ≡ true → a ≡ b
same_state_is Optimized Optimized e = refl
same_state_is NonOptimized NonOptimized e = refl
same_state_is Inaccessible Inaccessible e = refl
same_state_is PersistentLoss PersistentLoss e = refl
same_state_is Changing Changing e = refl
same_state_is a b e = absurd cc

named_again : (a : Ana) → ana_named (ana_text a) ≡ Some a
named_again Optimized = refl
named_again NonOptimized = refl
named_again Inaccessible = refl
named_again PersistentLoss = refl
named_again Changing = refl

record FoundRow (o : Option SubsystemRow) : Type 0 where
  s : SubsystemRow
  is : o ≡ Some s

found_row : (o : Option SubsystemRow) → is_some o ≡ true → FoundRow o
found_row None is = absurd (both_ways false refl is)
found_row (Some s) is = record { s = s; is = refl }

module _ (hosts : Hosts) (m : Rows) (ports : Ports) where
  abbrev pub with_port : PortRow → ℕ → List DiskRow → Configuration
  with_port p count disks = tree_of hosts m (map.insert ports p.id p) count disks

  pub port_found : (p : PortRow) → map.get (map.insert ports p.id p) p.id ≡ Some p
  port_found p = get-insert_at nat_cmp_total nat_cmp-IsAntisymmetric ports p.id p

  pub port_put : (p : PortRow) (f : PortRow → PortRow)
      → update_at (map.insert ports p.id p) p.id f ≡ map.insert ports p.id (f p)
  port_put p f = update_here nat_cmp_total nat_cmp-IsAntisymmetric ports p.id p f

  pub port_added : (id count : ℕ) (disks : List DiskRow) → map.get ports id ≡ None
      → map.len ports < MAX_PORTS
      → edited (tree_of hosts m ports count disks) (made (folder.Port id))
      ≡ Some (with_port (fresh_port id (lowest_free MAX_PORTS 0
      (port_place_taken (tree_of hosts m ports count disks)))) count disks)
  unfolding mkdir_port
  port_added id count disks new room =
      ap made_tree (passes _ _ (ap is_some new, (ap not (lt-ltb _ _ room), tt)))

  stood : (address : Address) (p : PortRow) (value : List ℕ) → address_of address p ≡ value
      → p ≡ with_address address value p
  stood Trtype p value e = ap (λ (v : List ℕ). with_address Trtype v p) e
  stood Adrfam p value e = ap (λ (v : List ℕ). with_address Adrfam v p) e
  stood Traddr p value e = ap (λ (v : List ℕ). with_address Traddr v p) e
  stood Trsvcid p value e = ap (λ (v : List ℕ). with_address Trsvcid v p) e
  stood Treq p value e = ap (λ (v : List ℕ). with_address Treq v p) e

  pub address_put : (p : PortRow) (address : Address) (good : Bool) (value : List ℕ) (count : ℕ)
      (disks : List DiskRow) → good ≡ true → map.len p.links ≡ 0
      → made_tree (set_address (with_port p count disks) p.id address good value)
      ≡ Some (tree_of hosts m (map.insert ports p.id (with_address address value p)) count disks)
  address_put p address good value count disks is none =
      let t = with_port p count disks in
      ap made_tree (at_port _ p.id p _ (port_found p)
      ∙ passes _ _ (ap (nat_lt 0) none, (ap not is, tt)))
      ∙ (ap (λ (x : Ports). made_tree (unless_stands (bytes_eq (address_of address p) value) t
      (Accepts (tree_of hosts m x count disks) (touching (touches.Port p.at)))))
      (port_put p (with_address address value))
      ∙ or_same (bytes_eq (address_of address p) value) t _ _
      (λ e. ap (λ (q : PortRow). tree_of hosts m (map.insert ports p.id q) count disks)
      (stood address p value ((bytes_eq-Decides (address_of address p) value).0 e))))

  -- ---- ANA groups
  group_made : (p : PortRow) (group count : ℕ) (disks : List DiskRow) → 1 ≤ group
      → group ≤ MAX_ANA_GROUPS → map.get p.groups group ≡ None
      → edited (with_port p count disks) (made (folder.AnaGroup p.id group))
      ≡ Some (with_port (with_groups p (map.insert p.groups group Inaccessible)) (next count) disks)
  unfolding mkdir_ana_group
  group_made p group count disks low high new =
      ap made_tree (at_port _ p.id p _ (port_found p)
      ∙ passes _ _ (in_range group low high, (ap is_some new, tt)))
      ∙ ap (λ (x : Ports). Some (tree_of hosts m x (next count) disks))
      (port_put p (put_group group Inaccessible)) where
        in_range : (g : ℕ) → 1 ≤ g → g ≤ MAX_ANA_GROUPS
            → ((g == 0) || nat_lt MAX_ANA_GROUPS g) ≡ false
        in_range g low high = grind (arith, nat_tests)

  state_or_same : (p : PortRow) (groups : Groups) (group count : ℕ) (old new : Ana)
      (disks : List DiskRow) (b : Bool) → same_state old new ≡ b
      → made_tree (put_state (with_port (with_groups p (map.insert groups group old)) count disks)
      p.id group (with_groups p (map.insert groups group old)) old (Some new))
      ≡ Some (with_port (with_groups p (map.insert groups group new)) (cond b count (next count))
      disks)
  unfolding unless_stands
  state_or_same p groups group count old new disks true e = rw e (ap (λ (a : Ana). Some (with_port
      (with_groups p (map.insert groups group a)) count disks)) (same_state_is old new e))
  state_or_same p groups group count old new disks false e = rw e (ap (λ (x : Ports). Some (tree_of
      hosts m x (next count) disks))
      (port_put (with_groups p (map.insert groups group old)) (put_group group new))
      ∙ ap (λ (gs : Groups). Some (with_port (with_groups p gs) (next count) disks))
      (insert_again nat_cmp_total nat_cmp-IsAntisymmetric groups group old new))

  pub state_set : (p : PortRow) (groups : Groups) (group count : ℕ) (old new : Ana)
      (disks : List DiskRow)
      → edited (with_port (with_groups p (map.insert groups group old)) count disks)
      (set (folder.AnaGroup p.id group) attr.AnaState (ana_text new))
      ≡ Some (with_port (with_groups p (map.insert groups group new))
      (cond (same_state old new) count (next count)) disks)
  unfolding set_ana_state if_group
  state_set p groups group count old new disks =
      let q = with_groups p (map.insert groups group old) in
      ap made_tree (at_port _ p.id q _ (port_found q)
      ∙ (ap (λ (o : Option Ana). if_group o (λ x. put_state (with_port q count disks) p.id group q x
      (ana_named (ana_text new)))) (get-insert_at nat_cmp_total nat_cmp-IsAntisymmetric groups group
      old)
      ∙ ap (put_state (with_port q count disks) p.id group q old) (named_again new)))
      ∙ state_or_same p groups group count old new disks (same_state old new) refl

  -- ---- links
  pub link_made : (p : PortRow) (s : SubsystemRow) (sub : List ℕ) (count : ℕ) (disks : List DiskRow)
      → map.get m sub ≡ Some s → map.get p.links sub ≡ None → p.trtype ≡ codes "loop"
      → edited (with_port p count disks) (linked p.id sub)
      ≡ Some (with_port (record p { links = map.insert p.links sub tt }) count disks)
  unfolding link_subsystem
  link_made p s sub count disks there new loop =
      ap made_tree (at_port _ p.id p _ (port_found p) ∙ (in_sub _ sub s _ there
      ∙ passes _ _ (
        ap is_some new,
        (
          ap not ((bytes_eq-Decides p.trtype (codes "loop")).1 loop),
          tt,
        ),
      )))
      ∙ ap (λ (x : Ports). Some (tree_of hosts m x count disks)) (port_put p (put_link sub true))

  -- a group but group 1, and its state
  pub record GroupMade (p : PortRow) (count : ℕ) (disks : List DiskRow) (group : ℕ) (state : Ana)
      : Type 0 where
    pub count' : ℕ
    pub goes : Goes (with_port p count disks) (group_written p.id group state)
        (with_port (with_groups p (map.insert p.groups group state)) count' disks)

  group_goes : (p : PortRow) (count : ℕ) (disks : List DiskRow) (group : ℕ) (state : Ana)
      → 1 ≤ group → group ≤ MAX_ANA_GROUPS → map.get p.groups group ≡ None → (group == 1) ≡ false
      → GroupMade p count disks group state
  unfolding group_written
  group_goes p count disks group state low high new other =
      let f = folder.AnaGroup p.id group in
      let named = set_some f attr.AnaState (Some (ana_text state)) in
      let is : made_group p.id group ≡ made f ∷ [] =
      ap (λ (b : Bool). cond b [] (made f ∷ [])) other in
      record {
        count' = cond (same_state Inaccessible state) (next count) (next (next count));
        goes = subst (λ (es : List Edit). Goes (with_port p count disks) (es ++ named)
            (with_port (with_groups p (map.insert p.groups group state))
            (cond (same_state Inaccessible state) (next count) (next (next count))) disks)) (sym is)
            (goes_then _ _ _ (made f ∷ []) named
            (goes_one _ _ _ (group_made p group count disks low high new))
            (goes_one _ _ _ (state_set p p.groups group (next count) Inaccessible state disks)));
      }

  pub record GroupsMade (p : PortRow) (count : ℕ) (disks : List DiskRow) (xs : List (ℕ × Ana))
      (all : Groups) : Type 0 where
    pub count' : ℕ
    pub goes : Goes (with_port p count disks) (flat (group_entry_written p.id) xs)
        (with_port (with_groups p all) count' disks)

  -- the groups after group 1, one after another
  pub groups_made : (xs done : List (ℕ × Ana)) (p : PortRow) (count : ℕ) (disks : List DiskRow)
      (all : Groups) → map.entries p.groups ≡ done → map.entries all ≡ done ++ xs
      → IsTrue (map.contains_key p.groups 1)
      → ((group : ℕ) (state : Ana) → map.get all group ≡ Some state → 1 ≤ group)
      → ((group : ℕ) (state : Ana) → map.get all group ≡ Some state → group ≤ MAX_ANA_GROUPS)
      → GroupsMade p count disks xs all
  unfolding flat
  groups_made [] done p count disks all now is one low high =
      let same : p.groups ≡ all = map.same_entries_map _ _ (now ∙ (sym (append-nil done)
      ∙ sym is)) in
      record {
        count' = count;
        goes = goes_nowhere _ _ (ap (λ (gs : Groups). with_port (with_groups p gs) count disks) same);
      }
  groups_made (x ∷ xs) done p count disks all now is one low high =
      let sorted : T (is_sorted nat_cmp (done ++ x ∷ xs)) = subst (λ es. T
      (is_sorted nat_cmp es)) is (map.entries_sorted all) in
      let new : map.get p.groups x.0 ≡ None = map.get-entries p.groups x.0
      ∙ (ap (find nat_cmp x.0) now ∙ find_none nat_cmp_total done x xs sorted) in
      let found : map.get all x.0 ≡ Some x.1 = map.get-entries all x.0
      ∙ (ap (find nat_cmp x.0) is ∙ find_here nat_cmp_total done x xs sorted) in
      let now' : map.entries (map.insert p.groups x.0 x.1) ≡ done ++ x ∷ [] =
      map.entries-insert nat_cmp_total p.groups x.0 x.1
      ∙ (ap (put nat_cmp x.0 x.1) now ∙ put_last nat_cmp_total done x xs sorted) in
      let other : (x.0 == 1) ≡ false = ⊎_elim
      (λ (e : (x.0 == 1) ≡ true). absurd (both_ways (map.contains_key p.groups x.0)
      (ap is_some new) (ap (map.contains_key p.groups) (eqb-true x.0 1 e) ∙ one))) (λ e. e)
      (cases_Bool (x.0 == 1)) in
      let this = group_goes p count disks x.0 x.1 (low x.0 x.1 found) (high x.0 x.1 found) new
      other in
      let rest = groups_made xs (done ++ x ∷ []) (with_groups p (map.insert p.groups x.0 x.1))
      this.count' disks all now' (is ∙ sym (append_assoc done (x ∷ []) xs)) (one_put p x.0 x.1 one)
      low high in
      record {
        count' = rest.count';
        goes = goes_then _ _ _ (group_written p.id x.0 x.1) (flat (group_entry_written p.id) xs)
            this.goes rest.goes;
      }

  -- ---- all links
  pub links_made : (xs done : List (List ℕ × Unit {0})) (p : PortRow) (count : ℕ)
      (disks : List DiskRow) (all : Names) → map.entries p.links ≡ done
      → map.entries all ≡ done ++ xs
      → ((sub : List ℕ) → IsTrue (map.contains_key all sub) → IsTrue (map.contains_key m sub))
      → ((sub : List ℕ) → IsTrue (map.contains_key all sub) → p.trtype ≡ codes "loop")
      → Goes (with_port p count disks) (flat (λ sub. linked p.id sub ∷ []) (each (λ e. e.0) xs))
      (with_port (record p { links = all }) count disks)
  unfolding flat
  links_made [] done p count disks all now is there loop =
      let same : p.links ≡ all = map.same_entries_map _ _ (now ∙ (sym (append-nil done)
      ∙ sym is)) in
      goes_nowhere _ _ (ap (λ (ls : Names). with_port (record p { links = ls }) count disks) same)
  links_made (x ∷ xs) done p count disks all now is there loop =
      let sorted : T (is_sorted name_order (done ++ x ∷ xs)) = subst (λ es. T
      (is_sorted name_order es)) is (map.entries_sorted all) in
      let new : map.get p.links x.0 ≡ None = map.get-entries p.links x.0
      ∙ (ap (find name_order x.0) now ∙ find_none nat_list_cmp_total done x xs sorted) in
      let found : map.contains_key all x.0 ≡ true = ap is_some (map.get-entries all x.0
      ∙ (ap (find name_order x.0) is ∙ find_here nat_list_cmp_total done x xs sorted)) in
      let now' : map.entries (map.insert p.links x.0 tt) ≡ done ++ x ∷ [] =
      map.entries-insert nat_list_cmp_total p.links x.0 tt
      ∙ (ap (put name_order x.0 tt) now ∙ put_last nat_list_cmp_total done x xs sorted) in
      let row = found_row (map.get m x.0) (there x.0 found) in
      goes_then _ _ _ (linked p.id x.0 ∷ [])
      (flat (λ sub. linked p.id sub ∷ []) (each (λ e. e.0) xs))
      (goes_one _ _ _ (link_made p row.s x.0 count disks row.is new (loop x.0 found)))
      (links_made xs (done ++ x ∷ []) (record p { links = map.insert p.links x.0 tt }) count disks
      all now' (is ∙ sym (append_assoc done (x ∷ []) xs)) there loop)
