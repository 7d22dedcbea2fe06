-- Each accepted edit keeps the standing facts.
use Rattle.std.proofs.Common.{◌≡◌, ℕ, ◌==◌, ◌||◌, nat_lt, false, List, Option, Some, None, is_some, refl, sym, ap, subst, ◌∙◌, IsTrue}
use mathlib.Core.Logic.{⊎_elim}
use Rattle.std.proofs.lemmas.Bool.{both_ways, eq-eqb}
use Rattle.std.specs.Ordering.{nat_cmp}
use Rattle.std.specs.Cmp.{nat_cmp_total}
use Rattle.std.specs.Cmp.Lexicographic.{nat_list_cmp_total}
use Rattle.std.specs.FinMap as map
use Rattle.std.specs.FinMap.{FinMap, nat_cmp-IsAntisymmetric, slice_cmp-IsAntisymmetric, IsAntisymmetric}
use Rattle.configfs_rows.specs.Nqns.{name_order}
use Rattle.configfs_rows.specs.Maps.{update_at}
use Rattle.configfs_rows.specs.Rows.{put_in}
use Rattle.configfs_rows.specs.Subsystems.{fresh_subsystem, put_namespace}
use Rattle.configfs_rows.specs.Holders.{holds_path}
use Rattle.configfs_tree.specs.Outcome.{with_settings, on_subsystem, on_port, counted}
use Rattle.configfs_tree.specs.Standing.{Placed, placed_row, placed_in, placed, HasHolders, SubsystemPlaces, IsPlaced}
use Rattle.configfs_rows.specs.declared.limits.TheConstants.{MAX_SUBSYSTEMS, MAX_PORTS}
use Rattle.configfs_rows.specs.declared.namespaces.NamespaceRow.{NamespaceRow}
use Rattle.configfs_rows.specs.declared.namespaces.NamespacePut.{NamespacePut}
use Rattle.configfs_rows.specs.declared.subsystems.SubsystemRow.{SubsystemRow}
use Rattle.sqe_cqe.specs.declared.rows.Ana.{Ana}
use Rattle.configfs_rows.specs.declared.ports.PortRow.{PortRow}
use Rattle.configfs_tree.specs.Sound.{Hosts}
use Rattle.configfs_tree.specs.declared.configuration.Attached.{Attached}
use Rattle.configfs_tree.specs.declared.configuration.Configuration.{Configuration}
use Rattle.configfs_rows.proofs.Gets.{some_same, none_some, cases_key, get-insert_at, get-insert_beside, get-remove_at, get-remove_beside, get-update_at, get-update_beside, update_none, was_at}
use Rattle.configfs_rows.proofs.Placing.{places_updated}
use Rattle.configfs_tree.proofs.Decided.{left_false, none_below}
use Rattle.configfs_tree.proofs.Held.{here, cases_name, moved_same, altered_kept, altered_free}

abbrev pub Rows : Type 0
Rows = FinMap name_order SubsystemRow

pub names_same : IsAntisymmetric name_order
names_same = slice_cmp-IsAntisymmetric nat_cmp-IsAntisymmetric

-- ---- where namespaces stand after an edit
at_sub : (m : Rows) (sub : List ℕ) (f : SubsystemRow → SubsystemRow) (j : ℕ)
    → ((s : SubsystemRow) → placed_in j (Some (f s)) ≡ placed_in j (Some s))
    → (found : Option SubsystemRow) → map.get m sub ≡ found → placed (update_at m sub f) sub j
    ≡ placed m sub j
at_sub m sub f j same None e = ap (λ (n : Rows). placed n sub j)
    (update_none nat_list_cmp_total names_same m sub f e)
at_sub m sub f j same (Some s) e = ap (placed_in j) (get-update_at nat_list_cmp_total names_same m
    sub f s e) ∙ (same s ∙ ap (placed_in j) (sym e))

-- an edit of a subsystem that leaves its position and its namespaces
pub placed_attr : (m : Rows) (sub : List ℕ) (f : SubsystemRow → SubsystemRow)
    → ((s : SubsystemRow) (j : ℕ) → placed_in j (Some (f s)) ≡ placed_in j (Some s))
    → (a : List ℕ) (j : ℕ) → placed (update_at m sub f) a j ≡ placed m a j
placed_attr m sub f same a j = ⊎_elim
    (λ (e : a ≡ sub). subst (λ (p : List ℕ). placed (update_at m sub f) p j
    ≡ placed m p j) (sym e) (at_sub m sub f j (λ s. same s j) (map.get m sub) refl))
    (λ ne. ap (placed_in j) (get-update_beside nat_list_cmp_total names_same m sub f a ne))
    (cases_name a sub)

abbrev pub Spaces : Type 0
Spaces = FinMap nat_cmp NamespaceRow

-- a subsystem with its namespaces edited
abbrev pub with_spaces : (Spaces → Spaces) → SubsystemRow → SubsystemRow
with_spaces g s = record s { namespaces = g s.namespaces }

-- an edit of one namespace leaves the others
pub placed_others : (m : Rows) (sub : List ℕ) (nsid : ℕ) (g : Spaces → Spaces)
    → ((ns : Spaces) (j : ℕ) → (j ≡ nsid → ⊥) → map.get (g ns) j ≡ map.get ns j)
    → (a : List ℕ) (j : ℕ) → (a ≡ sub → j ≡ nsid → ⊥) → placed (update_at m sub (with_spaces g)) a j
    ≡ placed m a j
placed_others m sub nsid g beside a j apart = ⊎_elim
    (λ (e : a ≡ sub). subst (λ (p : List ℕ). placed (update_at m sub (with_spaces g)) p j
    ≡ placed m p j) (sym e)
    (at_sub m sub (with_spaces g) j (λ s. ap (placed_row s.at) (beside s.namespaces j (apart e)))
    (map.get m sub) refl))
    (λ ne. ap (placed_in j) (get-update_beside nat_list_cmp_total names_same m sub (with_spaces g) a
    ne))
    (cases_name a sub)

pub placed_here : (m : Rows) (sub : List ℕ) (nsid : ℕ) (g : Spaces → Spaces) (s : SubsystemRow)
    → map.get m sub ≡ Some s → placed (update_at m sub (with_spaces g)) sub nsid
    ≡ placed_row s.at (map.get (g s.namespaces) nsid)
placed_here m sub nsid g s e = ap (placed_in nsid) (get-update_at nat_list_cmp_total names_same m
    sub (with_spaces g) s e)

pub placed_was : (m : Rows) (sub : List ℕ) (nsid : ℕ) (s : SubsystemRow) (n : Option NamespaceRow)
    → map.get m sub ≡ Some s → map.get s.namespaces nsid ≡ n → placed m sub nsid ≡ placed_row s.at n
placed_was m sub nsid s n e f = ap (placed_in nsid) e ∙ ap (placed_row s.at) f

-- one that has no namespace and no allowed host
pub no_namespaces : (s : SubsystemRow) → (nat_lt 0 (map.len s.namespaces)
    || nat_lt 0 (map.len s.allowed_hosts)) ≡ false → s.namespaces ≡ map.empty
no_namespaces s unfilled = map.empty_of_len s.namespaces (none_below (map.len s.namespaces)
    (left_false (nat_lt 0 (map.len s.namespaces)) (nat_lt 0 (map.len s.allowed_hosts)) unfilled))

no_spaces : (s : SubsystemRow) (j : ℕ) → s.namespaces ≡ map.empty → placed_in j (Some s) ≡ None
no_spaces s j e = ap (placed_row s.at) (ap (λ (ns : Spaces). map.get ns j) e
    ∙ map.get-empty nat_cmp j)

pub placed_made : (m : Rows) (sub : List ℕ) (at : ℕ) → map.get m sub ≡ None → (a : List ℕ) (j : ℕ)
    → placed (map.insert m sub (fresh_subsystem sub at)) a j ≡ placed m a j
placed_made m sub at e a j = ⊎_elim
    (λ (is : a ≡ sub). subst (λ (p : List ℕ). placed (map.insert m sub (fresh_subsystem sub at)) p j
    ≡ placed m p j) (sym is)
    (ap (placed_in j) (get-insert_at nat_list_cmp_total names_same m sub (fresh_subsystem sub at))
    ∙ (no_spaces (fresh_subsystem sub at) j refl ∙ ap (placed_in j) (sym e))))
    (λ ne. ap (placed_in j) (get-insert_beside nat_list_cmp_total names_same m sub
    (fresh_subsystem sub at) a ne))
    (cases_name a sub)

pub placed_removed : (m : Rows) (sub : List ℕ) (s : SubsystemRow) → map.get m sub ≡ Some s
    → s.namespaces ≡ map.empty → (a : List ℕ) (j : ℕ) → placed (map.remove m sub) a j ≡ placed m a j
placed_removed m sub s e empty a j = ⊎_elim
    (λ (is : a ≡ sub). subst (λ (p : List ℕ). placed (map.remove m sub) p j ≡ placed m p j) (sym is)
    (ap (placed_in j) (get-remove_at nat_list_cmp_total names_same m sub)
    ∙ (sym (no_spaces s j empty) ∙ ap (placed_in j) (sym e))))
    (λ ne. ap (placed_in j) (get-remove_beside nat_list_cmp_total names_same m sub a ne))
    (cases_name a sub)

-- ---- trees with one part changed
pub subsystems_changed : (t : Configuration) (m : Rows) → SubsystemPlaces m
    → HasHolders (placed m) t.disks → IsPlaced t
    → IsPlaced (with_settings t (record t.settings { subsystems = m }))
subsystems_changed t m places holders h = record {
  subsystems = places;
  ports = h.ports;
  group_one =
      h.group_one;
  holders = holders;
}

-- a part that rows, places and disks don't lie in
pub changed_beside : (t : Configuration) (hosts : Hosts) (attached : Attached) (count : ℕ)
    → IsPlaced t → IsPlaced (with_settings t (record t.settings {
      hosts = hosts;
      attached = attached;
      ana_count = count;
    }))
changed_beside t hosts attached count h = record {
  subsystems = h.subsystems;
  ports = h.ports;
  group_one = h.group_one;
  holders = h.holders;
}

pub count_changed : (t : Configuration) → IsPlaced t → IsPlaced (counted t)
count_changed t h = changed_beside t t.settings.hosts t.settings.attached
    (counted t).settings.ana_count h

-- an attribute or a link of a subsystem
pub subsystem_put : (t : Configuration) (sub : List ℕ) (f : SubsystemRow → SubsystemRow)
    → ((s : SubsystemRow) → (f s).nqn ≡ s.nqn) → ((s : SubsystemRow) → (f s).at ≡ s.at)
    → ((s : SubsystemRow) (j : ℕ) → placed_in j (Some (f s)) ≡ placed_in j (Some s)) → IsPlaced t
    → IsPlaced (on_subsystem t sub f)
subsystem_put t sub f keys ats same h = subsystems_changed t (update_at t.settings.subsystems sub f)
    (places_updated nat_list_cmp_total names_same (λ s. s.nqn) (λ s. s.at) MAX_SUBSYSTEMS
    t.settings.subsystems sub f keys ats h.subsystems)
    (moved_same (placed t.settings.subsystems) (placed (update_at t.settings.subsystems sub f))
    t.disks (placed_attr t.settings.subsystems sub f same) h.holders) h

-- a namespace that keeps its path, and isn't enabled unless it was
pub namespace_put : (t : Configuration) (sub : List ℕ) (nsid : ℕ) (put : NamespacePut)
    (s : SubsystemRow) (n : NamespaceRow) → map.get t.settings.subsystems sub ≡ Some s
    → map.get s.namespaces nsid ≡ Some n → (put_in put n).device_path ≡ n.device_path
    → (IsTrue (put_in put n).enabled → IsTrue n.enabled) → IsPlaced t
    → IsPlaced (on_subsystem t sub (put_namespace nsid put))
namespace_put t sub nsid put s n e f path_is enabled_is h =
    let m = t.settings.subsystems in
    let g = λ (ns : Spaces). update_at ns nsid (put_in put) in
    subsystems_changed t (update_at m sub (with_spaces g))
    (places_updated nat_list_cmp_total names_same (λ s. s.nqn) (λ s. s.at) MAX_SUBSYSTEMS m sub
    (with_spaces g) (λ s. refl) (λ s. refl) h.subsystems)
    (altered_kept (placed m) (placed (update_at m sub (with_spaces g))) t.disks sub nsid
    (placed_others m sub nsid g (λ ns j ne. get-update_beside nat_cmp_total nat_cmp-IsAntisymmetric
    ns nsid (put_in put) j ne))
    s.at n (put_in put n) (placed_was m sub nsid s (Some n) e f)
    (placed_here m sub nsid g s e ∙ ap (placed_row s.at) (get-update_at nat_cmp_total
    nat_cmp-IsAntisymmetric s.namespaces nsid (put_in put) n f))
    path_is enabled_is h.holders) h

-- a namespace that isn't live, before and after
pub namespace_free : (t : Configuration) (sub : List ℕ) (nsid : ℕ) (g : Spaces
    → Spaces) (s : SubsystemRow) → map.get t.settings.subsystems sub ≡ Some s
    → ((ns : Spaces) (j : ℕ) → (j ≡ nsid → ⊥) → map.get (g ns) j ≡ map.get ns j)
    → ((n : NamespaceRow) → map.get s.namespaces nsid ≡ Some n
    → holds_path t.disks s.at nsid n.device_path ≡ false) → ((n : NamespaceRow)
    → map.get (g s.namespaces) nsid ≡ Some n → n.enabled ≡ false) → IsPlaced t
    → IsPlaced (on_subsystem t sub (with_spaces g))
namespace_free t sub nsid g s e beside was_free is_off h =
    let m = t.settings.subsystems in
    subsystems_changed t (update_at m sub (with_spaces g))
    (places_updated nat_list_cmp_total names_same (λ s. s.nqn) (λ s. s.at) MAX_SUBSYSTEMS m sub
    (with_spaces g) (λ s. refl) (λ s. refl) h.subsystems)
    (altered_free (placed m) (placed (update_at m sub (with_spaces g))) t.disks sub nsid
    (placed_others m sub nsid g beside)
    (λ x got. free_row x (map.get s.namespaces nsid) refl (sym
    (placed_was m sub nsid s (map.get s.namespaces nsid) e refl) ∙ got))
    (λ x got. off_row x (map.get (g s.namespaces) nsid) refl (sym (placed_here m sub nsid g s e)
    ∙ got))
    h.holders) h where
      free_row : (x : Placed) (n : Option NamespaceRow) → map.get s.namespaces nsid ≡ n
          → placed_row s.at n ≡ Some x → holds_path t.disks x.at nsid x.row.device_path ≡ false
      free_row x None f got = absurd (none_some x got)
      free_row x (Some n) f got = subst (λ (y : Placed). holds_path t.disks y.at nsid
          y.row.device_path ≡ false) (some_same (here s.at n) x got) (was_free n f)

      off_row : (x : Placed) (n : Option NamespaceRow) → map.get (g s.namespaces) nsid ≡ n
          → placed_row s.at n ≡ Some x → x.row.enabled ≡ false
      off_row x None f got = absurd (none_some x got)
      off_row x (Some n) f got = subst (λ (y : Placed). y.row.enabled
          ≡ false) (some_same (here s.at n) x got) (is_off n f)

-- ---- ports
pub port_put : (t : Configuration) (id : ℕ) (f : PortRow → PortRow)
    → ((p : PortRow) → (f p).id ≡ p.id) → ((p : PortRow) → (f p).at ≡ p.at)
    → ((p : PortRow) → IsTrue (map.contains_key p.groups 1)
    → IsTrue (map.contains_key (f p).groups 1)) → IsPlaced t → IsPlaced (on_port t id f)
port_put t id f keys ats ones h = record {
  subsystems = h.subsystems;
  ports = places_updated nat_cmp_total nat_cmp-IsAntisymmetric (λ (p : PortRow). p.id)
      (λ (p : PortRow). p.at) MAX_PORTS t.settings.ports id f keys ats h.ports;
  group_one = λ q p e.
      let w = was_at nat_cmp_total nat_cmp-IsAntisymmetric t.settings.ports id f q p e in
      let one : IsTrue (map.contains_key w.x.groups 1) = h.group_one q w.x w.found in
      ⊎_elim
      (λ z. subst (λ (y : PortRow). IsTrue (map.contains_key y.groups 1)) (sym z.1) (ones w.x one))
      (λ z. subst (λ (y : PortRow). IsTrue (map.contains_key y.groups 1)) (sym z) one)
      w.how;
  holders = h.holders;
}

pub one_put : (p : PortRow) (group : ℕ) (state : Ana) → IsTrue (map.contains_key p.groups 1)
    → IsTrue (map.contains_key (map.insert p.groups group state) 1)
one_put p group state one = ⊎_elim
    (λ (e : 1 ≡ group). subst (λ (q : ℕ). IsTrue (map.contains_key (map.insert p.groups group state)
    q)) (sym e) (ap is_some (get-insert_at nat_cmp_total nat_cmp-IsAntisymmetric p.groups group
    state)))
    (λ ne. ap is_some (get-insert_beside nat_cmp_total nat_cmp-IsAntisymmetric p.groups group state
    1 ne) ∙ one)
    (cases_key nat_cmp_total nat_cmp-IsAntisymmetric 1 group)

pub one_removed : (p : PortRow) (group : ℕ) → (group == 1) ≡ false
    → IsTrue (map.contains_key p.groups 1) → IsTrue (map.contains_key (map.remove p.groups group) 1)
one_removed p group other one = ap is_some (get-remove_beside nat_cmp_total nat_cmp-IsAntisymmetric
    p.groups group 1 (λ e. both_ways (group == 1) other (eq-eqb group 1 (sym e)))) ∙ one
