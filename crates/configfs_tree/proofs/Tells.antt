-- What a change tells of one part that an edit changed.
use Rattle.std.proofs.Common.{◌≡◌, ◌⊎◌, inl, inr, ℕ, Bool, true, false, not, List, Option, Some, None, refl, sym, ap, ◌∙◌}
use mathlib.Core.Logic.{⊎_elim}
use Rattle.std.proofs.lemmas.Bool.{both_ways}
use Rattle.std.specs.declared.cmp.Ordering.{Ordering}
use Rattle.std.specs.Cmp.{IsTotalOrder, nat_cmp_total}
use Rattle.std.specs.FinMap as map
use Rattle.std.specs.FinMap.{FinMap, IsAntisymmetric, nat_cmp-IsAntisymmetric}
use Rattle.configfs_rows.specs.Maps.{update_at}
use Rattle.configfs_rows.specs.Rows.{put_in}
use Rattle.configfs_tree.specs.Outcome.{nothing, touching, namespace_change, port_change, group_change, on_port, counted}
use Rattle.configfs_tree.specs.Standing.{Placed, placed}
use Rattle.configfs_tree.specs.Told.{Tells, NamesSpace, OneOf, OneRow, enabled_row, subsystem_front, port_front, group_in}
use Rattle.configfs_rows.specs.declared.disks.DiskRow.{DiskRow}
use Rattle.configfs_tree.specs.declared.edits.Touched.{Touched}
use Rattle.configfs_tree.specs.declared.edits.Touched.TheVariants as touches
use Rattle.configfs_rows.specs.declared.namespaces.NamespaceRow.{NamespaceRow}
use Rattle.configfs_rows.specs.declared.namespaces.NamespacePut.TheVariants.{Group, Enabled}
use Rattle.configfs_rows.specs.declared.subsystems.SubsystemRow.{SubsystemRow}
use Rattle.configfs_rows.specs.declared.ports.PortRow.{PortRow}
use Rattle.configfs_tree.specs.declared.configuration.Settings.{Settings}
use Rattle.configfs_tree.specs.declared.configuration.Configuration.{Configuration}
use Rattle.configfs_rows.proofs.Gets.{some_same, none_some, cases_key, get-insert_at, get-remove_at, get-update_at, get-update_beside}
use Rattle.configfs_tree.proofs.Held.{here, Slot, is_slot, no_slot, cases_slot, cases_name}
use Rattle.configfs_tree.proofs.Kept.{Rows}
use Rattle.configfs_tree.proofs.Slots.{Ports, OneSlot, slot_look, slot_both, same_ports, other_ports}

-- ---- maps that differ
module _ {K X : Type 0} {R : K → K → Ordering} (o : IsTotalOrder R) (same : IsAntisymmetric R) where
  pub insert_differs : (m : FinMap R X) (k : K) (v : X) → map.get m k ≡ None → map.insert m k v ≡ m
      → ⊥
  insert_differs m k v none e = none_some v (sym none
      ∙ (sym (ap (λ (n : FinMap R X). map.get n k) e) ∙ get-insert_at o same m k v))

  pub insert_other : (m : FinMap R X) (k : K) (v x : X) → map.get m k ≡ Some x → (v ≡ x → ⊥)
      → map.insert m k v ≡ m → ⊥
  insert_other m k v x found ne e = ne (some_same v x (sym (get-insert_at o same m k v)
      ∙ (ap (λ (n : FinMap R X). map.get n k) e ∙ found)))

  pub remove_differs : (m : FinMap R X) (k : K) (x : X) → map.get m k ≡ Some x → map.remove m k ≡ m
      → ⊥
  remove_differs m k x found e = none_some x (sym (get-remove_at o same m k)
      ∙ (ap (λ (n : FinMap R X). map.get n k) e ∙ found))

  pub update_differs : (m : FinMap R X) (k : K) (f : X → X) (x : X) → map.get m k ≡ Some x
      → (f x ≡ x → ⊥) → update_at m k f ≡ m → ⊥
  update_differs m k f x found ne e = ne (some_same (f x) x (sym
      (get-update_at o same m k f x found) ∙ (ap (λ (n : FinMap R X). map.get n k) e ∙ found)))

-- ---- rows that are as before
rows_same : (t u : Configuration) (touched : Touched) → u.settings.subsystems
    ≡ t.settings.subsystems → u.settings.ports ≡ t.settings.ports → OneRow t u touched
rows_same t u touched subs ports = record {
  spaces = λ a j. inl (ap (λ (m : Rows). placed m a j) subs);
  subsystems = λ a. inl (ap (λ (m : Rows). subsystem_front (map.get m a)) subs);
  ports = λ id. inl (ap (λ (m : Ports). port_front (map.get m id)) ports);
  groups = λ id group. inl (ap (λ (m : Ports). group_in (map.get m id) group) ports);
}

-- of one key, what is of the row
moved_to : {K X : Type 0} {R : K → K → Ordering} (m w : FinMap R X) (k q : K) (x : X)
    → OneOf (map.get m k) (map.get w k) x → q ≡ k → OneOf (map.get m q) (map.get w q) x
moved_to m w k q x one is = ⊎_elim
    (λ e. inl (ap (λ y. map.get m y) is ∙ e))
    (λ e. inr (ap (λ y. map.get w y) is ∙ e))
    one

-- a subsystem is made, removed or changed beside its namespaces
subsystem_row : (t u : Configuration) (sub : List ℕ) (s : SubsystemRow)
    → u.settings.ports ≡ t.settings.ports → ((a : List ℕ) (j : ℕ)
    → placed u.settings.subsystems a j ≡ placed t.settings.subsystems a j)
    → OneOf (map.get t.settings.subsystems sub) (map.get u.settings.subsystems sub) s
    → ((a : List ℕ) → (a ≡ sub → ⊥) → map.get u.settings.subsystems a
    ≡ map.get t.settings.subsystems a) → OneRow t u (touches.Subsystem s.at)
subsystem_row t u sub s ports same one beside = record {
  spaces = λ a j. inl (same a j);
  subsystems = λ a. ⊎_elim
      (λ is. inr (s, moved_to t.settings.subsystems u.settings.subsystems sub a s one is, refl))
      (λ ne. inl (ap subsystem_front (beside a ne)))
      (cases_name a sub);
  ports = λ id. inl (ap (λ (m : Ports). port_front (map.get m id)) ports);
  groups = λ id group. inl (ap (λ (m : Ports). group_in (map.get m id) group) ports);
}

-- a namespace is made, removed or changed
space_row : (t u : Configuration) (sub : List ℕ) (nsid : ℕ) (o v : Option Placed) (x : Placed)
    → u.settings.ports ≡ t.settings.ports → OneSlot t.settings.subsystems u.settings.subsystems sub
    nsid o v → OneOf o v x → OneRow t u (touches.Namespace x.at nsid)
space_row t u sub nsid o v x ports one is = record {
  spaces = λ a j. there a j (cases_slot sub nsid a j);
  subsystems = λ a. inl (one.fronts a);
  ports = λ id. inl (ap (λ (m : Ports). port_front (map.get m id)) ports);
  groups = λ id group. inl (ap (λ (m : Ports). group_in (map.get m id) group) ports);
} where
  m : Rows
  m = t.settings.subsystems

  w : Rows
  w = u.settings.subsystems

  to_slot : (r : Rows) (q : Option Placed) (a : List ℕ) (j : ℕ) → placed r sub nsid ≡ q → a ≡ sub
      → j ≡ nsid → placed r a j ≡ q
  to_slot r q a j e f g = ap (λ (b : List ℕ). placed r b j) f
      ∙ (ap (λ (i : ℕ). placed r sub i) g ∙ e)

  there : (a : List ℕ) (j : ℕ) → Slot sub nsid a j → (placed w a j ≡ placed m a j)
      ⊎ ((y : Placed) × OneOf (placed m a j) (placed w a j) y
      × (touches.Namespace x.at nsid ≡ touches.Namespace y.at j))
  there a j (no_slot ne) = inl (one.others a j ne)
  there a j (is_slot f g) = inr (
    x,
    ⊎_elim (λ e. inl (to_slot m o a j one.before f g
        ∙ e)) (λ e. inr (to_slot w v a j one.after f g ∙ e)) is,
    ap (λ (i : ℕ). touches.Namespace x.at i) (sym g),
  )

-- a port is made, removed or changed beside its ANA groups
port_row : (t u : Configuration) (id : ℕ) (p : PortRow) → u.settings.subsystems
    ≡ t.settings.subsystems → OneOf (map.get t.settings.ports id) (map.get u.settings.ports id) p
    → ((k : ℕ) → (k ≡ id → ⊥) → map.get u.settings.ports k ≡ map.get t.settings.ports k)
    → ((j : ℕ) → (j ≡ 1 → ⊥) → group_in (map.get u.settings.ports id) j
    ≡ group_in (map.get t.settings.ports id) j) → OneRow t u (touches.Port p.at)
port_row t u id p subs one beside others = record {
  spaces = λ a j. inl (ap (λ (m : Rows). placed m a j) subs);
  subsystems = λ a. inl (ap (λ (m : Rows). subsystem_front (map.get m a)) subs);
  ports = λ k. ⊎_elim
      (λ is. inr (p, moved_to t.settings.ports u.settings.ports id k p one is, refl))
      (λ ne. inl (ap port_front (beside k ne)))
      (cases_key nat_cmp_total nat_cmp-IsAntisymmetric k id);
  groups = λ k group. ⊎_elim
      (λ is. ⊎_elim
      (λ first. inr (
        p,
        moved_to t.settings.ports u.settings.ports id k p one is,
        inr (refl, first),
      ))
      (λ ne. inl (ap (λ (y : ℕ). group_in (map.get u.settings.ports y) group) is
      ∙ (others group ne ∙ ap (λ (y : ℕ). group_in (map.get t.settings.ports y) group)
      (sym is))))
      (cases_key nat_cmp_total nat_cmp-IsAntisymmetric group 1))
      (λ ne. inl (ap (λ (o : Option PortRow). group_in o group) (beside k ne)))
      (cases_key nat_cmp_total nat_cmp-IsAntisymmetric k id);
}

-- an ANA group is made, removed or changed
group_row : (t u : Configuration) (id group : ℕ) (p q : PortRow)
    → u.settings.subsystems ≡ t.settings.subsystems → map.get t.settings.ports id ≡ Some p
    → map.get u.settings.ports id ≡ Some q → port_front (Some q) ≡ port_front (Some p)
    → ((j : ℕ) → (j ≡ group → ⊥) → map.get q.groups j ≡ map.get p.groups j)
    → ((k : ℕ) → (k ≡ id → ⊥) → map.get u.settings.ports k ≡ map.get t.settings.ports k)
    → OneRow t u (touches.Group p.at group)
group_row t u id group p q subs e f front others beside = record {
  spaces = λ a j. inl (ap (λ (m : Rows). placed m a j) subs);
  subsystems = λ a. inl (ap (λ (m : Rows). subsystem_front (map.get m a)) subs);
  ports = λ k. ⊎_elim
      (λ is. inl (ap (λ (y : ℕ). port_front (map.get u.settings.ports y)) is
      ∙ (ap port_front f ∙ (front ∙ (ap port_front (sym e)
      ∙ ap (λ (y : ℕ). port_front (map.get t.settings.ports y)) (sym is))))))
      (λ ne. inl (ap port_front (beside k ne)))
      (cases_key nat_cmp_total nat_cmp-IsAntisymmetric k id);
  groups = λ k j. ⊎_elim
      (λ is. ⊎_elim
      (λ same. inr (
        p,
        inl (ap (λ (y : ℕ). map.get t.settings.ports y) is ∙ e),
        inl (ap (λ (y : ℕ). touches.Group p.at y) (sym same)),
      ))
      (λ ne. inl (ap (λ (y : ℕ). group_in (map.get u.settings.ports y) j) is
      ∙ (ap (λ (o : Option PortRow). group_in o j) f ∙ (others j ne
      ∙ (ap (λ (o : Option PortRow). group_in o j) (sym e)
      ∙ ap (λ (y : ℕ). group_in (map.get t.settings.ports y) j) (sym is))))))
      (cases_key nat_cmp_total nat_cmp-IsAntisymmetric j group))
      (λ ne. inl (ap (λ (o : Option PortRow). group_in o j) (beside k ne)))
      (cases_key nat_cmp_total nat_cmp-IsAntisymmetric k id);
}

-- ---- nothing changes
group_same : (m : Rows) (a : List ℕ) (j : ℕ) (x y : Placed) → placed m a j ≡ Some x
    → placed m a j ≡ Some y → y.row.group ≡ x.row.group
group_same m a j x y e f = ap (λ (z : Placed). z.row.group) (some_same y x (sym f ∙ e))

pub tells_nothing : (t : Configuration) → Tells t t nothing
tells_nothing t = record {
  published = inr (refl, refl);
  spaces = λ a j. inl refl;
  space_named = λ at nsid e. absurd (none_some (at, nsid) e);
  space_none = λ _. refl;
  ports = λ id p q e f. inl (same_ports t.settings.ports id p q e f);
  port_named = λ at e. absurd (none_some at e);
  groups = λ a j x y e f. inl (group_same t.settings.subsystems a j x y e f);
  subsystem_named = λ at e. absurd (none_some at e);
  one = inl refl;
  count = refl;
  rows = rows_same t t nothing.touched refl refl;
}

-- ---- a row that raises nothing
abbrev SamePorts : Ports → Ports → Type 0
SamePorts m w = (id : ℕ) (p q : PortRow) → map.get m id ≡ Some p → map.get w id ≡ Some q
    → q.groups ≡ p.groups

abbrev SameGroups : Rows → Rows → Type 0
SameGroups m w = (a : List ℕ) (j : ℕ) (x y : Placed) → placed m a j ≡ Some x → placed w a j ≡ Some y
    → y.row.group ≡ x.row.group

abbrev SameEnabled : Rows → Rows → Type 0
SameEnabled m w = (a : List ℕ) (j : ℕ) → enabled_row (placed w a j) ≡ enabled_row (placed m a j)

tells_touching : (t u : Configuration) (touched : Touched) → (u.settings ≡ t.settings → ⊥)
    → SameEnabled t.settings.subsystems u.settings.subsystems
    → SameGroups t.settings.subsystems u.settings.subsystems
    → SamePorts t.settings.ports u.settings.ports → u.settings.ana_count ≡ t.settings.ana_count
    → OneRow t u touched → Tells t u (touching touched)
tells_touching t u touched differs on groups ports count rows = record {
  published = inl (refl, differs);
  spaces = λ a j. inl (on a j);
  space_named = λ at nsid e. absurd (none_some (at, nsid) e);
  space_none = λ _. refl;
  ports = λ id p q e f. inl (ports id p q e f);
  port_named = λ at e. absurd (none_some at e);
  groups = λ a j x y e f. inl (groups a j x y e f);
  subsystem_named = λ at e. absurd (none_some at e);
  one = inl refl;
  count = count;
  rows = rows;
}

pub hosts_tell : (t : Configuration) (settings : Settings) (touched : Touched)
    → settings.subsystems ≡ t.settings.subsystems → settings.ports ≡ t.settings.ports
    → settings.ana_count ≡ t.settings.ana_count → (settings.hosts ≡ t.settings.hosts → ⊥)
    → Tells t (record t { settings = settings }) (touching touched)
hosts_tell t settings touched subs ports count differs = tells_touching t (record t {
  settings =
      settings;
}) touched (λ e. differs (ap (λ (s : Settings). s.hosts) e))
    (λ a j. ap (λ (m : Rows). enabled_row (placed m a j)) subs)
    (λ a j x y e f. group_same t.settings.subsystems a j x y e
    (sym (ap (λ (m : Rows). placed m a j) subs) ∙ f))
    (λ id p q e f. same_ports t.settings.ports id p q e (sym
    (ap (λ (m : Ports). map.get m id) ports) ∙ f))
    count (rows_same t (record t { settings = settings }) touched subs ports)

-- ---- subsystems and namespaces
abbrev pub with_rows : Configuration → Rows → List DiskRow → ℕ → Configuration
with_rows t w disks count = record {
  settings = record t.settings {
    subsystems = w;
    ana_count =
        count;
  };
  disks = disks;
}

pub rows_tell : (t : Configuration) (w : Rows) (sub : List ℕ) (s : SubsystemRow)
    → OneOf (map.get t.settings.subsystems sub) (map.get w sub) s
    → ((a : List ℕ) → (a ≡ sub → ⊥) → map.get w a ≡ map.get t.settings.subsystems a)
    → (w ≡ t.settings.subsystems → ⊥) → ((a : List ℕ) (j : ℕ)
    → placed w a j ≡ placed t.settings.subsystems a j)
    → Tells t (with_rows t w t.disks t.settings.ana_count) (touching (touches.Subsystem s.at))
rows_tell t w sub s one beside differs same =
    tells_touching t (with_rows t w t.disks t.settings.ana_count) (touches.Subsystem s.at)
    (λ e. differs (ap (λ (s : Settings). s.subsystems) e))
    (λ a j. ap enabled_row (same a j))
    (λ a j x y e f. group_same t.settings.subsystems a j x y e (sym (same a j) ∙ f))
    (λ id p q e f. same_ports t.settings.ports id p q e f) refl
    (subsystem_row t (with_rows t w t.disks t.settings.ana_count) sub s refl same one beside)

slot_differs : (t : Configuration) (w : Rows) (sub : List ℕ) (nsid : ℕ) (o v : Option Placed)
    → OneSlot t.settings.subsystems w sub nsid o v → (v ≡ o → ⊥) → w ≡ t.settings.subsystems → ⊥
slot_differs t w sub nsid o v one ne e = ne (sym one.after ∙ (ap (λ (r : Rows). placed r sub nsid) e
    ∙ one.before))

pub slot_tells : (t : Configuration) (w : Rows) (sub : List ℕ) (nsid : ℕ) (o v : Option Placed)
    (x : Placed) → OneOf o v x → OneSlot t.settings.subsystems w sub nsid o v → (v ≡ o → ⊥)
    → enabled_row v ≡ enabled_row o → ((x y : Placed) → o ≡ Some x → v ≡ Some y
    → y.row.group ≡ x.row.group) → Tells t (with_rows t w t.disks t.settings.ana_count)
    (touching (touches.Namespace x.at nsid))
slot_tells t w sub nsid o v x is one ne on groups =
    tells_touching t (with_rows t w t.disks t.settings.ana_count) (touches.Namespace x.at nsid)
    (λ e. slot_differs t w sub nsid o v one ne (ap (λ (s : Settings). s.subsystems) e))
    (λ a j. slot_look t.settings.subsystems w sub nsid o v one enabled_row on a j)
    (λ a j x y e f. slot_both t.settings.subsystems w sub nsid o v one
    (λ (p q : Placed). q.row.group ≡ p.row.group) (λ p. refl) groups a j x y e f)
    (λ id p q e f. same_ports t.settings.ports id p q e f) refl
    (space_row t (with_rows t w t.disks t.settings.ana_count) sub nsid o v x refl one is)

not_itself : (b : Bool) → not b ≡ b → ⊥
not_itself true e = both_ways false refl e
not_itself false e = both_ways true e refl

-- a namespace gets enabled, or begins to drain
pub turn_tells : (t : Configuration) (w : Rows) (disks : List DiskRow) (sub : List ℕ) (nsid at : ℕ)
    (n : NamespaceRow) (drains : Bool) → n.enabled ≡ drains
    → OneSlot t.settings.subsystems w sub nsid (Some (here at n))
    (Some (here at (put_in (Enabled (not drains)) n)))
    → Tells t (with_rows t w disks t.settings.ana_count) (namespace_change at nsid drains)
turn_tells t w disks sub nsid at n drains was one =
    let m = t.settings.subsystems in
    let x = here at n in
    let y = here at (put_in (Enabled (not drains)) n) in
    record {
      published = inl (
        refl,
        λ e. slot_differs t w sub nsid (Some x) (Some y) one
            (λ f. not_itself drains (ap (λ (z : Placed). z.row.enabled) (some_same y x f)
            ∙ was)) (ap (λ (s : Settings). s.subsystems) e),
      );
      spaces = λ a j. named a j (cases_slot sub nsid a j);
      space_named = λ place j e.
          let p = some_same (at, nsid) (place, j) e in
          let number : nsid ≡ j = ap (λ (q : ℕ × ℕ). q.1) p in
          record {
            sub = sub;
            x = x;
            y = y;
            before = ap (λ (i : ℕ). placed m sub i) (sym number) ∙ one.before;
            after = ap (λ (i : ℕ). placed w sub i) (sym number) ∙ one.after;
            at_is = ap (λ (q : ℕ × ℕ). q.0) p;
            was = was;
            is = refl;
          };
      space_none = λ e. absurd (none_some (at, nsid) (sym e));
      ports = λ id p q e f. inl (same_ports t.settings.ports id p q e f);
      port_named = λ place e. absurd (none_some place e);
      groups = λ a j p q e f. inl (slot_both m w sub nsid (Some x) (Some y) one
          (λ (p q : Placed). q.row.group ≡ p.row.group) (λ p. refl)
          (λ p q e f. ap (λ (z : Placed). z.row.group) (sym (some_same y q f))
          ∙ ap (λ (z : Placed). z.row.group) (some_same x p e)) a j p q e f);
      subsystem_named = λ place e. absurd (none_some place e);
      one = inl refl;
      count = refl;
      rows = space_row t (with_rows t w disks t.settings.ana_count) sub nsid (Some x) (Some y) x
          refl one (inl refl);
    } where
      named : (a : List ℕ) (j : ℕ) → Slot sub nsid a j → (enabled_row (placed w a j)
          ≡ enabled_row (placed t.settings.subsystems a j))
          ⊎ NamesSpace t (namespace_change at nsid drains) a j
      named a j (no_slot ne) = inl (ap enabled_row (one.others a j ne))
      named a j (is_slot e f) = inr (record {
        x = here at n;
        stands = ap (λ (b : List ℕ). placed t.settings.subsystems b j) e
            ∙ (ap (λ (i : ℕ). placed t.settings.subsystems sub i) f ∙ one.before);
        told = ap (λ (i : ℕ). Some (at, i)) (sym f);
      })

-- a namespace comes into another ANA group
pub move_tells : (t : Configuration) (w : Rows) (sub : List ℕ) (nsid at : ℕ) (n : NamespaceRow)
    (group : ℕ) → (n.group ≡ group → ⊥) → OneSlot t.settings.subsystems w sub nsid
    (Some (here at n)) (Some (here at (put_in (Group group) n)))
    → Tells t (counted (with_rows t w t.disks t.settings.ana_count)) (group_change at nsid)
move_tells t w sub nsid at n group ne one =
    let m = t.settings.subsystems in
    let x = here at n in
    let y = here at (put_in (Group group) n) in
    record {
      published = inl (
        refl,
        λ e. slot_differs t w sub nsid (Some x) (Some y) one
            (λ f. ne (sym (ap (λ (z : Placed). z.row.group) (some_same y x f))))
            (ap (λ (s : Settings). s.subsystems) e),
      );
      spaces = λ a j. inl (slot_look m w sub nsid (Some x) (Some y) one enabled_row refl a j);
      space_named = λ place j e. absurd (none_some (place, j) e);
      space_none = λ _. refl;
      ports = λ id p q e f. inl (same_ports t.settings.ports id p q e f);
      port_named = λ place e. absurd (none_some place e);
      groups = λ a j p q e f. slot_both m w sub nsid (Some x) (Some y) one
          (λ (p q : Placed). (q.row.group ≡ p.row.group) ⊎ (Some at ≡ Some p.at)) (λ p. inl refl)
          (λ p q e f. inr (ap (λ (z : Placed). Some z.at) (some_same x p e))) a j p q e f;
      subsystem_named = λ place e. record {
        sub = sub;
        nsid = nsid;
        x = x;
        y = y;
        before = one.before;
        after = one.after;
        at_is = some_same at place e;
        differs = λ f. ne (sym f);
      };
      one = inl refl;
      count = refl;
      rows = space_row t (counted (with_rows t w t.disks t.settings.ana_count)) sub nsid (Some x)
          (Some y) x refl one (inl refl);
    }

-- ---- ports
abbrev pub with_ports : Configuration → Ports → Configuration
with_ports t w = record t { settings = record t.settings { ports = w } }

pub ports_tell : (t : Configuration) (w : Ports) (id : ℕ) (p : PortRow)
    → OneOf (map.get t.settings.ports id) (map.get w id) p → ((k : ℕ) → (k ≡ id → ⊥) → map.get w k
    ≡ map.get t.settings.ports k) → ((j : ℕ) → (j ≡ 1 → ⊥) → group_in (map.get w id) j
    ≡ group_in (map.get t.settings.ports id) j) → (w ≡ t.settings.ports → ⊥)
    → SamePorts t.settings.ports w → Tells t (with_ports t w) (touching (touches.Port p.at))
ports_tell t w id p one beside others differs same =
    tells_touching t (with_ports t w) (touches.Port p.at) (λ e. differs
    (ap (λ (s : Settings). s.ports) e))
    (λ a j. refl)
    (λ a j x y e f. group_same t.settings.subsystems a j x y e f)
    same refl
    (port_row t (with_ports t w) id p refl one beside others)

-- ANA groups of a port differ
pub port_tells : (t : Configuration) (id group : ℕ) (f : PortRow → PortRow) (r : PortRow)
    → map.get t.settings.ports id ≡ Some r → ((f r).groups ≡ r.groups → ⊥)
    → port_front (Some (f r)) ≡ port_front (Some r) → ((j : ℕ) → (j ≡ group → ⊥)
    → map.get (f r).groups j ≡ map.get r.groups j)
    → Tells t (counted (on_port t id f)) (port_change r.at group)
port_tells t id group f r e ne front others =
    let m = t.settings.ports in
    record {
      published = inl (
        refl,
        λ g. update_differs nat_cmp_total nat_cmp-IsAntisymmetric m id f r e
            (λ h. ne (ap (λ (p : PortRow). p.groups) h)) (ap (λ (s : Settings). s.ports) g),
      );
      spaces = λ a j. inl refl;
      space_named = λ at nsid g. absurd (none_some (at, nsid) g);
      space_none = λ _. refl;
      ports = λ k p q g h. other_ports m id f r e k p q g h;
      port_named = λ at g. record {
        id = id;
        p = r;
        q = f r;
        before = e;
        after = get-update_at nat_cmp_total nat_cmp-IsAntisymmetric m id f r e;
        at_is = some_same r.at at g;
        differs = ne;
      };
      groups = λ a j x y g h. inl (group_same t.settings.subsystems a j x y g h);
      subsystem_named = λ at g. absurd (none_some at g);
      one = inr refl;
      count = refl;
      rows = group_row t (counted (on_port t id f)) id group r (f r) refl e
          (get-update_at nat_cmp_total nat_cmp-IsAntisymmetric m id f r e) front others
          (λ k other. get-update_beside nat_cmp_total nat_cmp-IsAntisymmetric m id f k other);
    }
