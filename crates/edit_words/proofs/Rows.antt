-- What an edit of one row keeps, and that what it names is in the table.
use Rattle.std.proofs.Common.{◌≡◌, ◌<◌, ℕ, ◌||◌, Bool, true, List, Option, Some, refl, sym, ap, ◌∙◌, IsTrue}
use mathlib.Core.Logic.{⊎_elim}
use Rattle.std.specs.Cmp.{nat_cmp_total, IsTotalOrder}
use Rattle.std.specs.Cmp.Lexicographic.{nat_list_cmp_total}
use Rattle.std.specs.declared.cmp.Ordering.{Ordering}
use Rattle.std.specs.FinMap as map
use Rattle.std.specs.FinMap.{FinMap, nat_cmp-IsAntisymmetric, IsAntisymmetric}
use Rattle.configfs_rows.specs.Maps.{update_at}
use Rattle.configfs_rows.specs.Rows.{put_in}
use Rattle.configfs_rows.specs.Subsystems.{put_namespace}
use Rattle.configfs_rows.specs.declared.disks.DiskRow.{DiskRow}
use Rattle.configfs_rows.specs.declared.namespaces.NamespaceRow.{NamespaceRow}
use Rattle.configfs_rows.specs.declared.namespaces.NamespacePut.{NamespacePut}
use Rattle.configfs_rows.specs.declared.subsystems.SubsystemRow.{SubsystemRow}
use Rattle.configfs_rows.specs.declared.ports.PortRow.{PortRow}
use Rattle.configfs_rows.proofs.Gets.{some_same, none_some, cases_key, get-remove_at, get-remove_beside}
use Rattle.configfs_rows.proofs.Each.{StaysAt, stays_updated}
use Rattle.configfs_tree.specs.Outcome.{with_settings, touching, namespace_change, port_change, group_change, nothing}
use Rattle.configfs_tree.specs.Sound.{Hosts}
use Rattle.configfs_tree.specs.Standing.{Placed, placed, placed_in, IsStanding}
use Rattle.configfs_tree.specs.declared.edits.Change.{Change}
use Rattle.configfs_tree.specs.declared.edits.Touched.TheVariants as touches
use Rattle.configfs_tree.specs.declared.configuration.Configuration.{Configuration}
use Rattle.configfs_tree.proofs.Held.{here}
use Rattle.configfs_tree.proofs.Kept.{Rows, names_same, placed_attr}
use Rattle.configfs_tree.proofs.Slots.{Ports, OneSlot, slot_both, slot_put}
use Rattle.ns_table.specs.Changed.{Keeps}
use Rattle.ns_table.specs.Patches.{FitsChange}
use Rattle.ns_table.specs.Positions.{IsNsid, IsGroup}

-- what is proved of the tree after an accepted edit and of its change
pub record IsFit (t u : Configuration) (c : Change) : Type 0 where
  pub keeps : Keeps t u
  pub fits : FitsChange c

-- ---- positions
abbrev pub AtsKept : {K X : Type 0} {R : K → K → Ordering} → (X → ℕ) → FinMap R X → FinMap R X
    → Type 0
AtsKept {K} {X} at m w = (k : K) (x y : X) → map.get m k ≡ Some x → map.get w k ≡ Some y
    → at y ≡ at x

abbrev any : ℕ → Bool
any n = true

module _ {K X : Type 0} {R : K → K → Ordering} (at : X → ℕ) where
  pub ats_same : (m : FinMap R X) → AtsKept at m m
  ats_same m k x y e f = ap at (some_same y x (sym f ∙ e))

  pub ats_stay : (m w : FinMap R X) → StaysAt at (λ n. true) m w → AtsKept at m w
  ats_stay m w stays k x y e f =
      let r = stays k x e refl in
      ap at (some_same y r.row (sym f ∙ r.found)) ∙ r.at_is

  pub ats_removed : IsTotalOrder R → IsAntisymmetric R → (m : FinMap R X) (q : K)
      → AtsKept at m (map.remove m q)
  ats_removed o same m q k x y e f = ⊎_elim
      (λ (is : k ≡ q). absurd (none_some y (sym (get-remove_at o same m q)
      ∙ (ap (λ (p : K). map.get (map.remove m q) p) (sym is) ∙ f))))
      (λ ne. ap at (some_same y x (sym f ∙ (get-remove_beside o same m q k ne ∙ e))))
      (cases_key o same k q)

-- ---- disks of enabled namespaces
abbrev pub DiskKept : Placed → Placed → Type 0
DiskKept x y = IsTrue (x.row.enabled || y.row.enabled) → y.row.disk ≡ x.row.disk

abbrev pub DisksKept : Rows → Rows → Type 0
DisksKept m w = (a : List ℕ) (j : ℕ) (x y : Placed) → placed m a j ≡ Some x
    → placed w a j ≡ Some y → DiskKept x y

pub disks_same : (m w : Rows) → ((a : List ℕ) (j : ℕ) → placed w a j ≡ placed m a j)
    → DisksKept m w
disks_same m w same a j x y e f on =
    ap (λ (p : Placed). p.row.disk) (some_same y x (sym f ∙ (same a j ∙ e)))

pub disks_slot : (m w : Rows) (sub : List ℕ) (nsid : ℕ) (o v : Option Placed)
    → OneSlot m w sub nsid o v → ((x y : Placed) → o ≡ Some x → v ≡ Some y → DiskKept x y)
    → DisksKept m w
disks_slot m w sub nsid o v one at = slot_both m w sub nsid o v one DiskKept (λ x on. refl) at

-- ---- trees with one part changed
pub subs_keep : (t : Configuration) (w : Rows) (disks : List DiskRow) (count : ℕ)
    → AtsKept (λ (s : SubsystemRow). s.at) t.settings.subsystems w
    → DisksKept t.settings.subsystems w → Keeps t (record {
      settings = record t.settings { subsystems = w; ana_count = count };
      disks = disks;
    })
subs_keep t w disks count ats same = record {
  disks = same;
  subsystems = ats;
  ports = ats_same (λ (p : PortRow). p.at) t.settings.ports;
}

pub ports_keep : (t : Configuration) (w : Ports) (count : ℕ)
    → AtsKept (λ (p : PortRow). p.at) t.settings.ports w → Keeps t (record t {
      settings = record t.settings { ports = w; ana_count = count };
    })
ports_keep t w count ats = record {
  disks = disks_same t.settings.subsystems t.settings.subsystems (λ a j. refl);
  subsystems = ats_same (λ (s : SubsystemRow). s.at) t.settings.subsystems;
  ports = ats;
}

pub hosts_keep : (t : Configuration) (hosts : Hosts)
    → Keeps t (with_settings t (record t.settings { hosts = hosts }))
hosts_keep t hosts = record {
  disks = disks_same t.settings.subsystems t.settings.subsystems (λ a j. refl);
  subsystems = ats_same (λ (s : SubsystemRow). s.at) t.settings.subsystems;
  ports = ats_same (λ (p : PortRow). p.at) t.settings.ports;
}

pub nothing_keeps : (t : Configuration) → Keeps t t
nothing_keeps t = record {
  disks = disks_same t.settings.subsystems t.settings.subsystems (λ a j. refl);
  subsystems = ats_same (λ (s : SubsystemRow). s.at) t.settings.subsystems;
  ports = ats_same (λ (p : PortRow). p.at) t.settings.ports;
}

-- an attribute or a link of a subsystem
pub sub_put : (t : Configuration) (sub : List ℕ) (f : SubsystemRow → SubsystemRow)
    → ((s : SubsystemRow) → (f s).at ≡ s.at) → ((s : SubsystemRow) (j : ℕ)
    → placed_in j (Some (f s)) ≡ placed_in j (Some s)) → Keeps t (with_settings t (record t.settings {
      subsystems = update_at t.settings.subsystems sub f;
    }))
sub_put t sub f ats same = subs_keep t (update_at t.settings.subsystems sub f) t.disks
    t.settings.ana_count
    (ats_stay (λ (s : SubsystemRow). s.at) t.settings.subsystems
    (update_at t.settings.subsystems sub f) (stays_updated nat_list_cmp_total names_same
    (λ (s : SubsystemRow). s.at) any t.settings.subsystems sub f ats))
    (disks_same t.settings.subsystems (update_at t.settings.subsystems sub f)
    (placed_attr t.settings.subsystems sub f same))

-- an edit of the namespaces of a subsystem
pub space_keeps : (t : Configuration) (sub : List ℕ) (nsid : ℕ) (f : SubsystemRow
    → SubsystemRow) (disks : List DiskRow) (count : ℕ) (o v : Option Placed)
    → ((s : SubsystemRow) → (f s).at ≡ s.at)
    → OneSlot t.settings.subsystems (update_at t.settings.subsystems sub f) sub nsid o v
    → ((x y : Placed) → o ≡ Some x → v ≡ Some y → DiskKept x y) → Keeps t (record {
      settings = record t.settings {
        subsystems = update_at t.settings.subsystems sub f;
        ana_count = count;
      };
      disks = disks;
    })
space_keeps t sub nsid f disks count o v ats one at =
    subs_keep t (update_at t.settings.subsystems sub f) disks count
    (ats_stay (λ (s : SubsystemRow). s.at) t.settings.subsystems
    (update_at t.settings.subsystems sub f) (stays_updated nat_list_cmp_total names_same
    (λ (s : SubsystemRow). s.at) any t.settings.subsystems sub f ats))
    (disks_slot t.settings.subsystems (update_at t.settings.subsystems sub f) sub nsid o v one at)

-- a namespace that was there with an attribute put
pub put_keeps : (t : Configuration) (sub : List ℕ) (nsid : ℕ) (put : NamespacePut)
    (s : SubsystemRow) (n : NamespaceRow) (disks : List DiskRow) (count : ℕ)
    → map.get t.settings.subsystems sub ≡ Some s → map.get s.namespaces nsid ≡ Some n
    → (IsTrue (n.enabled || (put_in put n).enabled) → (put_in put n).disk ≡ n.disk)
    → Keeps t (record {
      settings = record t.settings {
        subsystems = update_at t.settings.subsystems sub (put_namespace nsid put);
        ana_count = count;
      };
      disks = disks;
    })
put_keeps t sub nsid put s n disks count e f disk =
    space_keeps t sub nsid (put_namespace nsid put) disks count (Some (here s.at n))
    (Some (here s.at (put_in put n))) (λ r. refl)
    (slot_put t.settings.subsystems sub nsid put s n e f)
    (λ x y g h on.
    let xs : here s.at n ≡ x = some_same (here s.at n) x g in
    let ys : here s.at (put_in put n) ≡ y = some_same (here s.at (put_in put n)) y h in
    let was : IsTrue (n.enabled || (put_in put n).enabled) =
    ap (λ (p : Placed). p.row.enabled || (put_in put n).enabled) xs
    ∙ (ap (λ (p : Placed). x.row.enabled || p.row.enabled) ys ∙ on) in
    ap (λ (p : Placed). p.row.disk) (sym ys) ∙ (disk was ∙ ap (λ (p : Placed). p.row.disk) xs))

-- a port with an address, a link or a group put
pub port_put : (t : Configuration) (id : ℕ) (f : PortRow → PortRow) (count : ℕ)
    → ((p : PortRow) → (f p).at ≡ p.at) → Keeps t (record t {
      settings =
          record t.settings { ports = update_at t.settings.ports id f; ana_count = count };
    })
port_put t id f count ats = ports_keep t (update_at t.settings.ports id f) count
    (ats_stay (λ (p : PortRow). p.at) t.settings.ports (update_at t.settings.ports id f)
    (stays_updated nat_cmp_total nat_cmp-IsAntisymmetric (λ (p : PortRow). p.at) any
    t.settings.ports id f ats))

-- ---- what a change names is in the table
pub fits_nothing : FitsChange nothing
fits_nothing = record { touched = tt; namespace = tt; ana_port = tt; ana_subsystem = tt }

pub fits_hosts : FitsChange (touching touches.Nothing)
fits_hosts = record { touched = tt; namespace = tt; ana_port = tt; ana_subsystem = tt }

pub fits_sub : (at : ℕ) → FitsChange (touching (touches.Subsystem at))
fits_sub at = record { touched = tt; namespace = tt; ana_port = tt; ana_subsystem = tt }

pub fits_port : (at : ℕ) → at < 8 → FitsChange (touching (touches.Port at))
fits_port at low = record { touched = low; namespace = tt; ana_port = tt; ana_subsystem = tt }

pub fits_space : (at nsid : ℕ) → IsNsid at nsid
    → FitsChange (touching (touches.Namespace at nsid))
fits_space at nsid is = record { touched = is; namespace = tt; ana_port = tt; ana_subsystem = tt }

pub fits_turn : (at nsid : ℕ) (drains : Bool) → IsNsid at nsid
    → FitsChange (namespace_change at nsid drains)
fits_turn at nsid drains is =
    record { touched = is; namespace = is; ana_port = tt; ana_subsystem = tt }

pub fits_group : (at nsid : ℕ) → IsNsid at nsid → FitsChange (group_change at nsid)
fits_group at nsid is =
    record { touched = is; namespace = tt; ana_port = tt; ana_subsystem = is.0 }

pub fits_state : (at group : ℕ) → IsGroup at group → FitsChange (port_change at group)
fits_state at group is =
    record { touched = is; namespace = tt; ana_port = is.0; ana_subsystem = tt }

module _ (t : Configuration) (st : IsStanding t) where
  pub sub_below : (sub : List ℕ) (s : SubsystemRow) → map.get t.settings.subsystems sub ≡ Some s
      → s.at < 16
  sub_below sub s e = st.placed.subsystems.below sub s e

  pub port_below : (id : ℕ) (p : PortRow) → map.get t.settings.ports id ≡ Some p → p.at < 8
  port_below id p e = st.placed.ports.below id p e

  -- the place of a namespace that stands
  pub nsid_in : (sub : List ℕ) (nsid : ℕ) (s : SubsystemRow) (n : NamespaceRow)
      → map.get t.settings.subsystems sub ≡ Some s → map.get s.namespaces nsid ≡ Some n
      → IsNsid s.at nsid
  nsid_in sub nsid s n e f =
      let stands = (st.sound.subsystems sub s e).namespaces nsid n f in
      (sub_below sub s e, stands.nsid_low, stands.nsid_high)
