-- What an edit comes to: an errno, or the new tree with what changed.
use Rattle.std.specs.Prelude.{ℕ, ◌+◌, ◌^◌, ◌-◌, min, Bool, true, false, if◌then◌else◌, List, [], ◌∷◌, Option, Some, None}
use Rattle.std.specs.FinMap as map
use Rattle.configfs_rows.specs.Maps.{update_at}
use Rattle.configfs_rows.specs.declared.namespaces.NamespaceRow.{NamespaceRow}
use Rattle.configfs_rows.specs.declared.subsystems.SubsystemRow.{SubsystemRow}
use Rattle.sqe_cqe.specs.declared.rows.Ana.{Ana}
use Rattle.configfs_rows.specs.declared.ports.PortRow.{PortRow}
use Rattle.configfs_tree.specs.NamespaceRows.{rows_of}
use Rattle.configfs_tree.specs.declared.edits.Errno.{Errno}
use Rattle.configfs_tree.specs.declared.edits.Errno.TheVariants.{ENOENT}
use Rattle.configfs_tree.specs.declared.edits.Change.{Change}
use Rattle.configfs_tree.specs.declared.edits.Touched.{Touched}
use Rattle.configfs_tree.specs.declared.edits.Touched.TheVariants as touches
use Rattle.configfs_tree.specs.declared.configuration.Settings.{Settings}
use Rattle.configfs_tree.specs.declared.configuration.Configuration.{Configuration}

pub data Outcome : Type 0 where
  Refuses : Errno → Outcome
  Accepts : Configuration → Change → Outcome

-- the first row whose condition holds decides, and if none holds the edit is accepted
unfoldable pub first_of : List (Bool × Errno) → Outcome → Outcome
first_of [] accepted = accepted
first_of (row ∷ rows) accepted = if row.0 then Refuses row.1 else first_of rows accepted

-- ---- what an accepted edit changes
abbrev pub nothing : Change
nothing = record {
  published = false;
  namespace = None;
  ana_port = None;
  ana_subsystem = None;
  drains = false;
  touched = touches.Nothing;
}

abbrev pub touching : Touched → Change
touching touched = record nothing { published = true; touched = touched }

-- a namespace change: it gets enabled, or it begins to drain
abbrev pub namespace_change : ℕ → ℕ → Bool → Change
namespace_change at nsid drains = record (touching (touches.Namespace at nsid)) {
  namespace =
      Some (at, nsid);
  drains = drains;
}

-- an ANA change of the port at a position
abbrev pub port_change : ℕ → ℕ → Change
port_change at group = record (touching (touches.Group at group)) { ana_port = Some at }

-- an ANA change of the subsystem at a position
abbrev pub group_change : ℕ → ℕ → Change
group_change at nsid = record (touching (touches.Namespace at nsid)) { ana_subsystem = Some at }

-- the edit of one value, or of another
unfoldable pub either : Bool → Outcome → Outcome → Outcome
either b x y = if b then x else y

-- to write the value that stands changes nothing
unfoldable pub unless_stands : Bool → Configuration → Outcome → Outcome
unless_stands stands t changed = if stands then Accepts t nothing else changed

-- ---- the tree with one part changed
abbrev pub with_settings : Configuration → Settings → Configuration
with_settings t settings = record t { settings = settings }

abbrev pub on_subsystem : Configuration → List ℕ → (SubsystemRow → SubsystemRow) → Configuration
on_subsystem t sub f = with_settings t (record t.settings {
  subsystems =
      update_at t.settings.subsystems sub f;
})

abbrev pub on_port : Configuration → ℕ → (PortRow → PortRow) → Configuration
on_port t id f = with_settings t (record t.settings { ports = update_at t.settings.ports id f })

-- one more ANA change; the count stands still at the last number of 64 bits
abbrev pub counted : Configuration → Configuration
counted t = with_settings t (record t.settings {
  ana_count =
      min (t.settings.ana_count + 1) (2 ^ 64 - 1);
})

-- ---- a folder that must be there
unfoldable pub if_subsystem : Option SubsystemRow → (SubsystemRow → Outcome) → Outcome
if_subsystem None outcome = Refuses ENOENT
if_subsystem (Some s) outcome = outcome s

unfoldable pub if_rows : Option (SubsystemRow × NamespaceRow) → (SubsystemRow → NamespaceRow
    → Outcome) → Outcome
if_rows None outcome = Refuses ENOENT
if_rows (Some rows) outcome = outcome rows.0 rows.1

unfoldable pub if_port : Option PortRow → (PortRow → Outcome) → Outcome
if_port None outcome = Refuses ENOENT
if_port (Some p) outcome = outcome p

unfoldable pub if_group : Option Ana → (Ana → Outcome) → Outcome
if_group None outcome = Refuses ENOENT
if_group (Some state) outcome = outcome state

abbrev pub in_subsystem : Configuration → List ℕ → (SubsystemRow → Outcome) → Outcome
in_subsystem t sub outcome = if_subsystem (map.get t.settings.subsystems sub) outcome

abbrev pub in_namespace : Configuration → List ℕ → ℕ → (SubsystemRow → NamespaceRow → Outcome)
    → Outcome
in_namespace t sub nsid outcome = if_rows (rows_of t.settings sub nsid) outcome

abbrev pub in_port : Configuration → ℕ → (PortRow → Outcome) → Outcome
in_port t id outcome = if_port (map.get t.settings.ports id) outcome

abbrev pub in_group : Configuration → ℕ → ℕ → (PortRow → Ana → Outcome) → Outcome
in_group t id group outcome = in_port t id (λ p. if_group (map.get p.groups group) (outcome p))
