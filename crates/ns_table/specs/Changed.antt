-- Which words an edit changes: those that its change tells of.
use Rattle.std.specs.Prelude.{◌≡◌, ◌⊎◌, ℕ, ◌==◌, ◌&&◌, ◌||◌, Bool, false, if◌then◌else◌, List, Option, Some, None, is_some, IsTrue}
use Rattle.std.specs.FinMap as maps
use Rattle.mem_bdev.specs.Blocks.{Blocks}
use Rattle.sqe_cqe.specs.declared.controllers.ControllerRow.{ControllerRow}
use Rattle.configfs_rows.specs.declared.namespaces.NamespaceRow.{NamespaceRow}
use Rattle.configfs_rows.specs.declared.subsystems.SubsystemRow.{SubsystemRow}
use Rattle.configfs_rows.specs.declared.ports.PortRow.{PortRow}
use Rattle.configfs_tree.specs.declared.configuration.Configuration.{Configuration}
use Rattle.configfs_tree.specs.declared.edits.Change.{Change}
use Rattle.configfs_tree.specs.declared.edits.Touched.TheVariants as touches
use Rattle.configfs_tree.specs.Links.{subsystem_row}
use Rattle.configfs_tree.specs.Standing.{Placed, IsStanding}
use Rattle.configfs_tree.specs.Told.{Tells, space}
use Rattle.tree_target.specs.Views.{space_in}
use Rattle.ns_table.specs.Positions.{Place, Shown, Ready, Changes, SubsystemStamp, PortStamp, State, Space}
use Rattle.ns_table.specs.Words.{Stamps, Shape, word_for}

-- ---- stamps
abbrev pub is_pair : ℕ → ℕ → Option (ℕ × ℕ) → Bool
is_pair at nsid None = false
is_pair at nsid (Some x) = (x.0 == at) && (x.1 == nsid)

abbrev pub is_at : ℕ → Option ℕ → Bool
is_at at None = false
is_at at (Some n) = n == at

-- the stamps after a change that this serial publishes
abbrev pub stamps_after : ℕ → Change → Stamps → Stamps
stamps_after serial c old = record {
  space = λ s n. if is_pair s n c.namespace then serial else old.space s n;
  subsystem = λ s. if is_at s c.ana_subsystem then serial else old.subsystem s;
  port = λ p. if is_at p c.ana_port then serial else old.port p;
}

-- ---- what a change tells of
-- the number of the disk that the namespace at an NSID keeps
abbrev pub disk_in : Option NamespaceRow → Option ℕ
disk_in None = None
disk_in (Some n) = n.disk

-- a namespace that turned keeps this disk
pub record TurnsOn (u : Configuration) (c : Change) (disk : ℕ) : Type 0 where
  pub at : ℕ
  pub nsid : ℕ
  pub told : c.namespace ≡ Some (at, nsid)
  pub on : disk_in (space_in nsid (subsystem_row u at)) ≡ Some disk

-- the change of the tree after it tells of the word at a place
abbrev pub IsTold : Configuration → Change → Place → Type 0
IsTold u c (Shown disk) = TurnsOn u c disk
IsTold u c (Ready ctrl) = c.touched ≡ touches.Controller ctrl
IsTold u c Changes = IsTrue (is_some c.ana_port || is_some c.ana_subsystem)
IsTold u c (SubsystemStamp sub) = c.ana_subsystem ≡ Some sub
IsTold u c (PortStamp port) = c.ana_port ≡ Some port
IsTold u c (State port group) = (c.touched ≡ touches.Group port group)
    ⊎ ((c.touched ≡ touches.Port port) × (group ≡ 1))
IsTold u c (Space sub nsid part) = (c.touched ≡ touches.Namespace sub nsid)
    ⊎ (c.namespace ≡ Some (sub, nsid))

-- ---- the law
-- what edits keep, beside what a change tells of: a namespace that is enabled before or after keeps
-- the number of its disk, and a subsystem or a port that stays keeps its position
pub record Keeps (t u : Configuration) : Type 0 where
  pub disks : (sub : List ℕ) (nsid : ℕ) (x y : Placed) → space t sub nsid ≡ Some x
      → space u sub nsid ≡ Some y → IsTrue (x.row.enabled || y.row.enabled)
      → y.row.disk ≡ x.row.disk
  pub subsystems : (sub : List ℕ) (r s : SubsystemRow)
      → maps.get t.settings.subsystems sub ≡ Some r → maps.get u.settings.subsystems sub ≡ Some s
      → s.at ≡ r.at
  pub ports : (id : ℕ) (p q : PortRow) → maps.get t.settings.ports id ≡ Some p
      → maps.get u.settings.ports id ≡ Some q → q.at ≡ p.at

abbrev pub shape_before : Configuration → List ControllerRow → List Blocks → Stamps → Shape
shape_before t controllers blocks stamps = record {
  tree = t;
  controllers = controllers;
  blocks = blocks;
  stamps = stamps;
}

abbrev pub WordsChangeWhereTold : Type 0
WordsChangeWhereTold = (t u : Configuration) (c : Change) (controllers : List ControllerRow)
    (blocks : List Blocks) (stamps : Stamps) (serial : ℕ) → IsStanding t → IsStanding u
    → Tells t u c → Keeps t u → (p : Place)
    → (word_for (shape_before u controllers blocks (stamps_after serial c stamps)) p
    ≡ word_for (shape_before t controllers blocks stamps) p) ⊎ IsTold u c p
