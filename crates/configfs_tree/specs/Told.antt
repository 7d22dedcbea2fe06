-- What the change that an accepted edit answers tells of the trees before and after it: that the
-- configuration differs, the one namespace that got enabled or began to drain, the one port or the
-- one subsystem with an ANA change, and the one row that isn't as before.
use Rattle.std.specs.Prelude.{◌≡◌, ◌⊎◌, ℕ, ◌+◌, ◌^◌, ◌-◌, ◌||◌, min, not, Bool, false, if◌then◌else◌, List, Option, Some, None, is_some, IsTrue}
use Rattle.std.specs.FinMap as map
use Rattle.configfs_tree.specs.Outcome.{nothing}
use Rattle.configfs_tree.specs.Standing.{Placed, placed}
use Rattle.configfs_tree.specs.declared.edits.Change.{Change}
use Rattle.configfs_tree.specs.declared.edits.Touched.{Touched}
use Rattle.configfs_tree.specs.declared.edits.Touched.TheVariants as touches
use Rattle.configfs_rows.specs.declared.subsystems.SubsystemRow.{SubsystemRow}
use Rattle.sqe_cqe.specs.declared.rows.Ana.{Ana}
use Rattle.configfs_rows.specs.declared.ports.PortRow.{PortRow}
use Rattle.configfs_tree.specs.declared.configuration.Configuration.{Configuration}

-- ---- what is looked at
-- the namespace of a subsystem's name and an NSID, with the subsystem's position
abbrev pub space : Configuration → List ℕ → ℕ → Option Placed
space t sub nsid = placed t.settings.subsystems sub nsid

abbrev pub enabled_row : Option Placed → Bool
enabled_row None = false
enabled_row (Some x) = x.row.enabled

-- it is there and enabled
abbrev pub is_enabled : Configuration → List ℕ → ℕ → Bool
is_enabled t sub nsid = enabled_row (space t sub nsid)

-- ---- what a change names
-- a namespace change names this namespace, by its subsystem's position and its NSID
pub record NamesSpace (t : Configuration) (c : Change) (sub : List ℕ) (nsid : ℕ) : Type 0 where
  pub x : Placed
  pub stands : space t sub nsid ≡ Some x
  pub told : c.namespace ≡ Some (x.at, nsid)

-- a namespace of the subsystem at this position got enabled, or was enabled and begins to drain
pub record SpaceTurns (t u : Configuration) (at nsid : ℕ) (drains : Bool) : Type 0 where
  pub sub : List ℕ
  pub x : Placed
  pub y : Placed
  pub before : space t sub nsid ≡ Some x
  pub after : space u sub nsid ≡ Some y
  pub at_is : x.at ≡ at
  pub was : x.row.enabled ≡ drains
  pub is : y.row.enabled ≡ not drains

-- ANA groups of the port at this position differ
pub record PortDiffers (t u : Configuration) (at : ℕ) : Type 0 where
  pub id : ℕ
  pub p : PortRow
  pub q : PortRow
  pub before : map.get t.settings.ports id ≡ Some p
  pub after : map.get u.settings.ports id ≡ Some q
  pub at_is : p.at ≡ at
  pub differs : q.groups ≡ p.groups → ⊥

-- a namespace of the subsystem at this position came into another ANA group
pub record SpaceMoves (t u : Configuration) (at : ℕ) : Type 0 where
  pub sub : List ℕ
  pub nsid : ℕ
  pub x : Placed
  pub y : Placed
  pub before : space t sub nsid ≡ Some x
  pub after : space u sub nsid ≡ Some y
  pub at_is : x.at ≡ at
  pub differs : y.row.group ≡ x.row.group → ⊥

-- ---- which row an edit is of
-- it stands there before the edit, or after it
abbrev pub OneOf : {X : Type 0} → Option X → Option X → X → Type 0
OneOf o v x = (o ≡ Some x) ⊎ (v ≡ Some x)

-- a subsystem without its namespaces, and a port without its ANA groups
abbrev pub subsystem_front : Option SubsystemRow → Option SubsystemRow
subsystem_front None = None
subsystem_front (Some s) = Some (record s { namespaces = map.empty })

abbrev pub port_front : Option PortRow → Option PortRow
port_front None = None
port_front (Some p) = Some (record p { groups = map.empty })

-- the state of an ANA group that is made
abbrev pub group_in : Option PortRow → ℕ → Option Ana
group_in None group = None
group_in (Some p) group = map.get p.groups group

-- what isn't of the touched row is as before: each namespace, each subsystem beside its namespaces,
-- each port beside its ANA groups, and each ANA group. The row of a port takes its ANA group 1 in
pub record OneRow (t u : Configuration) (touched : Touched) : Type 0 where
  pub spaces : (sub : List ℕ) (nsid : ℕ) → (space u sub nsid ≡ space t sub nsid)
      ⊎ ((x : Placed) × OneOf (space t sub nsid) (space u sub nsid) x
      × (touched ≡ touches.Namespace x.at nsid))
  pub subsystems : (sub : List ℕ) → (subsystem_front (map.get u.settings.subsystems sub)
      ≡ subsystem_front (map.get t.settings.subsystems sub))
      ⊎ ((s : SubsystemRow) × OneOf (map.get t.settings.subsystems sub)
      (map.get u.settings.subsystems sub) s × (touched ≡ touches.Subsystem s.at))
  pub ports : (id : ℕ) → (port_front (map.get u.settings.ports id)
      ≡ port_front (map.get t.settings.ports id)) ⊎ ((p : PortRow)
      × OneOf (map.get t.settings.ports id) (map.get u.settings.ports id) p
      × (touched ≡ touches.Port p.at))
  pub groups : (id group : ℕ) → (group_in (map.get u.settings.ports id) group
      ≡ group_in (map.get t.settings.ports id) group) ⊎ ((p : PortRow)
      × OneOf (map.get t.settings.ports id) (map.get u.settings.ports id) p
      × ((touched ≡ touches.Group p.at group) ⊎ ((touched ≡ touches.Port p.at) × (group ≡ 1))))

-- ---- the law, of the trees before and after an accepted edit
pub record Tells (t u : Configuration) (c : Change) : Type 0 where
  -- published: the configuration differs. Else nothing differs, and nothing is told of: the value
  -- that stands was written
  pub published : (IsTrue c.published × (u.settings ≡ t.settings → ⊥)) ⊎ ((u ≡ t) × (c ≡ nothing))
  -- each namespace is as much enabled as before, or it is the one that is named
  pub spaces : (sub : List ℕ) (nsid : ℕ) → (is_enabled u sub nsid ≡ is_enabled t sub nsid)
      ⊎ NamesSpace t c sub nsid
  -- who is named got enabled, or began to drain, as the change says
  pub space_named : (at nsid : ℕ) → c.namespace ≡ Some (at, nsid) → SpaceTurns t u at nsid c.drains
  pub space_none : c.namespace ≡ None → c.drains ≡ false
  -- each port that stays has the ANA groups that it had, in the states that they had, or its
  -- position is named
  pub ports : (id : ℕ) (p q : PortRow) → map.get t.settings.ports id ≡ Some p
      → map.get u.settings.ports id ≡ Some q → (q.groups ≡ p.groups) ⊎ (c.ana_port ≡ Some p.at)
  pub port_named : (at : ℕ) → c.ana_port ≡ Some at → PortDiffers t u at
  -- each namespace that stays is in the ANA group that it was in, or its subsystem's position is
  -- named
  pub groups : (sub : List ℕ) (nsid : ℕ) (x y : Placed) → space t sub nsid ≡ Some x
      → space u sub nsid ≡ Some y → (y.row.group ≡ x.row.group) ⊎ (c.ana_subsystem ≡ Some x.at)
  pub subsystem_named : (at : ℕ) → c.ana_subsystem ≡ Some at → SpaceMoves t u at
  -- an ANA change is of a port or of a subsystem, and is counted once
  pub one : (c.ana_port ≡ None) ⊎ (c.ana_subsystem ≡ None)
  pub count : u.settings.ana_count ≡ (if is_some c.ana_port || is_some c.ana_subsystem then min
      (t.settings.ana_count + 1) (2 ^ 64 - 1) else t.settings.ana_count)
  -- all but one row is as before
  pub rows : OneRow t u c.touched
