-- A saved configuration that is loaded again.
use Rattle.std.specs.Prelude.{◌≡◌, ◌<◌, ℕ, List, length, map as each, option_map, Ok}
use Rattle.std.specs.List.{All}
use Rattle.std.specs.FinMap as map
use Rattle.configfs_rows.specs.declared.namespaces.NamespaceRow.{NamespaceRow}
use Rattle.configfs_rows.specs.declared.subsystems.SubsystemRow.{SubsystemRow}
use Rattle.configfs_rows.specs.declared.ports.PortRow.{PortRow}
use Rattle.configfs_rows.specs.Holders.{paths_of}
use Rattle.configfs_tree.specs.Start.{line_path}
use Rattle.configfs_tree.specs.declared.configuration.Configuration.{Configuration}
use Rattle.link_rules.specs.declared.edits.Edit.{Edit}
use Rattle.mem_bdev.specs.declared.disk.DiskLine.{DiskLine}
use Rattle.nvmetcli_json.specs.Loading.{edits_in}
use Rattle.nvmetcli_json.specs.Saving.{tree_data, saved}
use Rattle.tree_target.specs.Loads.{LoadedTree, load_from, loaded}

-- ---- what the types of a tree's rows say, and its finite maps don't
-- 16 bytes, as a UUID or an NGUID has
pub record IsIdentifier (bytes : List ℕ) : Type 0 where
  pub long : length bytes ≡ 16
  pub small : All (λ b. b < 256) bytes

pub record HasIdentifiers (n : NamespaceRow) : Type 0 where
  pub uuid : IsIdentifier n.uuid
  pub nguid : IsIdentifier n.nguid

-- so has each namespace of a subsystem
abbrev pub HasAllIdentifiers : SubsystemRow → Type 0
HasAllIdentifiers s = All (λ (e : ℕ × NamespaceRow). HasIdentifiers e.1) (map.entries s.namespaces)

-- each namespace has its identifiers, and the number of a port has 16 bits
pub record IsTyped (t : Configuration) : Type 0 where
  pub identifiers : All HasAllIdentifiers (map.values t.settings.subsystems)
  pub short_ids : All (λ (p : PortRow). p.id < 65536) (map.values t.settings.ports)

-- each of these edits is accepted, one after another from this tree on
pub record IsAccepted (t : Configuration) (edits : List Edit) : Type 0 where
  pub tree : Configuration
  pub loads : load_from 1 t edits ≡ LoadedTree tree

-- the disks of the tree are those of the plan, in its order
abbrev pub HasDisksOf : List DiskLine → Configuration → Type 0
HasDisksOf lines t = paths_of t.disks ≡ each line_path lines

-- ---- rows but for their positions
abbrev pub unplaced_subsystem : SubsystemRow → SubsystemRow
unplaced_subsystem s = record s { at = 0 }

abbrev pub unplaced_port : PortRow → PortRow
unplaced_port p = record p { at = 0 }

-- two trees are one but for the positions of their rows, who holds their disks, the controllers
-- that are attached and the count of changes: so a namespace that was draining may be off
pub record IsSameTree (t u : Configuration) : Type 0 where
  pub hosts : u.settings.hosts ≡ t.settings.hosts
  pub subsystems : (sub : List ℕ)
      → option_map unplaced_subsystem (map.get u.settings.subsystems sub)
      ≡ option_map unplaced_subsystem (map.get t.settings.subsystems sub)
  pub ports : (id : ℕ) → option_map unplaced_port (map.get u.settings.ports id)
      ≡ option_map unplaced_port (map.get t.settings.ports id)
  pub paths : paths_of u.disks ≡ paths_of t.disks

-- ---- what is saved of a tree is read to edits, each of them is accepted one after another from
-- the empty tree over the plan's disks on, and the tree that they make is the same, of which the
-- same is saved
pub record Reloads (lines : List DiskLine) (t : Configuration) : Type 0 where
  pub edits : List Edit
  pub read : edits_in (tree_data t) ≡ Ok edits
  pub tree : Configuration
  pub made : loaded lines edits ≡ LoadedTree tree
  pub same_tree : IsSameTree t tree
  pub same_data : tree_data tree ≡ tree_data t
  pub same_text : saved tree ≡ saved t
