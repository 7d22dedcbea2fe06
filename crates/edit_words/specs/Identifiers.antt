-- Each namespace of a tree has its identifiers, whatever was done to the tree.
use Rattle.std.specs.Prelude.{◌≡◌, ℕ, List, Some}
use Rattle.std.specs.FinMap as maps
use Rattle.mem_bdev.specs.declared.disk.DiskLine.{DiskLine}
use Rattle.configfs_rows.specs.declared.namespaces.NamespaceRow.{NamespaceRow}
use Rattle.configfs_rows.specs.declared.subsystems.SubsystemRow.{SubsystemRow}
use Rattle.configfs_tree.specs.declared.configuration.Configuration.{Configuration}
use Rattle.configfs_tree.specs.declared.edits.Change.{Change}
use Rattle.configfs_tree.specs.Drained.{drained}
use Rattle.configfs_tree.specs.Outcome.{Accepts}
use Rattle.configfs_tree.specs.Start.{empty_tree}
use Rattle.fabrics_connect.specs.declared.answer.Answer.{Answer}
use Rattle.fabrics_connect.specs.After.{tree_after}
use Rattle.link_rules.specs.declared.edits.Edit.{Edit}
use Rattle.link_rules.specs.Table.{edit_outcome}
use Rattle.ns_table.specs.Looked.{HasIdentifiers}

-- what `FitsTable` asks of a tree's identifiers: each is of 16 bytes
abbrev pub HaveIdentifiers : Configuration → Type 0
HaveIdentifiers t = (sub : List ℕ) (s : SubsystemRow) (nsid : ℕ) (n : NamespaceRow)
    → maps.get t.settings.subsystems sub ≡ Some s → maps.get s.namespaces nsid ≡ Some n
    → HasIdentifiers n

-- the empty tree has no namespace
abbrev pub NothingLacksIdentifiers : Type 0
NothingLacksIdentifiers = (lines : List DiskLine) → HaveIdentifiers (empty_tree lines)

-- an accepted edit, of a folder or of a link, keeps them
abbrev pub EditsKeepIdentifiers : Type 0
EditsKeepIdentifiers = (t u : Configuration) (e : Edit) (c : Change) → HaveIdentifiers t
    → edit_outcome t e ≡ Accepts u c → HaveIdentifiers u

-- so does the end of a drain
abbrev pub DrainsKeepIdentifiers : Type 0
DrainsKeepIdentifiers = (t : Configuration) (sub : List ℕ) (nsid : ℕ) → HaveIdentifiers t
    → HaveIdentifiers (drained t sub nsid)

-- and a fabrics command, whatever its checks come to
abbrev pub ControlsKeepIdentifiers : Type 0
ControlsKeepIdentifiers = (t : Configuration) (a : Answer) → HaveIdentifiers t
    → HaveIdentifiers (tree_after t a)
