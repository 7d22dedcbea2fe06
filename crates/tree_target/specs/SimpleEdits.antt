-- The configuration of a simple plan as what edits make of the empty tree.
use Rattle.std.specs.Prelude.{◌≡◌, ℕ, IsTrue, List, [], ◌∷◌, codes}
use Rattle.mem_bdev.specs.declared.disk.DiskLine.{DiskLine}
use Rattle.plan_files.specs.Spelling.{is_name}
use Rattle.configfs_tree.specs.declared.edits.Attr.{Attr}
use Rattle.configfs_tree.specs.declared.edits.Attr.TheVariants as attr
use Rattle.configfs_tree.specs.declared.edits.Folder.{Folder}
use Rattle.configfs_tree.specs.declared.edits.Folder.TheVariants as folder
use Rattle.configfs_tree.specs.declared.edits.FolderEdit.TheVariants as make
use Rattle.configfs_tree.specs.declared.configuration.Configuration.{Configuration}
use Rattle.configfs_tree.specs.Links.{with_attached, with_no_changes}
use Rattle.configfs_tree.specs.Start.{empty_settings}
use Rattle.link_rules.specs.declared.edits.Edit.TheVariants as edit
use Rattle.link_rules.specs.declared.edits.LinkEdit.TheVariants as link
use Rattle.tree_target.specs.Edits.{Edit}
use Rattle.tree_target.specs.Loads.{LoadedTree, loaded}
use Rattle.tree_target.specs.Start.{simple_nqn, simple_tree}

abbrev pub mkdir_edit : Folder → Edit
mkdir_edit f = edit.Folder (make.Mkdir f)

abbrev pub set_edit : Folder → Attr → List ℕ → Edit
set_edit f a value = edit.Folder (make.Set f a value)

-- a subsystem that allows any host, its namespace 1 on the disk of this path, port 1 of transport
-- loop that links it, and at the end the namespace is enabled
abbrev pub simple_edits : List ℕ → List Edit
simple_edits path =
    mkdir_edit (folder.Subsystem simple_nqn)
    ∷ set_edit (folder.Subsystem simple_nqn) attr.AllowAnyHost (codes "1")
    ∷ mkdir_edit (folder.Namespace simple_nqn 1)
    ∷ set_edit (folder.Namespace simple_nqn 1) attr.DevicePath path
    ∷ mkdir_edit (folder.Port 1)
    ∷ set_edit (folder.Port 1) attr.Trtype (codes "loop")
    ∷ edit.Link (link.LinkSubsystem 1 simple_nqn)
    ∷ set_edit (folder.Namespace simple_nqn 1) attr.Enable (codes "1")
    ∷ []

-- the tree of a simple plan, to which no controller is attached yet
abbrev pub tree_before_attach : List ℕ → Configuration
tree_before_attach path = record (simple_tree path) {
  settings = record (simple_tree path).settings { attached = empty_settings.attached };
}

-- no edit is refused, and with one controller attached the tree that is loaded is the simple one
pub record IsMadeByEdits (d : DiskLine) : Type 0 where
  pub loads : loaded (d ∷ []) (simple_edits d.path) ≡ LoadedTree (tree_before_attach d.path)
  pub attached : with_attached (with_no_changes (tree_before_attach d.path)) 0 0
      ≡ simple_tree d.path

-- so it is of each disk that a plan may name
abbrev pub SimpleIsEdited : Type 0
SimpleIsEdited = (d : DiskLine) → IsTrue (is_name d.path) → IsMadeByEdits d
