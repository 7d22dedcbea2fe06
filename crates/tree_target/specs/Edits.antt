-- Edits as the target takes them, and the namespace that an edit disables.
use Rattle.std.specs.Prelude.{ℕ, Bool, if◌then◌else◌, List, Option, Some, None, codes}
use Rattle.std.specs.Str.{bytes_eq}
use Rattle.configfs_tree.specs.declared.edits.Attr.{Attr}
use Rattle.configfs_tree.specs.declared.edits.Attr.TheVariants as attr
use Rattle.configfs_tree.specs.declared.edits.Folder.{Folder}
use Rattle.configfs_tree.specs.declared.edits.Folder.TheVariants as folder
use Rattle.configfs_tree.specs.declared.edits.FolderEdit.TheVariants as make
use Rattle.configfs_tree.specs.declared.configuration.Configuration.{Configuration}
use Rattle.configfs_tree.specs.Outcome.{Outcome}
use Rattle.link_rules.specs.declared.edits.Edit.{Edit as LinkOrFolder}
use Rattle.link_rules.specs.declared.edits.Edit.TheVariants as edit
use Rattle.link_rules.specs.Table.{edit_outcome, is_fitting}
use Rattle.tree_target.specs.declared.edits.Space.{Space}

-- an edit of the configuration: of a folder or one of its attributes, or of a link
abbrev pub Edit : Type 0
Edit = LinkOrFolder

-- what an edit comes to, by the table of edits
abbrev pub outcome : Configuration → Edit → Outcome
outcome t e = edit_outcome t e

-- as a script or a configuration brings edits: the attribute is one of the folder's, and the value
-- a text
abbrev pub is_well_formed : Edit → Bool
is_well_formed e = is_fitting e

abbrev pub disables_if : Bool → List ℕ → ℕ → Option Space
disables_if zero_written sub nsid = if zero_written then Some (record { sub = sub; nsid = nsid })
    else None

abbrev pub disables_of : Folder → Attr → List ℕ → Option Space
disables_of (folder.Namespace sub nsid) attr.Enable value = disables_if (bytes_eq value (codes "0"))
    sub nsid
disables_of f a value = None

-- the namespace whose `enable` an edit sets to `0`
abbrev pub disables : Edit → Option Space
disables (edit.Folder (make.Set f a value)) = disables_of f a value
disables e = None
