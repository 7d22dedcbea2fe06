-- Edits as scripts and configurations bring them.
use Rattle.std.specs.Prelude.{IsTrue}
use Rattle.configfs_tree.specs.Asked.{is_fitting, is_named}
use Rattle.link_rules.specs.declared.edits.Edit.{Edit}
use Rattle.link_rules.specs.declared.edits.Edit.TheVariants as edit

-- the names are NQNs, the attribute is one of the folder's, and the value is a text
abbrev pub CanBring : Edit → Type 0
CanBring (edit.Folder e) = IsTrue (is_fitting e) × IsTrue (is_named e)
CanBring (edit.Link e) = Unit {0}
