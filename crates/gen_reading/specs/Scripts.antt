-- What a generated script says.
use Rattle.std.specs.Prelude.{ℕ, ◌+◌, ◌*◌, List, [], ◌∷◌, codes}
use Rattle.std.specs.List.{flat_map, range_with_len}
use Rattle.configfs_tree.specs.declared.edits.Attr.TheVariants as attr
use Rattle.configfs_tree.specs.declared.edits.Folder.TheVariants as folder
use Rattle.configfs_tree.specs.declared.edits.FolderEdit.TheVariants as make
use Rattle.link_rules.specs.declared.edits.Edit.{Edit}
use Rattle.link_rules.specs.declared.edits.Edit.TheVariants as edit
use Rattle.run_transcript.specs.declared.scripts.ScriptEdit.{ScriptEdit}

-- `enable` of namespace 2 is set to this text
abbrev pub set_enable : List ℕ → Edit
set_enable value = edit.Folder (make.Set (folder.Namespace (codes "gen") 2) attr.Enable value)

abbrev pub on_line : ℕ → Edit → ScriptEdit
on_line line e = record { line = line; edit = e }

-- namespace 2 is disabled on one line, and enabled again on the next
abbrev pub round_of : ℕ → List ScriptEdit
round_of line = on_line line (set_enable (codes "0"))
    ∷ on_line (line + 1) (set_enable (codes "1")) ∷ []

-- eight times
abbrev pub script_of : List ScriptEdit
script_of = flat_map (λ n. round_of (2 * n + 1)) (range_with_len 0 8)
