-- Edits that are made one after another.
use Rattle.std.specs.Prelude.{List, [], ◌∷◌, Option, Some, None}
use Rattle.std.specs.Option.{option_and_then}
use Rattle.configfs_tree.specs.Outcome.{Outcome, Refuses, Accepts}
use Rattle.configfs_tree.specs.declared.configuration.Configuration.{Configuration}
use Rattle.link_rules.specs.Table.{edit_outcome}
use Rattle.link_rules.specs.declared.edits.Edit.{Edit}

-- ---- edits one after another
abbrev pub made_tree : Outcome → Option Configuration
made_tree (Refuses errno) = None
made_tree (Accepts t change) = Some t

abbrev pub edited : Configuration → Edit → Option Configuration
edited t e = made_tree (edit_outcome t e)

-- the tree after these edits, where none is refused
unfoldable pub all_edited : Configuration → List Edit → Option Configuration
all_edited t [] = Some t
all_edited t (e ∷ es) = option_and_then (λ u. all_edited u es) (edited t e)
