-- What an accepted edit tells, of links too.
use Rattle.std.proofs.Common.{◌≡◌, subst}
use Rattle.configfs_tree.specs.Outcome.{Outcome, Accepts}
use Rattle.configfs_tree.specs.Standing.{IsStanding}
use Rattle.configfs_tree.specs.Told.{Tells}
use Rattle.configfs_tree.specs.declared.edits.Change.{Change}
use Rattle.configfs_tree.specs.declared.configuration.Configuration.{Configuration}
use Rattle.configfs_tree.proofs.Decided.{not_no}
use Rattle.configfs_tree.proofs.Holds.{Holds, accepted, holds_row, holds_last, holds_if_subsystem, holds_if_port}
use Rattle.configfs_tree.proofs.TellsTable.{edit_tells}
use Rattle.link_rules.specs.declared.edits.Edit.{Edit}
use Rattle.link_rules.specs.declared.edits.Edit.TheVariants as edit
use Rattle.link_rules.specs.declared.edits.LinkEdit.{LinkEdit}
use Rattle.link_rules.specs.declared.edits.LinkEdit.TheVariants as link
use Rattle.link_rules.specs.Table.{allow_host, disallow_host, link_subsystem, unlink_subsystem, link_outcome, edit_outcome}
use Rattle.link_rules.proofs.Tells.{allowed_tells, linked_tells}
use Rattle.std.specs.FinMap as map
use Rattle.std.specs.Prelude.{true, false}

abbrev TellsBy : Configuration → Outcome → Type 0
TellsBy t o = Holds (λ u c. Tells t u c) o

link_tells : (t : Configuration) (e : LinkEdit) → TellsBy t (link_outcome t e)
unfolding allow_host disallow_host link_subsystem unlink_subsystem
link_tells t (link.AllowHost sub host) = holds_if_subsystem _ _ (λ s e. holds_row _ _ _ _
    (λ _. holds_row _ _ _ _ (λ absent. holds_last _ _ _ _
    (λ _. allowed_tells t sub host true s e absent))))
link_tells t (link.DisallowHost sub host) = holds_if_subsystem _ _ (λ s e. holds_row _ _ _ _
    (λ _. holds_last _ _ _ _ (λ there. allowed_tells t sub host false s e
    (not_no (map.contains_key s.allowed_hosts host) there))))
link_tells t (link.LinkSubsystem id sub) = holds_if_port _ _ (λ p e. holds_if_subsystem _ _
    (λ s _. holds_row _ _ _ _ (λ absent. holds_last _ _ _ _
    (λ _. linked_tells t id sub true p e absent))))
link_tells t (link.UnlinkSubsystem id sub) = holds_if_port _ _ (λ p e. holds_if_subsystem _ _
    (λ s _. holds_last _ _ _ _ (λ there. linked_tells t id sub false p e
    (not_no (map.contains_key p.links sub) there))))

whole_tells : (t : Configuration) (e : Edit) → IsStanding t → TellsBy t (edit_outcome t e)
whole_tells t (edit.Folder e) st = edit_tells t e st.placed
whole_tells t (edit.Link e) st = link_tells t e

pub tells_of : (t u : Configuration) (e : Edit) (c : Change) → IsStanding t
    → edit_outcome t e ≡ Accepts u c → Tells t u c
tells_of t u e c st is =
    accepted u c (subst (λ (o : Outcome). TellsBy t o) is (whole_tells t e st))
