-- The table of edits on links, in the table's order, and the whole table. Each edit is decided by
-- the first of its rows, from the top, whose condition holds. If none holds it is accepted. Either
-- end of a link must be there, and a link that is taken away too; what isn't is ENOENT, before any
-- row.
use Rattle.std.specs.Prelude.{ℕ, not, Bool, true, false, List, [], ◌∷◌, codes}
use Rattle.std.specs.Str.{bytes_eq}
use Rattle.std.specs.FinMap as map
use Rattle.configfs_rows.specs.Subsystems.{put_allowed}
use Rattle.configfs_rows.specs.Ports.{put_link}
use Rattle.configfs_tree.specs.Asked as folders
use Rattle.configfs_tree.specs.Outcome.{Outcome, Accepts, first_of, touching, on_subsystem, on_port, in_subsystem, in_port}
use Rattle.configfs_tree.specs.Table as folder_table
use Rattle.configfs_tree.specs.declared.configuration.Configuration.{Configuration}
use Rattle.configfs_tree.specs.declared.edits.Errno.TheVariants.{ENOENT, EEXIST, EINVAL}
use Rattle.configfs_tree.specs.declared.edits.Touched.TheVariants as touches
use Rattle.link_rules.specs.declared.edits.Edit.{Edit}
use Rattle.link_rules.specs.declared.edits.Edit.TheVariants as edit
use Rattle.link_rules.specs.declared.edits.LinkEdit.{LinkEdit}
use Rattle.link_rules.specs.declared.edits.LinkEdit.TheVariants as link

-- ---- the hosts that a subsystem allows
unfoldable pub allow_host : Configuration → List ℕ → List ℕ → Outcome
allow_host t sub host = in_subsystem t sub (λ s. first_of (
    (not (map.contains_key t.settings.hosts host), ENOENT)
    ∷ (map.contains_key s.allowed_hosts host, EEXIST)
    ∷ (s.allow_any_host, EINVAL)
    ∷ [])
    (Accepts (on_subsystem t sub (put_allowed host true)) (touching (touches.Subsystem s.at))))

unfoldable pub disallow_host : Configuration → List ℕ → List ℕ → Outcome
disallow_host t sub host = in_subsystem t sub (λ s. first_of (
    (not (map.contains_key t.settings.hosts host), ENOENT)
    ∷ (not (map.contains_key s.allowed_hosts host), ENOENT)
    ∷ [])
    (Accepts (on_subsystem t sub (put_allowed host false)) (touching (touches.Subsystem s.at))))

-- ---- the subsystems that a port links
unfoldable pub link_subsystem : Configuration → ℕ → List ℕ → Outcome
link_subsystem t id sub = in_port t id (λ p. in_subsystem t sub (λ s. first_of (
    (map.contains_key p.links sub, EEXIST)
    ∷ (not (bytes_eq p.trtype (codes "loop")), EINVAL)
    ∷ [])
    (Accepts (on_port t id (put_link sub true)) (touching (touches.Port p.at)))))

unfoldable pub unlink_subsystem : Configuration → ℕ → List ℕ → Outcome
unlink_subsystem t id sub = in_port t id (λ p. in_subsystem t sub (λ s. first_of (
    (not (map.contains_key p.links sub), ENOENT)
    ∷ [])
    (Accepts (on_port t id (put_link sub false)) (touching (touches.Port p.at)))))

-- ---- the whole table
abbrev pub link_outcome : Configuration → LinkEdit → Outcome
link_outcome t (link.AllowHost sub host) = allow_host t sub host
link_outcome t (link.DisallowHost sub host) = disallow_host t sub host
link_outcome t (link.LinkSubsystem id sub) = link_subsystem t id sub
link_outcome t (link.UnlinkSubsystem id sub) = unlink_subsystem t id sub

abbrev pub edit_outcome : Configuration → Edit → Outcome
edit_outcome t (edit.Folder e) = folder_table.edit_outcome t e
edit_outcome t (edit.Link e) = link_outcome t e

-- ---- edits that may be made, and those that may take memory
-- the attribute that a folder edit sets is one of the folder's, and its value is a text
abbrev pub is_fitting : Edit → Bool
is_fitting (edit.Folder e) = folders.is_fitting e
is_fitting (edit.Link e) = true

-- a link that is made may take memory, and a folder edit as the tree says
abbrev pub link_may_grow : LinkEdit → Bool
link_may_grow (link.AllowHost sub host) = true
link_may_grow (link.DisallowHost sub host) = false
link_may_grow (link.LinkSubsystem id sub) = true
link_may_grow (link.UnlinkSubsystem id sub) = false

abbrev pub may_grow : Edit → Bool
may_grow (edit.Folder e) = folders.may_grow e
may_grow (edit.Link e) = link_may_grow e
