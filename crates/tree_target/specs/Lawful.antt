-- Where a call is lawful of which only the numbers, and the edit of its line, are at hand.
use Rattle.std.specs.Prelude.{◌≡◌, Bool, false, Option, Some, None}
use Rattle.configfs_tree.specs.declared.configuration.Configuration.{Configuration}
use Rattle.configfs_tree.specs.Phases.{phase_at}
use Rattle.tree_target.specs.declared.calls.Call as named
use Rattle.tree_target.specs.declared.calls.Call.TheVariants as name
use Rattle.tree_target.specs.Edits.{Edit, disables}
use Rattle.tree_target.specs.declared.edits.Space.{Space}
use Rattle.tree_target.specs.Model.{Call, Submit, Execute, Poll, Control, AnEdit, DrainEnd, Target}
use Rattle.tree_target.specs.Steps.{is_lawful, may_end, is_enabled_phase}
use Rattle.tree_target.specs.Kept.{Kept}
use Rattle.tree_target.specs.Stands.{StandsFor}

abbrev pub disabled_by : Option Edit → Option Space
disabled_by None = None
disabled_by (Some e) = disables e

-- a call has these numbers; the end of a drain is that of the namespace that its line's edit
-- disables
abbrev pub IsCallOf : named.Call → Option Edit → Call → Type 0
IsCallOf (name.Submit queue number) o (Submit q n e) = (queue ≡ q) × (number ≡ n)
IsCallOf (name.Execute queue number) o (Execute q n payload) = (queue ≡ q) × (number ≡ n)
IsCallOf (name.Poll queue) o (Poll q) = queue ≡ q
IsCallOf (name.Control queue number) o (Control q n e payload) = (queue ≡ q) × (number ≡ n)
IsCallOf (name.Edit line) o (AnEdit l e) = line ≡ l
IsCallOf (name.DrainEnd line) o (DrainEnd l sub nsid) = (line ≡ l)
    × (disabled_by o ≡ Some (record { sub = sub; nsid = nsid }))
IsCallOf x o call = ⊥

-- of each model that the program's target stands for, such a call is lawful or not
abbrev pub IsLawfulAs : Kept → named.Call → Option Edit → Bool → Type 0
IsLawfulAs k x o b = (t : Target) (call : Call) → StandsFor k t → IsCallOf x o call
    → is_lawful t call ≡ b

-- the end of a drain isn't lawful where the line's edit disables nothing
abbrev pub EndsNothing : named.Call → Option Edit → Bool → Type 0
EndsNothing (name.DrainEnd line) o b = disabled_by o ≡ None → b ≡ false
EndsNothing x o b = Unit {0}

-- ---- drains
-- the namespace may end its drain
abbrev pub ends : Kept → Option Space → Bool
ends k None = false
ends k (Some s) = may_end k.tree k.held s.sub s.nsid

-- the namespace is enabled, so that to disable it begins a drain
abbrev pub begins : Configuration → Option Space → Bool
begins t None = false
begins t (Some s) = is_enabled_phase (phase_at t s.sub s.nsid)
