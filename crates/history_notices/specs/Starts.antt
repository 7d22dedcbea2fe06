-- Where histories begin, and which histories are spoken of.
use Rattle.std.specs.Prelude.{◌≡◌, ◌≢◌, ◌<◌, ◌-◌, ◌^◌, ℕ, List, [], ◌∷◌, length, Some}
use Rattle.configfs_rows.specs.declared.limits.TheConstants.{MAX_SUBSYSTEMS, MAX_PORTS}
use Rattle.configfs_tree.specs.Standing.{IsStanding}
use Rattle.change_stamps.specs.Stamps.{no_stamps}
use Rattle.tree_target.specs.Model.{Call, Submit, Execute, Poll, Control, AnEdit, DrainEnd, Entry, Bound, Target, bound_at}
use Rattle.tree_target.specs.Legal.{IsLegal}
use Rattle.history_notices.specs.Scripts.{CanBring}

-- no change was published or counted yet, and no queue is an admin queue
pub record IsStart (t : Target) : Type 0 where
  pub stamps : t.stamps ≡ no_stamps
  pub count : t.tree.settings.ana_count ≡ 0
  pub states : length t.events ≡ length t.controllers
  pub subsystems : length t.tree.settings.attached.subsystems ≡ MAX_SUBSYSTEMS
  pub ports : length t.tree.settings.attached.ports ≡ MAX_PORTS
  pub unconnected : (queue : ℕ) (b : Bound) → bound_at t queue ≡ Some b → b.qid ≢ 0

-- each edit is one that a script can bring
abbrev pub IsBrought : Call → Type 0
IsBrought (Submit queue number e) = Unit {0}
IsBrought (Execute queue number payload) = Unit {0}
IsBrought (Poll queue) = Unit {0}
IsBrought (Control queue number e payload) = Unit {0}
IsBrought (AnEdit line e) = CanBring e
IsBrought (DrainEnd line sub nsid) = Unit {0}

abbrev pub AreBrought : List Entry → Type 0
AreBrought [] = Unit {0}
AreBrought (e ∷ entries) = IsBrought e.call × AreBrought entries

-- a legal history of fewer than 2^32 - 1 entries, from a start whose tree is one that calls reach
pub record Leads (start : Target) (entries : List Entry) : Type 0 where
  pub start_is : IsStart start
  pub stands : IsStanding start.tree
  pub legal : IsLegal start entries
  pub brought : AreBrought entries
  pub few : length entries < 2 ^ 32 - 1
