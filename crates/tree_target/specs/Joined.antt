-- What holds between the tree, the controllers and the queues of a target.
use Rattle.std.specs.Prelude.{◌≡◌, ◌≤◌, ℕ, ◌+◌, true, List, [], ◌∷◌, length, Option, Some, None}
use Rattle.std.specs.List.{AllByRecursion}
use Rattle.sqe_cqe.specs.declared.controllers.Bound.{Bound}
use Rattle.sqe_cqe.specs.declared.controllers.Binding.{Binding}
use Rattle.sqe_cqe.specs.declared.controllers.ControllerRow.{ControllerRow}
use Rattle.configfs_rows.specs.declared.limits.TheConstants.{MAX_SUBSYSTEMS, MAX_PORTS}
use Rattle.configfs_tree.specs.declared.configuration.Configuration.{Configuration}
use Rattle.configfs_tree.specs.Stays.{is_subsystem_attached, is_port_attached}
use Rattle.fabrics_connect.specs.After.{AttachedAreThere}

-- a controller is counted at the positions of its subsystem and its port
pub record IsAttached (t : Configuration) (c : ControllerRow) : Type 0 where
  pub sub : is_subsystem_attached t c.ctrl.bound.sub ≡ true
  pub port : is_port_attached t c.ctrl.bound.port ≡ true

abbrev pub one_if : Option Bound → ℕ
one_if None = 0
one_if (Some b) = 1

-- how many queues are connected
abbrev pub connected : List Binding → ℕ
connected [] = 0
connected (b ∷ bindings) = one_if b.bound + connected bindings

pub record AreJoined (t : Configuration) (controllers : List ControllerRow)
    (bindings : List Binding) : Type 0 where
  -- the tree has a count for each position
  pub subsystems : length t.settings.attached.subsystems ≡ MAX_SUBSYSTEMS
  pub ports : length t.settings.attached.ports ≡ MAX_PORTS
  -- no position counts more controllers than there are, and each controller is counted
  pub counted : AttachedAreThere t controllers
  pub attached : AllByRecursion (IsAttached t) controllers
  -- each controller is of a queue of its own
  pub few : length controllers ≤ connected bindings
