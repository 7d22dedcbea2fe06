-- What changes of the configuration, by which calls, and what an edit's outcome depends on.
use Rattle.std.specs.Prelude.{◌≡◌, ℕ, Bool, true, false, List, [], ◌∷◌}
use Rattle.sqe_cqe.specs.declared.controllers.ControllerRow.{ControllerRow}
use Rattle.change_stamps.specs.Stamps.{Stamps}
use Rattle.configfs_tree.specs.declared.configuration.Settings.{Settings}
use Rattle.configfs_tree.specs.declared.configuration.Configuration.{Configuration}
use Rattle.configfs_tree.specs.Outcome.{Outcome, Refuses, Accepts}
use Rattle.configfs_tree.specs.Standing.{IsStanding}
use Rattle.configfs_tree.specs.Stays.{Stays}
use Rattle.tree_target.specs.Edits.{Edit, outcome}
use Rattle.tree_target.specs.Model.{Call, Submit, Execute, Poll, Control, AnEdit, DrainEnd, Target, binding_at}
use Rattle.tree_target.specs.Controls.{publishes}
use Rattle.tree_target.specs.Steps.{reply_of, target_after}
use Rattle.tree_target.specs.Legal.{after}

-- what published calls alone change
pub record Fixed : Type 0 where
  pub settings : Settings
  pub controllers : List ControllerRow
  pub stamps : Stamps

abbrev pub fixed : Target → Fixed
fixed t = record {
  settings = t.tree.settings;
  controllers = t.controllers;
  stamps = t.stamps;
}

-- what the editor alone changes: the configuration with the holders of disks, the controllers, and
-- the serials of last changes
pub record Desk : Type 0 where
  pub tree : Configuration
  pub controllers : List ControllerRow
  pub stamps : Stamps

abbrev pub desk : Target → Desk
desk t = record { tree = t.tree; controllers = t.controllers; stamps = t.stamps }

abbrev pub is_published_edit : Outcome → Bool
is_published_edit (Refuses errno) = false
is_published_edit (Accepts u change) = change.published

-- whether a call publishes a change at this point
unfoldable pub is_published : Target → Call → Bool
is_published t (Submit queue number e) = false
is_published t (Execute queue number payload) = false
is_published t (Poll queue) = false
is_published t (Control queue number e payload) = publishes t e payload (binding_at t queue)
is_published t (AnEdit line e) = is_published_edit (outcome t.tree e)
is_published t (DrainEnd line sub nsid) = false

-- the calls that get their place from the editor: edits, ends of drains, and fabrics commands,
-- whatever queue brings them
abbrev pub is_editors : Call → Bool
is_editors (Submit queue number e) = false
is_editors (Execute queue number payload) = false
is_editors (Poll queue) = false
is_editors (Control queue number e payload) = true
is_editors (AnEdit line e) = true
is_editors (DrainEnd line sub nsid) = true

-- a call that isn't published leaves what is fixed
abbrev pub UnpublishedLeaveFixed : Type 0
UnpublishedLeaveFixed = (t : Target) (call : Call) → IsStanding t.tree
    → is_published t call ≡ false → fixed (target_after t call) ≡ fixed t

-- a submit, an execute and a poll leave all that the editor changes
abbrev pub QueuesLeaveDesk : Type 0
QueuesLeaveDesk = (t : Target) (call : Call) → is_editors call ≡ false
    → desk (target_after t call) ≡ desk t

-- ---- what an edit's outcome depends on: the tree with its holders, and nothing else
abbrev pub EditsDependOnTheTree : Type 0
EditsDependOnTheTree = (t u : Target) (line : ℕ) (e : Edit) → u.tree ≡ t.tree
    → reply_of u (AnEdit line e) ≡ reply_of t (AnEdit line e)

-- calls of queues alone
abbrev pub AreQueues : List Call → Type 0
AreQueues [] = Unit {0}
AreQueues (c ∷ calls) = (is_editors c ≡ false) × AreQueues calls

-- so an edit at its place replies what it replies at the last point whose editor's calls are all
-- those before the place, whatever queues did in between, and leaves there the same
abbrev pub EditsAreAsComputed : Type 0
EditsAreAsComputed = (t : Target) (calls : List Call) (line : ℕ) (e : Edit) → AreQueues calls
    → (reply_of (after t calls) (AnEdit line e) ≡ reply_of t (AnEdit line e))
    × (desk (target_after (after t calls) (AnEdit line e)) ≡ desk (target_after t (AnEdit line e)))

-- an edit that publishes nothing where the editor computed it leaves what is fixed wherever the
-- editor's part is the same. Of all targets this can't be said: elsewhere the same edit may be
-- accepted
abbrev pub PlainAtDesk : Type 0
PlainAtDesk = (t u : Target) (line : ℕ) (e : Edit) → IsStanding u.tree → desk u ≡ desk t
    → is_published t (AnEdit line e) ≡ false → fixed (target_after u (AnEdit line e)) ≡ fixed u

-- ---- an accepted edit leaves the rows where controllers are attached
abbrev pub LeavesAttached : Configuration → Outcome → Type 0
LeavesAttached t (Refuses errno) = Unit {0}
LeavesAttached t (Accepts u change) = Stays t u

abbrev pub EditsLeaveAttached : Type 0
EditsLeaveAttached = (t : Configuration) (e : Edit) → LeavesAttached t (outcome t e)
