-- How held commands and bindings change, and what is held on.
use Rattle.std.specs.Prelude.{◌≡◌, ◌≢◌, ℕ, true, IsTrue, List, [], ◌∷◌, ◌++◌, Option, Some, None, slice_get}
use Rattle.std.specs.List.{list_any}
use Rattle.io_commands.specs.Jobs.{disk_of}
use Rattle.configfs_rows.specs.declared.disks.Holder.{Holder}
use Rattle.configfs_rows.specs.declared.namespaces.NamespaceRow.{NamespaceRow}
use Rattle.configfs_rows.specs.Holders.{holder_of}
use Rattle.configfs_tree.specs.declared.configuration.Configuration.{Configuration}
use Rattle.configfs_tree.specs.Standing.{IsStanding}
use Rattle.tree_target.specs.declared.calls.Command.{Command}
use Rattle.tree_target.specs.declared.calls.Reply.TheVariants as replies
use Rattle.tree_target.specs.Model.{Call, Submit, Execute, Poll, Control, AnEdit, DrainEnd, Target, caller_of, binding_at}
use Rattle.tree_target.specs.Views.{space_in, subsystem_named}
use Rattle.tree_target.specs.Admission.{Admission, Completes, Waits, Holds, admission}
use Rattle.tree_target.specs.Steps.{is_lawful, reply_of, target_after, is_on}

-- ---- the disk of the job, where the reply to a submit is Held
abbrev pub held_by : Admission → Option ℕ
held_by (Completes status result bytes) = None
held_by Waits = None
held_by (Holds job) = Some (disk_of job)

unfoldable pub held_disk : Target → Call → Option ℕ
held_disk t (Submit queue number e) = held_by (admission t queue e)
held_disk t (Execute queue number payload) = None
held_disk t (Poll queue) = None
held_disk t (Control queue number e payload) = None
held_disk t (AnEdit line e) = None
held_disk t (DrainEnd line sub nsid) = None

-- the reply is Held where there is such a disk
abbrev pub HeldReplies : Type 0
HeldReplies = (t : Target) (call : Call) (disk : ℕ) → held_disk t call ≡ Some disk
    → reply_of t call ≡ replies.Held

-- an enabled namespace keeps the number of this disk
pub record IsShown (t : Configuration) (disk : ℕ) : Type 0 where
  pub sub : List ℕ
  pub nsid : ℕ
  pub row : NamespaceRow
  pub stands : space_in nsid (subsystem_named t sub) ≡ Some row
  pub enabled : row.enabled ≡ true
  pub on : row.disk ≡ Some disk

-- a submit's reply is Held only on a disk on which an enabled namespace is
abbrev pub HeldIsShown : Type 0
HeldIsShown = (t : Target) (call : Call) (disk : ℕ) → held_disk t call ≡ Some disk
    → IsShown t.tree disk

-- ---- how the list of held commands changes
-- one command more, of this capsule and on this disk, the last
pub record AddsOne (t u : Target) (queue number disk : ℕ) : Type 0 where
  pub command : Command
  pub queue_is : command.queue ≡ queue
  pub number_is : command.number ≡ number
  pub disk_is : disk_of command.job ≡ disk
  pub held : u.held ≡ t.held ++ command ∷ []

-- this capsule's command less, and nothing else
pub record TakesOne (t u : Target) (queue number : ℕ) : Type 0 where
  pub before : List Command
  pub command : Command
  pub later : List Command
  pub queue_is : command.queue ≡ queue
  pub number_is : command.number ≡ number
  pub was : t.held ≡ before ++ command ∷ later
  pub held : u.held ≡ before ++ later

abbrev pub HeldBy : Target → Target → ℕ → ℕ → Option ℕ → Type 0
HeldBy t u queue number None = u.held ≡ t.held
HeldBy t u queue number (Some disk) = AddsOne t u queue number disk

abbrev pub HeldChange : Target → Call → Target → Type 0
HeldChange t (Submit queue number e) u = HeldBy t u queue number
    (held_disk t (Submit queue number e))
HeldChange t (Execute queue number payload) u =
    IsTrue (is_lawful t (Execute queue number payload)) → TakesOne t u queue number
HeldChange t (Poll queue) u = u.held ≡ t.held
HeldChange t (Control queue number e payload) u = u.held ≡ t.held
HeldChange t (AnEdit line e) u = u.held ≡ t.held
HeldChange t (DrainEnd line sub nsid) u = u.held ≡ t.held

-- a Held submit adds one at the end, an Execute takes that of its capsule, and no other call
-- changes what is held
abbrev pub HeldChanges : Type 0
HeldChanges = (t : Target) (call : Call) → HeldChange t call (target_after t call)

-- ---- a disk stands for the life of its namespace
abbrev pub holder_at : Configuration → ℕ → Option Holder
holder_at t disk = holder_of (slice_get t.disks disk)

-- while a command is held on a disk, the namespace that holds the disk goes on to hold it: its life
-- doesn't end. So the commands that are held on a disk are those that are held in the life which
-- stands there
abbrev pub HeldKeepsHolder : Type 0
HeldKeepsHolder = (t : Target) (call : Call) (disk : ℕ) (h : Holder) → IsStanding t.tree
    → IsTrue (is_lawful t call) → IsTrue (list_any (is_on disk) t.held)
    → holder_at t.tree disk ≡ Some h → holder_at (target_after t call).tree disk ≡ Some h

-- ---- a queue's binding changes by its own calls alone
abbrev pub BindingsAreOwn : Type 0
BindingsAreOwn = (t : Target) (call : Call) (queue : ℕ) → caller_of call ≢ queue
    → binding_at (target_after t call) queue ≡ binding_at t queue
