-- The sequential target as one record, and the calls that are made of it.
use Rattle.std.specs.Prelude.{ℕ, zero, suc, ◌==◌, ◌&&◌, Bool, List, Option, Some, None, slice_get, find}
use Rattle.mem_bdev.specs.Blocks.{Blocks}
use Rattle.sqe_cqe.specs.declared.sqe.Sqe.{Sqe}
use Rattle.sqe_cqe.specs.declared.controllers.ControllerRow.{ControllerRow}
use Rattle.async_events.specs.declared.events.Events.{Events}
use Rattle.change_stamps.specs.Stamps.{Stamps}
use Rattle.configfs_tree.specs.declared.configuration.Configuration.{Configuration}
use Rattle.tree_target.specs.declared.calls.Reply.{Reply}
use Rattle.tree_target.specs.declared.calls.Command.{Command}
use Rattle.tree_target.specs.Edits.{Edit}

-- A call with its input: the number of its caller's queue, the number of its capsule in that
-- queue's file, and the capsule's entry and data; or the number of a line of the script, from 1,
-- with its edit or with the namespace whose drain ends.
pub data Call : Type 0 where
  -- a command is looked up and admitted
  Submit : ℕ → ℕ → Sqe → Call
  -- the work of a held command is done on its disk
  Execute : ℕ → ℕ → List ℕ → Call
  -- an event is asked for
  Poll : ℕ → Call
  -- a fabrics command
  Control : ℕ → ℕ → Sqe → List ℕ → Call
  -- an edit of the configuration
  AnEdit : ℕ → Edit → Call
  -- the end of the drain of a namespace, by its subsystem's NQN and its NSID
  DrainEnd : ℕ → List ℕ → ℕ → Call

-- a call that was made, what it replied, and the bytes handed to the host
pub record Entry : Type 0 where
  pub call : Call
  pub reply : Reply
  pub bytes : List ℕ

-- what a queue is connected to: a controller by number, as which queue of it, and of which
-- subsystem. By names, so that it is a function of the queue's own entries, whatever the tree does
pub record Bound : Type 0 where
  pub controller : ℕ
  pub qid : ℕ
  pub subsystem : List ℕ

-- a queue: the ID of the port that it comes through, and its connection
pub record Binding : Type 0 where
  pub port : ℕ
  pub bound : Option Bound

pub record Target : Type 0 where
  -- the configuration, and which namespace holds each disk
  pub tree : Configuration
  -- in the order of their numbers, from 1
  pub controllers : List ControllerRow
  -- of the tree's disks, in the order of the plan
  pub blocks : List Blocks
  -- of queues 1, 2, ..
  pub bindings : List Binding
  -- in the order of their submits
  pub held : List Command
  -- of the controllers, in the order of their numbers
  pub events : List Events
  -- the serials of last changes
  pub stamps : Stamps
  pub history : List Entry

-- ---- callers
-- the number of a call's queue, 0 for the editor
abbrev pub caller_of : Call → ℕ
caller_of (Submit queue number e) = queue
caller_of (Execute queue number payload) = queue
caller_of (Poll queue) = queue
caller_of (Control queue number e payload) = queue
caller_of (AnEdit line e) = 0
caller_of (DrainEnd line sub nsid) = 0

-- ---- parts
abbrev pub is_command : ℕ → ℕ → Command → Bool
is_command queue number h = (h.queue == queue) && (h.number == number)

-- the held command of a capsule
abbrev pub held_at : Target → ℕ → ℕ → Option Command
held_at t queue number = find (is_command queue number) t.held

abbrev pub binding_in : List Binding → ℕ → Option Binding
binding_in bindings zero = None
binding_in bindings (suc q) = slice_get bindings q

abbrev pub binding_at : Target → ℕ → Option Binding
binding_at t queue = binding_in t.bindings queue

abbrev pub bound_of : Option Binding → Option Bound
bound_of None = None
bound_of (Some b) = b.bound

-- what a queue is connected to
abbrev pub bound_at : Target → ℕ → Option Bound
bound_at t queue = bound_of (binding_at t queue)

-- the QID, 0 before Connect
abbrev pub qid_of : Option Bound → ℕ
qid_of None = 0
qid_of (Some b) = b.qid
