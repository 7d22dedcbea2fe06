-- What a fabrics command does to the target. Its checks, and what they come to, are those of
-- Connect and of properties, which go by positions: so names are placed for them, and what an
-- accepted Connect binds is named again.
use Rattle.std.specs.Prelude.{ℕ, zero, suc, Bool, false, if◌then◌else◌, List, [], ◌∷◌, ◌++◌, Option, Some, None, slice_set}
use Rattle.std.specs.Option.{unwrap_or}
use Rattle.std.specs.FinMap as map
use Rattle.sqe_cqe.specs.Connect.{connect_of, keep_alive_of}
use Rattle.sqe_cqe.specs.declared.sqe.Sqe.{Sqe}
use Rattle.sqe_cqe.specs.declared.codes.TheConstants.{INVALID_OPCODE}
use Rattle.sqe_cqe.specs.declared.controllers.Bound.{Bound as PlacedBound}
use Rattle.sqe_cqe.specs.declared.controllers.Binding.{Binding as PlacedBinding}
use Rattle.configfs_tree.specs.Links.{subsystem_place, port_place}
use Rattle.configfs_tree.specs.declared.configuration.Configuration.{Configuration}
use Rattle.fabrics_connect.specs.declared.answer.Answer.{Answer}
use Rattle.fabrics_connect.specs.declared.answer.Answer.TheVariants.{Refused, Makes, Joins, Reads, Sets}
use Rattle.fabrics_connect.specs.Names.{name_or_none}
use Rattle.fabrics_connect.specs.Checks.{control_answer}
use Rattle.fabrics_connect.specs.After.{completion_of, controllers_after, tree_after, is_published}
use Rattle.tree_target.specs.declared.calls.Reply.{Reply}
use Rattle.tree_target.specs.declared.calls.Reply.TheVariants as replies
use Rattle.async_events.specs.declared.events.Events.{Events}
use Rattle.async_events.specs.Stamps.{begun}
use Rattle.change_stamps.specs.Stamps.{Stamps, next_serial, raised}
use Rattle.tree_target.specs.Model.{Bound, Binding, Target}

-- ---- the positions of names
abbrev pub subsystem_placed : Configuration → List ℕ → ℕ
subsystem_placed t name = unwrap_or (subsystem_place (map.get t.settings.subsystems name)) 0

abbrev pub port_placed : Configuration → ℕ → ℕ
port_placed t id = unwrap_or (port_place (map.get t.settings.ports id)) 0

abbrev pub placed_bound : Configuration → ℕ → Bound → PlacedBound
placed_bound t port b = record {
  ctrl = b.controller;
  qid = b.qid;
  sub = subsystem_placed t b.subsystem;
  port = port_placed t port;
}

abbrev pub placed_in : Configuration → ℕ → Option Bound → Option PlacedBound
placed_in t port None = None
placed_in t port (Some b) = Some (placed_bound t port b)

abbrev pub placed : Configuration → Binding → PlacedBinding
placed t b = record { port = b.port; bound = placed_in t b.port b.bound }

-- ---- the answer, by the checks in their order
abbrev pub answer_on : Target → Sqe → List ℕ → Binding → Answer
answer_on t e payload b = control_answer t.tree t.controllers (placed t.tree b) e payload

-- a queue that isn't there takes no command
abbrev pub controlled : Target → Sqe → List ℕ → Option Binding → Reply
controlled t e payload None = replies.Answered (record {
  result = 0;
  sq_head = 0;
  sq_id = 0;
  cid = e.cid;
  status = INVALID_OPCODE;
})
controlled t e payload (Some b) =
    replies.Answered (completion_of (placed t.tree b) e (answer_on t e payload b))

-- ---- what it leaves
-- an accepted Connect binds the queue to the subsystem that its data name
abbrev pub named : List ℕ → PlacedBound → Bound
named name b = record { controller = b.ctrl; qid = b.qid; subsystem = name }

abbrev pub bound_after : Binding → List ℕ → Answer → Binding
bound_after b name (Refused fault) = b
bound_after b name (Makes bound host) = record b { bound = Some (named name bound) }
bound_after b name (Joins bound) = record b { bound = Some (named name bound) }
bound_after b name (Reads value) = b
bound_after b name (Sets value) = b

abbrev pub put_binding : List Binding → ℕ → Binding → List Binding
put_binding bindings zero b = bindings
put_binding bindings (suc q) b = slice_set bindings q b

-- a new controller keeps the serial and the keep alive time of its Connect; its notices are on, and
-- no event request waits
abbrev pub events_made : Stamps → List Events → Sqe → Answer → List Events
events_made s events e (Refused fault) = events
events_made s events e (Makes bound host) =
    events ++ begun (next_serial s) (keep_alive_of e) ∷ []
events_made s events e (Joins bound) = events
events_made s events e (Reads value) = events
events_made s events e (Sets value) = events

-- a change of the controllers raises the serial
abbrev pub raised_if : Bool → Stamps → Stamps
raised_if published s = if published then raised s else s

-- the name of the subsystem in the data of a Connect; no bytes where the field names nothing
abbrev pub subsystem_in : List ℕ → List ℕ
subsystem_in payload = name_or_none (connect_of payload).subnqn

abbrev pub after_answer : Target → ℕ → Sqe → List ℕ → Binding → Answer → Target
after_answer t queue e name b a = record t {
  tree = tree_after t.tree a;
  controllers = controllers_after t.tree t.controllers (placed t.tree b) a;
  bindings = put_binding t.bindings queue (bound_after b name a);
  events = events_made t.stamps t.events e a;
  stamps = raised_if (is_published t.controllers (placed t.tree b) a) t.stamps;
}

abbrev pub after_control : Target → ℕ → Sqe → List ℕ → Option Binding → Target
after_control t queue e payload None = t
after_control t queue e payload (Some b) =
    after_answer t queue e (subsystem_in payload) b (answer_on t e payload b)

-- a Connect is published, and a Property Set that changes CC or CSTS
abbrev pub publishes : Target → Sqe → List ℕ → Option Binding → Bool
publishes t e payload None = false
publishes t e payload (Some b) =
    is_published t.controllers (placed t.tree b) (answer_on t e payload b)
