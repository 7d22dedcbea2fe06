-- The target after calls that are given by their tags, and what the running table asks of it.
use Rattle.std.specs.Prelude.{ℕ, ◌==◌, not, Bool, List, [], ◌∷◌, map, Option, Some, None}
use Rattle.ref_state.specs.declared.kinds.Tag.{Tag}
use Rattle.ref_state.specs.declared.kinds.TheConstants.{SUBMIT, DONE}
use Rattle.io_commands.specs.Jobs.{disk_of}
use Rattle.tree_target.specs.declared.calls.Command.{Command}
use Rattle.tree_target.specs.declared.calls.Reply.TheVariants as replies
use Rattle.tree_target.specs.Model.{Call, Bound, Binding, Target}
use Rattle.tree_target.specs.Steps.{is_lawful, reply_of, bytes_of, target_after}
use Rattle.tree_target.specs.Held.{held_disk}
use Rattle.target_states.specs.declared.parts.Fixed.{Fixed}
use Rattle.target_states.specs.declared.parts.Bound.{Bound as BoundRow}
use Rattle.target_states.specs.declared.parts.Binding.{Binding as BindingRow}
use Rattle.target_states.specs.declared.parts.Desk.{Desk}
use Rattle.target_states.specs.declared.parts.Answer.{Answer}
use Rattle.target_states.specs.Inputs.{Inputs, call_of}

-- the target that a run begins with, and what its callers bring
pub record Begun : Type 0 where
  pub target : Target
  pub inputs : Inputs

-- ---- the target after calls
-- a bare call leaves it
abbrev pub stepped : Target → Option Call → Target
stepped t None = t
stepped t (Some call) = target_after t call

-- of the calls since the start the newest stands first
abbrev pub state : Begun → List Tag → Target
state g [] = g.target
state g (tag ∷ tags) = stepped (state g tags) (call_of g.inputs tag)

-- the calls of the target that tags name, in the order of the tags
abbrev pub with_call : Option Call → List Call → List Call
with_call None calls = calls
with_call (Some call) calls = call ∷ calls

abbrev pub calls_of : Inputs → List Tag → List Call
calls_of i [] = []
calls_of i (tag ∷ tags) = with_call (call_of i tag) (calls_of i tags)

-- ---- one call
-- an end where there is no drain to end is never lawful, a bare call always
abbrev pub may_take : Target → ℕ → Option Call → Bool
may_take t kind None = not (kind == DONE)
may_take t kind (Some call) = is_lawful t call

abbrev pub answer_to : Target → Option Call → Answer
answer_to t None = record { reply = replies.NoEvent; bytes = [] }
answer_to t (Some call) = record { reply = reply_of t call; bytes = bytes_of t call }

abbrev pub held_on : Target → Option Call → Option ℕ
held_on t None = None
held_on t (Some call) = held_disk t call

-- ---- one target
-- what published calls alone change
abbrev pub fixed_at : Target → Fixed
fixed_at t = record {
  settings = t.tree.settings;
  controllers = t.controllers;
  stamps = t.stamps;
}

-- to what a queue is connected
abbrev pub bound_row : Option Bound → Option BoundRow
bound_row None = None
bound_row (Some b) = Some (record {
  controller = b.controller;
  qid = b.qid;
  subsystem = b.subsystem;
})

abbrev pub binding_row : Binding → BindingRow
binding_row b = record { port = b.port; bound = bound_row b.bound }

-- what the calls change that the editor's seat places, holders of disks and bindings among it
abbrev pub desk_at : Target → Desk
desk_at t = record {
  tree = t.tree;
  controllers = t.controllers;
  stamps = t.stamps;
  bindings = map binding_row t.bindings;
}

-- the held commands, as their submits and with their disks
abbrev pub submit_of : Command → Tag
submit_of h = record { kind = SUBMIT; caller = h.queue; number = h.number }

abbrev pub waiting : Command → Tag × ℕ
waiting h = (submit_of h, disk_of h.job)

abbrev pub commands_at : Target → List (Tag × ℕ)
commands_at t = map waiting t.held
