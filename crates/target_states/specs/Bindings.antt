-- To what a queue is connected, as its own entries tell.
use Rattle.std.specs.Prelude.{◌≡◌, ℕ, ◌==◌, if◌then◌else◌, List, Option, Some, None}
use Rattle.sqe_cqe.specs.declared.codes.TheConstants.{SUCCESS}
use Rattle.sqe_cqe.specs.declared.cqe.Cqe.{Cqe}
use Rattle.sqe_cqe.specs.declared.sqe.Sqe.{Sqe}
use Rattle.tree_target.specs.declared.calls.Reply.{Reply}
use Rattle.tree_target.specs.declared.calls.Reply.TheVariants as replies
use Rattle.tree_target.specs.Controls.{subsystem_in}
use Rattle.tree_target.specs.Model.{Control, Bound, Binding, Target, binding_at}
use Rattle.tree_target.specs.Steps.{reply_of, target_after}

-- a completion of success connects a queue that isn't connected: to the controller that the result
-- names, as the QID that the completion carries, and to the subsystem that the data name
abbrev pub connected_by : List ℕ → Cqe → Option Bound → Option Bound
connected_by payload cqe None =
    if cqe.status == SUCCESS
    then Some (record {
      controller = cqe.result;
      qid = cqe.sq_id;
      subsystem = subsystem_in payload;
    })
    else None
connected_by payload cqe (Some b) = Some b

abbrev pub replied_to : List ℕ → Binding → Reply → Binding
replied_to payload b (replies.Answered cqe) = record b {
  bound = connected_by payload cqe b.bound;
}
replied_to payload b replies.Held = b
replied_to payload b replies.Waiting = b
replied_to payload b replies.NoEvent = b
replied_to payload b replies.Accepted = b
replied_to payload b (replies.Errno errno) = b
replied_to payload b replies.Ended = b

-- a queue's binding after a fabrics command of its own, by the data and the reply alone
abbrev pub bound_by : List ℕ → Reply → Option Binding → Option Binding
bound_by payload reply None = None
bound_by payload reply (Some b) = Some (replied_to payload b reply)

abbrev pub BindingsAreOfEntries : Type 0
BindingsAreOfEntries = (t : Target) (queue number : ℕ) (e : Sqe) (payload : List ℕ)
    → binding_at (target_after t (Control queue number e payload)) queue
    ≡ bound_by payload (reply_of t (Control queue number e payload)) (binding_at t queue)
