-- What the program's target stands for.
use Rattle.std.specs.Prelude.{◌≡◌, ◌≤◌, ℕ, true, IsTrue, List, [], ◌∷◌, length, Option, Some, None, Result, Ok, Err, alloc_error}
use Rattle.std.specs.declared.alloc.AllocError.{AllocError}
use Rattle.mem_bdev.specs.Texts.{Text, appended}
use Rattle.configfs_tree.specs.declared.configuration.Configuration.{Configuration}
use Rattle.configfs_tree.specs.declared.edits.Change.{Change}
use Rattle.configfs_tree.specs.declared.edits.Refused.{Refused}
use Rattle.configfs_tree.specs.declared.edits.Refused.TheVariants as refused
use Rattle.configfs_tree.specs.Stays.{is_subsystem_attached, is_port_attached, SubsystemAt, PortAt}
use Rattle.change_stamps.specs.Stamps.{Stamps, stamps_after}
use Rattle.sqe_cqe.specs.declared.controllers.Bound.{Bound as CodeBound}
use Rattle.sqe_cqe.specs.declared.controllers.Binding.{Binding as CodeBinding}
use Rattle.tree_target.specs.declared.calls.Reply.{Reply}
use Rattle.tree_target.specs.declared.calls.Reply.TheVariants as replies
use Rattle.sqe_cqe.specs.declared.sqe.Sqe.{Sqe}
use Rattle.tree_target.specs.Model.{Call, Submit, Execute, Bound, Binding, Target}
use Rattle.tree_target.specs.Steps.{is_lawful, reply_of, bytes_of, target_after}
use Rattle.tree_target.specs.Kept.{Kept, given_room}

-- the positions are those of the names, where the controller is attached
pub record IsBound (t : Configuration) (port : ℕ) (c : CodeBound) (m : Bound) : Type 0 where
  pub ctrl : m.controller ≡ c.ctrl
  pub qid : m.qid ≡ c.qid
  pub sub : SubsystemAt t m.subsystem c.sub
  pub sub_attached : is_subsystem_attached t c.sub ≡ true
  pub at_port : PortAt t port c.port
  pub port_attached : is_port_attached t c.port ≡ true

abbrev pub IsBoundAs : Configuration → ℕ → Option CodeBound → Option Bound → Type 0
IsBoundAs t port None None = Unit {0}
IsBoundAs t port None (Some m) = ⊥
IsBoundAs t port (Some c) None = ⊥
IsBoundAs t port (Some c) (Some m) = IsBound t port c m

abbrev pub AreBound : Configuration → List CodeBinding → List Binding → Type 0
AreBound t [] [] = Unit {0}
AreBound t [] (m ∷ ms) = ⊥
AreBound t (c ∷ cs) [] = ⊥
AreBound t (c ∷ cs) (m ∷ ms) = (m.port ≡ c.port) × IsBoundAs t m.port c.bound m.bound
    × AreBound t cs ms

-- the program's target has the parts of the model, and its bindings are the model's
pub record StandsFor (k : Kept) (t : Target) : Type 0 where
  pub tree : t.tree ≡ k.tree
  pub controllers : t.controllers ≡ k.controllers
  pub blocks : t.blocks ≡ k.blocks
  pub bindings : AreBound k.tree k.bindings t.bindings
  pub held : t.held ≡ k.held
  pub events : t.events ≡ k.events
  pub stamps : t.stamps ≡ k.stamps

-- a call was lawful, replied so, gave these bytes and left this target, as the model does
pub record Does (t : Target) (call : Call) (reply : Reply) (bytes : List ℕ) (k : Kept)
    : Type 0 where
  pub lawful : IsTrue (is_lawful t call)
  pub reply_is : reply_of t call ≡ reply
  pub bytes_are : bytes_of t call ≡ bytes
  pub stands : StandsFor k (target_after t call)

-- the same of each model that the program's target stood for before
abbrev pub Simulates : Kept → Call → Reply → List ℕ → Kept → Type 0
Simulates old call reply bytes new = (t : Target) → StandsFor old t → Does t call reply bytes new

-- a command is submitted, is held, and is executed as the next call: the model does both
pub record RunsAtOnce (old : Kept) (queue number : ℕ) (e : Sqe) (payload : List ℕ) (reply : Reply)
    (bytes : List ℕ) (new : Kept) : Type 0 where
  -- what is kept between the two
  pub between : Kept
  pub submits : Simulates old (Submit queue number e) replies.Held [] between
  pub executes : Simulates between (Execute queue number payload) reply bytes new

-- how many bytes a call may give: those of a submit that the response has room for
abbrev pub room_of_call : Call → ℕ
room_of_call (Submit queue number e) = given_room e
room_of_call call = 0

-- a call of an admin queue does what the model does, and appends the bytes that the host gets
pub record SubmitsAdmin (old : Kept) (call : Call) (reply : Reply) (to to' : Text) (new : Kept)
    : Type 0 where
  pub bytes : List ℕ
  pub does : Simulates old call reply bytes new
  pub appends : to' ≡ appended to bytes
  pub short : length bytes ≤ room_of_call call

-- the stamps after an edit: a refused one stamps nothing
abbrev pub noted_by : Result Change Refused → Stamps → Stamps
noted_by (Ok change) s = stamps_after change s
noted_by (Err r) s = s

-- what an edit replies, or want of memory
abbrev pub reply_from : Result Change Refused → Result Reply AllocError
reply_from (Ok change) = Ok replies.Accepted
reply_from (Err (refused.Errno errno)) = Ok (replies.Errno errno)
reply_from (Err refused.Memory) = Err alloc_error
