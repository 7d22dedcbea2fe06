-- What one call leaves of disks, of the words and of the desk.
use Rattle.std.proofs.Common.{◌≡◌, ◌≢◌, ℕ, zero, suc, ◌<◌, List, [], ◌∷◌, map, Option, Some, None, refl, sym, ap, ◌∙◌, arith}
use Rattle.mem_bdev.specs.Blocks.{Blocks}
use Rattle.sqe_cqe.specs.declared.sqe.Sqe.{Sqe}
use Rattle.configfs_tree.specs.Outcome.{Outcome, Refuses, Accepts}
use Rattle.tree_target.specs.Edits.{outcome}
use Rattle.tree_target.specs.Model.{Call, Submit, Execute, Poll, Control, AnEdit, DrainEnd, Bound, Binding, Target, binding_at, held_at}
use Rattle.tree_target.specs.Admission.{Admission, Completes, Waits, Holds, admission}
use Rattle.tree_target.specs.Controls.{after_control}
use Rattle.tree_target.specs.declared.calls.Command.{Command}
use Rattle.tree_target.specs.Steps.{changed, target_after, after_submit, after_execute, after_edit}
use Rattle.tree_target.specs.Fixed as whole
use Rattle.tree_target.proofs.Changes.{queues_leave}
use Rattle.target_states.specs.declared.parts.Fixed.{Fixed}
use Rattle.target_states.specs.declared.parts.Bound.{Bound as BoundRow}
use Rattle.target_states.specs.declared.parts.Binding.{Binding as BindingRow}
use Rattle.target_states.specs.declared.parts.Desk.{Desk}
use Rattle.target_states.specs.Inputs.{Inputs, call_by, end_of}
use Rattle.target_states.specs.States.{stepped, fixed_at, binding_row, bound_row, desk_at}
use Rattle.target_states.specs.Sizes.{size_at}

-- ---- blocks
submit_blocks : (t : Target) (queue number cid : ℕ) (a : Admission)
    → (after_submit t queue number cid a).blocks ≡ t.blocks
submit_blocks t queue number cid (Completes status result bytes) = refl
submit_blocks t queue number cid Waits = refl
submit_blocks t queue number cid (Holds job) = refl

control_blocks : (t : Target) (queue : ℕ) (e : Sqe) (payload : List ℕ) (b : Option Binding)
    → (after_control t queue e payload b).blocks ≡ t.blocks
control_blocks t queue e payload None = refl
control_blocks t queue e payload (Some b) = refl

edit_blocks : (t : Target) (o : Outcome) → (after_edit t o).blocks ≡ t.blocks
edit_blocks t (Refuses errno) = refl
edit_blocks t (Accepts u change) = refl

-- a call that is no Execute
abbrev pub NoExecute : Option Call → Type 0
NoExecute None = Unit {0}
NoExecute (Some (Submit queue number e)) = Unit {0}
NoExecute (Some (Execute queue number payload)) = ⊥
NoExecute (Some (Poll queue)) = Unit {0}
NoExecute (Some (Control queue number e payload)) = Unit {0}
NoExecute (Some (AnEdit line e)) = Unit {0}
NoExecute (Some (DrainEnd line sub nsid)) = Unit {0}

pub blocks_left : (t : Target) (c : Option Call) → NoExecute c → (stepped t c).blocks ≡ t.blocks
unfolding changed
blocks_left t None h = refl
blocks_left t (Some (Submit queue number e)) h =
    submit_blocks t queue number e.cid (admission t queue e)
blocks_left t (Some (Execute queue number payload)) h = absurd h
blocks_left t (Some (Poll queue)) h = refl
blocks_left t (Some (Control queue number e payload)) h =
    control_blocks t queue e payload (binding_at t queue)
blocks_left t (Some (AnEdit line e)) h = edit_blocks t (outcome t.tree e)
blocks_left t (Some (DrainEnd line sub nsid)) h = refl

-- ---- sizes
pub sizes_of : (a b : List Blocks) → a ≡ b → (disk : ℕ) → size_at a disk ≡ size_at b disk
sizes_of a b e disk = ap (λ (x : List Blocks). size_at x disk) e

-- ---- the desk and what is fixed
abbrev fixed_of : whole.Fixed → Fixed
fixed_of f = record { settings = f.settings; controllers = f.controllers; stamps = f.stamps }

abbrev desk_of : whole.Desk → List Binding → Desk
desk_of d bindings = record {
  tree = d.tree;
  controllers = d.controllers;
  stamps = d.stamps;
  bindings = map binding_row bindings;
}

abbrev back : Desk → whole.Desk
back d = record { tree = d.tree; controllers = d.controllers; stamps = d.stamps }

pub fixed_by : (t u : Target) → whole.fixed u ≡ whole.fixed t → fixed_at u ≡ fixed_at t
fixed_by t u e = ap fixed_of e

pub desk_by : (t u : Target) → whole.desk u ≡ whole.desk t → u.bindings ≡ t.bindings
    → desk_at u ≡ desk_at t
desk_by t u e f = λ i. desk_of (e i) (f i)

pub desk_back : (t u : Target) → desk_at u ≡ desk_at t → whole.desk u ≡ whole.desk t
desk_back t u e = ap back e

-- rows of bindings name them
abbrev bound_from : Option BoundRow → Option Bound
bound_from None = None
bound_from (Some b) = Some (record {
  controller = b.controller;
  qid = b.qid;
  subsystem = b.subsystem;
})

abbrev binding_from : BindingRow → Binding
binding_from b = record { port = b.port; bound = bound_from b.bound }

bound_again : (o : Option Bound) → bound_from (bound_row o) ≡ o
bound_again None = refl
bound_again (Some b) = refl

bindings_again : (bs : List Binding) → map binding_from (map binding_row bs) ≡ bs
bindings_again [] = refl
bindings_again (b ∷ bs) =
    λ i. (record { port = b.port; bound = bound_again b.bound i }) ∷ bindings_again bs i

pub bindings_back : (t u : Target) → desk_at u ≡ desk_at t → u.bindings ≡ t.bindings
bindings_back t u e = sym (bindings_again u.bindings)
    ∙ (ap (λ (d : Desk). map binding_from d.bindings) e ∙ bindings_again t.bindings)

abbrev settled : Desk → Fixed
settled d = record { settings = d.tree.settings; controllers = d.controllers; stamps = d.stamps }

-- the desk has what is fixed
pub fixed_by_desk : (t u : Target) → desk_at u ≡ desk_at t → fixed_at u ≡ fixed_at t
fixed_by_desk t u e = ap settled e

submit_bindings : (t : Target) (queue number cid : ℕ) (a : Admission)
    → (after_submit t queue number cid a).bindings ≡ t.bindings
submit_bindings t queue number cid (Completes status result bytes) = refl
submit_bindings t queue number cid Waits = refl
submit_bindings t queue number cid (Holds job) = refl

execute_bindings : (t : Target) (queue number : ℕ) (payload : List ℕ) (h : Option Command)
    → (after_execute t queue number payload h).bindings ≡ t.bindings
execute_bindings t queue number payload None = refl
execute_bindings t queue number payload (Some h) = refl

-- a call that isn't the editor's
abbrev pub IsQueues : Option Call → Type 0
IsQueues None = Unit {0}
IsQueues (Some (Submit queue number e)) = Unit {0}
IsQueues (Some (Execute queue number payload)) = Unit {0}
IsQueues (Some (Poll queue)) = Unit {0}
IsQueues (Some (Control queue number e payload)) = ⊥
IsQueues (Some (AnEdit line e)) = ⊥
IsQueues (Some (DrainEnd line sub nsid)) = ⊥

pub desk_left : (t : Target) (c : Option Call) → IsQueues c → desk_at (stepped t c) ≡ desk_at t
unfolding changed
desk_left t None h = refl
desk_left t (Some (Submit queue number e)) h =
    desk_by t (target_after t (Submit queue number e))
    (queues_leave t (Submit queue number e) refl)
    (submit_bindings t queue number e.cid (admission t queue e))
desk_left t (Some (Execute queue number payload)) h =
    desk_by t (target_after t (Execute queue number payload))
    (queues_leave t (Execute queue number payload) refl)
    (execute_bindings t queue number payload (held_at t queue number))
desk_left t (Some (Poll queue)) h =
    desk_by t (target_after t (Poll queue)) (queues_leave t (Poll queue) refl) refl
desk_left t (Some (Control queue number e payload)) h = absurd h
desk_left t (Some (AnEdit line e)) h = absurd h
desk_left t (Some (DrainEnd line sub nsid)) h = absurd h

-- ---- kinds of tags
end_no_execute : (line : ℕ) (o : _) → NoExecute (end_of line o)
end_no_execute line None = tt
end_no_execute line (Some s) = tt

pub no_execute : (i : Inputs) (kind caller number : ℕ) → kind ≢ 2
    → NoExecute (call_by i kind caller number)
no_execute i zero caller number ne = tt
no_execute i (suc zero) caller number ne = tt
no_execute i (suc (suc zero)) caller number ne = absurd (ne refl)
no_execute i (suc (suc (suc zero))) caller number ne = tt
no_execute i (suc (suc (suc (suc zero)))) caller number ne = tt
no_execute i (suc (suc (suc (suc (suc zero))))) caller number ne = tt
no_execute i (suc (suc (suc (suc (suc (suc zero)))))) caller number ne = tt
no_execute i (suc (suc (suc (suc (suc (suc (suc zero))))))) caller number ne =
    end_no_execute number _
no_execute i (suc (suc (suc (suc (suc (suc (suc (suc kind)))))))) caller number ne = tt

pub is_queues : (i : Inputs) (kind caller number : ℕ) → kind < 4
    → IsQueues (call_by i kind caller number)
is_queues i zero caller number lt = tt
is_queues i (suc zero) caller number lt = tt
is_queues i (suc (suc zero)) caller number lt = tt
is_queues i (suc (suc (suc zero))) caller number lt = tt
is_queues i (suc (suc (suc (suc kind)))) caller number lt = absurd (omega arith)

-- the call of an Execute's tag
pub executes_as : (i : Inputs) (kind caller number : ℕ) → kind ≡ 2
    → call_by i kind caller number ≡ Some (Execute caller number (i.payload caller number))
executes_as i kind caller number two = ap (λ (k : ℕ). call_by i k caller number) two
