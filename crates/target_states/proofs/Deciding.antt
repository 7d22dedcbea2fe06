-- What the editor's calls come to, by the desk alone.
use Rattle.std.proofs.Common.{◌≡◌, ℕ, Bool, true, false, List, [], ◌∷◌, Option, Some, None, refl, sym, ap, ◌∙◌}
use Rattle.std.proofs.lemmas.Bool.{both_ways}
use Rattle.sqe_cqe.specs.declared.sqe.Sqe.{Sqe}
use Rattle.sqe_cqe.specs.declared.codes.TheConstants.{INVALID_OPCODE}
use Rattle.change_stamps.specs.Stamps.{stamps_after}
use Rattle.configfs_tree.specs.Outcome.{Outcome, Refuses, Accepts}
use Rattle.configfs_tree.specs.Standing.{IsStanding}
use Rattle.configfs_tree.specs.Drained.{drained}
use Rattle.fabrics_connect.specs.declared.answer.Answer.{Answer}
use Rattle.fabrics_connect.specs.Checks.{control_answer}
use Rattle.fabrics_connect.specs.After.{completion_of, controllers_after, tree_after, is_published as publishes_answer}
use Rattle.tree_target.specs.declared.calls.Reply.{Reply}
use Rattle.tree_target.specs.declared.calls.Reply.TheVariants as replies
use Rattle.tree_target.specs.Edits.{Edit, outcome}
use Rattle.tree_target.specs.Model.{Call, Submit, Execute, Poll, Control, AnEdit, DrainEnd, Binding, Target, binding_in, binding_at}
use Rattle.tree_target.specs.Controls.{placed, bound_after, put_binding, subsystem_in, raised_if, controlled, after_control, publishes}
use Rattle.tree_target.specs.Steps.{reply_of, changed, target_after, after_edit, edited}
use Rattle.tree_target.specs.Legal.{after}
use Rattle.tree_target.specs.Fixed as whole
use Rattle.tree_target.specs.Fixed.{is_editors, is_published, is_published_edit, AreQueues}
use Rattle.tree_target.proofs.Changes.{unpublished_leave}
use Rattle.tree_target.proofs.Simulating.{drained_settings}
use Rattle.target_states.specs.States.{stepped, fixed_at, desk_at}
use Rattle.target_states.specs.Desks.{IsSame}
use Rattle.target_states.proofs.Changes.{NoExecute, IsQueues, fixed_by, desk_by, desk_back, bindings_back, desk_left}

-- ---- fabrics commands
abbrev answer_with : whole.Desk → Sqe → List ℕ → Binding → Answer
answer_with d e payload b = control_answer d.tree d.controllers (placed d.tree b) e payload

abbrev reply_with : Sqe → List ℕ → whole.Desk → Option Binding → Reply
reply_with e payload d None = replies.Answered (record {
  result = 0;
  sq_head = 0;
  sq_id = 0;
  cid = e.cid;
  status = INVALID_OPCODE;
})
reply_with e payload d (Some b) =
    replies.Answered (completion_of (placed d.tree b) e (answer_with d e payload b))

reply_is : (t : Target) (e : Sqe) (payload : List ℕ) (b : Option Binding)
    → controlled t e payload b ≡ reply_with e payload (whole.desk t) b
reply_is t e payload None = refl
reply_is t e payload (Some b) = refl

abbrev desk_with : Sqe → List ℕ → whole.Desk → Option Binding → whole.Desk
desk_with e payload d None = d
desk_with e payload d (Some b) = record {
  tree = tree_after d.tree (answer_with d e payload b);
  controllers = controllers_after d.tree d.controllers (placed d.tree b)
      (answer_with d e payload b);
  stamps = raised_if
      (publishes_answer d.controllers (placed d.tree b) (answer_with d e payload b)) d.stamps;
}

desk_is : (t : Target) (queue : ℕ) (e : Sqe) (payload : List ℕ) (b : Option Binding)
    → whole.desk (after_control t queue e payload b) ≡ desk_with e payload (whole.desk t) b
desk_is t queue e payload None = refl
desk_is t queue e payload (Some b) = refl

abbrev bindings_with : ℕ → Sqe → List ℕ → whole.Desk → List Binding → Option Binding
    → List Binding
bindings_with queue e payload d bs None = bs
bindings_with queue e payload d bs (Some b) =
    put_binding bs queue (bound_after b (subsystem_in payload) (answer_with d e payload b))

bindings_are : (t : Target) (queue : ℕ) (e : Sqe) (payload : List ℕ) (b : Option Binding)
    → (after_control t queue e payload b).bindings
    ≡ bindings_with queue e payload (whole.desk t) t.bindings b
bindings_are t queue e payload None = refl
bindings_are t queue e payload (Some b) = refl

abbrev published_with : Sqe → List ℕ → whole.Desk → Option Binding → Bool
published_with e payload d None = false
published_with e payload d (Some b) =
    publishes_answer d.controllers (placed d.tree b) (answer_with d e payload b)

published_is : (t : Target) (e : Sqe) (payload : List ℕ) (b : Option Binding)
    → publishes t e payload b ≡ published_with e payload (whole.desk t) b
published_is t e payload None = refl
published_is t e payload (Some b) = refl

control_same : (t u : Target) (queue number : ℕ) (e : Sqe) (payload : List ℕ)
    → desk_at u ≡ desk_at t → IsSame t u (Control queue number e payload)
unfolding reply_of changed is_published
control_same t u queue number e payload same =
    let d = desk_back t u same in
    let bs = bindings_back t u same in
    record {
      reply = reply_is u e payload (binding_at u queue)
          ∙ ((λ i. reply_with e payload (d i) (binding_in (bs i) queue))
          ∙ sym (reply_is t e payload (binding_at t queue)));
      published = published_is u e payload (binding_at u queue)
          ∙ ((λ i. published_with e payload (d i) (binding_in (bs i) queue))
          ∙ sym (published_is t e payload (binding_at t queue)));
      desk = desk_by (target_after t (Control queue number e payload))
          (target_after u (Control queue number e payload))
          (desk_is u queue e payload (binding_at u queue)
          ∙ ((λ i. desk_with e payload (d i) (binding_in (bs i) queue))
          ∙ sym (desk_is t queue e payload (binding_at t queue))))
          (bindings_are u queue e payload (binding_at u queue)
          ∙ ((λ i. bindings_with queue e payload (d i) (bs i) (binding_in (bs i) queue))
          ∙ sym (bindings_are t queue e payload (binding_at t queue))));
    }

-- ---- edits and ends of drains
abbrev edit_with : whole.Desk → Outcome → whole.Desk
edit_with d (Refuses errno) = d
edit_with d (Accepts u c) = record d { tree = u; stamps = stamps_after c d.stamps }

edit_is : (t : Target) (o : Outcome) → whole.desk (after_edit t o) ≡ edit_with (whole.desk t) o
edit_is t (Refuses errno) = refl
edit_is t (Accepts u c) = refl

edit_bindings : (t : Target) (o : Outcome) → (after_edit t o).bindings ≡ t.bindings
edit_bindings t (Refuses errno) = refl
edit_bindings t (Accepts u c) = refl

edit_same : (t u : Target) (line : ℕ) (e : Edit) → desk_at u ≡ desk_at t
    → IsSame t u (AnEdit line e)
unfolding reply_of changed is_published
edit_same t u line e same =
    let d = desk_back t u same in
    record {
      reply = λ i. edited (outcome (d i).tree e);
      published = λ i. is_published_edit (outcome (d i).tree e);
      desk = desk_by (target_after t (AnEdit line e)) (target_after u (AnEdit line e))
          (edit_is u (outcome u.tree e)
          ∙ ((λ i. edit_with (d i) (outcome (d i).tree e))
          ∙ sym (edit_is t (outcome t.tree e))))
          (edit_bindings u (outcome u.tree e)
          ∙ (bindings_back t u same ∙ sym (edit_bindings t (outcome t.tree e))));
    }

abbrev end_with : List ℕ → ℕ → whole.Desk → whole.Desk
end_with sub nsid d = record d { tree = drained d.tree sub nsid }

end_same : (t u : Target) (line : ℕ) (sub : List ℕ) (nsid : ℕ) → desk_at u ≡ desk_at t
    → IsSame t u (DrainEnd line sub nsid)
unfolding reply_of changed is_published
end_same t u line sub nsid same = record {
  reply = refl;
  published = refl;
  desk = desk_by (target_after t (DrainEnd line sub nsid))
      (target_after u (DrainEnd line sub nsid))
      (ap (end_with sub nsid) (desk_back t u same)) (bindings_back t u same);
}

-- ---- every call of the editor's
pub editors_same : (t u : Target) (call : Call) → is_editors call ≡ true → desk_at u ≡ desk_at t
    → IsSame t u call
editors_same t u (Submit queue number e) own same = absurd (both_ways false refl own)
editors_same t u (Execute queue number payload) own same = absurd (both_ways false refl own)
editors_same t u (Poll queue) own same = absurd (both_ways false refl own)
editors_same t u (Control queue number e payload) own same =
    control_same t u queue number e payload same
editors_same t u (AnEdit line e) own same = edit_same t u line e same
editors_same t u (DrainEnd line sub nsid) own same = end_same t u line sub nsid same

pub no_execute_of : (call : Call) → is_editors call ≡ true → NoExecute (Some call)
no_execute_of (Submit queue number e) own = tt
no_execute_of (Execute queue number payload) own = absurd (both_ways false refl own)
no_execute_of (Poll queue) own = tt
no_execute_of (Control queue number e payload) own = tt
no_execute_of (AnEdit line e) own = tt
no_execute_of (DrainEnd line sub nsid) own = tt

pub queues_of : (call : Call) → is_editors call ≡ false → IsQueues (Some call)
queues_of (Submit queue number e) own = tt
queues_of (Execute queue number payload) own = tt
queues_of (Poll queue) own = tt
queues_of (Control queue number e payload) own = absurd (both_ways true own refl)
queues_of (AnEdit line e) own = absurd (both_ways true own refl)
queues_of (DrainEnd line sub nsid) own = absurd (both_ways true own refl)

pub queues_leave_desk : (t : Target) (call : Call) → is_editors call ≡ false
    → desk_at (target_after t call) ≡ desk_at t
queues_leave_desk t call own = desk_left t (Some call) (queues_of call own)

pub queues_leave_all : (t : Target) (calls : List Call) → AreQueues calls
    → desk_at (after t calls) ≡ desk_at t
queues_leave_all t [] h = refl
queues_leave_all t (c ∷ calls) h =
    queues_leave_all (target_after t c) calls h.1 ∙ queues_leave_desk t c h.0

pub as_computed : (t : Target) (calls : List Call) (call : Call) → AreQueues calls
    → is_editors call ≡ true → IsSame t (after t calls) call
as_computed t calls call h own =
    editors_same t (after t calls) call own (queues_leave_all t calls h)

-- ---- what isn't published
pub unpublished_fixed : (t : Target) (call : Call) → IsStanding t.tree
    → is_published t call ≡ false → fixed_at (target_after t call) ≡ fixed_at t
unpublished_fixed t call h off =
    fixed_by t (target_after t call) (unpublished_leave t call h off)

pub ends_fixed : (t : Target) (line : ℕ) (sub : List ℕ) (nsid : ℕ)
    → fixed_at (target_after t (DrainEnd line sub nsid)) ≡ fixed_at t
unfolding changed
ends_fixed t line sub nsid =
    λ i. record {
      settings = drained_settings t.tree sub nsid i;
      controllers = t.controllers;
      stamps = t.stamps;
    }

-- ---- bindings
-- a call that is no fabrics command
abbrev pub NoControl : Option Call → Type 0
NoControl None = Unit {0}
NoControl (Some (Submit queue number e)) = Unit {0}
NoControl (Some (Execute queue number payload)) = Unit {0}
NoControl (Some (Poll queue)) = Unit {0}
NoControl (Some (Control queue number e payload)) = ⊥
NoControl (Some (AnEdit line e)) = Unit {0}
NoControl (Some (DrainEnd line sub nsid)) = Unit {0}

pub bindings_left : (t : Target) (c : Option Call) → NoControl c
    → (stepped t c).bindings ≡ t.bindings
unfolding changed
bindings_left t None own = refl
bindings_left t (Some (Submit queue number e)) own =
    bindings_back t (target_after t (Submit queue number e))
    (desk_left t (Some (Submit queue number e)) tt)
bindings_left t (Some (Execute queue number payload)) own =
    bindings_back t (target_after t (Execute queue number payload))
    (desk_left t (Some (Execute queue number payload)) tt)
bindings_left t (Some (Poll queue)) own = refl
bindings_left t (Some (Control queue number e payload)) own = absurd own
bindings_left t (Some (AnEdit line e)) own = edit_bindings t (outcome t.tree e)
bindings_left t (Some (DrainEnd line sub nsid)) own = refl
