-- How held commands change, and what they are held on.
use Rattle.std.proofs.Common.{◌≡◌, ℕ, zero, suc, Bool, true, false, cond, IsTrue, List, [], ◌∷◌, ◌++◌, Option, Some, None, is_some, refl, sym, ap, subst, ◌∙◌, slice_get}
use Rattle.std.specs.List.{find}
use Rattle.std.proofs.lemmas.Bool.{both_ways}
use Rattle.mem_bdev.specs.Blocks.{Blocks}
use Rattle.sqe_cqe.specs.declared.sqe.Sqe.{Sqe}
use Rattle.sqe_cqe.specs.declared.rows.NsRow.{NsRow}
use Rattle.sqe_cqe.specs.declared.rows.Seen.TheVariants.{NotConfigured, Off, On}
use Rattle.sqe_cqe.specs.declared.controllers.Bound.{Bound as PlacedBound}
use Rattle.sqe_cqe.specs.declared.controllers.ControllerRow.{ControllerRow}
use Rattle.sqe_cqe.specs.Answers.{View}
use Rattle.async_events.specs.declared.events.Events.{Events}
use Rattle.admin_commands.specs.declared.admit.AdminReply.{AdminReply}
use Rattle.admin_commands.specs.declared.admit.AdminReply.TheVariants as admin
use Rattle.admin_commands.specs.Admin.{admin_reply, admin_bytes}
use Rattle.fabrics_connect.specs.Checks.{numbered}
use Rattle.io_commands.specs.declared.jobs.Job.{Job}
use Rattle.io_commands.specs.declared.jobs.Admit.{Admit}
use Rattle.io_commands.specs.declared.jobs.Admit.TheVariants.{Refused, Run}
use Rattle.io_commands.specs.Jobs.{disk_of}
use Rattle.io_commands.specs.Admission.{io_admission, AdmittedIsOnSeen}
use Rattle.configfs_rows.specs.declared.namespaces.NamespaceRow.{NamespaceRow}
use Rattle.configfs_tree.specs.declared.configuration.Configuration.{Configuration}
use Rattle.configfs_tree.specs.Outcome.{Outcome, Refuses, Accepts}
use Rattle.tree_target.specs.declared.calls.Command.{Command}
use Rattle.tree_target.specs.declared.calls.Reply.TheVariants as replies
use Rattle.tree_target.specs.Edits.{outcome}
use Rattle.tree_target.specs.Model.{Call, Submit, Execute, Poll, Control, AnEdit, DrainEnd, Bound, Binding, Target, is_command, held_at, binding_at}
use Rattle.tree_target.specs.Views.{space_in, row_of, on_blocks, on_disk, seen_of, subsystem_named, view_at}
use Rattle.tree_target.specs.Admission.{Admission, Completes, Waits, Holds as HoldsJob, of_reply, events_numbered, as_bound, of_controller, of_admit, of_qid, of_bound, of_binding, admission}
use Rattle.tree_target.specs.Controls.{placed_bound, after_control}
use Rattle.tree_target.specs.Steps.{reply_of, changed, target_after, without, after_submit, after_execute, after_edit, submitted, command_of}
use Rattle.tree_target.specs.Held.{held_by, held_disk, TakesOne, HeldBy, HeldChange, IsShown}
use Rattle.tree_target.proofs.HeldList.{no_command, some_is, both_true, eqb_is}

-- ---- the list
submit_held : (t : Target) (queue number cid : ℕ) (a : Admission)
    → HeldBy t (after_submit t queue number cid a) queue number (held_by a)
submit_held t queue number cid (Completes status result bytes) = refl
submit_held t queue number cid Waits = refl
submit_held t queue number cid (HoldsJob job) = record {
  command = command_of queue number cid job;
  queue_is = refl;
  number_is = refl;
  disk_is = refl;
  held = refl;
}

-- the first that passes
record Split (p : Command → Bool) (held : List Command) (h : Command) : Type 0 where
  before : List Command
  later : List Command
  was : held ≡ before ++ h ∷ later
  now : without p held ≡ before ++ later
  passes : p h ≡ true

split_on : (p : Command → Bool) (k h : Command) (held : List Command) (b : Bool) → p k ≡ b
    → cond b (Some k) (find p held) ≡ Some h → (find p held ≡ Some h → Split p held h)
    → Split p (k ∷ held) h
split_on p k h held true e is rest =
    let same : k ≡ h = some_is k h is in
    record {
      before = [];
      later = held;
      was = ap (λ (x : Command). x ∷ held) same;
      now = ap (λ b. cond b held (k ∷ without p held)) e;
      passes = ap p (sym same) ∙ e;
    }
split_on p k h held false e is rest =
    let s = rest is in
    record {
      before = k ∷ s.before;
      later = s.later;
      was = ap (λ (xs : List Command). k ∷ xs) s.was;
      now = ap (λ b. cond b held (k ∷ without p held)) e
          ∙ ap (λ (xs : List Command). k ∷ xs) s.now;
      passes = s.passes;
    }

split_at : (p : Command → Bool) (held : List Command) (h : Command) → find p held ≡ Some h
    → Split p held h
split_at p [] h e = absurd (no_command h e)
split_at p (k ∷ held) h e = split_on p k h held (p k) refl e (split_at p held h)

execute_held : (t : Target) (queue number : ℕ) (payload : List ℕ) (h : Option Command)
    → held_at t queue number ≡ h → IsTrue (is_some h)
    → TakesOne t (after_execute t queue number payload h) queue number
execute_held t queue number payload None e lawful = absurd (both_ways false refl lawful)
execute_held t queue number payload (Some h) e lawful =
    let s = split_at (is_command queue number) t.held h e in
    let b = both_true _ _ s.passes in
    record {
      before = s.before;
      command = h;
      later = s.later;
      queue_is = eqb_is h.queue queue b.0;
      number_is = eqb_is h.number number b.1;
      was = s.was;
      held = s.now;
    }

control_held : (t : Target) (queue : ℕ) (e : Sqe) (payload : List ℕ) (b : Option Binding)
    → (after_control t queue e payload b).held ≡ t.held
control_held t queue e payload None = refl
control_held t queue e payload (Some b) = refl

edit_held : (t : Target) (o : Outcome) → (after_edit t o).held ≡ t.held
edit_held t (Refuses errno) = refl
edit_held t (Accepts u c) = refl

takes_along : (t u v : Target) (queue number : ℕ) → v.held ≡ u.held → TakesOne t u queue number
    → TakesOne t v queue number
takes_along t u v queue number e x = record {
  before = x.before;
  command = x.command;
  later = x.later;
  queue_is = x.queue_is;
  number_is = x.number_is;
  was = x.was;
  held = e ∙ x.held;
}

held_along : (t u v : Target) (queue number : ℕ) (disk : Option ℕ) → v.held ≡ u.held
    → HeldBy t u queue number disk → HeldBy t v queue number disk
held_along t u v queue number None e x = e ∙ x
held_along t u v queue number (Some d) e x = record {
  command = x.command;
  queue_is = x.queue_is;
  number_is = x.number_is;
  disk_is = x.disk_is;
  held = e ∙ x.held;
}

pub held_change : (t : Target) (call : Call) → HeldChange t call (target_after t call)
unfolding changed held_disk
held_change t (Submit queue number e) =
    held_along t (after_submit t queue number e.cid (admission t queue e))
    (target_after t (Submit queue number e)) queue number (held_by (admission t queue e)) refl
    (submit_held t queue number e.cid (admission t queue e))
held_change t (Execute queue number payload) = λ lawful.
    takes_along t (after_execute t queue number payload (held_at t queue number))
    (target_after t (Execute queue number payload)) queue number refl
    (execute_held t queue number payload (held_at t queue number) refl lawful)
held_change t (Poll queue) = refl
held_change t (Control queue number e payload) =
    control_held t queue e payload (binding_at t queue)
held_change t (AnEdit line e) = edit_held t (outcome t.tree e)
held_change t (DrainEnd line sub nsid) = refl

-- ---- what is held is shown
record SeenOn (n : NamespaceRow) (disk : ℕ) : Type 0 where
  on : n.enabled ≡ true
  number : n.disk ≡ Some disk

not_on : (row : NsRow) → Off ≡ On row → ⊥
not_on row e = cc

not_there : (row : NsRow) → NotConfigured ≡ On row → ⊥
not_there row e = cc

on_same : (r q : NsRow) → On r ≡ On q → r ≡ q
on_same r q e = cc

blocks_number : (i : ℕ) (n : NamespaceRow) (d : Option Blocks) (row : NsRow)
    → on_blocks i n d ≡ On row → i ≡ row.disk
blocks_number i n None row e = absurd (not_on row e)
blocks_number i n (Some d) row e = ap (λ (r : NsRow). r.disk) (on_same (row_of i d n) row e)

disk_seen : (blocks : List Blocks) (n : NamespaceRow) (number : Option ℕ) (row : NsRow)
    → on_disk blocks n number ≡ On row → number ≡ Some row.disk
disk_seen blocks n None row e = absurd (not_on row e)
disk_seen blocks n (Some i) row e =
    ap (λ (j : ℕ). Some j) (blocks_number i n (slice_get blocks i) row e)

row_seen : (blocks : List Blocks) (n : NamespaceRow) (row : NsRow) (on : Bool) → n.enabled ≡ on
    → cond on (on_disk blocks n n.disk) Off ≡ On row → SeenOn n row.disk
row_seen blocks n row true e is = record { on = e; number = disk_seen blocks n n.disk row is }
row_seen blocks n row false e is = absurd (not_on row is)

shown_of : (t : Configuration) (blocks : List Blocks) (sub : List ℕ) (nsid : ℕ) (row : NsRow)
    (n : Option NamespaceRow) → space_in nsid (subsystem_named t sub) ≡ n
    → seen_of blocks n ≡ On row → IsShown t row.disk
shown_of t blocks sub nsid row None e is = absurd (not_there row is)
shown_of t blocks sub nsid row (Some n) e is =
    let s = row_seen blocks n row n.enabled refl is in
    record { sub = sub; nsid = nsid; row = n; stands = e; enabled = s.on; on = s.number }

some_number : (a b : ℕ) → Some a ≡ Some b → a ≡ b
some_number a b e = cc

no_number : (a : ℕ) → None ≡ Some a → ⊥
no_number a e = cc

record RunsOn (a : Admit) (disk : ℕ) : Type 0 where
  job : Job
  run : a ≡ Run job
  on : disk_of job ≡ disk

run_of : (a : Admit) (disk : ℕ) → held_by (of_admit a) ≡ Some disk → RunsOn a disk
run_of (Refused status) disk e = absurd (no_number disk e)
run_of (Run job) disk e = record { job = job; run = refl; on = some_number (disk_of job) disk e }

-- a command of an admin queue is never held
reply_holds_none : (bytes : List ℕ) (r : AdminReply) → held_by (of_reply bytes r) ≡ None
reply_holds_none bytes (admin.Completes status result) = refl
reply_holds_none bytes admin.Waits = refl

admin_holds_none : (v : View) (b : PlacedBound) (e : Sqe) (c : Option ControllerRow)
    (o : Option Events) → held_by (of_controller v b e c o) ≡ None
admin_holds_none v b e None o = refl
admin_holds_none v b e (Some c) None = refl
admin_holds_none v b e (Some c) (Some o) =
    reply_holds_none (admin_bytes v (as_bound b c) o e) (admin_reply v o e)

module _ (law : AdmittedIsOnSeen) where
  qid_shown : (t : Target) (e : Sqe) (port : ℕ) (b : Bound) (qid disk : ℕ)
      → held_by (of_qid t e port b qid) ≡ Some disk → IsShown t.tree disk
  qid_shown t e port b zero disk is =
      absurd (no_number disk (sym (admin_holds_none (view_at t port b)
      (placed_bound t.tree port b) e (numbered t.controllers b.controller)
      (events_numbered t.events b.controller)) ∙ is))
  qid_shown t e port b (suc q) disk is =
      let r = run_of (io_admission (view_at t port b) e) disk is in
      let a = law (view_at t port b) e r.job r.run in
      subst (λ (d : ℕ). IsShown t.tree d) (sym a.is_job.disk ∙ r.on)
      (shown_of t.tree t.blocks b.subsystem e.nsid a.row
      (space_in e.nsid (subsystem_named t.tree b.subsystem)) refl a.seen)

  bound_shown : (t : Target) (e : Sqe) (port : ℕ) (b : Option Bound) (disk : ℕ)
      → held_by (of_bound t e port b) ≡ Some disk → IsShown t.tree disk
  bound_shown t e port None disk is = absurd (no_number disk is)
  bound_shown t e port (Some b) disk is = qid_shown t e port b b.qid disk is

  binding_shown : (t : Target) (e : Sqe) (b : Option Binding) (disk : ℕ)
      → held_by (of_binding t e b) ≡ Some disk → IsShown t.tree disk
  binding_shown t e None disk is = absurd (no_number disk is)
  binding_shown t e (Some b) disk is = bound_shown t e b.port b.bound disk is

  pub held_shown : (t : Target) (call : Call) (disk : ℕ) → held_disk t call ≡ Some disk
      → IsShown t.tree disk
  unfolding held_disk admission
  held_shown t (Submit queue number e) disk is =
      binding_shown t e (binding_at t queue) disk is
  held_shown t (Execute queue number payload) disk is = absurd (no_number disk is)
  held_shown t (Poll queue) disk is = absurd (no_number disk is)
  held_shown t (Control queue number e payload) disk is = absurd (no_number disk is)
  held_shown t (AnEdit line e) disk is = absurd (no_number disk is)
  held_shown t (DrainEnd line sub nsid) disk is = absurd (no_number disk is)

reply_held : (t : Target) (queue cid : ℕ) (a : Admission) (disk : ℕ) → held_by a ≡ Some disk
    → submitted t queue cid a ≡ replies.Held
reply_held t queue cid (Completes status result bytes) disk is = absurd (no_number disk is)
reply_held t queue cid Waits disk is = absurd (no_number disk is)
reply_held t queue cid (HoldsJob job) disk is = refl

pub held_reply : (t : Target) (call : Call) (disk : ℕ) → held_disk t call ≡ Some disk
    → reply_of t call ≡ replies.Held
unfolding held_disk reply_of
held_reply t (Submit queue number e) disk is = reply_held t queue e.cid (admission t queue e) disk
    is
held_reply t (Execute queue number payload) disk is = absurd (no_number disk is)
held_reply t (Poll queue) disk is = absurd (no_number disk is)
held_reply t (Control queue number e payload) disk is = absurd (no_number disk is)
held_reply t (AnEdit line e) disk is = absurd (no_number disk is)
held_reply t (DrainEnd line sub nsid) disk is = absurd (no_number disk is)
