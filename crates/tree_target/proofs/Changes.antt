-- What calls change of a target.
use Rattle.std.proofs.Common.{◌≡◌, ◌≢◌, ◌==◌, ◌||◌, not, ℕ, zero, suc, Bool, true, false, cond, List, [], ◌∷◌, Option, Some, None, slice_get, slice_set, refl, sym, ap, ◌∙◌}
use mathlib.Core.Logic.{⊎_elim}
use Rattle.std.proofs.lemmas.Bool.{both_ways}
use Rattle.sqe_cqe.specs.declared.sqe.Sqe.{Sqe}
use Rattle.sqe_cqe.specs.declared.controllers.Bound.{Bound as CodeBound}
use Rattle.sqe_cqe.specs.declared.controllers.ControllerRow.{ControllerRow}
use Rattle.fabrics_connect.specs.declared.answer.Answer.{Answer}
use Rattle.fabrics_connect.specs.declared.answer.Answer.TheVariants.{Refused, Makes, Joins, Reads, Sets}
use Rattle.fabrics_connect.specs.Checks.{numbered}
use Rattle.fabrics_connect.specs.Registers.{Registers, registers_of, registers_after, with_registers, after_set, differ}
use Rattle.fabrics_connect.specs.After.{tree_after, controllers_after, changed as changed_rows, changed_at, changed_bound, differs_after, sets_differ, is_published as publishes_answer}
use Rattle.configfs_tree.specs.declared.configuration.Settings.{Settings}
use Rattle.configfs_tree.specs.declared.configuration.Configuration.{Configuration}
use Rattle.configfs_tree.specs.declared.edits.Change.{Change}
use Rattle.configfs_tree.specs.Outcome.{Outcome, Refuses, Accepts}
use Rattle.configfs_tree.specs.Told.{Tells}
use Rattle.configfs_tree.specs.Standing.{IsStanding}
use Rattle.configfs_tree.proofs.Holds.{Holds, accepted, holds_row, holds_last, holds_if_subsystem, holds_if_port}
use Rattle.configfs_tree.proofs.TellsTable.{edit_tells}
use Rattle.configfs_tree.proofs.StaysTable.{StaysBy, edit_stays}
use Rattle.link_rules.specs.declared.edits.Edit.TheVariants as edit
use Rattle.link_rules.specs.declared.edits.LinkEdit.{LinkEdit}
use Rattle.link_rules.specs.declared.edits.LinkEdit.TheVariants as link
use Rattle.link_rules.specs.Table.{allow_host, disallow_host, link_subsystem, unlink_subsystem, link_outcome}
use Rattle.link_rules.proofs.Tells.{allowed_stays, linked_stays}
use Rattle.change_stamps.specs.Stamps.{Stamps, stamped, stamps_after}
use Rattle.tree_target.specs.declared.calls.Command.{Command}
use Rattle.tree_target.specs.Edits.{Edit, outcome}
use Rattle.tree_target.specs.Model.{Call, Submit, Execute, Poll, Control, AnEdit, DrainEnd, Binding, Target, caller_of, binding_in, binding_at, held_at}
use Rattle.tree_target.specs.Admission.{Admission, Completes, Waits, Holds as HoldsJob, admission}
use Rattle.tree_target.specs.Controls.{placed, answer_on, bound_after, raised_if, put_binding, subsystem_in, after_answer, after_control, publishes}
use Rattle.tree_target.specs.Steps.{reply_of, changed, target_after, after_submit, after_execute, after_edit, edited}
use Rattle.tree_target.specs.Legal.{after}
use Rattle.tree_target.specs.Fixed.{Fixed, fixed, Desk, desk, is_published, is_published_edit, is_editors, AreQueues, LeavesAttached}
use Rattle.tree_target.proofs.HeldList.{eqb_is}
use Rattle.tree_target.proofs.Joining.{get_put_other, put_same}
use Rattle.tree_target.proofs.Accepting.{not_off}
use Rattle.tree_target.proofs.Simulating.{drained_settings}

-- ---- what stays in the steps
submit_desk : (t : Target) (queue number cid : ℕ) (a : Admission)
    → desk (after_submit t queue number cid a) ≡ desk t
submit_desk t queue number cid (Completes status result bytes) = refl
submit_desk t queue number cid Waits = refl
submit_desk t queue number cid (HoldsJob job) = refl

execute_desk : (t : Target) (queue number : ℕ) (payload : List ℕ) (h : Option Command)
    → desk (after_execute t queue number payload h) ≡ desk t
execute_desk t queue number payload None = refl
execute_desk t queue number payload (Some h) = refl

pub queues_leave : (t : Target) (call : Call) → is_editors call ≡ false
    → desk (target_after t call) ≡ desk t
unfolding changed
queues_leave t (Submit queue number e) own =
    submit_desk t queue number e.cid (admission t queue e)
queues_leave t (Execute queue number payload) own =
    execute_desk t queue number payload (held_at t queue number)
queues_leave t (Poll queue) own = refl
queues_leave t (Control queue number e payload) own = absurd (both_ways true own refl)
queues_leave t (AnEdit line e) own = absurd (both_ways true own refl)
queues_leave t (DrainEnd line sub nsid) own = absurd (both_ways true own refl)

-- ---- fixed
abbrev fixed_by : Desk → Fixed
fixed_by d = record {
  settings = d.tree.settings;
  controllers = d.controllers;
  stamps = d.stamps;
}

of_desk : (t u : Target) → desk u ≡ desk t → fixed u ≡ fixed t
of_desk t u e = ap fixed_by e

unpublished_same : (old new : Configuration) (c : Change) → Tells old new c → c.published ≡ false
    → new ≡ old
unpublished_same old new c tells off =
    ⊎_elim (λ p. absurd (both_ways c.published off p.0)) (λ p. p.0) tells.published

abbrev with_controllers : Target → List ControllerRow → Stamps → Fixed
with_controllers t cs s = record {
  settings = t.tree.settings;
  controllers = cs;
  stamps = s;
}

unstamped : (c : Change) (s : Stamps) → c.published ≡ false → stamps_after c s ≡ s
unstamped c s off = ap (λ (b : Bool). cond b (stamped c s) s) off

unraised : (b : Bool) (s : Stamps) → b ≡ false → raised_if b s ≡ s
unraised b s off = ap (λ (x : Bool). raised_if x s) off

abbrev fixed_with : Target → Configuration → Stamps → Fixed
fixed_with t u s = record {
  settings = u.settings;
  controllers = t.controllers;
  stamps = s;
}

edit_fixed : (t : Target) (o : Outcome) → Holds (λ u c. Tells t.tree u c) o
    → is_published_edit o ≡ false → fixed (after_edit t o) ≡ fixed t
edit_fixed t (Refuses errno) tells off = refl
edit_fixed t (Accepts u c) tells off =
    ap (λ (x : Configuration). fixed_with t x (stamps_after c t.stamps))
    (unpublished_same t.tree u c (accepted u c tells) off)
    ∙ ap (fixed_with t t.tree) (unstamped c t.stamps off)

-- an edit of a link that is accepted is published
abbrev Published : Outcome → Type 0
Published o = Holds (λ u c. c.published ≡ true) o

link_published : (t : Configuration) (e : LinkEdit) → Published (link_outcome t e)
unfolding allow_host disallow_host link_subsystem unlink_subsystem
link_published t (link.AllowHost sub host) = holds_if_subsystem _ _ (λ s f. holds_row _ _ _ _
    (λ _. holds_row _ _ _ _ (λ _. holds_last _ _ _ _ (λ _. refl))))
link_published t (link.DisallowHost sub host) = holds_if_subsystem _ _ (λ s f. holds_row _ _ _ _
    (λ _. holds_last _ _ _ _ (λ _. refl)))
link_published t (link.LinkSubsystem id sub) = holds_if_port _ _ (λ p f. holds_if_subsystem _ _
    (λ s _. holds_row _ _ _ _ (λ _. holds_last _ _ _ _ (λ _. refl))))
link_published t (link.UnlinkSubsystem id sub) = holds_if_port _ _ (λ p f. holds_if_subsystem _ _
    (λ s _. holds_last _ _ _ _ (λ _. refl)))

link_fixed : (t : Target) (o : Outcome) → Published o → is_published_edit o ≡ false
    → fixed (after_edit t o) ≡ fixed t
link_fixed t (Refuses errno) on off = refl
link_fixed t (Accepts u c) on off = absurd (both_ways c.published off (accepted u c on))

all_fixed : (t : Target) (e : Edit) → IsStanding t.tree
    → is_published_edit (outcome t.tree e) ≡ false
    → fixed (after_edit t (outcome t.tree e)) ≡ fixed t
all_fixed t (edit.Folder e) h off =
    edit_fixed t (outcome t.tree (edit.Folder e)) (edit_tells t.tree e h.placed) off
all_fixed t (edit.Link e) h off =
    link_fixed t (outcome t.tree (edit.Link e)) (link_published t.tree e) off

-- ---- a fabrics command that isn't published
both_same : (c : ControllerRow) (x : ControllerRow) → differ c x ≡ false
    → (c.cc ≡ x.cc) × (c.csts ≡ x.csts)
both_same c x off =
    let cc_is = not_off (c.cc == x.cc) (or_left (not (c.cc == x.cc)) (not (c.csts == x.csts)) off) in
    let csts_is = not_off (c.csts == x.csts)
    (or_right (not (c.cc == x.cc)) (not (c.csts == x.csts)) off) in
    (eqb_is c.cc x.cc cc_is, eqb_is c.csts x.csts csts_is) where
      or_left : (a b : Bool) → (a || b) ≡ false → a ≡ false
      or_left true b e = e
      or_left false b e = refl

      or_right : (a b : Bool) → (a || b) ≡ false → b ≡ false
      or_right true b e = absurd (both_ways true e refl)
      or_right false b e = e

row_same : (c : ControllerRow) (v : ℕ) → differ c (after_set v c) ≡ false → after_set v c ≡ c
unfolding after_set
row_same c v off =
    let r : Registers = registers_after (registers_of c) v in
    let same = both_same c (with_registers c r) off in
    λ i. record c { cc = (sym same.0) i; csts = (sym same.1) i }

set_at_same : (cs : List ControllerRow) (n v : ℕ) (o : Option ControllerRow) → slice_get cs n ≡ o
    → differs_after v o ≡ false → changed_at cs n (after_set v) o ≡ cs
set_at_same cs n v None e off = refl
set_at_same cs n v (Some c) e off =
    ap (λ (x : ControllerRow). slice_set cs n x) (row_same c v off) ∙ put_same cs n c e

set_number_same : (cs : List ControllerRow) (n v : ℕ) → differs_after v (numbered cs n) ≡ false
    → changed_rows cs n (after_set v) ≡ cs
set_number_same cs zero v off = refl
set_number_same cs (suc n) v off = set_at_same cs n v (slice_get cs n) refl off

set_same : (cs : List ControllerRow) (b : Option CodeBound) (v : ℕ) → sets_differ cs b v ≡ false
    → changed_bound cs b (after_set v) ≡ cs
set_same cs None v off = refl
set_same cs (Some b) v off = set_number_same cs b.ctrl v off

answer_fixed : (t : Target) (queue : ℕ) (e : Sqe) (name : List ℕ) (b : Binding) (a : Answer)
    → publishes_answer t.controllers (placed t.tree b) a ≡ false
    → fixed (after_answer t queue e name b a) ≡ fixed t
unfolding tree_after controllers_after publishes_answer
answer_fixed t queue e name b (Refused fault) off = refl
answer_fixed t queue e name b (Makes bound host) off = absurd (both_ways true off refl)
answer_fixed t queue e name b (Joins bound) off = absurd (both_ways true off refl)
answer_fixed t queue e name b (Reads value) off = refl
answer_fixed t queue e name b (Sets value) off =
    ap (λ (cs : List ControllerRow). with_controllers t cs (raised_if
    (sets_differ t.controllers (placed t.tree b).bound value) t.stamps))
    (set_same t.controllers (placed t.tree b).bound value off)
    ∙ ap (with_controllers t t.controllers)
    (unraised (sets_differ t.controllers (placed t.tree b).bound value) t.stamps off)

control_fixed : (t : Target) (queue : ℕ) (e : Sqe) (payload : List ℕ) (b : Option Binding)
    → publishes t e payload b ≡ false → fixed (after_control t queue e payload b) ≡ fixed t
control_fixed t queue e payload None off = refl
control_fixed t queue e payload (Some b) off =
    answer_fixed t queue e (subsystem_in payload) b (answer_on t e payload b) off

abbrev settled : Target → Settings → Fixed
settled t s = record { settings = s; controllers = t.controllers; stamps = t.stamps }

pub unpublished_leave : (t : Target) (call : Call) → IsStanding t.tree
    → is_published t call ≡ false → fixed (target_after t call) ≡ fixed t
unfolding changed is_published
unpublished_leave t (Submit queue number e) h off =
    of_desk t (after_submit t queue number e.cid (admission t queue e))
    (submit_desk t queue number e.cid (admission t queue e))
unpublished_leave t (Execute queue number payload) h off =
    of_desk t (after_execute t queue number payload (held_at t queue number))
    (execute_desk t queue number payload (held_at t queue number))
unpublished_leave t (Poll queue) h off = refl
unpublished_leave t (Control queue number e payload) h off =
    control_fixed t queue e payload (binding_at t queue) off
unpublished_leave t (AnEdit line e) h off = all_fixed t e h off
unpublished_leave t (DrainEnd line sub nsid) h off =
    ap (settled t) (drained_settings t.tree sub nsid)

-- ---- edits
pub edits_depend : (t u : Target) (line : ℕ) (e : Edit) → u.tree ≡ t.tree
    → reply_of u (AnEdit line e) ≡ reply_of t (AnEdit line e)
unfolding reply_of
edits_depend t u line e same = ap (λ (x : Configuration). edited (outcome x e)) same

queues_leave_all : (t : Target) (calls : List Call) → AreQueues calls
    → desk (after t calls) ≡ desk t
queues_leave_all t [] h = refl
queues_leave_all t (c ∷ calls) h =
    queues_leave_all (target_after t c) calls h.1 ∙ queues_leave t c h.0

-- the desk after an edit is a function of the desk before it
abbrev desk_of : Desk → Outcome → Desk
desk_of d (Refuses errno) = d
desk_of d (Accepts u c) = record d { tree = u; stamps = stamps_after c d.stamps }

abbrev edited_desk : Edit → Desk → Desk
edited_desk e d = desk_of d (outcome d.tree e)

desk_on : (t : Target) (o : Outcome) → desk (after_edit t o) ≡ desk_of (desk t) o
desk_on t (Refuses errno) = refl
desk_on t (Accepts u c) = refl

after_edit_desk : (t : Target) (line : ℕ) (e : Edit)
    → desk (target_after t (AnEdit line e)) ≡ edited_desk e (desk t)
unfolding changed
after_edit_desk t line e = desk_on t (outcome t.tree e)

pub edits_as_computed : (t : Target) (calls : List Call) (line : ℕ) (e : Edit) → AreQueues calls
    → (reply_of (after t calls) (AnEdit line e) ≡ reply_of t (AnEdit line e))
    × (desk (target_after (after t calls) (AnEdit line e)) ≡ desk (target_after t (AnEdit line e)))
edits_as_computed t calls line e h =
    let same = queues_leave_all t calls h in (
      edits_depend t (after t calls) line e (ap (λ (d : Desk). d.tree) same),
      after_edit_desk (after t calls) line e
          ∙ (ap (edited_desk e) same ∙ sym (after_edit_desk t line e)),
    )

published_by_tree : (t u : Target) (line : ℕ) (e : Edit) → u.tree ≡ t.tree
    → is_published u (AnEdit line e) ≡ is_published t (AnEdit line e)
unfolding is_published
published_by_tree t u line e same =
    ap (λ (x : Configuration). is_published_edit (outcome x e)) same

pub plain_at_desk : (t u : Target) (line : ℕ) (e : Edit) → IsStanding u.tree → desk u ≡ desk t
    → is_published t (AnEdit line e) ≡ false → fixed (target_after u (AnEdit line e)) ≡ fixed u
plain_at_desk t u line e h same off = unpublished_leave u (AnEdit line e) h
    (published_by_tree t u line e (ap (λ (d : Desk). d.tree) same) ∙ off)

-- ---- attached rows
link_stays : (t : Configuration) (e : LinkEdit) → StaysBy t (link_outcome t e)
unfolding allow_host disallow_host link_subsystem unlink_subsystem
link_stays t (link.AllowHost sub host) = holds_if_subsystem _ _ (λ s f. holds_row _ _ _ _ (λ _.
    holds_row _ _ _ _ (λ _. holds_last _ _ _ _ (λ _. allowed_stays t sub host true s f))))
link_stays t (link.DisallowHost sub host) = holds_if_subsystem _ _ (λ s f. holds_row _ _ _ _
    (λ _. holds_last _ _ _ _ (λ _. allowed_stays t sub host false s f)))
link_stays t (link.LinkSubsystem id sub) = holds_if_port _ _ (λ p f. holds_if_subsystem _ _
    (λ s _. holds_row _ _ _ _ (λ _. holds_last _ _ _ _ (λ _. linked_stays t id sub true p f))))
link_stays t (link.UnlinkSubsystem id sub) = holds_if_port _ _ (λ p f. holds_if_subsystem _ _
    (λ s _. holds_last _ _ _ _ (λ _. linked_stays t id sub false p f)))

all_stay : (t : Configuration) (e : Edit) → StaysBy t (outcome t e)
all_stay t (edit.Folder e) = edit_stays t e
all_stay t (edit.Link e) = link_stays t e

left_by : (t : Configuration) (o : Outcome) → StaysBy t o → LeavesAttached t o
left_by t (Refuses errno) h = tt
left_by t (Accepts u change) h = accepted u change h

pub edits_leave : (t : Configuration) (e : Edit) → LeavesAttached t (outcome t e)
edits_leave t e = left_by t (outcome t e) (all_stay t e)

-- ---- bindings
submit_bindings : (t : Target) (queue number cid : ℕ) (a : Admission)
    → (after_submit t queue number cid a).bindings ≡ t.bindings
submit_bindings t queue number cid (Completes status result bytes) = refl
submit_bindings t queue number cid Waits = refl
submit_bindings t queue number cid (HoldsJob job) = refl

execute_bindings : (t : Target) (queue number : ℕ) (payload : List ℕ) (h : Option Command)
    → (after_execute t queue number payload h).bindings ≡ t.bindings
execute_bindings t queue number payload None = refl
execute_bindings t queue number payload (Some h) = refl

put_other : (bs : List Binding) (queue other : ℕ) (b : Binding) → queue ≢ other
    → binding_in (put_binding bs queue b) other ≡ binding_in bs other
put_other bs zero other b ne = refl
put_other bs (suc q) zero b ne = refl
put_other bs (suc q) (suc r) b ne =
    get_put_other bs q r b (λ e. ne (ap (λ (n : ℕ). suc n) (sym e)))

control_bindings : (t : Target) (queue other : ℕ) (e : Sqe) (payload : List ℕ)
    (b : Option Binding) → queue ≢ other
    → binding_in (after_control t queue e payload b).bindings other ≡ binding_in t.bindings other
control_bindings t queue other e payload None ne = refl
control_bindings t queue other e payload (Some b) ne =
    put_other t.bindings queue other
    (bound_after b (subsystem_in payload) (answer_on t e payload b)) ne

edit_bindings : (t : Target) (o : Outcome) → (after_edit t o).bindings ≡ t.bindings
edit_bindings t (Refuses errno) = refl
edit_bindings t (Accepts u c) = refl

-- the caller of every call but a fabrics command leaves its own binding too
pub bindings_own : (t : Target) (call : Call) (queue : ℕ) → caller_of call ≢ queue
    → binding_at (target_after t call) queue ≡ binding_at t queue
unfolding changed
bindings_own t (Submit queue number e) other ne = ap (λ (b : List Binding). binding_in b other)
    (submit_bindings t queue number e.cid (admission t queue e))
bindings_own t (Execute queue number payload) other ne =
    ap (λ (b : List Binding). binding_in b other)
    (execute_bindings t queue number payload (held_at t queue number))
bindings_own t (Poll queue) other ne = refl
bindings_own t (Control queue number e payload) other ne =
    control_bindings t queue other e payload (binding_at t queue) ne
bindings_own t (AnEdit line e) other ne = ap (λ (b : List Binding). binding_in b other)
    (edit_bindings t (outcome t.tree e))
bindings_own t (DrainEnd line sub nsid) other ne = refl
