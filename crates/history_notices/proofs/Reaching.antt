-- The tree at each point of a history is one that calls reach.
use Rattle.std.proofs.Common.{◌≡◌, ℕ, true, IsTrue, List, [], ◌∷◌, Option, Some, None, refl, sym, subst}
use Rattle.sqe_cqe.specs.declared.sqe.Sqe.{Sqe}
use Rattle.configfs_rows.specs.declared.namespaces.Phase.{Phase}
use Rattle.configfs_rows.specs.declared.namespaces.Phase.TheVariants as phase
use Rattle.configfs_tree.specs.declared.configuration.Configuration.{Configuration}
use Rattle.configfs_tree.specs.Links.{with_attached}
use Rattle.configfs_tree.specs.Outcome.{Outcome, Refuses, Accepts}
use Rattle.configfs_tree.specs.Phases.{phase_at}
use Rattle.configfs_tree.specs.Standing.{IsStanding}
use Rattle.configfs_tree.proofs.Stands.{attach_stands, drain_stands}
use Rattle.fabrics_connect.specs.declared.answer.Answer.{Answer}
use Rattle.fabrics_connect.specs.declared.answer.Answer.TheVariants.{Refused, Makes, Joins, Reads, Sets}
use Rattle.fabrics_connect.specs.After.{tree_after}
use Rattle.tree_target.specs.Edits.{Edit, outcome}
use Rattle.tree_target.specs.Legal.{IsLegal}
use Rattle.tree_target.specs.Model.{Call, Submit, Execute, Poll, Control, AnEdit, DrainEnd, Entry, Binding, Target, binding_at, held_at}
use Rattle.tree_target.specs.Controls.{answer_on, after_control}
use Rattle.tree_target.specs.Admission.{admission, events_submitted}
use Rattle.tree_target.specs.Steps.{is_lawful, is_draining_phase, none_on, disk_at, changed, target_after, after_edit}
use Rattle.tree_target.proofs.HeldList.{both_true}
use Rattle.history_notices.specs.Scripts.{CanBring}
use Rattle.history_notices.specs.Starts.{IsBrought, AreBrought}
use Rattle.history_notices.proofs.Carrying.{Parts}
use Rattle.history_notices.proofs.Standing.{edited_stands}
use Rattle.history_notices.proofs.Stepping.{submit_parts, execute_parts}

draining : (p : Option Phase) → is_draining_phase p ≡ true → p ≡ Some phase.Draining
draining None e = absurd cc
draining (Some phase.Enabled) e = absurd cc
draining (Some phase.Draining) e = refl
draining (Some phase.Off) e = absurd cc

answer_stands : (t : Configuration) (a : Answer) → IsStanding t → IsStanding (tree_after t a)
unfolding tree_after
answer_stands t (Refused fault) h = h
answer_stands t (Makes bound host) h =
    attach_stands t (with_attached t bound.sub bound.port).settings.attached h
answer_stands t (Joins bound) h = h
answer_stands t (Reads value) h = h
answer_stands t (Sets value) h = h

control_stands : (t : Target) (q : ℕ) (e : Sqe) (payload : List ℕ) (o : Option Binding)
    → IsStanding t.tree → IsStanding (after_control t q e payload o).tree
control_stands t q e payload None h = h
control_stands t q e payload (Some x) h = answer_stands t.tree (answer_on t e payload x) h

edit_stands : (t : Target) (e : Edit) (o : Outcome) → outcome t.tree e ≡ o → CanBring e
    → IsStanding t.tree → IsStanding (after_edit t o).tree
edit_stands t e (Refuses errno) is can h = h
edit_stands t e (Accepts u c) is can h = edited_stands t.tree h e u c can is

call_stands : (t : Target) (call : Call) → IsTrue (is_lawful t call) → IsBrought call
    → IsStanding t.tree → IsStanding (target_after t call).tree
unfolding changed
call_stands t (Submit q number e) lawful can h = subst (λ (p : Parts). IsStanding p.tree)
    (sym (submit_parts t q number e.cid (admission t q e) (events_submitted t q e))) h
call_stands t (Execute q number payload) lawful can h = subst (λ (p : Parts). IsStanding p.tree)
    (sym (execute_parts t q number payload (held_at t q number))) h
call_stands t (Poll q) lawful can h = h
call_stands t (Control q number e payload) lawful can h =
    control_stands t q e payload (binding_at t q) h
call_stands t (AnEdit line e) lawful can h = edit_stands t e (outcome t.tree e) refl can h
call_stands t (DrainEnd line sub nsid) lawful can h = drain_stands t.tree sub nsid
    (draining (phase_at t.tree sub nsid) (both_true (is_draining_phase (phase_at t.tree sub nsid))
    (none_on t.held (disk_at t.tree sub nsid)) lawful).0) h

-- each tree of a history
abbrev pub StandsAlong : Target → List Entry → Type 0
StandsAlong t [] = IsStanding t.tree
StandsAlong t (e ∷ entries) = IsStanding t.tree × StandsAlong (target_after t e.call) entries

pub stands_along : (t : Target) (entries : List Entry) → IsStanding t.tree → IsLegal t entries
    → AreBrought entries → StandsAlong t entries
stands_along t [] h legal brought = h
stands_along t (e ∷ entries) h legal brought = (
  h,
  stands_along (target_after t e.call) entries
      (call_stands t e.call legal.0 brought.0 h) legal.2 brought.1,
)
