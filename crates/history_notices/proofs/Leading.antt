-- Along a history, and what its laws say.
use Rattle.std.proofs.Common.{◌≡◌, ◌≢◌, ◌≤◌, ◌<◌, ◌+◌, ◌-◌, ◌^◌, ◌==◌, ◌||◌, min, nat_lt, ℕ, zero, suc, Bool, true, false, cond, List, [], ◌∷◌, length, map, Option, Some, None, is_some, slice_get, refl, sym, ap, subst, ◌∙◌, arith, ◌&&◌, ◌++◌}
use Rattle.sqe_cqe.specs.declared.sqe.Sqe.{Sqe}
use Rattle.sqe_cqe.specs.declared.codes.TheConstants.{SUCCESS}
use Rattle.sqe_cqe.specs.declared.rows.TheConstants.{MAX_NSID}
use Rattle.sqe_cqe.specs.declared.controllers.ControllerRow.{ControllerRow}
use Rattle.sqe_cqe.specs.declared.controllers.Ctrl.{Ctrl}
use Rattle.sqe_cqe.specs.Answers.{View}
use Rattle.sqe_cqe.specs.Ready.{simple_rows}
use Rattle.configfs_tree.specs.declared.configuration.Attached.{Attached}
use Rattle.configfs_tree.specs.declared.configuration.Settings.{Settings}
use Rattle.configfs_tree.specs.declared.configuration.Configuration.{Configuration}
use Rattle.configfs_tree.specs.declared.edits.Change.{Change}
use Rattle.configfs_rows.specs.Subsystems.{put_allowed}
use Rattle.configfs_rows.specs.Ports.{put_link}
use Rattle.configfs_tree.specs.Outcome.{Outcome, Refuses, Accepts, touching, on_subsystem, on_port}
use Rattle.configfs_tree.specs.declared.edits.Touched.TheVariants as touches
use Rattle.configfs_tree.specs.Standing.{IsStanding}
use Rattle.configfs_tree.specs.Told.{Tells}
use Rattle.configfs_tree.proofs.Holds.{Holds, accepted as held_by, holds_row, holds_last, holds_if_subsystem, holds_if_port}
use Rattle.configfs_tree.proofs.TellsTable.{edit_tells}
use Rattle.link_rules.specs.declared.edits.Edit.TheVariants as edit
use Rattle.link_rules.specs.declared.edits.LinkEdit.{LinkEdit}
use Rattle.link_rules.specs.declared.edits.LinkEdit.TheVariants as link
use Rattle.link_rules.specs.Table.{allow_host, disallow_host, link_subsystem, unlink_subsystem, link_outcome}
use Rattle.async_events.specs.declared.events.Events.{Events}
use Rattle.async_events.specs.declared.events.TheConstants.{REQUEST_LIMIT}
use Rattle.async_events.specs.declared.waits.TheConstants.{MOST_WAITING}
use Rattle.async_events.specs.declared.feature.TheConstants.{SET_FEATURES, GET_FEATURES, NUMBER_OF_QUEUES, ASYNC_EVENTS}
use Rattle.async_events.specs.Features.{feature_id, notice_bits, feature_answer, bit}
use Rattle.async_events.specs.Notices.{Notices, at_connect, taken, after_mark, notices_after, listed_after, Mark, Reads, Configures, Passes, listed_step}
use Rattle.async_events.specs.Stamps.{Stamps as SeenStamps, shown, stamps_of, caught_up, caught_up_with, is_full, cleared_of}
use Rattle.look_pages.specs.declared.list.Choice.TheVariants.{Changed}
use Rattle.look_pages.specs.Pages.{those, window, list_bytes}
use Rattle.look_pages.specs.Chosen.{chosen_nsids}
use Rattle.ana_groups.specs.AnaPage.{ana_bytes}
use Rattle.log_pages.specs.declared.log.TheConstants.{CHANGED_NAMESPACES, ANA_LOG}
use Rattle.log_pages.specs.Logs.{log_id, log_offset, log_status, log_bytes, groups_only, log_of, retains}
use Rattle.admin_commands.specs.declared.admit.AdminReply.{AdminReply}
use Rattle.admin_commands.specs.declared.admit.AdminReply.TheVariants.{Completes, Waits}
use Rattle.admin_commands.specs.declared.checks.TheConstants.{GET_LOG_PAGE, IDENTIFY, ABORT, EVENT_REQUEST, KEEP_ALIVE}
use Rattle.admin_commands.specs.Admin.{status_before, admin_reply, admin_bytes, given_with, requested_by}
use Rattle.notice_laws.specs.Marks.{seen_by}
use Rattle.notice_laws.proofs.Marking.{start_is_sound}
use Rattle.notice_laws.specs.Marks.{AreSound}
use Rattle.change_stamps.specs.Stamps.{Stamps, no_stamps, space_stamp}
use Rattle.fabrics_connect.specs.declared.answer.Answer.{Answer}
use Rattle.fabrics_connect.specs.declared.answer.Answer.TheVariants.{Refused, Makes, Joins, Reads, Sets}
use Rattle.fabrics_connect.specs.Checks.{numbered}
use Rattle.fabrics_connect.specs.After.{tree_after}
use Rattle.tree_target.specs.declared.calls.Reply.TheVariants as replies
use Rattle.history_notices.specs.Own.{succeeded}
use Rattle.async_events.specs.declared.kinds.Log.TheVariants as logs
use Rattle.tree_target.specs.Edits.{Edit, outcome}
use Rattle.tree_target.specs.Legal.{IsLegal}
use Rattle.tree_target.specs.Loads.{unconnected}
use Rattle.tree_target.specs.Start.{simple_nqn, simple_start}
use Rattle.tree_target.specs.Model.{Call, Submit, Execute, Poll, Control, AnEdit, DrainEnd, Entry, Bound, Binding, Target, binding_in, binding_at, bound_of, bound_at, held_at}
use Rattle.tree_target.specs.Views.{view_at}
use Rattle.tree_target.specs.Controls.{placed_bound, answer_on, after_control}
use Rattle.tree_target.specs.Admission.{of_reply, events_numbered, as_bound, of_binding, admission, event_with, event_by_qid, event_by_bound, event_by_binding, event_at, events_submitted}
use Rattle.tree_target.specs.Steps.{reply_of, bytes_of, changed, target_after, entry_of, submitted, bytes_submitted, after_edit, completion}
use Rattle.tree_target.proofs.HeldList.{eqb_apart, same_number}
use Rattle.tree_target.proofs.Simulating.{drained_settings}
use Rattle.history_notices.specs.Marks.{mark_at, marks_from, led, notices_by, is_listed, is_ana_change, one_if, ana_step, ana_changes, submitted_mark, mark_by}
use Rattle.history_notices.specs.Starts.{IsStart, Leads}
use Rattle.history_notices.proofs.Reaching.{StandsAlong, stands_along}
use Rattle.history_notices.specs.Laws.{LoadedStarts, SimpleStarts, is_admin_of, is_admin_queue, PollsByFold, Serves, RequestsByFold, ChangedListByFold, counted, AnaLogByFold, BitsByFold, ReadsClear}
use Rattle.history_notices.proofs.Owning.{shown_by, event_is}
use Rattle.history_notices.proofs.Bindings.{none_some, some_same, Apart}
use Rattle.history_notices.proofs.Carrying.{Parts, parts, Base, Own, sub_placed, port_is_placed}
use Rattle.history_notices.proofs.Stepping.{marked, StateOf, StateIn, State, by_mark, submit_parts, execute_parts, there, view_stamped, admission_of}
use Rattle.history_notices.proofs.Editing.{goes, base_goes, serial_goes}

-- ---- along a history
first_room : (n len : ℕ) → n + suc len < 2 ^ 32 - 1 → n < 2 ^ 32 - 1
first_room n len h = omega (arith, h)

rest_room : (n m len : ℕ) → n + suc len < 2 ^ 32 - 1 → m ≤ n + 1 → m + len < 2 ^ 32 - 1
rest_room n m len h le = omega (arith, h, le)

abbrev Led : Target → List Entry → ℕ → Notices → (ℕ → Bool) → Type 0
Led t entries queue n l = Base (parts (led t entries))
    × State (parts (led t entries)) queue (notices_after n (marks_from t queue entries))
    (λ m. listed_after m (l m) (marks_from t queue entries))

leads : (t : Target) (entries : List Entry) (queue : ℕ) (n : Notices) (l : ℕ → Bool)
    → IsLegal t entries → StandsAlong t entries
    → t.stamps.serial + length entries < 2 ^ 32 - 1 → Base (parts t)
    → State (parts t) queue n l → Led t entries queue n l
leads t [] queue n l legal stands room h s = (h, s)
leads t (e ∷ entries) queue n l legal stands room h s =
    let first = first_room t.stamps.serial (length entries) room in
    let u : Target = target_after t e.call in
    leads u entries queue (after_mark n (mark_at t queue e)) (marked l (mark_at t queue e))
    legal.2 stands.1
    (rest_room t.stamps.serial u.stamps.serial (length entries) room
    (serial_goes t e.call stands.0 first h))
    (base_goes t e.call stands.0 first h)
    (by_mark (parts u) queue n l (mark_at t queue (entry_of t e.call)) (mark_at t queue e)
    (ap (mark_at t queue) legal.1) (goes t e.call queue n l stands.0 first h s))

-- ---- starts
start_apart : (t : Target) → IsStart t → Apart t.bindings (length t.controllers)
start_apart t s = record {
  low = λ q d e admin. absurd (s.unconnected q d e admin);
  one = λ p q b d e f eb ed same. absurd (s.unconnected p b e eb);
}

start_base : (t : Target) → IsStart t → Base (parts t)
start_base t s = record {
  sound = subst (λ (x : Stamps). AreSound x) (sym s.stamps) start_is_sound;
  states = s.states;
  subsystems = s.subsystems;
  ports = s.ports;
  apart = start_apart t s;
}

start_state : (t : Target) (queue : ℕ) → IsStart t → State (parts t) queue at_connect (λ m. false)
start_state t queue s = at (binding_at t queue) refl where
  of_bound : (x : Binding) (y : Option Bound) → bound_at t queue ≡ y
      → StateOf (parts t) x.port y at_connect (λ m. false)
  of_bound x None e = (refl, λ m. refl)
  of_bound x (Some b) e = λ admin. absurd (s.unconnected queue b e admin)

  at : (o : Option Binding) → binding_at t queue ≡ o
      → StateIn (parts t) o at_connect (λ m. false)
  at None e = (refl, λ m. refl)
  at (Some x) e = of_bound x x.bound (ap bound_of e)

zero_room : (n : ℕ) → n < 2 ^ 32 - 1 → 0 + n < 2 ^ 32 - 1
zero_room n h = omega (arith, h)

start_room : (t : Target) (entries : List Entry) → IsStart t → length entries < 2 ^ 32 - 1
    → t.stamps.serial + length entries < 2 ^ 32 - 1
unfolding no_stamps
start_room t entries s few = subst (λ (x : Stamps). x.serial + length entries < 2 ^ 32 - 1)
    (sym s.stamps) (zero_room (length entries) few)

pub leads_from : (start : Target) (entries : List Entry) (queue : ℕ) → Leads start entries
    → Led start entries queue at_connect (λ m. false)
leads_from start entries queue h = leads start entries queue at_connect (λ m. false) h.legal
    (stands_along start entries h.stands h.legal h.brought)
    (start_room start entries h.start_is h.few) (start_base start h.start_is)
    (start_state start queue h.start_is)

no_bound : (ports : List ℕ) (q : ℕ) (b : Bound)
    → bound_of (binding_in (map unconnected ports) q) ≡ Some b → ⊥
no_bound ports zero b e = none_some b e
no_bound ports (suc i) b e = at ports i e where
  at : (ports : List ℕ) (i : ℕ) → bound_of (slice_get (map unconnected ports) i) ≡ Some b → ⊥
  at [] i e = none_some b e
  at (p ∷ ports) zero e = none_some b e
  at (p ∷ ports) (suc i) e = at ports i e

pub loaded_starts : LoadedStarts
loaded_starts t lines ports fresh = record {
  stamps = refl;
  count = refl;
  states = refl;
  subsystems = ap (λ (x : Attached). length x.subsystems) fresh;
  ports = ap (λ (x : Attached). length x.ports) fresh;
  unconnected = λ q b e admin. no_bound ports q b e;
}

pub simple_starts : SimpleStarts
unfolding simple_rows
simple_starts d = record {
  stamps = refl;
  count = refl;
  states = refl;
  subsystems = refl;
  ports = refl;
  unconnected = at;
} where
  other : (b : Bound) → Some (record { controller = 1; qid = 1; subsystem = simple_nqn }) ≡ Some b
      → b.qid ≡ 0 → ⊥
  other b e admin = let same = ap (λ (x : Bound). x.qid) (some_same (record { controller = 1; qid = 1; subsystem = simple_nqn }) b e) in
      absurd (omega (arith, same, admin))

  at : (q : ℕ) (b : Bound) → bound_at (simple_start d) q ≡ Some b → b.qid ≢ 0
  at zero b e = absurd (none_some b e)
  at (suc zero) b e = other b e
  at (suc (suc q)) b e = absurd (none_some b e)

-- ---- the count of ANA changes
abbrev count_of : Target → ℕ
count_of t = t.tree.settings.ana_count

abbrev Counts : Configuration → Configuration → Change → Type 0
Counts t u c = u.settings.ana_count ≡ cond (is_some c.ana_port || is_some c.ana_subsystem)
    (min (t.settings.ana_count + 1) (2 ^ 64 - 1)) t.settings.ana_count

beside_hosts : (t : Configuration) (sub host : List ℕ) (linked : Bool) (at : ℕ)
    → Counts t (on_subsystem t sub (put_allowed host linked)) (touching (touches.Subsystem at))
beside_hosts t sub host linked at = refl

beside_links : (t : Configuration) (id : ℕ) (sub : List ℕ) (linked : Bool) (at : ℕ)
    → Counts t (on_port t id (put_link sub linked)) (touching (touches.Port at))
beside_links t id sub linked at = refl

link_counts : (t : Configuration) (e : LinkEdit) → Holds (λ u c. Counts t u c) (link_outcome t e)
unfolding allow_host disallow_host link_subsystem unlink_subsystem
link_counts t (link.AllowHost sub host) = holds_if_subsystem _ _ (λ s f. holds_row _ _ _ _
    (λ _. holds_row _ _ _ _ (λ _. holds_last _ _ _ _
    (λ _. beside_hosts t sub host true s.at))))
link_counts t (link.DisallowHost sub host) = holds_if_subsystem _ _ (λ s f. holds_row _ _ _ _
    (λ _. holds_last _ _ _ _ (λ _. beside_hosts t sub host false s.at)))
link_counts t (link.LinkSubsystem id sub) = holds_if_port _ _ (λ p f. holds_if_subsystem _ _
    (λ s _. holds_row _ _ _ _ (λ _. holds_last _ _ _ _
    (λ _. beside_links t id sub true p.at))))
link_counts t (link.UnlinkSubsystem id sub) = holds_if_port _ _ (λ p f. holds_if_subsystem _ _
    (λ s _. holds_last _ _ _ _ (λ _. beside_links t id sub false p.at)))

tells_counts : (t : Configuration) (o : Outcome) → Holds (λ u c. Tells t u c) o
    → (u : Configuration) (c : Change) → o ≡ Accepts u c → Counts t u c
tells_counts t o h u c is =
    (held_by u c (subst (λ (x : Outcome). Holds (λ v d. Tells t v d) x) is h)).count

edit_counts : (t : Configuration) (e : Edit) → IsStanding t → (u : Configuration) (c : Change)
    → outcome t e ≡ Accepts u c → Counts t u c
edit_counts t (edit.Folder e) st u c is =
    tells_counts t (outcome t (edit.Folder e)) (edit_tells t e st.placed) u c is
edit_counts t (edit.Link e) st u c is =
    held_by u c (subst (λ (x : Outcome). Holds (λ v d. Counts t v d) x) is (link_counts t e))

one_more : (b : Bool) (n m : ℕ) → m ≡ cond b (min (n + 1) (2 ^ 64 - 1)) n → n < 2 ^ 32
    → m ≡ n + one_if b
one_more true n m e h = omega (arith, e, h)
one_more false n m e h = omega (arith, e)

none_more : (n : ℕ) → n ≡ n + 0
none_more n = omega arith

edit_count : (t : Target) (e : Edit) (o : Outcome) → outcome t.tree e ≡ o → IsStanding t.tree
    → count_of t < 2 ^ 32 → count_of (after_edit t o) ≡ count_of t + one_if (is_ana_change o)
edit_count t e (Refuses errno) is st few = none_more (count_of t)
edit_count t e (Accepts u c) is st few = one_more
    (is_some c.ana_port || is_some c.ana_subsystem) (count_of t) u.settings.ana_count
    (edit_counts t.tree e st u c is) few

answer_count : (t : Configuration) (a : Answer)
    → (tree_after t a).settings.ana_count ≡ t.settings.ana_count
unfolding tree_after
answer_count t (Refused fault) = refl
answer_count t (Makes bound host) = refl
answer_count t (Joins bound) = refl
answer_count t (Reads value) = refl
answer_count t (Sets value) = refl

control_count : (t : Target) (q : ℕ) (e : Sqe) (payload : List ℕ) (o : Option Binding)
    → count_of (after_control t q e payload o) ≡ count_of t
control_count t q e payload None = refl
control_count t q e payload (Some x) = answer_count t.tree (answer_on t e payload x)

call_count : (t : Target) (call : Call) → IsStanding t.tree → count_of t < 2 ^ 32
    → count_of (target_after t call) ≡ count_of t + ana_step t call
unfolding changed
call_count t (Submit q number e) st few =
    ap (λ (p : Parts). p.tree.settings.ana_count)
    (submit_parts t q number e.cid (admission t q e) (events_submitted t q e))
    ∙ none_more (count_of t)
call_count t (Execute q number payload) st few =
    ap (λ (p : Parts). p.tree.settings.ana_count)
    (execute_parts t q number payload (held_at t q number)) ∙ none_more (count_of t)
call_count t (Poll q) st few = none_more (count_of t)
call_count t (Control q number e payload) st few =
    control_count t q e payload (binding_at t q) ∙ none_more (count_of t)
call_count t (AnEdit line e) st few = edit_count t e (outcome t.tree e) refl st few
call_count t (DrainEnd line sub nsid) st few =
    ap (λ (s : Settings). s.ana_count) (drained_settings t.tree sub nsid) ∙ none_more (count_of t)

one_at_most : (b : Bool) → one_if b ≤ 1
one_at_most true = omega arith
one_at_most false = omega arith

step_small : (t : Target) (call : Call) → ana_step t call ≤ 1
step_small t (Submit q number e) = omega arith
step_small t (Execute q number payload) = omega arith
step_small t (Poll q) = omega arith
step_small t (Control q number e payload) = omega arith
step_small t (AnEdit line e) = one_at_most (is_ana_change (outcome t.tree e))
step_small t (DrainEnd line sub nsid) = omega arith

count_first : (n len : ℕ) → n + suc len < 2 ^ 32 - 1 → n < 2 ^ 32
count_first n len h = omega (arith, h)

count_rest : (n m k len : ℕ) → n + suc len < 2 ^ 32 - 1 → m ≡ n + k → k ≤ 1
    → m + len < 2 ^ 32 - 1
count_rest n m k len h e low = omega (arith, h, e, low)

join_counts : (n m k r x : ℕ) → x ≡ m + r → m ≡ n + k → x ≡ n + (k + r)
join_counts n m k r x e f = omega (arith, e, f)

counts_along : (t : Target) (entries : List Entry) → StandsAlong t entries
    → count_of t + length entries < 2 ^ 32 - 1
    → count_of (led t entries) ≡ count_of t + ana_changes t entries
counts_along t [] stands room = none_more (count_of t)
counts_along t (e ∷ entries) stands room =
    let u : Target = target_after t e.call in
    let one : count_of u ≡ count_of t + ana_step t e.call =
    call_count t e.call stands.0 (count_first (count_of t) (length entries) room) in
    join_counts (count_of t) (count_of u) (ana_step t e.call) (ana_changes u entries)
    (count_of (led u entries))
    (counts_along u entries stands.1 (count_rest (count_of t) (count_of u) (ana_step t e.call)
    (length entries) room one (step_small t e.call))) one

from_none : (n m : ℕ) → n ≡ 0 → n + m ≡ m
from_none n m e = omega (arith, e)

pub count_is : (start : Target) (entries : List Entry) → Leads start entries
    → count_of (led start entries) ≡ ana_changes start entries
count_is start entries h =
    let z = h.start_is.count in
    counts_along start entries (stands_along start entries h.stands h.legal h.brought)
    (subst (λ (n : ℕ). n + length entries < 2 ^ 32 - 1) (sym z) (zero_room (length entries) h.few))
    ∙ from_none (count_of start) (ana_changes start entries) z

-- ---- what is seen of an admin queue's controller
module _ (t : Target) (port : ℕ) (b : Bound) (n : Notices) (l : ℕ → Bool)
    (o : Own (parts t) port b n l) where
  sees : stamps_of (view_at t port b) ≡ seen_by o.sub o.at t.stamps
  sees = λ i. seen_by (sub_placed t.tree b.subsystem o.sub o.sub_at i)
      (port_is_placed t.tree port o.at o.port_at i) t.stamps

  pub shows : shown_by (view_at t port b) o.k ≡ n
  shows = ap (λ (x : SeenStamps). shown MAX_NSID x o.k) sees ∙ o.shows

  pub lists : (m : ℕ) → nat_lt o.k.cleared ((view_at t port b).ns_stamp m) ≡ l m
  lists m = ap (λ (x : ℕ). nat_lt o.k.cleared (space_stamp t.stamps x m))
      (sub_placed t.tree b.subsystem o.sub o.sub_at) ∙ o.lists m

  pub waits : o.k.waiting ≡ n.waiting
  unfolding shown
  waits = ap (λ (x : Notices). x.waiting) shows

not_none : (z : ℕ) → (suc z == 0) ≡ false
not_none z = eqb_apart (suc z) 0 (λ (e : suc z ≡ 0). absurd (omega (arith, e)))

-- ---- polls
module _ (t : Target) (queue : ℕ) (n : Notices) (l : ℕ → Bool) (h : Base (parts t)) where
  event_rows : (port : ℕ) (b : Bound) → Own (parts t) port b n l
      → event_with (view_at t port b) (numbered t.controllers b.controller)
      (events_numbered t.events b.controller) ≡ (taken n).1
  event_rows port b o =
      let c = there (numbered t.controllers b.controller) o.row in
      ap (λ (x : Option ControllerRow). event_with (view_at t port b) x
      (events_numbered t.events b.controller)) c.1
      ∙ (ap (λ (x : Option Events). event_with (view_at t port b) (Some c.0) x) o.own
      ∙ (event_is (view_at t port b) o.k (view_stamped t port b h.sound) o.seen o.cleared
      ∙ ap (λ (x : Notices). (taken x).1) (shows t port b n l o)))

  event_qid : (port : ℕ) (b : Bound) (z : ℕ) → b.qid ≡ z
      → (b.qid ≡ 0 → Own (parts t) port b n l)
      → event_by_qid t port b z ≡ cond (z == 0) (taken n).1 None
  event_qid port b zero e s = event_rows port b (s e)
  event_qid port b (suc z) e s = sym (ap (λ (x : Bool). cond x (taken n).1 None) (not_none z))

  event_bound : (port : ℕ) (y : Option Bound) → StateOf (parts t) port y n l
      → event_by_bound t port y ≡ cond (is_admin_of y) (taken n).1 None
  event_bound port None s = refl
  event_bound port (Some b) s = event_qid port b b.qid refl s

  event_binding : (x : Option Binding) → StateIn (parts t) x n l
      → event_by_binding t x ≡ cond (is_admin_of (bound_of x)) (taken n).1 None
  event_binding None s = refl
  event_binding (Some x) s = event_bound x.port x.bound s

  pub event_law : State (parts t) queue n l
      → event_at t queue ≡ cond (is_admin_queue t queue) (taken n).1 None
  unfolding event_at
  event_law s = event_binding (binding_at t queue) s

pub polls_by_fold : PollsByFold
polls_by_fold start entries queue h =
    let x = leads_from start entries queue h in
    event_law (led start entries) queue (notices_by start queue entries)
    (is_listed start queue entries) x.0 x.1

-- ---- the list of a view
walked : (v : View) (cleared limit : ℕ) → v.offers.nsids ≡ limit
    → chosen_nsids (Changed cleared) v ≡ those (λ m. nat_lt cleared (v.ns_stamp m)) limit
unfolding chosen_nsids
walked v cleared limit e = ap (those (λ m. nat_lt cleared (v.ns_stamp m))) e

listed_page : (v : View) (cleared : ℕ) (e : Sqe) → (log_id e == CHANGED_NAMESPACES) ≡ true
    → log_bytes v cleared e
    ≡ window (log_offset e) e.sgl_len (list_bytes (chosen_nsids (Changed cleared) v))
listed_page v cleared e is = ap (λ (x : Bool). window (log_offset e) e.sgl_len
    (cond x (list_bytes (chosen_nsids (Changed cleared) v)) (ana_bytes v (groups_only e)))) is

-- ---- commands
served_own : (t : Target) (queue : ℕ) (e : Sqe) (n : Notices) (l : ℕ → Bool)
    (s : Serves t queue e) → State (parts t) queue n l → Own (parts t) s.port s.bound n l
served_own t queue e n l s st =
    (subst (λ (x : Option Binding). StateIn (parts t) x n l) s.connected st) s.admin

module _ (t : Target) (queue number : ℕ) (e : Sqe) (n : Notices) (l : ℕ → Bool)
    (s : Serves t queue e) (o : Own (parts t) s.port s.bound n l) where
  abbrev seen : View
  seen = view_at t s.port s.bound

  pub row : (c : ControllerRow) × (numbered t.controllers s.bound.controller ≡ Some c)
  row = there (numbered t.controllers s.bound.controller) o.row

  abbrev ctrl : Ctrl
  ctrl = as_bound (placed_bound t.tree s.port s.bound) row.0

  pub admits : admission t queue e ≡ of_reply (admin_bytes seen ctrl o.k e) (admin_reply seen o.k e)
  unfolding admission
  admits = ap (of_binding t e) s.connected
      ∙ admission_of t s.port s.bound row.0 o.k row.1 o.own s.admin e

  passes : (status_before seen e == SUCCESS) ≡ true
  passes = ap (λ (x : ℕ). x == SUCCESS) s.passes

  -- event requests
  request_or : (bytes : List ℕ) (f : Bool)
      → submitted t queue e.cid (of_reply bytes (cond f (Completes REQUEST_LIMIT 0) Waits))
      ≡ cond f (completion t queue e.cid REQUEST_LIMIT 0) replies.Waiting
  request_or bytes true = refl
  request_or bytes false = refl

  request_reply : e.opcode ≡ EVENT_REQUEST → e.sgl_len ≡ 0
      → admin_reply seen o.k e ≡ requested_by o.k
  unfolding admin_reply
  request_reply op none =
      let a : (e.opcode == GET_LOG_PAGE) ≡ false = ap (λ (x : ℕ). x == GET_LOG_PAGE) op in
      let b : (e.opcode == IDENTIFY) ≡ false = ap (λ (x : ℕ). x == IDENTIFY) op in
      let c : (e.opcode == ABORT) ≡ false = ap (λ (x : ℕ). x == ABORT) op in
      let d : (e.opcode == EVENT_REQUEST) ≡ true = ap (λ (x : ℕ). x == EVENT_REQUEST) op in
      let z : (e.sgl_len == 0) ≡ true = ap (λ (x : ℕ). x == 0) none in
      rw (passes, a, b, c, d, z) refl

  pub requests : e.opcode ≡ EVENT_REQUEST → e.sgl_len ≡ 0
      → reply_of t (Submit queue number e) ≡ cond (length n.waiting == MOST_WAITING)
      (completion t queue e.cid REQUEST_LIMIT 0) replies.Waiting
  unfolding reply_of
  requests op none =
      let bytes : List ℕ = admin_bytes seen ctrl o.k e in
      ap (submitted t queue e.cid) admits
      ∙ (ap (λ (r : AdminReply). submitted t queue e.cid (of_reply bytes r))
      (request_reply op none)
      ∙ (request_or bytes (is_full o.k)
      ∙ ap (λ (w : List ℕ). cond (length w == MOST_WAITING)
      (completion t queue e.cid REQUEST_LIMIT 0) replies.Waiting)
      (waits t s.port s.bound n l o)))

  -- log reads
  pub log_reply : e.opcode ≡ GET_LOG_PAGE → log_status e ≡ SUCCESS
      → admin_reply seen o.k e ≡ Completes SUCCESS 0
  unfolding admin_reply
  log_reply op status =
      let a : (e.opcode == GET_LOG_PAGE) ≡ true = ap (λ (x : ℕ). x == GET_LOG_PAGE) op in
      rw (passes, a) (ap (λ (x : ℕ). Completes x 0) status)

  log_given : e.opcode ≡ GET_LOG_PAGE → log_status e ≡ SUCCESS
      → admin_bytes seen ctrl o.k e ≡ log_bytes seen (cleared_of o.k) e
  unfolding admin_bytes
  log_given op status =
      let a : (e.opcode == GET_LOG_PAGE) ≡ true = ap (λ (x : ℕ). x == GET_LOG_PAGE) op in
      let here : given_with seen ctrl o.k e (Completes SUCCESS 0) ≡ log_bytes seen (cleared_of o.k) e =
      rw (a) refl in
      ap (given_with seen ctrl o.k e) (log_reply op status) ∙ here

  log_read : e.opcode ≡ GET_LOG_PAGE → log_status e ≡ SUCCESS
      → bytes_of t (Submit queue number e) ≡ log_bytes seen (cleared_of o.k) e
  unfolding bytes_of
  log_read op status =
      ap bytes_submitted admits
      ∙ (ap (λ (r : AdminReply). bytes_submitted (of_reply (admin_bytes seen ctrl o.k e) r))
      (log_reply op status) ∙ log_given op status)

  same_list : those (λ m. nat_lt o.k.cleared (seen.ns_stamp m)) MAX_NSID ≡ those l MAX_NSID
  same_list = λ i. those (λ m. lists t s.port s.bound n l o m i) MAX_NSID

  pub changed_list : e.opcode ≡ GET_LOG_PAGE → log_id e ≡ CHANGED_NAMESPACES
      → log_status e ≡ SUCCESS → bytes_of t (Submit queue number e)
      ≡ window (log_offset e) e.sgl_len (list_bytes (those l MAX_NSID))
  changed_list op id status =
      let a : (log_id e == CHANGED_NAMESPACES) ≡ true =
      ap (λ (x : ℕ). x == CHANGED_NAMESPACES) id in
      log_read op status
      ∙ (listed_page seen o.k.cleared e a
      ∙ ap (λ (x : List ℕ). window (log_offset e) e.sgl_len (list_bytes x))
      (walked seen o.k.cleared MAX_NSID refl ∙ same_list))

  same_counts : (c : ℕ) → t.tree.settings.ana_count ≡ c → seen ≡ counted c seen
  same_counts c is = λ i. record seen { ana_count = is i; group_count = λ g. is i }

  pub ana_log : (c : ℕ) → t.tree.settings.ana_count ≡ c → e.opcode ≡ GET_LOG_PAGE
      → log_id e ≡ ANA_LOG → log_status e ≡ SUCCESS → bytes_of t (Submit queue number e)
      ≡ window (log_offset e) e.sgl_len (ana_bytes (counted c seen) (groups_only e))
  ana_log c is op id status =
      let a : (log_id e == CHANGED_NAMESPACES) ≡ false =
      ap (λ (x : ℕ). x == CHANGED_NAMESPACES) id in
      let here : log_bytes seen (cleared_of o.k) e ≡ window (log_offset e) e.sgl_len
      (ana_bytes seen (groups_only e)) = rw (a) refl in
      log_read op status
      ∙ (here ∙ ap (λ (x : View). window (log_offset e) e.sgl_len
      (ana_bytes x (groups_only e))) (same_counts c is))

  -- features
  bits_answer : e.opcode ≡ GET_FEATURES → feature_id e ≡ ASYNC_EVENTS → e.sgl_len ≡ 0
      → feature_answer (caught_up_with seen o.k) e
      ≡ (SUCCESS, notice_bits (caught_up_with seen o.k).ns.on (caught_up_with seen o.k).ana.on)
  unfolding feature_answer
  bits_answer op id none =
      let a : (e.opcode == SET_FEATURES) ≡ false = ap (λ (x : ℕ). x == SET_FEATURES) op in
      let b : (e.opcode == GET_FEATURES) ≡ true = ap (λ (x : ℕ). x == GET_FEATURES) op in
      let z : (e.sgl_len == 0) ≡ true = ap (λ (x : ℕ). x == 0) none in
      let c : (feature_id e == NUMBER_OF_QUEUES) ≡ false =
      ap (λ (x : ℕ). x == NUMBER_OF_QUEUES) id in
      let d : (feature_id e == ASYNC_EVENTS) ≡ true = ap (λ (x : ℕ). x == ASYNC_EVENTS) id in
      rw (a, b, z, c, d) refl

  bits_kept : notice_bits (caught_up_with seen o.k).ns.on (caught_up_with seen o.k).ana.on
      ≡ notice_bits n.ns.on n.ana.on
  unfolding caught_up shown
  bits_kept = ap (λ (x : Notices). notice_bits x.ns.on x.ana.on) (shows t s.port s.bound n l o)

  bits_reply : e.opcode ≡ GET_FEATURES → feature_id e ≡ ASYNC_EVENTS → e.sgl_len ≡ 0
      → admin_reply seen o.k e ≡ Completes SUCCESS (notice_bits n.ns.on n.ana.on)
  unfolding admin_reply
  bits_reply op id none =
      let a : (e.opcode == GET_LOG_PAGE) ≡ false = ap (λ (x : ℕ). x == GET_LOG_PAGE) op in
      let b : (e.opcode == IDENTIFY) ≡ false = ap (λ (x : ℕ). x == IDENTIFY) op in
      let c : (e.opcode == ABORT) ≡ false = ap (λ (x : ℕ). x == ABORT) op in
      let d : (e.opcode == EVENT_REQUEST) ≡ false = ap (λ (x : ℕ). x == EVENT_REQUEST) op in
      let f : (e.opcode == KEEP_ALIVE) ≡ false = ap (λ (x : ℕ). x == KEEP_ALIVE) op in
      rw (passes, a, b, c, d, f) (ap (λ (x : ℕ × ℕ). Completes x.0 x.1) (bits_answer op id none)
      ∙ ap (λ (x : ℕ). Completes SUCCESS x) bits_kept)

  pub bits : e.opcode ≡ GET_FEATURES → feature_id e ≡ ASYNC_EVENTS → e.sgl_len ≡ 0
      → reply_of t (Submit queue number e)
      ≡ completion t queue e.cid SUCCESS (notice_bits n.ns.on n.ana.on)
  unfolding reply_of
  bits op id none =
      ap (submitted t queue e.cid) admits
      ∙ ap (λ (r : AdminReply). submitted t queue e.cid
      (of_reply (admin_bytes seen ctrl o.k e) r)) (bits_reply op id none)

-- ---- the laws
abbrev own_at : (start : Target) (entries : List Entry) (queue : ℕ) (e : Sqe)
    → Leads start entries → (s : Serves (led start entries) queue e)
    → Own (parts (led start entries)) s.port s.bound (notices_by start queue entries)
    (is_listed start queue entries)
own_at start entries queue e h s = served_own (led start entries) queue e
    (notices_by start queue entries) (is_listed start queue entries) s
    (leads_from start entries queue h).1

pub requests_by_fold : RequestsByFold
requests_by_fold start entries queue number e h s op none = requests (led start entries) queue
    number e (notices_by start queue entries) (is_listed start queue entries) s
    (own_at start entries queue e h s) op none

pub changed_list_by_fold : ChangedListByFold
changed_list_by_fold start entries queue number e h s op id status = changed_list
    (led start entries) queue number e (notices_by start queue entries)
    (is_listed start queue entries) s (own_at start entries queue e h s) op id status

pub ana_log_by_fold : AnaLogByFold
ana_log_by_fold start entries queue number e h s op id status = ana_log (led start entries) queue
    number e (notices_by start queue entries) (is_listed start queue entries) s
    (own_at start entries queue e h s) (ana_changes start entries) (count_is start entries h) op id
    status

pub bits_by_fold : BitsByFold
bits_by_fold start entries queue number e h s op id none = bits (led start entries) queue number e
    (notices_by start queue entries) (is_listed start queue entries) s
    (own_at start entries queue e h s) op id none

-- ---- a read clears, or retains
marks_last : (t : Target) (queue : ℕ) (entries : List Entry) (e : Entry)
    → marks_from t queue (entries ++ e ∷ [])
    ≡ marks_from t queue entries ++ mark_at (led t entries) queue e ∷ []
marks_last t queue [] e = refl
marks_last t queue (x ∷ entries) e = ap (λ (ms : List Mark). mark_at t queue x ∷ ms)
    (marks_last (target_after t x.call) queue entries e)

listed_last : (n : ℕ) (listed : Bool) (ms : List Mark) (m : Mark)
    → listed_after n listed (ms ++ m ∷ []) ≡ listed_step n (listed_after n listed ms) m
listed_last n listed [] m = refl
listed_last n listed (x ∷ ms) m = listed_last n (listed_step n listed x) ms m

step_read : (n : ℕ) (listed r : Bool) → listed_step n listed (cond r Passes (Reads logs.Changed))
    ≡ cond r listed false
step_read n listed true = refl
step_read n listed false = refl

read_mark : (e : Sqe) → (e.opcode == GET_LOG_PAGE) ≡ true
    → (log_id e == CHANGED_NAMESPACES) ≡ true
    → succeeded e ≡ cond (retains e) Passes (Reads logs.Changed)
read_mark e a b = ap (λ (x : Bool). cond x (cond (retains e) Passes (Reads (log_of e)))
    (cond ((e.opcode == SET_FEATURES) && (feature_id e == ASYNC_EVENTS))
    (Configures (bit 8 e.cdw11) (bit 11 e.cdw11)) Passes)) a
    ∙ ap (λ (x : Bool). cond (retains e) Passes (Reads (cond x logs.Changed logs.Ana))) b

module _ (t : Target) (queue number : ℕ) (e : Sqe) (n : Notices) (l : ℕ → Bool)
    (s : Serves t queue e) (o : Own (parts t) s.port s.bound n l) (op : e.opcode ≡ GET_LOG_PAGE)
    (id : log_id e ≡ CHANGED_NAMESPACES) (status : log_status e ≡ SUCCESS) where
  read_reply : reply_of t (Submit queue number e) ≡ completion t queue e.cid SUCCESS 0
  unfolding reply_of
  read_reply =
      let c = row t queue number e n l s o in
      let ad = admits t queue number e n l s o in
      ap (submitted t queue e.cid) ad
      ∙ ap (λ (r : AdminReply). submitted t queue e.cid (of_reply (admin_bytes
      (view_at t s.port s.bound) (as_bound (placed_bound t.tree s.port s.bound) c.0) o.k e) r))
      (log_reply t queue number e n l s o op status)

  read_entry : mark_at t queue (entry_of t (Submit queue number e))
      ≡ cond (retains e) Passes (Reads logs.Changed)
  read_entry =
      ap (λ (x : Option Binding). mark_by t queue x (entry_of t (Submit queue number e)))
      s.connected
      ∙ (ap (λ (x : Bool). cond x (submitted_mark e (reply_of t (Submit queue number e))) Passes)
      (same_number queue)
      ∙ (ap (submitted_mark e) read_reply
      ∙ read_mark e (ap (λ (x : ℕ). x == GET_LOG_PAGE) op)
      (ap (λ (x : ℕ). x == CHANGED_NAMESPACES) id)))

pub reads_clear : ReadsClear
reads_clear start entries queue number n e h s op id status =
    let t : Target = led start entries in
    let x : Entry = entry_of t (Submit queue number e) in
    let ms : List Mark = marks_from start queue entries in
    ap (λ (ys : List Mark). listed_after n false ys) (marks_last start queue entries x)
    ∙ (listed_last n false ms (mark_at t queue x)
    ∙ (ap (λ (m : Mark). listed_step n (listed_after n false ms) m)
    (read_entry t queue number e (notices_by start queue entries) (is_listed start queue entries) s
    (own_at start entries queue e h s) op id status)
    ∙ step_read n (listed_after n false ms) (retains e)))
