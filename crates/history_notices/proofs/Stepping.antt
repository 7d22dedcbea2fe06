-- One call: what is kept of each queue's controller goes on as the call's mark says.
use Rattle.std.proofs.Common.{◌≡◌, ◌==◌, nat_lt, ℕ, zero, suc, Bool, true, false, cond, List, length, Option, Some, None, is_some, refl, sym, ap, subst, ◌∙◌}
use Rattle.std.proofs.lemmas.List.{length-set}
use Rattle.sqe_cqe.specs.declared.rows.TheConstants.{MAX_NSID}
use Rattle.sqe_cqe.specs.declared.sqe.Sqe.{Sqe}
use Rattle.sqe_cqe.specs.Answers.{View}
use Rattle.sqe_cqe.specs.declared.controllers.ControllerRow.{ControllerRow}
use Rattle.async_events.specs.declared.events.Events.{Events}
use Rattle.async_events.specs.Notices.{Mark, Polls, Passes, Notices, at_connect, after_mark, listed_step}
use Rattle.async_events.specs.Stamps.{Stamps as SeenStamps, IsStamped, shown, stamps_of}
use Rattle.admin_commands.specs.declared.admit.AdminReply.{AdminReply}
use Rattle.admin_commands.specs.declared.admit.AdminReply.TheVariants.{Completes as Replies, Waits as Waiting}
use Rattle.admin_commands.specs.Admin.{admin_reply, admin_bytes, events_after, polled}
use Rattle.change_stamps.specs.Stamps.{space_stamp}
use Rattle.notice_laws.specs.Marks.{seen_by, AreSound}
use Rattle.fabrics_connect.specs.Checks.{numbered}
use Rattle.tree_target.specs.declared.calls.Command.{Command}
use Rattle.tree_target.specs.declared.calls.Reply.{Reply}
use Rattle.tree_target.specs.Model.{Submit, Poll, Entry, Bound, Binding, Target, binding_in, binding_at, bound_of}
use Rattle.tree_target.specs.Views.{view_at}
use Rattle.tree_target.specs.Controls.{subsystem_placed, port_placed, placed_bound}
use Rattle.tree_target.specs.Admission.{Admission, Completes, Waits, Holds, of_reply, events_numbered, put_events, as_bound, of_controller, events_with, of_qid, of_bound, of_binding, admission, events_by_qid, events_by_bound, events_by_binding}
use Rattle.tree_target.specs.Steps.{reply_of, entry_of, submitted, after_submit, after_execute}
use Rattle.tree_target.proofs.HeldList.{same_number}
use Rattle.history_notices.specs.Marks.{submitted_mark, mark_for, mark_in, mark_by}
use Rattle.history_notices.proofs.Owning.{mark_with, Follows, commands, polls}
use Rattle.history_notices.proofs.Bindings.{events_put, events_beside, Apart}
use Rattle.history_notices.proofs.Carrying.{seen_stamped_well, sub_placed, port_is_placed, carries_same, Parts, parts, Base, Own, carried}

-- ---- the state of one queue
abbrev pub marked : (ℕ → Bool) → Mark → ℕ → Bool
marked l m n = listed_step n (l n) m

abbrev pub Bare : Notices → (ℕ → Bool) → Type 0
Bare n l = (n ≡ at_connect) × ((m : ℕ) → l m ≡ false)

abbrev pub StateOf : Parts → ℕ → Option Bound → Notices → (ℕ → Bool) → Type 0
StateOf p port None n l = Bare n l
StateOf p port (Some b) n l = b.qid ≡ 0 → Own p port b n l

abbrev pub StateIn : Parts → Option Binding → Notices → (ℕ → Bool) → Type 0
StateIn p None n l = Bare n l
StateIn p (Some x) n l = StateOf p x.port x.bound n l

abbrev pub State : Parts → ℕ → Notices → (ℕ → Bool) → Type 0
State p queue n l = StateIn p (binding_in p.bindings queue) n l

-- with the mark that a call turns out to have
pub by_mark : (p : Parts) (queue : ℕ) (n : Notices) (l : ℕ → Bool) (m k : Mark) → k ≡ m
    → State p queue (after_mark n m) (marked l m) → State p queue (after_mark n k) (marked l k)
by_mark p queue n l m k e s =
    subst (λ (x : Mark). State p queue (after_mark n x) (marked l x)) (sym e) s

pub passes_by : (t : Target) (queue : ℕ) (e : Entry) (o : Option Binding)
    → ((port : ℕ) (b : Bound) → mark_for t queue port b e.call e.reply ≡ Passes)
    → mark_by t queue o e ≡ Passes
passes_by t queue e None h = refl
passes_by t queue e (Some x) h = of_bound x.bound where
  of_bound : (y : Option Bound) → mark_in t queue x.port y e ≡ Passes
  of_bound None = refl
  of_bound (Some b) = h x.port b

-- along parts that keep what is the queue's
pub state_carried : (p q : Parts) (o : Option Binding) (n : Notices) (l : ℕ → Bool)
    → ((port : ℕ) (b : Bound) → bound_of o ≡ Some b → b.qid ≡ 0 → Own p port b n l
    → Own q port b n l) → StateIn p o n l → StateIn q o n l
state_carried p q None n l f s = s
state_carried p q (Some x) n l f s = of_bound x.bound refl s where
  of_bound : (y : Option Bound) → x.bound ≡ y → StateOf p x.port y n l → StateOf q x.port y n l
  of_bound None e s = s
  of_bound (Some b) e s = λ admin. f x.port b e admin (s admin)

-- ---- calls of queues change the events alone
abbrev pub with_events : Parts → List Events → Parts
with_events p es = record p { events = es }

pub submit_parts : (t : Target) (queue number cid : ℕ) (a : Admission) (es : List Events)
    → parts (record (after_submit t queue number cid a) { events = es })
    ≡ with_events (parts t) es
submit_parts t queue number cid (Completes status result bytes) es = refl
submit_parts t queue number cid Waits es = refl
submit_parts t queue number cid (Holds job) es = refl

pub execute_parts : (t : Target) (queue number : ℕ) (payload : List ℕ) (h : Option Command)
    → parts (after_execute t queue number payload h) ≡ parts t
execute_parts t queue number payload None = refl
execute_parts t queue number payload (Some h) = refl

-- ---- another queue's calls
module _ (t : Target) (f : View → Events → Events) (q : ℕ) where
  module _ (queue : ℕ) (b : Bound) (apart : Apart t.bindings (length t.controllers))
      (eb : bound_of (binding_at t queue) ≡ Some b) (admin : b.qid ≡ 0) (ne : q ≡ queue → ⊥) where
    beside_rows : (d : Bound) → (d.controller ≡ b.controller → ⊥) → (g : Events → Events)
        (c : Option ControllerRow) (k : Option Events)
        → events_numbered (events_with g d.controller t.events c k) b.controller
        ≡ events_numbered t.events b.controller
    beside_rows d other g None k = refl
    beside_rows d other g (Some c) None = refl
    beside_rows d other g (Some c) (Some k) =
        events_beside t.events d.controller b.controller (g k) other

    beside_qid : (port : ℕ) (d : Bound) → bound_of (binding_at t q) ≡ Some d → (z : ℕ)
        → d.qid ≡ z → events_numbered (events_by_qid t f port d z) b.controller
        ≡ events_numbered t.events b.controller
    beside_qid port d ed zero ez = beside_rows d
        (λ same. ne (apart.one q queue d b ed eb ez admin same)) (f (view_at t port d))
        (numbered t.controllers d.controller) (events_numbered t.events d.controller)
    beside_qid port d ed (suc z) ez = refl

    beside_bound : (port : ℕ) (y : Option Bound) → bound_of (binding_at t q) ≡ y
        → events_numbered (events_by_bound t f port y) b.controller
        ≡ events_numbered t.events b.controller
    beside_bound port None e = refl
    beside_bound port (Some d) e = beside_qid port d e d.qid refl

    beside_binding : (o : Option Binding) → binding_at t q ≡ o
        → events_numbered (events_by_binding t f o) b.controller
        ≡ events_numbered t.events b.controller
    beside_binding None e = refl
    beside_binding (Some x) e = beside_bound x.port x.bound (ap bound_of e)

  -- as many events as before
  put_len : (ks : List Events) (n : ℕ) (k : Events) → length (put_events ks n k) ≡ length ks
  put_len ks zero k = refl
  put_len ks (suc n) k = length-set ks n k

  with_len : (g : Events → Events) (n : ℕ) (c : Option ControllerRow) (k : Option Events)
      → length (events_with g n t.events c k) ≡ length t.events
  with_len g n None k = refl
  with_len g n (Some c) None = refl
  with_len g n (Some c) (Some k) = put_len t.events n (g k)

  qid_len : (port : ℕ) (d : Bound) (z : ℕ)
      → length (events_by_qid t f port d z) ≡ length t.events
  qid_len port d zero = with_len (f (view_at t port d)) d.controller
      (numbered t.controllers d.controller) (events_numbered t.events d.controller)
  qid_len port d (suc z) = refl

  binding_len : (o : Option Binding) → length (events_by_binding t f o) ≡ length t.events
  binding_len None = refl
  binding_len (Some x) = bound_len_of x.bound where
    bound_len_of : (y : Option Bound) → length (events_by_bound t f x.port y) ≡ length t.events
    bound_len_of None = refl
    bound_len_of (Some d) = qid_len x.port d d.qid

  pub queue_base : (o : Option Binding) → Base (parts t)
      → Base (with_events (parts t) (events_by_binding t f o))
  queue_base o h = record {
    sound = h.sound;
    states = binding_len o ∙ h.states;
    subsystems = h.subsystems;
    ports = h.ports;
    apart = h.apart;
  }

  -- another queue's controller stays
  pub queue_beside : (queue : ℕ) (n : Notices) (l : ℕ → Bool) → Base (parts t) → (q ≡ queue → ⊥)
      → (o : Option Binding) → binding_at t q ≡ o → State (parts t) queue n l
      → State (with_events (parts t) (events_by_binding t f o)) queue n l
  queue_beside queue n l h ne o eo s =
      state_carried (parts t) (with_events (parts t) (events_by_binding t f o))
      (binding_at t queue) n l (λ port b eb admin own.
      carried (parts t) (with_events (parts t) (events_by_binding t f o)) port b n l own refl
      (carries_same t.tree) (λ x. x)
      (λ k e. beside_binding queue b h.apart eb admin ne o eo ∙ e)) s

-- ---- the queue's own calls
-- what its controller's events show goes on
followed : (t : Target) (port : ℕ) (b : Bound) (n : Notices) (l : ℕ → Bool)
    (o : Own (parts t) port b n l) (es : List Events) (j : Events) (m : Mark)
    → events_numbered es b.controller ≡ Some j → Follows (view_at t port b) o.k j m
    → Own (with_events (parts t) es) port b (after_mark n m) (marked l m)
followed t port b n l o es j m own f =
    let sub : subsystem_placed t.tree b.subsystem ≡ o.sub =
    sub_placed t.tree b.subsystem o.sub o.sub_at in
    let at : port_placed t.tree port ≡ o.at = port_is_placed t.tree port o.at o.port_at in
    let same : stamps_of (view_at t port b) ≡ seen_by o.sub o.at t.stamps =
    λ i. seen_by (sub i) (at i) t.stamps in
    record {
      k = j;
      sub = o.sub;
      at = o.at;
      row = o.row;
      own = own;
      seen = f.seen;
      cleared = f.cleared;
      shows = sym (ap (λ (x : SeenStamps). shown MAX_NSID x j) same)
          ∙ (f.shows ∙ ap (λ (x : Notices). after_mark x m)
          (ap (λ (x : SeenStamps). shown MAX_NSID x o.k) same ∙ o.shows));
      lists = λ i. sym (ap (λ (x : ℕ). nat_lt j.cleared (space_stamp t.stamps x i)) sub)
          ∙ (f.lists i ∙ ap (λ (x : Bool). listed_step i x m)
          (ap (λ (x : ℕ). nat_lt o.k.cleared (space_stamp t.stamps x i)) sub ∙ o.lists i));
      sub_at = o.sub_at;
      sub_on = o.sub_on;
      port_at = o.port_at;
      port_on = o.port_on;
    }

pub there : {X : Type 0} (o : Option X) → is_some o ≡ true → (x : X) × (o ≡ Some x)
there None e = absurd cc
there (Some x) e = (x, refl)

pub view_stamped : (t : Target) (port : ℕ) (b : Bound) → AreSound t.stamps
    → IsStamped (stamps_of (view_at t port b))
view_stamped t port b sound = seen_stamped_well (subsystem_placed t.tree b.subsystem)
    (port_placed t.tree port) t.stamps sound

-- what an admin queue's call leaves and gets, where its controller and its events are there
module _ (t : Target) (port : ℕ) (b : Bound) (c : ControllerRow) (k : Events)
    (row : numbered t.controllers b.controller ≡ Some c)
    (own : events_numbered t.events b.controller ≡ Some k) (admin : b.qid ≡ 0) where
  with_rows : (g : Events → Events) → events_with g b.controller t.events
      (numbered t.controllers b.controller) (events_numbered t.events b.controller)
      ≡ put_events t.events b.controller (g k)
  with_rows g = ap (λ (x : Option ControllerRow). events_with g b.controller t.events x
      (events_numbered t.events b.controller)) row
      ∙ ap (λ (x : Option Events). events_with g b.controller t.events (Some c) x) own

  pub events_are : (f : View → Events → Events) → events_by_qid t f port b b.qid
      ≡ put_events t.events b.controller (f (view_at t port b) k)
  events_are f = ap (events_by_qid t f port b) admin ∙ with_rows (f (view_at t port b))

  pub own_events : (f : View → Events → Events)
      → events_numbered (events_by_qid t f port b b.qid) b.controller
      ≡ Some (f (view_at t port b) k)
  own_events f = ap (λ (x : List Events). events_numbered x b.controller) (events_are f)
      ∙ events_put t.events b.controller k (f (view_at t port b) k) own

  pub admission_of : (e : Sqe) → of_qid t e port b b.qid
      ≡ of_reply (admin_bytes (view_at t port b) (as_bound (placed_bound t.tree port b) c) k e)
      (admin_reply (view_at t port b) k e)
  admission_of e = ap (of_qid t e port b) admin
      ∙ (ap (λ (x : Option ControllerRow). of_controller (view_at t port b)
      (placed_bound t.tree port b) e x (events_numbered t.events b.controller)) row
      ∙ ap (λ (x : Option Events). of_controller (view_at t port b)
      (placed_bound t.tree port b) e (Some c) x) own)

mark_same : (t : Target) (queue cid : ℕ) (e : Sqe) (bytes : List ℕ) (r : AdminReply)
    → cid ≡ e.cid → submitted_mark e (submitted t queue cid (of_reply bytes r)) ≡ mark_with e r
mark_same t queue cid e bytes (Replies status result) is = refl
mark_same t queue cid e bytes Waiting is = refl

own_mark : (t : Target) (queue : ℕ) (m : Mark) → cond (queue == queue) m Passes ≡ m
own_mark t queue m = ap (λ (x : Bool). cond x m Passes) (same_number queue)

module _ (t : Target) (queue : ℕ) (n : Notices) (l : ℕ → Bool) (h : Base (parts t)) where
  submit_bound : (number : ℕ) (e : Sqe) (port : ℕ) (b : Bound)
      → admission t queue e ≡ of_qid t e port b b.qid → b.qid ≡ 0 → Own (parts t) port b n l
      → Own (with_events (parts t) (events_by_qid t (λ v k. events_after v k e) port b b.qid))
      port b (after_mark n (mark_for t queue port b (Submit queue number e)
      (submitted t queue e.cid (admission t queue e))))
      (marked l (mark_for t queue port b (Submit queue number e)
      (submitted t queue e.cid (admission t queue e))))
  submit_bound number e port b adm admin o =
      let v : View = view_at t port b in
      let c = there (numbered t.controllers b.controller) o.row in
      let bytes : List ℕ = admin_bytes v (as_bound (placed_bound t.tree port b) c.0) o.k e in
      let m : cond (queue == queue) (submitted_mark e (submitted t queue e.cid
      (admission t queue e))) Passes ≡ mark_with e (admin_reply v o.k e) =
      own_mark t queue (submitted_mark e (submitted t queue e.cid (admission t queue e)))
      ∙ (ap (λ (a : Admission). submitted_mark e (submitted t queue e.cid a))
      (adm ∙ admission_of t port b c.0 o.k c.1 o.own admin e)
      ∙ mark_same t queue e.cid e bytes (admin_reply v o.k e) refl) in
      let es : List Events = events_by_qid t (λ v k. events_after v k e) port b b.qid in
      subst (λ (x : Mark). Own (with_events (parts t) es) port b (after_mark n x) (marked l x))
      (sym m) (followed t port b n l o es (events_after v o.k e) (mark_with e (admin_reply v o.k e))
      (own_events t port b c.0 o.k c.1 o.own admin (λ v k. events_after v k e))
      (commands v o.k (view_stamped t port b h.sound) o.seen o.cleared e))

  poll_bound : (port : ℕ) (b : Bound) (r : Reply) → b.qid ≡ 0 → Own (parts t) port b n l
      → Own (with_events (parts t) (events_by_qid t polled port b b.qid)) port b
      (after_mark n (mark_for t queue port b (Poll queue) r))
      (marked l (mark_for t queue port b (Poll queue) r))
  poll_bound port b r admin o =
      let v : View = view_at t port b in
      let c = there (numbered t.controllers b.controller) o.row in
      let es : List Events = events_by_qid t polled port b b.qid in
      subst (λ (x : Mark). Own (with_events (parts t) es) port b (after_mark n x) (marked l x))
      (sym (own_mark t queue Polls)) (followed t port b n l o es (polled v o.k) Polls
      (own_events t port b c.0 o.k c.1 o.own admin polled)
      (polls v o.k (view_stamped t port b h.sound) o.seen o.cleared))

  pub submit_own : (number : ℕ) (e : Sqe) (o : Option Binding) → binding_at t queue ≡ o
      → StateIn (parts t) o n l
      → StateIn (with_events (parts t) (events_by_binding t (λ v k. events_after v k e) o)) o
      (after_mark n (mark_by t queue o (entry_of t (Submit queue number e))))
      (marked l (mark_by t queue o (entry_of t (Submit queue number e))))
  unfolding reply_of admission
  submit_own number e None is s = s
  submit_own number e (Some x) is s = by_bound x.bound refl s where
    by_bound : (y : Option Bound) → x.bound ≡ y → StateOf (parts t) x.port y n l
        → StateOf (with_events (parts t) (events_by_bound t (λ v k. events_after v k e) x.port y))
        x.port y (after_mark n (mark_in t queue x.port y (entry_of t (Submit queue number e))))
        (marked l (mark_in t queue x.port y (entry_of t (Submit queue number e))))
    by_bound None e1 s = s
    by_bound (Some b) e1 s = λ admin. submit_bound number e x.port b
        (ap (of_binding t e) is ∙ ap (of_bound t e x.port) e1) admin (s admin)

  pub poll_own : (o : Option Binding) → StateIn (parts t) o n l
      → StateIn (with_events (parts t) (events_by_binding t polled o)) o
      (after_mark n (mark_by t queue o (entry_of t (Poll queue))))
      (marked l (mark_by t queue o (entry_of t (Poll queue))))
  poll_own None s = s
  poll_own (Some x) s = poll_of x.bound s where
    poll_of : (y : Option Bound) → StateOf (parts t) x.port y n l
        → StateOf (with_events (parts t) (events_by_bound t polled x.port y)) x.port y
        (after_mark n (mark_in t queue x.port y (entry_of t (Poll queue))))
        (marked l (mark_in t queue x.port y (entry_of t (Poll queue))))
    poll_of None s = s
    poll_of (Some b) s = λ admin. poll_bound x.port b (reply_of t (Poll queue)) admin (s admin)
