-- A command of an admin queue does what the model does.
use Rattle.std.proofs.Common.{◌≡◌, ◌≢◌, ◌≤◌, ◌-◌, nat_le, ℕ, zero, suc, Bool, true, false, cond, List, [], length, Option, Some, None, slice_get, slice_set, refl, sym, ap, subst, ◌∙◌, arith}
use Rattle.std.proofs.lemmas.Bool.{both_ways}
use Rattle.std.proofs.lemmas.List.{append-nil, length-set}
use Rattle.mem_bdev.specs.Texts.{Text, appended}
use Rattle.mem_bdev.specs.declared.limits.TheConstants.{MAX_TRANSFER}
use Rattle.sqe_cqe.specs.declared.sqe.Sqe.{Sqe}
use Rattle.sqe_cqe.specs.declared.codes.TheConstants.{INVALID_OPCODE}
use Rattle.sqe_cqe.specs.declared.way.Direction.{Direction}
use Rattle.sqe_cqe.specs.declared.way.Direction.TheVariants.{Nothing, ToController, ToHost, Both as BothWays}
use Rattle.sqe_cqe.specs.declared.controllers.Bound.{Bound as CodeBound}
use Rattle.sqe_cqe.specs.declared.controllers.Binding.{Binding as CodeBinding}
use Rattle.sqe_cqe.specs.declared.controllers.ControllerRow.{ControllerRow}
use Rattle.sqe_cqe.specs.declared.controllers.Ctrl.{Ctrl}
use Rattle.sqe_cqe.specs.Sqe.{direction_of, host_by, host_len}
use Rattle.sqe_cqe.specs.Answers.{View}
use Rattle.configfs_tree.specs.Links.{SubsystemPositions, PortPositions}
use Rattle.configfs_tree.specs.declared.configuration.Configuration.{Configuration}
use Rattle.plan_files.specs.Rooms.{data_room}
use Rattle.fabrics_connect.specs.Checks.{numbered}
use Rattle.admin_commands.specs.declared.admit.AdminReply.{AdminReply}
use Rattle.admin_commands.specs.declared.admit.AdminReply.TheVariants as admin
use Rattle.async_events.specs.declared.events.Events.{Events}
use Rattle.admin_commands.specs.Admin.{given_with, admin_reply, admin_bytes, events_after, polled, most_given, AdmitsAt, PollsAt}
use Rattle.tree_target.specs.declared.calls.Reply.TheVariants as replies
use Rattle.tree_target.specs.Model.{Submit, Poll, Bound, Binding, Target, bound_at, qid_of}
use Rattle.tree_target.specs.Controls.{placed_bound}
use Rattle.tree_target.specs.Views.{view_at}
use Rattle.tree_target.specs.Admission.{Admission, of_reply, events_numbered, put_events, as_bound, of_controller, events_with, of_qid, of_bound, of_binding, admission, events_by_qid, events_by_bound, events_by_binding, events_submitted, events_polled, event_with, event_by_qid, event_by_bound, event_by_binding, event_at}
use Rattle.tree_target.specs.Steps.{reply_of, bytes_of, changed, submitted, bytes_submitted, after_submit, polled_reply}
use Rattle.tree_target.specs.Kept.{Kept, IsKept, LeavesOthers, bound_from, bound_in, qid_from, seen_by, is_admin_bound, is_admin_in, is_admin_reply, given_room, reply_with, event_reply, ctrl_for, ServesAdmin, PollsAdmin}
use Rattle.tree_target.specs.Stands.{IsBound, IsBoundAs, StandsFor, Simulates, SubmitsAdmin}
use Rattle.tree_target.proofs.HeldList.{eqb_is, eqb_apart}
use Rattle.tree_target.proofs.Admitting.{Both, both_at, qid_is, bound_placed, same_view, none_polled}
use Rattle.tree_target.proofs.Simulating.{stands_after}

-- ---- the room
room_by : (d : Direction) (len : ℕ)
    → data_room d len ≡ cond (nat_le (host_by d len) MAX_TRANSFER) (host_by d len) 0
room_by ToHost len = refl
room_by Nothing len = refl
room_by ToController len = refl
room_by BothWays len = refl

pub room_is : (e : Sqe) → given_room e ≡ most_given e
unfolding host_len
room_is e = room_by (direction_of e) e.sgl_len

short_by : (d : Direction) (len : ℕ) → data_room d len ≤ len
short_by ToHost len = cond_short (nat_le len MAX_TRANSFER) len where
  cond_short : (b : Bool) (len : ℕ) → cond b len 0 ≤ len
  cond_short true len = omega arith
  cond_short false len = omega arith
short_by Nothing len = omega arith
short_by ToController len = omega arith
short_by BothWays len = omega arith

pub room_short : (e : Sqe) → given_room e ≤ e.sgl_len
room_short e = short_by (direction_of e) e.sgl_len

-- ---- what a command of a controller gets, and leaves
-- the bytes, and that they were appended; none where an event request waits
pub record ServedBytes (v : View) (b : CodeBound) (e : Sqe) (cs : List ControllerRow)
    (os : List Events) (reply : AdminReply) (to to' : Text) (new : List Events) : Type 0 where
  pub bytes : List ℕ
  pub appends : to' ≡ appended to bytes
  pub short : length bytes ≤ most_given e
  pub none : reply ≡ admin.Waits → bytes ≡ []
  pub admission_is : of_controller v b e (numbered cs b.ctrl) (events_numbered os b.ctrl)
      ≡ of_reply bytes reply
  pub events_are : events_with (λ o. events_after v o e) b.ctrl os (numbered cs b.ctrl) (events_numbered os b.ctrl) ≡ new

none_appended : (to : Text) → to ≡ appended to []
none_appended to = ap (λ (b : List ℕ). record { bytes = b; room = to.room })
    (sym (append-nil to.bytes))

waits_none : (v : View) (c : Ctrl) (o : Events) (e : Sqe) → admin_reply v o e ≡ admin.Waits
    → admin_bytes v c o e ≡ []
unfolding admin_bytes
waits_none v c o e w = ap (given_with v c o e) w

minus_one : (n : ℕ) → suc n - 1 ≡ n
minus_one n = omega arith

module _ (v : View) (e : Sqe) (cs : List ControllerRow) (os : List Events) (reply : AdminReply)
    (to to' : Text) (new : List Events) where
  none_served : (b : CodeBound) (c : Option ControllerRow) (o : Option Events)
      → numbered cs b.ctrl ≡ c → events_numbered os b.ctrl ≡ o → c ≡ None
      → (reply ≡ admin.Completes INVALID_OPCODE 0) × (to' ≡ to) × (new ≡ os)
      → ServedBytes v b e cs os reply to to' new
  none_served b c o ec eo none x = record {
    bytes = [];
    appends = x.1 ∙ none_appended to;
    short = omega arith;
    none = λ w. refl;
    admission_is = ap (λ (y : Option ControllerRow). of_controller v b e y
        (events_numbered os b.ctrl)) (ec ∙ none)
        ∙ sym (ap (of_reply []) x.0);
    events_are = ap (λ (y : Option ControllerRow). events_with (λ o. events_after v o e) b.ctrl os y
        (events_numbered os b.ctrl)) (ec ∙ none) ∙ sym x.2;
  }

  row_served : (b : CodeBound) (c : ControllerRow) (n : ℕ) → b.ctrl ≡ suc n
      → numbered cs b.ctrl ≡ Some c
      → AdmitsAt v (as_bound b c) e (b.ctrl - 1) os reply to to' new
      → ServedBytes v b e cs os reply to to' new
  row_served b c n is ec a =
      let at : b.ctrl - 1 ≡ n = ap (λ (m : ℕ). m - 1) is ∙ minus_one n in
      let own : events_numbered os b.ctrl ≡ Some a.own =
      ap (events_numbered os) is ∙ (sym (ap (slice_get os) at) ∙ a.stands) in
      record {
        bytes = admin_bytes v (as_bound b c) a.own e;
        appends = a.appends;
        short = a.short;
        none = λ w. waits_none v (as_bound b c) a.own e (sym a.reply_is ∙ w);
        admission_is = rw (ec, own) (sym (ap (of_reply (admin_bytes v (as_bound b c) a.own e))
            a.reply_is));
        events_are = rw (ec, own) (ap (λ (m : ℕ). put_events os m (events_after v a.own e)) is
            ∙ (sym (ap (λ (m : ℕ). slice_set os m (events_after v a.own e)) at) ∙ sym a.states));
      }

  by_number : (b : CodeBound) (c : Option ControllerRow) (n : ℕ) → b.ctrl ≡ n
      → numbered cs b.ctrl ≡ c → ServesAdmin v e b.ctrl (ctrl_for b c) os reply to to' new
      → ServedBytes v b e cs os reply to to' new
  by_number b None n is ec s = none_served b None (events_numbered os b.ctrl) ec refl refl s
  by_number b (Some c) zero is ec s = absurd (none_there c (sym (ap (numbered cs) is) ∙ ec)) where
    none_there : (c : ControllerRow) → None ≡ Some c → ⊥
    none_there c e = cc
  by_number b (Some c) (suc n) is ec s = row_served b c n is ec s

  pub served : (b : CodeBound)
      → ServesAdmin v e b.ctrl (ctrl_for b (numbered cs b.ctrl)) os reply to to' new
      → ServedBytes v b e cs os reply to to' new
  served b s = by_number b (numbered cs b.ctrl) b.ctrl refl refl s

-- ---- what the model makes of it
reply_like : (t : Target) (queue cid : ℕ) (bytes : List ℕ) (r : AdminReply)
    → submitted t queue cid (of_reply bytes r) ≡ reply_with (qid_of (bound_at t queue)) cid r
reply_like t queue cid bytes (admin.Completes status result) = refl
reply_like t queue cid bytes admin.Waits = refl

bytes_like : (bytes : List ℕ) (r : AdminReply) → (r ≡ admin.Waits → bytes ≡ [])
    → bytes_submitted (of_reply bytes r) ≡ bytes
bytes_like bytes (admin.Completes status result) none = refl
bytes_like bytes admin.Waits none = sym (none refl)

stands_like : (k : Kept) (t : Target) (queue number cid : ℕ) (bytes : List ℕ) (r : AdminReply)
    (new : List Events) → StandsFor k t → StandsFor (record k { events = new })
    (record (after_submit t queue number cid (of_reply bytes r)) { events = new })
stands_like k t queue number cid bytes (admin.Completes status result) new st = record {
  tree = st.tree;
  controllers = st.controllers;
  blocks = st.blocks;
  bindings = st.bindings;
  held = st.held;
  events = refl;
  stamps = st.stamps;
}
stands_like k t queue number cid bytes admin.Waits new st = record {
  tree = st.tree;
  controllers = st.controllers;
  blocks = st.blocks;
  bindings = st.bindings;
  held = st.held;
  events = refl;
  stamps = st.stamps;
}

stands_submitted : (k : Kept) (t : Target) (queue number cid : ℕ) (bytes : List ℕ)
    (r : AdminReply) (a : Admission) (new evs : List Events) → a ≡ of_reply bytes r → evs ≡ new
    → StandsFor k t → StandsFor (record k { events = new })
    (record (after_submit t queue number cid a) { events = evs })
stands_submitted k t queue number cid bytes r a new evs x y st =
    rw (x, y) (stands_like k t queue number cid bytes r new st)

-- ---- the admin queue by names
admission_along : (e : Sqe) (v w : View) (b d : CodeBound) (cs ds : List ControllerRow)
    (n m : ℕ) (os ps : List Events) → v ≡ w → b ≡ d → cs ≡ ds → n ≡ m → os ≡ ps
    → of_controller v b e (numbered cs n) (events_numbered os n)
    ≡ of_controller w d e (numbered ds m) (events_numbered ps m)
admission_along e v w b d cs ds n m os ps e1 e2 e3 e4 e5 = rw (e1, e2, e3, e4, e5) refl

events_along : (f : View → Events → Events) (v w : View) (cs ds : List ControllerRow) (n m : ℕ)
    (os ps : List Events) → v ≡ w → cs ≡ ds → n ≡ m → os ≡ ps
    → events_with (f v) n os (numbered cs n) (events_numbered os n)
    ≡ events_with (f w) m ps (numbered ds m) (events_numbered ps m)
events_along f v w cs ds n m os ps e1 e3 e4 e5 = rw (e1, e3, e4, e5) refl

module _ (k : Kept) (t : Target) (e : Sqe) (hs : SubsystemPositions k.tree)
    (hp : PortPositions k.tree) (st : StandsFor k t) where
  record IsAs (b : CodeBound) (a : Admission) (evs : List Events) : Type 0 where
    admission_is : a ≡ of_controller (seen_by k b) b e (numbered k.controllers b.ctrl)
        (events_numbered k.events b.ctrl)
    events_are : evs ≡ events_with (λ o. events_after (seen_by k b) o e) b.ctrl k.events
        (numbered k.controllers b.ctrl) (events_numbered k.events b.ctrl)

  bound_as : (port : ℕ) (c : CodeBound) (m : Bound) → c.qid ≡ 0 → IsBound k.tree port c m
      → IsAs c (of_qid t e port m m.qid) (events_by_qid t (λ v o. events_after v o e) port m m.qid)
  bound_as port c m zero_qid b =
      let view = same_view k t port c m hs hp st b in
      let place : placed_bound t.tree port m ≡ c =
      ap (λ (x : Configuration). placed_bound x port m) st.tree
      ∙ bound_placed k.tree port c m b in
      let q : m.qid ≡ 0 = b.qid ∙ zero_qid in
      record {
        admission_is = ap (of_qid t e port m) q
            ∙ admission_along e (view_at t port m) (seen_by k c) (placed_bound t.tree port m) c
            t.controllers k.controllers m.controller c.ctrl t.events k.events view place
            st.controllers b.ctrl st.events;
        events_are = ap (events_by_qid t (λ v o. events_after v o e) port m) q
            ∙ events_along (λ v o. events_after v o e) (view_at t port m) (seen_by k c) t.controllers k.controllers
            m.controller c.ctrl t.events k.events view st.controllers b.ctrl st.events;
      }

  no_bound : (b : CodeBound) → None ≡ Some b → ⊥
  no_bound b e = cc

  same_bound : (d b : CodeBound) → Some d ≡ Some b → d ≡ b
  same_bound d b e = cc

  bounds_as : (port : ℕ) (c : Option CodeBound) (m : Option Bound) (b : CodeBound)
      → c ≡ Some b → b.qid ≡ 0 → IsBoundAs k.tree port c m
      → IsAs b (of_bound t e port m) (events_by_bound t (λ v o. events_after v o e) port m)
  bounds_as port None m b is q x = absurd (no_bound b is)
  bounds_as port (Some d) None b is q x = absurd x
  bounds_as port (Some d) (Some m) b is q x =
      let same = same_bound d b is in
      bound_as port b m q (subst (λ (y : CodeBound). IsBound k.tree port y m) same x)

  bindings_as : (c : Option CodeBinding) (m : Option Binding) (b : CodeBound)
      → bound_from c ≡ Some b → b.qid ≡ 0 → Both k.tree c m
      → IsAs b (of_binding t e m) (events_by_binding t (λ v o. events_after v o e) m)
  bindings_as None m b is q x = absurd (no_bound b is)
  bindings_as (Some c) None b is q x = absurd x
  bindings_as (Some c) (Some m) b is q x = bounds_as m.port c.bound m.bound b is q x.1

  queue_as : (queue : ℕ) (b : CodeBound) → bound_in k.bindings queue ≡ Some b → b.qid ≡ 0
      → IsAs b (admission t queue e) (events_submitted t queue e)
  unfolding admission events_submitted
  queue_as zero b is q = absurd (no_bound b is)
  queue_as (suc n) b is q = bindings_as (slice_get k.bindings n) (slice_get t.bindings n) b is q
      (both_at k.tree k.bindings t.bindings n st.bindings)

-- ---- the call
abbrev pub with_events : Kept → List Events → Kept
with_events k new = record k { events = new }

admin_does : (k : Kept) (queue number : ℕ) (e : Sqe) (b : CodeBound) (reply : AdminReply)
    (to to' : Text) (new : List Events) → SubsystemPositions k.tree → PortPositions k.tree
    → bound_in k.bindings queue ≡ Some b → b.qid ≡ 0
    → (s : ServedBytes (seen_by k b) b e k.controllers k.events reply to to' new)
    → Simulates k (Submit queue number e) (reply_with b.qid e.cid reply) s.bytes
    (with_events k new)
unfolding reply_of bytes_of changed
admin_does k queue number e b reply to to' new hs hp is q s t st =
    let here = queue_as k t e hs hp st queue b is q in
    let a : admission t queue e ≡ of_reply s.bytes reply = here.admission_is ∙ s.admission_is in
    let evs : events_submitted t queue e ≡ new = here.events_are ∙ s.events_are in
    record {
      lawful = refl;
      reply_is = ap (submitted t queue e.cid) a
          ∙ (reply_like t queue e.cid s.bytes reply
          ∙ ap (λ (n : ℕ). reply_with n e.cid reply)
          (qid_is k t queue st ∙ ap (λ (o : Option CodeBound). qid_from o) is));
      bytes_are = ap bytes_submitted a ∙ bytes_like s.bytes reply s.none;
      stands = stands_after (with_events k new) t (changed t (Submit queue number e))
          (Submit queue number e) refl
          (stands_submitted k t queue number e.cid s.bytes reply (admission t queue e) new
          (events_submitted t queue e) a evs st);
    }

pub admin_submits : (k : Kept) (queue number : ℕ) (e : Sqe) (b : CodeBound) (reply : AdminReply)
    (to to' : Text) (new : List Events) → SubsystemPositions k.tree → PortPositions k.tree
    → bound_in k.bindings queue ≡ Some b → b.qid ≡ 0
    → ServesAdmin (seen_by k b) e b.ctrl (ctrl_for b (numbered k.controllers b.ctrl)) k.events
    reply to to' new
    → SubmitsAdmin k (Submit queue number e) (reply_with b.qid e.cid reply) to to'
    (with_events k new)
admin_submits k queue number e b reply to to' new hs hp is q serves =
    let s = served (seen_by k b) e k.controllers k.events reply to to' new b serves in
    record {
      bytes = s.bytes;
      does = admin_does k queue number e b reply to to' new hs hp is q s;
      appends = s.appends;
      short = subst (λ (n : ℕ). length s.bytes ≤ n) (sym (room_is e)) s.short;
    }

-- ---- what it keeps
put_len : (os : List Events) (n : ℕ) (o : Events) → length (put_events os n o) ≡ length os
put_len os zero o = refl
put_len os (suc n) o = length-set os n o

with_len : (f : Events → Events) (n : ℕ) (os : List Events) (c : Option ControllerRow)
    (o : Option Events) → length (events_with f n os c o) ≡ length os
with_len f n os None o = refl
with_len f n os (Some c) None = refl
with_len f n os (Some c) (Some o) = put_len os n (f o)

pub admin_kept : (k : Kept) (room : ℕ) (e : Sqe) (b : CodeBound) (reply : AdminReply)
    (to to' : Text) (new : List Events)
    → ServesAdmin (seen_by k b) e b.ctrl (ctrl_for b (numbered k.controllers b.ctrl)) k.events
    reply to to' new
    → IsKept k room → IsKept (with_events k new) room
admin_kept k room e b reply to to' new serves h =
    let s = served (seen_by k b) e k.controllers k.events reply to to' new b serves in
    record {
      holds = h.holds;
      few_disks = h.few_disks;
      few_queues = h.few_queues;
      room = h.room;
      joined = h.joined;
      states = ap (λ (os : List Events). length os) (sym s.events_are)
          ∙ (with_len (λ o. events_after (seen_by k b) o e) b.ctrl k.events (numbered k.controllers b.ctrl)
          (events_numbered k.events b.ctrl) ∙ h.states);
    }

pub admin_leaves : (k : Kept) (queue : ℕ) (new : List Events)
    → LeavesOthers queue k (with_events k new)
admin_leaves k queue new = record {
  queues = refl;
  bindings = λ q ne. refl;
  idle = λ q ne h. h;
  holding = λ q number taken given ne h. record {
    is_held = h.is_held;
    has_data = h.has_data;
    is_given = h.is_given;
    short = h.short;
  };
}

-- ---- the reply
pub not_held : (qid cid : ℕ) (r : AdminReply) → reply_with qid cid r ≢ replies.Held
not_held qid cid (admin.Completes status result) e = cc
not_held qid cid admin.Waits e = cc

pub is_reply : (qid cid : ℕ) (r : AdminReply) → is_admin_reply (reply_with qid cid r) ≡ true
is_reply qid cid (admin.Completes status result) = refl
is_reply qid cid admin.Waits = refl

-- ---- an admin queue is connected
pub no_admin : (k : Kept) (queue : ℕ) → is_admin_in k queue ≡ true
    → bound_in k.bindings queue ≡ None → ⊥
no_admin k queue h e = both_ways false refl (sym (ap is_admin_bound e) ∙ h)

pub admin_qid : (k : Kept) (queue : ℕ) (b : CodeBound) → is_admin_in k queue ≡ true
    → bound_in k.bindings queue ≡ Some b → b.qid ≡ 0
admin_qid k queue b h e = eqb_is b.qid 0 (sym (ap is_admin_bound e) ∙ h)

-- ---- polls
polled_like : (t : Target) (queue : ℕ) (o : Option (ℕ × ℕ))
    → polled_reply t queue o ≡ event_reply (qid_of (bound_at t queue)) o
polled_like t queue None = refl
polled_like t queue (Some x) = refl

stands_polled : (k : Kept) (t : Target) (evs new : List Events) → evs ≡ new → StandsFor k t
    → StandsFor (with_events k new) (record t { events = evs })
stands_polled k t evs new e st = record {
  tree = st.tree;
  controllers = st.controllers;
  blocks = st.blocks;
  bindings = st.bindings;
  held = st.held;
  events = e;
  stamps = st.stamps;
}

pub none_does : (k : Kept) (queue : ℕ) → is_admin_in k queue ≡ false
    → Simulates k (Poll queue) replies.NoEvent [] k
unfolding reply_of bytes_of changed
none_does k queue io t st =
    let none = none_polled k t st queue io in
    record {
      lawful = refl;
      reply_is = ap (polled_reply t queue) none.0;
      bytes_are = refl;
      stands = stands_after k t (changed t (Poll queue)) (Poll queue) refl
          (stands_polled k t (events_polled t queue) k.events (none.1 ∙ st.events) st);
    }

-- what a poll of a controller gets, and leaves
record PolledAs (v : View) (b : CodeBound) (cs : List ControllerRow) (os : List Events)
    (event : Option (ℕ × ℕ)) (new : List Events) : Type 0 where
  event_is : event_with v (numbered cs b.ctrl) (events_numbered os b.ctrl) ≡ event
  events_are : events_with (polled v) b.ctrl os (numbered cs b.ctrl) (events_numbered os b.ctrl)
      ≡ new

module _ (v : View) (cs : List ControllerRow) (os : List Events) (event : Option (ℕ × ℕ))
    (new : List Events) where
  none_polled_as : (b : CodeBound) → numbered cs b.ctrl ≡ None → (event ≡ None) × (new ≡ os)
      → PolledAs v b cs os event new
  none_polled_as b ec x = record {
    event_is = ap (λ (y : Option ControllerRow). event_with v y (events_numbered os b.ctrl)) ec
        ∙ sym x.0;
    events_are = ap (λ (y : Option ControllerRow). events_with (polled v) b.ctrl os y
        (events_numbered os b.ctrl)) ec ∙ sym x.1;
  }

  row_polled_as : (b : CodeBound) (c : ControllerRow) (n : ℕ) → b.ctrl ≡ suc n
      → numbered cs b.ctrl ≡ Some c → PollsAt v (b.ctrl - 1) os event new
      → PolledAs v b cs os event new
  row_polled_as b c n is ec a =
      let at : b.ctrl - 1 ≡ n = ap (λ (m : ℕ). m - 1) is ∙ minus_one n in
      let own : events_numbered os b.ctrl ≡ Some a.own =
      ap (events_numbered os) is ∙ (sym (ap (slice_get os) at) ∙ a.stands) in
      record {
        event_is = rw (ec, own) (sym a.event_is);
        events_are = rw (ec, own) (ap (λ (m : ℕ). put_events os m (polled v a.own)) is
            ∙ (sym (ap (λ (m : ℕ). slice_set os m (polled v a.own)) at) ∙ sym a.states));
      }

  polled_number : (b : CodeBound) (c : Option ControllerRow) (n : ℕ) → b.ctrl ≡ n
      → numbered cs b.ctrl ≡ c → PollsAdmin v b.ctrl (ctrl_for b c) os event new
      → PolledAs v b cs os event new
  polled_number b None n is ec s = none_polled_as b ec s
  polled_number b (Some c) zero is ec s =
      absurd (none_there c (sym (ap (numbered cs) is) ∙ ec)) where
        none_there : (c : ControllerRow) → None ≡ Some c → ⊥
        none_there c e = cc
  polled_number b (Some c) (suc n) is ec s = row_polled_as b c n is ec s

  polled_as : (b : CodeBound)
      → PollsAdmin v b.ctrl (ctrl_for b (numbered cs b.ctrl)) os event new
      → PolledAs v b cs os event new
  polled_as b s = polled_number b (numbered cs b.ctrl) b.ctrl refl refl s

event_along : (v w : View) (cs ds : List ControllerRow) (n m : ℕ) (os ps : List Events)
    → v ≡ w → cs ≡ ds → n ≡ m → os ≡ ps
    → event_with v (numbered cs n) (events_numbered os n)
    ≡ event_with w (numbered ds m) (events_numbered ps m)
event_along v w cs ds n m os ps e1 e2 e3 e4 = rw (e1, e2, e3, e4) refl

module _ (k : Kept) (t : Target) (hs : SubsystemPositions k.tree) (hp : PortPositions k.tree)
    (st : StandsFor k t) where
  record IsPolled (b : CodeBound) (event : Option (ℕ × ℕ)) (evs : List Events) : Type 0 where
    event_is : event ≡ event_with (seen_by k b) (numbered k.controllers b.ctrl)
        (events_numbered k.events b.ctrl)
    events_are : evs ≡ events_with (polled (seen_by k b)) b.ctrl k.events
        (numbered k.controllers b.ctrl) (events_numbered k.events b.ctrl)

  bound_polled : (port : ℕ) (c : CodeBound) (m : Bound) → c.qid ≡ 0 → IsBound k.tree port c m
      → IsPolled c (event_by_qid t port m m.qid) (events_by_qid t polled port m m.qid)
  bound_polled port c m zero_qid b =
      let view = same_view k t port c m hs hp st b in
      let q : m.qid ≡ 0 = b.qid ∙ zero_qid in
      record {
        event_is = ap (event_by_qid t port m) q
            ∙ event_along (view_at t port m) (seen_by k c) t.controllers k.controllers
            m.controller c.ctrl t.events k.events view st.controllers b.ctrl st.events;
        events_are = ap (events_by_qid t polled port m) q
            ∙ events_along polled (view_at t port m) (seen_by k c) t.controllers k.controllers
            m.controller c.ctrl t.events k.events view st.controllers b.ctrl st.events;
      }

  no_bound_here : (b : CodeBound) → None ≡ Some b → ⊥
  no_bound_here b e = cc

  one_bound : (d b : CodeBound) → Some d ≡ Some b → d ≡ b
  one_bound d b e = cc

  bounds_polled : (port : ℕ) (c : Option CodeBound) (m : Option Bound) (b : CodeBound)
      → c ≡ Some b → b.qid ≡ 0 → IsBoundAs k.tree port c m
      → IsPolled b (event_by_bound t port m) (events_by_bound t polled port m)
  bounds_polled port None m b is q x = absurd (no_bound_here b is)
  bounds_polled port (Some d) None b is q x = absurd x
  bounds_polled port (Some d) (Some m) b is q x =
      bound_polled port b m q (subst (λ (y : CodeBound). IsBound k.tree port y m)
      (one_bound d b is) x)

  bindings_polled : (c : Option CodeBinding) (m : Option Binding) (b : CodeBound)
      → bound_from c ≡ Some b → b.qid ≡ 0 → Both k.tree c m
      → IsPolled b (event_by_binding t m) (events_by_binding t polled m)
  bindings_polled None m b is q x = absurd (no_bound_here b is)
  bindings_polled (Some c) None b is q x = absurd x
  bindings_polled (Some c) (Some m) b is q x = bounds_polled m.port c.bound m.bound b is q x.1

  queue_polled : (queue : ℕ) (b : CodeBound) → bound_in k.bindings queue ≡ Some b → b.qid ≡ 0
      → IsPolled b (event_at t queue) (events_polled t queue)
  unfolding event_at events_polled
  queue_polled zero b is q = absurd (no_bound_here b is)
  queue_polled (suc n) b is q = bindings_polled (slice_get k.bindings n)
      (slice_get t.bindings n) b is q (both_at k.tree k.bindings t.bindings n st.bindings)

pub polls_does : (k : Kept) (queue : ℕ) (b : CodeBound) (event : Option (ℕ × ℕ))
    (new : List Events) → SubsystemPositions k.tree → PortPositions k.tree
    → bound_in k.bindings queue ≡ Some b → b.qid ≡ 0
    → PollsAdmin (seen_by k b) b.ctrl (ctrl_for b (numbered k.controllers b.ctrl)) k.events event
    new → Simulates k (Poll queue) (event_reply b.qid event) [] (with_events k new)
unfolding reply_of bytes_of changed
polls_does k queue b event new hs hp is q polls t st =
    let p = polled_as (seen_by k b) k.controllers k.events event new b polls in
    let here = queue_polled k t hs hp st queue b is q in
    let ev : event_at t queue ≡ event = here.event_is ∙ p.event_is in
    record {
      lawful = refl;
      reply_is = ap (polled_reply t queue) ev
          ∙ (polled_like t queue event
          ∙ ap (λ (n : ℕ). event_reply n event)
          (qid_is k t queue st ∙ ap (λ (o : Option CodeBound). qid_from o) is));
      bytes_are = refl;
      stands = stands_after (with_events k new) t (changed t (Poll queue)) (Poll queue) refl
          (stands_polled k t (events_polled t queue) new (here.events_are ∙ p.events_are) st);
    }

-- a queue that isn't connected, or not as QID 0, isn't an admin queue
pub unbound_io : (k : Kept) (queue : ℕ) → bound_in k.bindings queue ≡ None
    → is_admin_in k queue ≡ false
unbound_io k queue e = ap is_admin_bound e

pub bound_io : (k : Kept) (queue : ℕ) (b : CodeBound) → bound_in k.bindings queue ≡ Some b
    → (b.qid ≡ 0 → ⊥) → is_admin_in k queue ≡ false
bound_io k queue b e ne = ap is_admin_bound e ∙ eqb_apart b.qid 0 ne
