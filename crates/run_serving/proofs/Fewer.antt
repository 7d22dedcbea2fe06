-- Polls of a queue find no event after four at the most: each event settles a kind of notice that was
-- pending, and none becomes pending again while nothing changes and no log is read.
use Rattle.std.proofs.Common.{◌≡◌, ◌≤◌, ◌<◌, ◌⊎◌, ℕ, zero, suc, ◌+◌, ◌&&◌, Bool, true, false, List, [], ◌∷◌, slice_get, slice_set, Option, Some, None, refl, sym, ap, subst, ◌∙◌, inl, inr, arith}
use Rattle.std.specs.Prelude.{if◌then◌else◌, nat_lt, not}
use Rattle.sqe_cqe.specs.Answers.{View}
use Rattle.sqe_cqe.specs.declared.controllers.ControllerRow.{ControllerRow}
use Rattle.async_events.specs.declared.kinds.Kind.{Kind}
use Rattle.async_events.specs.declared.events.Events.{Events}
use Rattle.async_events.specs.Notices.{Notices, raise, settle, take_first, taken}
use Rattle.async_events.specs.Stamps.{any_after, caught_up, caught_up_with, noted, stamps_of, with_notices}
use Rattle.admin_commands.specs.Admin.{event_of, polled}
use Rattle.fabrics_connect.specs.Checks.{numbered}
use Rattle.tree_target.specs.declared.calls.Reply.TheVariants as replies
use Rattle.tree_target.specs.Admission.{event_at, event_by_binding, event_by_bound, event_by_qid, event_with, events_by_binding, events_by_bound, events_by_qid, events_numbered, events_polled, events_with, put_events}
use Rattle.tree_target.specs.Model.{Binding, Bound, Target, Poll, binding_at}
use Rattle.tree_target.specs.Steps.{changed, polled_reply, reply_of, target_after}
use Rattle.tree_target.specs.Views.{view_at}
use Rattle.run_serving.specs.Goes.{EndsWithin}
use Rattle.tree_target.proofs.Joining.{get_put}

-- ---- one kind of notice: whether it is pending, and whether it may still become so
abbrev one_if : Bool → ℕ
one_if b = if b then 1 else 0

abbrev points : Kind → ℕ
points k = one_if k.pending + one_if (not k.masked)

small : (b : Bool) → one_if b ≤ 1
small true = omega arith
small false = omega arith

raised : (changed on masked pending : Bool)
    → points (raise changed (record { on = on; masked = masked; pending = pending }))
    ≤ points (record { on = on; masked = masked; pending = pending })
raised true true false pending = omega (arith, small pending)
raised true true true pending = omega arith
raised true false masked pending = omega arith
raised false on masked pending = omega arith

raise_points : (changed : Bool) (k : Kind) → points (raise changed k) ≤ points k
raise_points changed k = raised changed k.on k.masked k.pending

settled : (on masked pending : Bool) → pending ≡ true
    → points (settle (record { on = on; masked = masked; pending = pending })) + 1
    ≡ points (record { on = on; masked = masked; pending = pending })
settled on masked true e = omega arith
settled on masked false e = absurd cc

settle_points : (k : Kind) → k.pending ≡ true → points (settle k) + 1 ≡ points k
settle_points k e = settled k.on k.masked k.pending e

most_points : (k : Kind) → points k ≤ 2
most_points k = omega (arith, small k.pending, small (not k.masked))

-- ---- both kinds
abbrev of_notices : Notices → ℕ
of_notices n = points n.ns + points n.ana

abbrev of_events : Events → ℕ
of_events k = points k.ns + points k.ana

none_some : (x : ℕ × ℕ) → None ≡ Some x → ⊥
none_some x e = cc

take_points : (n : Notices) (x : ℕ × ℕ) → (taken n).1 ≡ Some x
    → of_notices (taken n).0 + 1 ≡ of_notices n
take_points n x e = by n.waiting n.ns.pending refl n.ana.pending refl e where
  by : (ids : List ℕ) (a : Bool) → n.ns.pending ≡ a → (b : Bool) → n.ana.pending ≡ b
      → (take_first n ids).1 ≡ Some x → of_notices (take_first n ids).0 + 1 ≡ of_notices n
  by [] a p b q e = absurd cc
  by (id ∷ ids) true p b q e = rw p (omega (arith, settle_points n.ns p))
  by (id ∷ ids) false p true q e = rw (p, q) (omega (arith, settle_points n.ana q))
  by (id ∷ ids) false p false q e = absurd (none_some x (rw (p, q) at e))

caught_points : (v : View) (k : Events) → of_events (caught_up_with v k) ≤ of_events k
unfolding caught_up
caught_points v k = omega (
  arith,
  raise_points (any_after v.offers.nsids k.seen (stamps_of v)) k.ns,
  raise_points (nat_lt k.seen v.ana_stamp) k.ana,
)

poll_points : (v : View) (k : Events) (x : ℕ × ℕ) → event_of v k ≡ Some x
    → of_events (polled v k) + 1 ≤ of_events k
unfolding event_of polled
poll_points v k x e = omega (
  arith,
  take_points (noted (caught_up_with v k)) x e,
  caught_points v k,
)

-- ---- of a queue
abbrev points_of : Option ControllerRow → Option Events → ℕ
points_of None k = 0
points_of (Some c) None = 0
points_of (Some c) (Some k) = of_events k

abbrev points_by_qid : List ControllerRow → List Events → ℕ → Bound → ℕ
points_by_qid cs events zero b = points_of (numbered cs b.controller)
    (events_numbered events b.controller)
points_by_qid cs events (suc q) b = 0

abbrev points_by_bound : List ControllerRow → List Events → Option Bound → ℕ
points_by_bound cs events None = 0
points_by_bound cs events (Some b) = points_by_qid cs events b.qid b

abbrev points_in : List ControllerRow → List Events → Option Binding → ℕ
points_in cs events None = 0
points_in cs events (Some b) = points_by_bound cs events b.bound

abbrev points_at : Target → ℕ → ℕ
points_at t queue = points_in t.controllers t.events (binding_at t queue)

most_of : (c : Option ControllerRow) (k : Option Events) → points_of c k ≤ 4
most_of None k = omega arith
most_of (Some c) None = omega arith
most_of (Some c) (Some k) = omega (arith, most_points k.ns, most_points k.ana)

most_by_qid : (cs : List ControllerRow) (events : List Events) (q : ℕ) (b : Bound)
    → points_by_qid cs events q b ≤ 4
most_by_qid cs events zero b = most_of (numbered cs b.controller)
    (events_numbered events b.controller)
most_by_qid cs events (suc q) b = omega arith

most_in : (cs : List ControllerRow) (events : List Events) (b : Option Binding)
    → points_in cs events b ≤ 4
most_in cs events None = omega arith
most_in cs events (Some b) = by b.bound where
  by : (o : Option Bound) → points_by_bound cs events o ≤ 4
  by None = omega arith
  by (Some bound) = most_by_qid cs events bound.qid bound

-- a poll that finds an event
put_numbered : (events : List Events) (ctrl : ℕ) (k j : Events)
    → events_numbered events ctrl ≡ Some k → events_numbered (put_events events ctrl j) ctrl ≡ Some j
put_numbered events zero k j e = absurd cc
put_numbered events (suc n) k j e = get_put events n j k e

with_points : (v : View) (ctrl : ℕ) (events : List Events) (c : Option ControllerRow)
    (k : Option Events) (x : ℕ × ℕ) → events_numbered events ctrl ≡ k → event_with v c k ≡ Some x
    → points_of c (events_numbered (events_with (polled v) ctrl events c k) ctrl) + 1 ≤ points_of c k
with_points v ctrl events None k x is e = absurd cc
with_points v ctrl events (Some c) None x is e = absurd cc
with_points v ctrl events (Some c) (Some k) x is e =
    rw (put_numbered events ctrl k (polled v k) is) (poll_points v k x e)

by_qid : (t : Target) (port : ℕ) (q : ℕ) (b : Bound) (x : ℕ × ℕ) → event_by_qid t port b q ≡ Some x
    → points_by_qid t.controllers (events_by_qid t polled port b q) q b + 1
    ≤ points_by_qid t.controllers t.events q b
by_qid t port zero b x e = with_points (view_at t port b) b.controller t.events
    (numbered t.controllers b.controller) (events_numbered t.events b.controller) x refl e
by_qid t port (suc q) b x e = absurd cc

by_binding : (t : Target) (b : Option Binding) (x : ℕ × ℕ) → event_by_binding t b ≡ Some x
    → points_in t.controllers (events_by_binding t polled b) b + 1
    ≤ points_in t.controllers t.events b
by_binding t None x e = absurd cc
by_binding t (Some b) x e = by b.bound e where
  by : (o : Option Bound) → event_by_bound t b.port o ≡ Some x
      → points_by_bound t.controllers (events_by_bound t polled b.port o) o + 1
      ≤ points_by_bound t.controllers t.events o
  by None e = absurd cc
  by (Some bound) e = by_qid t b.port bound.qid bound x e

step : (t : Target) (queue : ℕ) (x : ℕ × ℕ) → event_at t queue ≡ Some x
    → points_at (target_after t (Poll queue)) queue + 1 ≤ points_at t queue
unfolding event_at changed events_polled
step t queue x e = by_binding t (binding_at t queue) x e

-- ---- polls one after another
no_event : (t : Target) (queue : ℕ) → event_at t queue ≡ None
    → reply_of t (Poll queue) ≡ replies.NoEvent
unfolding reply_of
no_event t queue e = ap (λ o. polled_reply t queue o) e

ends : (n : ℕ) (t : Target) (queue : ℕ) → points_at t queue < n → EndsWithin n t queue
ends zero t queue lt = absurd (omega (arith, lt))
ends (suc n) t queue lt =
    by (event_at t queue) refl (λ less. ends n (target_after t (Poll queue)) queue less) where
      by : (o : Option (ℕ × ℕ)) → event_at t queue ≡ o
          → (points_at (target_after t (Poll queue)) queue < n
          → EndsWithin n (target_after t (Poll queue)) queue)
          → EndsWithin (suc n) t queue
      by None e more = inl (no_event t queue e)
      by (Some x) e more = inr (more (omega (arith, lt, step t queue x e)))

pub polls_end : (t : Target) (queue : ℕ) → EndsWithin 5 t queue
polls_end t queue = ends 5 t queue
    (omega (arith, most_in t.controllers t.events (binding_at t queue)))
