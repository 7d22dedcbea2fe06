-- Edits and fabrics commands, and each call.
use Rattle.std.proofs.Common.{◌≡◌, ◌≤◌, ◌<◌, ◌+◌, ◌-◌, ◌^◌, ◌==◌, ℕ, zero, suc, Bool, true, false, cond, List, [], ◌∷◌, ◌++◌, length, Option, Some, None, is_some, refl, sym, ap, subst, ◌∙◌, arith}
use Rattle.std.proofs.lemmas.Bool.{both_ways, eqb-true}
use Rattle.std.proofs.lemmas.List.{length-set, length-append}
use Rattle.sqe_cqe.specs.declared.sqe.Sqe.{Sqe}
use Rattle.sqe_cqe.specs.Connect.{keep_alive_of}
use Rattle.sqe_cqe.specs.declared.controllers.ControllerRow.{ControllerRow}
use Rattle.sqe_cqe.specs.declared.controllers.Bound.{Bound as CodeBound}
use Rattle.configfs_rows.specs.declared.limits.TheConstants.{MAX_SUBSYSTEMS, MAX_PORTS}
use Rattle.configfs_tree.specs.declared.configuration.Attached.{Attached}
use Rattle.configfs_tree.specs.declared.configuration.Settings.{Settings}
use Rattle.configfs_tree.specs.declared.configuration.Configuration.{Configuration}
use Rattle.configfs_tree.specs.declared.edits.Change.{Change}
use Rattle.configfs_tree.specs.Drained.{drained}
use Rattle.configfs_tree.specs.Outcome.{Outcome, Refuses, Accepts}
use Rattle.configfs_tree.specs.Standing.{IsStanding}
use Rattle.configfs_tree.specs.Stays.{Stays}
use Rattle.async_events.specs.declared.events.Events.{Events}
use Rattle.async_events.specs.Notices.{Mark, Passes, Notices, after_mark}
use Rattle.async_events.specs.Stamps.{begun}
use Rattle.admin_commands.specs.Admin.{events_after, polled}
use Rattle.change_stamps.specs.Stamps.{Stamps, next_serial, raised}
use Rattle.notice_laws.specs.Marks.{AreSound}
use Rattle.notice_laws.proofs.Marking.{stamps_stay_sound}
use Rattle.notice_laws.proofs.Ranging.{edits_name_in_range}
use Rattle.fabrics_connect.specs.declared.answer.Answer.{Answer}
use Rattle.fabrics_connect.specs.declared.answer.Answer.TheVariants.{Refused, Makes, Joins, Reads, Sets}
use Rattle.fabrics_connect.specs.Checks.{numbered}
use Rattle.fabrics_connect.specs.Registers.{after_set}
use Rattle.fabrics_connect.specs.After.{new_controller, with_qid, tree_after, controllers_after, is_published as publishes_answer}
use Rattle.tree_target.specs.Edits.{Edit, outcome}
use Rattle.tree_target.specs.Fixed.{LeavesAttached}
use Rattle.tree_target.specs.Model.{Call, Submit, Execute, Poll, Control, AnEdit, DrainEnd, Bound, Binding, Target, binding_in, binding_at, held_at}
use Rattle.tree_target.specs.Controls.{subsystem_placed, port_placed, placed, placed_in, answer_on, named, bound_after, put_binding, events_made, raised_if, subsystem_in, after_answer, after_control}
use Rattle.tree_target.specs.Admission.{admission, events_numbered, events_submitted, events_polled}
use Rattle.tree_target.specs.Steps.{changed, target_after, entry_of, after_edit}
use Rattle.tree_target.proofs.Joining.{answer_grows, changed_len, bound_len, new_attached, put_same, get_put, get_put_other}
use Rattle.tree_target.proofs.Accepting.{accepted, has_positions}
use Rattle.tree_target.proofs.Changes.{edits_leave}
use Rattle.tree_target.proofs.HeldList.{same_number}
use Rattle.tree_target.proofs.Simulating.{drained_settings}
use Rattle.history_notices.specs.Marks.{edit_mark, mark_in, mark_by, mark_at}
use Rattle.history_notices.proofs.Bindings.{none_some, some_same, row_front, row_changed, row_bound, events_front, get_last, Apart, put_apart}
use Rattle.history_notices.proofs.Accepting.{IsNext, answer_next}
use Rattle.history_notices.proofs.Carrying.{raised_sound, raised_by, noted_by, carries_grown, carries_stays, carries_settings, Parts, parts, Base, Own, carried, carried_raised, carried_edit, fresh_shows, fresh_lists}
use Rattle.history_notices.proofs.Stepping.{marked, Bare, StateOf, StateIn, State, by_mark, passes_by, state_carried, submit_parts, execute_parts, queue_base, queue_beside, submit_own, poll_own}

-- ---- edits
stays_for : (t : Configuration) (o : Outcome) (u : Configuration) (c : Change)
    → LeavesAttached t o → o ≡ Accepts u c → Stays t u
stays_for t o u c h is = subst (λ (x : Outcome). LeavesAttached t x) is h

edited_stays : (t : Target) (e : Edit) (u : Configuration) (c : Change)
    → outcome t.tree e ≡ Accepts u c → Stays t.tree u
edited_stays t e u c is = stays_for t.tree (outcome t.tree e) u c (edits_leave t.tree e) is

module _ (t : Target) (e : Edit) (st : IsStanding t.tree) (room : t.stamps.serial < 2 ^ 32 - 1)
    (h : Base (parts t)) where
  edit_bound : (port : ℕ) (b : Bound) (n : Notices) (l : ℕ → Bool) (o : Outcome)
      → outcome t.tree e ≡ o → Own (parts t) port b n l → Own (parts (after_edit t o)) port b
      (after_mark n (edit_mark (subsystem_placed t.tree b.subsystem) (port_placed t.tree port) o))
      (marked l (edit_mark (subsystem_placed t.tree b.subsystem) (port_placed t.tree port) o))
  edit_bound port b n l (Refuses errno) is own = own
  edit_bound port b n l (Accepts u c) is own = carried_edit (parts t) port b n l u c room h.sound
      (edits_name_in_range t.tree e u c st is)
      (carries_stays t.tree u (edited_stays t e u c is)) own

  edit_state : (queue line : ℕ) (n : Notices) (l : ℕ → Bool) (o : Option Binding)
      → StateIn (parts t) o n l → StateIn (parts (after_edit t (outcome t.tree e))) o
      (after_mark n (mark_by t queue o (entry_of t (AnEdit line e))))
      (marked l (mark_by t queue o (entry_of t (AnEdit line e))))
  edit_state queue line n l None s = s
  edit_state queue line n l (Some x) s = of_bound x.bound s where
    of_bound : (y : Option Bound) → StateOf (parts t) x.port y n l
        → StateOf (parts (after_edit t (outcome t.tree e))) x.port y
        (after_mark n (mark_in t queue x.port y (entry_of t (AnEdit line e))))
        (marked l (mark_in t queue x.port y (entry_of t (AnEdit line e))))
    of_bound None s = s
    of_bound (Some b) s = λ admin. edit_bound x.port b n l (outcome t.tree e) refl (s admin)

  edit_bindings : (o : Outcome) → (after_edit t o).bindings ≡ t.bindings
  edit_bindings (Refuses errno) = refl
  edit_bindings (Accepts u c) = refl

  edit_base : (o : Outcome) → outcome t.tree e ≡ o → Base (parts (after_edit t o))
  edit_base (Refuses errno) is = h
  edit_base (Accepts u c) is =
      let s = edited_stays t e u c is in
      record {
        sound = stamps_stay_sound t.stamps c h.sound room;
        states = h.states;
        subsystems = ap (λ (x : Attached). length x.subsystems) s.attached ∙ h.subsystems;
        ports = ap (λ (x : Attached). length x.ports) s.attached ∙ h.ports;
        apart = h.apart;
      }

  edit_serial : (o : Outcome) → (after_edit t o).stamps.serial ≤ t.stamps.serial + 1
  edit_serial (Refuses errno) = omega arith
  edit_serial (Accepts u c) = noted_by c t.stamps

-- ---- fabrics commands
same_le : (n : ℕ) → n ≤ n
same_le n = omega arith

raised_or : (b : Bool) (s : Stamps) → s.serial < 2 ^ 32 - 1 → AreSound s
    → AreSound (raised_if b s)
raised_or true s room sound = raised_sound s room sound
raised_or false s room sound = sound

raised_or_by : (b : Bool) (s : Stamps) → (raised_if b s).serial ≤ s.serial + 1
raised_or_by true s = raised_by s
raised_or_by false s = omega arith

carried_if : (p : Parts) (port : ℕ) (b : Bound) (n : Notices) (l : ℕ → Bool) (r : Bool)
    → p.stamps.serial < 2 ^ 32 - 1 → Own p port b n l
    → Own (record p { stamps = raised_if r p.stamps }) port b n l
carried_if p port b n l true room o = carried_raised p port b n l room o
carried_if p port b n l false room o = o

unbound : (t : Configuration) (x : Binding) → (placed t x).bound ≡ None → x.bound ≡ None
unbound t x e = of_bound x.bound e where
  of_bound : (y : Option Bound) → placed_in t x.port y ≡ None → y ≡ None
  of_bound None e = refl
  of_bound (Some b) e = absurd cc

module _ (t : Target) (q number : ℕ) (e : Sqe) (payload : List ℕ) (x : Binding)
    (at_q : binding_at t q ≡ Some x) (st : IsStanding t.tree)
    (room : t.stamps.serial < 2 ^ 32 - 1) (h : Base (parts t)) where
  abbrev name : List ℕ
  name = subsystem_in payload

  abbrev left : Answer → Target
  left a = after_answer t q e name x a

  abbrev cs : List ControllerRow
  cs = t.controllers

  -- the binding that is put again
  put_again : put_binding t.bindings q x ≡ t.bindings
  put_again = again q at_q where
    again : (q : ℕ) → binding_in t.bindings q ≡ Some x → put_binding t.bindings q x ≡ t.bindings
    again zero is = refl
    again (suc i) is = put_same t.bindings i x is

  -- how the rows of controllers go on
  row_after : (a : Answer) (n : ℕ) → is_some (numbered cs n) ≡ true
      → is_some (numbered (controllers_after t.tree cs (placed t.tree x) a) n) ≡ true
  unfolding controllers_after
  row_after (Refused fault) n is = is
  row_after (Makes bound host) n is = row_front cs (new_controller t.tree bound host ∷ []) n is
  row_after (Joins bound) n is = row_changed cs bound.ctrl n (with_qid bound.qid) ∙ is
  row_after (Reads value) n is = is
  row_after (Sets value) n is = row_bound cs (placed t.tree x).bound n (after_set value) ∙ is

  events_after_answer : (a : Answer) (n : ℕ) (k : Events) → events_numbered t.events n ≡ Some k
      → events_numbered (events_made t.stamps t.events e a) n ≡ Some k
  events_after_answer (Refused fault) n k is = is
  events_after_answer (Makes bound host) n k is =
      events_front t.events (begun (next_serial t.stamps) (keep_alive_of e) ∷ []) n k is
  events_after_answer (Joins bound) n k is = is
  events_after_answer (Reads value) n k is = is
  events_after_answer (Sets value) n k is = is

  -- a controller that stands goes on
  own_after : (a : Answer) (port : ℕ) (b : Bound) (n : Notices) (l : ℕ → Bool)
      → Own (parts t) port b n l → Own (parts (left a)) port b n l
  own_after a port b n l o =
      let r : Bool = publishes_answer cs (placed t.tree x) a in
      let p : Parts = record (parts t) { stamps = raised_if r t.stamps } in
      carried p (parts (left a)) port b n l (carried_if (parts t) port b n l r room o) refl
      (carries_grown t.tree (tree_after t.tree a) (answer_grows t.tree a))
      (row_after a b.controller) (events_after_answer a b.controller)

  -- ---- what holds of all
  same_len : (a : Answer) → length (events_made t.stamps t.events e a)
      ≡ length (controllers_after t.tree cs (placed t.tree x) a)
  unfolding controllers_after
  same_len (Refused fault) = h.states
  same_len (Makes bound host) =
      let x = length-append t.events (begun (next_serial t.stamps) (keep_alive_of e) ∷ []) in
      let y = length-append cs (new_controller t.tree bound host ∷ []) in
      let z = h.states in
      omega (arith, x, y, z)
  same_len (Joins bound) = h.states ∙ sym (changed_len cs bound.ctrl (with_qid bound.qid))
  same_len (Reads value) = h.states
  same_len (Sets value) = h.states ∙ sym (bound_len cs (placed t.tree x).bound (after_set value))

  subs_after : (a : Answer) → length (tree_after t.tree a).settings.attached.subsystems
      ≡ MAX_SUBSYSTEMS
  unfolding tree_after
  subs_after (Refused fault) = h.subsystems
  subs_after (Makes bound host) = length-set t.tree.settings.attached.subsystems bound.sub _
      ∙ h.subsystems
  subs_after (Joins bound) = h.subsystems
  subs_after (Reads value) = h.subsystems
  subs_after (Sets value) = h.subsystems

  ports_after : (a : Answer) → length (tree_after t.tree a).settings.attached.ports ≡ MAX_PORTS
  unfolding tree_after
  ports_after (Refused fault) = h.ports
  ports_after (Makes bound host) = length-set t.tree.settings.attached.ports bound.port _
      ∙ h.ports
  ports_after (Joins bound) = h.ports
  ports_after (Reads value) = h.ports
  ports_after (Sets value) = h.ports

  apart_same : (n : ℕ) → n ≡ length cs → Apart (put_binding t.bindings q x) n
  apart_same n is = subst (λ (m : ℕ). Apart (put_binding t.bindings q x) m) (sym is)
      (subst (λ (bs : List Binding). Apart bs (length cs)) (sym put_again) h.apart)

  joined_none : (bound : CodeBound) (d : Bound) → (bound.qid ≡ 0 → ⊥)
      → Some (named name bound) ≡ Some d → d.qid ≡ 0 → ⊥
  joined_none bound d ne is admin =
      ne (ap (λ (y : Bound). y.qid) (some_same (named name bound) d is) ∙ admin)

  made_next : (bound : CodeBound) (d : Bound) (more : ℕ) → bound.ctrl ≡ length cs + 1
      → more ≡ length cs + 1 → Some (named name bound) ≡ Some d
      → (length cs < d.controller) × (d.controller ≤ more)
  made_next bound d more next is same =
      let c : bound.ctrl ≡ d.controller =
      ap (λ (y : Bound). y.controller) (some_same (named name bound) d same) in
      (omega (arith, c, next), omega (arith, c, next, is))

  apart_after : (a : Answer) → IsNext (length cs) a
      → Apart (put_binding t.bindings q (bound_after x name a))
      (length (controllers_after t.tree cs (placed t.tree x) a))
  unfolding controllers_after
  apart_after (Refused fault) next = apart_same (length cs) refl
  apart_after (Makes bound host) next =
      let more : length (cs ++ new_controller t.tree bound host ∷ []) ≡ length cs + 1 =
      length-append cs (new_controller t.tree bound host ∷ []) in
      put_apart t.bindings (length cs) (length (cs ++ new_controller t.tree bound host ∷ [])) q
      (bound_after x name (Makes bound host)) h.apart (omega (arith, more))
      (λ d is admin. made_next bound d (length (cs ++ new_controller t.tree bound host ∷ []))
      next.0 more is)
  apart_after (Joins bound) next =
      let same : length cs ≡ length (controllers_after t.tree cs (placed t.tree x) (Joins bound)) =
      sym (changed_len cs bound.ctrl (with_qid bound.qid)) in
      subst (λ (m : ℕ). Apart (put_binding t.bindings q (bound_after x name (Joins bound))) m) same
      (put_apart t.bindings (length cs) (length cs) q (bound_after x name (Joins bound)) h.apart
      (omega arith) (λ d is admin. absurd (joined_none bound d next is admin)))
  apart_after (Reads value) next = apart_same (length cs) refl
  apart_after (Sets value) next = apart_same
      (length (controllers_after t.tree cs (placed t.tree x) (Sets value)))
      (bound_len cs (placed t.tree x).bound (after_set value))

  base_after : (a : Answer) → answer_on t e payload x ≡ a → Base (parts (left a))
  base_after a is = record {
    sound = raised_or (publishes_answer cs (placed t.tree x) a) t.stamps room h.sound;
    states = same_len a;
    subsystems = subs_after a;
    ports = ports_after a;
    apart = apart_after a (answer_next t.tree cs (placed t.tree x) e payload a is);
  }

  -- ---- the queue itself
  -- a new controller has no notice, and an empty list
  made_own : (bound : CodeBound) (host : List ℕ) (n : Notices) (l : ℕ → Bool)
      → answer_on t e payload x ≡ Makes bound host → Bare n l
      → Own (parts (left (Makes bound host))) x.port (named name bound) n l
  unfolding tree_after controllers_after publishes_answer
  made_own bound host n l is bare =
      let a : Answer = Makes bound host in
      let acc = accepted t.tree cs (placed t.tree x) e payload a bound is refl in
      let next = answer_next t.tree cs (placed t.tree x) e payload a is in
      let pos = has_positions t.tree cs (placed t.tree x) e payload a st h.subsystems h.ports is in
      let g = answer_grows t.tree a in
      let on = new_attached t.tree bound pos.0 pos.1 in
      let sound : AreSound (raised t.stamps) = raised_sound t.stamps room h.sound in
      let at : bound.ctrl ≡ suc (length cs) = let n0 = next.0 in omega (arith, n0) in
      let k : Events = begun (next_serial t.stamps) (keep_alive_of e) in
      let i : suc (length cs) ≡ suc (length t.events) = ap (λ (m : ℕ). suc m) (sym h.states) in
      record {
        k = k;
        sub = bound.sub;
        at = bound.port;
        row = ap (λ (m : ℕ). is_some (numbered (cs ++ new_controller t.tree bound host ∷ []) m)) at
            ∙ ap is_some (get_last cs (new_controller t.tree bound host));
        own = ap (λ (m : ℕ). events_numbered (t.events ++ k ∷ []) m) (at ∙ i)
            ∙ get_last t.events k;
        seen = same_le (next_serial t.stamps);
        cleared = same_le (next_serial t.stamps);
        shows = fresh_shows bound.sub bound.port (raised t.stamps) (keep_alive_of e) sound
            ∙ sym bare.0;
        lists = λ m. fresh_lists bound.sub bound.port (raised t.stamps) sound m ∙ sym (bare.1 m);
        sub_at = g.named name bound.sub acc.sub;
        sub_on = on.0;
        port_at = g.numbered x.port bound.port acc.port;
        port_on = on.1;
      }

  -- an unconnected queue
  bare_after : (a : Answer) (n : Notices) (l : ℕ → Bool) → answer_on t e payload x ≡ a
      → x.bound ≡ None → Bare n l
      → StateOf (parts (left a)) (bound_after x name a).port (bound_after x name a).bound n l
  bare_after (Refused fault) n l is none bare =
      subst (λ (y : Option Bound). StateOf (parts (left (Refused fault))) x.port y n l) (sym none)
      bare
  bare_after (Makes bound host) n l is none bare = λ admin. made_own bound host n l is bare
  bare_after (Joins bound) n l is none bare = λ admin.
      absurd (answer_next t.tree cs (placed t.tree x) e payload (Joins bound) is admin)
  bare_after (Reads value) n l is none bare =
      subst (λ (y : Option Bound). StateOf (parts (left (Reads value))) x.port y n l) (sym none)
      bare
  bare_after (Sets value) n l is none bare =
      subst (λ (y : Option Bound). StateOf (parts (left (Sets value))) x.port y n l) (sym none)
      bare

  -- a connected queue stays so
  stays_bound : (a : Answer) (b : Bound) → answer_on t e payload x ≡ a → x.bound ≡ Some b
      → bound_after x name a ≡ x
  stays_bound (Refused fault) b is there = refl
  stays_bound (Makes bound host) b is there = absurd (none_some b (sym (unbound t.tree x
      (accepted t.tree cs (placed t.tree x) e payload (Makes bound host) bound is refl).unbound)
      ∙ there))
  stays_bound (Joins bound) b is there = absurd (none_some b (sym (unbound t.tree x
      (accepted t.tree cs (placed t.tree x) e payload (Joins bound) bound is refl).unbound)
      ∙ there))
  stays_bound (Reads value) b is there = refl
  stays_bound (Sets value) b is there = refl

  own_queue : (a : Answer) (n : Notices) (l : ℕ → Bool) (y : Option Bound) → x.bound ≡ y
      → answer_on t e payload x ≡ a → StateOf (parts t) x.port y n l
      → StateIn (parts (left a)) (Some (bound_after x name a)) n l
  own_queue a n l None none is s = bare_after a n l is none s
  own_queue a n l (Some b) there is s =
      subst (λ (z : Binding). StateIn (parts (left a)) (Some z) n l)
      (sym (stays_bound a b is there))
      (subst (λ (z : Option Bound). StateOf (parts (left a)) x.port z n l) (sym there)
      (λ admin. own_after a x.port b n l (s admin)))

  put_is : (y : Binding) → binding_in (put_binding t.bindings q y) q ≡ Some y
  put_is y = at q at_q where
    at : (q : ℕ) → binding_in t.bindings q ≡ Some x
        → binding_in (put_binding t.bindings q y) q ≡ Some y
    at zero is = absurd (none_some x is)
    at (suc i) is = get_put t.bindings i y x is

  -- ---- each queue
  control_same : (a : Answer) (n : Notices) (l : ℕ → Bool) → answer_on t e payload x ≡ a
      → State (parts t) q n l → State (parts (left a)) q n l
  control_same a n l is s =
      subst (λ (o : Option Binding). StateIn (parts (left a)) o n l)
      (sym (put_is (bound_after x name a)))
      (own_queue a n l x.bound refl is
      (subst (λ (o : Option Binding). StateIn (parts t) o n l) at_q s))

  control_other : (a : Answer) (queue : ℕ) (n : Notices) (l : ℕ → Bool) → (q ≡ queue → ⊥)
      → State (parts t) queue n l → State (parts (left a)) queue n l
  control_other a queue n l ne s =
      subst (λ (o : Option Binding). StateIn (parts (left a)) o n l)
      (sym (beside q queue ne))
      (state_carried (parts t) (parts (left a)) (binding_at t queue) n l
      (λ port b eb admin own. own_after a port b n l own) s) where
        beside : (q queue : ℕ) → (q ≡ queue → ⊥)
            → binding_in (put_binding t.bindings q (bound_after x name a)) queue
            ≡ binding_in t.bindings queue
        beside zero queue ne = refl
        beside (suc i) zero ne = refl
        beside (suc i) (suc j) ne = get_put_other t.bindings i j (bound_after x name a)
            (λ e. ne (ap (λ (m : ℕ). suc m) (sym e)))

  control_on : (a : Answer) (queue : ℕ) (n : Notices) (l : ℕ → Bool) (f : Bool)
      → (q == queue) ≡ f → answer_on t e payload x ≡ a
      → State (parts t) queue n l → State (parts (left a)) queue n l
  control_on a queue n l true f is s =
      subst (λ (m : ℕ). State (parts (left a)) m n l) (eqb-true q queue f)
      (control_same a n l is (subst (λ (m : ℕ). State (parts t) m n l)
      (sym (eqb-true q queue f)) s))
  control_on a queue n l false f is s = control_other a queue n l
      (λ same. both_ways (q == queue) f
      (ap (λ (m : ℕ). m == queue) same ∙ same_number queue)) s

-- ---- fabrics commands of any queue
control_state : (t : Target) (q : ℕ) (e : Sqe) (payload : List ℕ) (o : Option Binding)
    (queue : ℕ) (n : Notices) (l : ℕ → Bool) → binding_at t q ≡ o → IsStanding t.tree
    → t.stamps.serial < 2 ^ 32 - 1 → Base (parts t) → State (parts t) queue n l
    → State (parts (after_control t q e payload o)) queue n l
control_state t q e payload None queue n l is st room h s = s
control_state t q e payload (Some x) queue n l is st room h s =
    control_on t q 0 e payload x is st room h (answer_on t e payload x) queue n l (q == queue) refl
    refl s

control_base : (t : Target) (q : ℕ) (e : Sqe) (payload : List ℕ) (o : Option Binding)
    → binding_at t q ≡ o → IsStanding t.tree → t.stamps.serial < 2 ^ 32 - 1 → Base (parts t)
    → Base (parts (after_control t q e payload o))
control_base t q e payload None is st room h = h
control_base t q e payload (Some x) is st room h =
    base_after t q 0 e payload x is st room h (answer_on t e payload x) refl

control_serial : (t : Target) (q : ℕ) (e : Sqe) (payload : List ℕ) (o : Option Binding)
    → (after_control t q e payload o).stamps.serial ≤ t.stamps.serial + 1
control_serial t q e payload None = omega arith
control_serial t q e payload (Some x) = raised_or_by
    (publishes_answer t.controllers (placed t.tree x) (answer_on t e payload x)) t.stamps

-- ---- the end of a drain
drain_base : (t : Target) (sub : List ℕ) (nsid : ℕ) → Base (parts t)
    → Base (record (parts t) { tree = drained t.tree sub nsid })
drain_base t sub nsid h =
    let e = drained_settings t.tree sub nsid in
    record {
      sound = h.sound;
      states = h.states;
      subsystems = ap (λ (s : Settings). length s.attached.subsystems) e ∙ h.subsystems;
      ports = ap (λ (s : Settings). length s.attached.ports) e ∙ h.ports;
      apart = h.apart;
    }

drain_state : (t : Target) (sub : List ℕ) (nsid queue : ℕ) (n : Notices) (l : ℕ → Bool)
    → State (parts t) queue n l
    → State (record (parts t) { tree = drained t.tree sub nsid }) queue n l
drain_state t sub nsid queue n l s =
    let u : Parts = record (parts t) { tree = drained t.tree sub nsid } in
    state_carried (parts t) u (binding_at t queue) n l (λ port b eb admin own.
    carried (parts t) u port b n l own refl
    (carries_settings t.tree (drained t.tree sub nsid) (drained_settings t.tree sub nsid))
    (λ x. x) (λ k e. e)) s

-- ---- each call
abbrev pub Goes : Target → Call → ℕ → Notices → (ℕ → Bool) → Type 0
Goes t call queue n l = State (parts (target_after t call)) queue
    (after_mark n (mark_at t queue (entry_of t call)))
    (marked l (mark_at t queue (entry_of t call)))

off_passes : (b : Bool) (m : Mark) → b ≡ false → cond b m Passes ≡ Passes
off_passes b m off = ap (λ (x : Bool). cond x m Passes) off

submit_on : (t : Target) (q number : ℕ) (e : Sqe) (queue : ℕ) (n : Notices) (l : ℕ → Bool)
    (f : Bool) → (q == queue) ≡ f → Base (parts t) → State (parts t) queue n l
    → Goes t (Submit q number e) queue n l
unfolding changed events_submitted
submit_on t q number e queue n l true f h s =
    subst (λ (m : ℕ). Goes t (Submit m number e) queue n l) (sym (eqb-true q queue f))
    (subst (λ (p : Parts). State p queue
    (after_mark n (mark_at t queue (entry_of t (Submit queue number e))))
    (marked l (mark_at t queue (entry_of t (Submit queue number e)))))
    (sym (submit_parts t queue number e.cid (admission t queue e) (events_submitted t queue e)))
    (submit_own t queue n l h number e (binding_at t queue) refl s))
submit_on t q number e queue n l false f h s =
    let call : Call = Submit q number e in
    by_mark (parts (target_after t call)) queue n l Passes (mark_at t queue (entry_of t call))
    (passes_by t queue (entry_of t call) (binding_at t queue)
    (λ port b. off_passes (q == queue) _ f))
    (subst (λ (p : Parts). State p queue n l)
    (sym (submit_parts t q number e.cid (admission t q e) (events_submitted t q e)))
    (queue_beside t (λ v k. events_after v k e) q queue n l h
    (λ same. both_ways (q == queue) f (ap (λ (m : ℕ). m == queue) same ∙ same_number queue))
    (binding_at t q) refl s))

poll_on : (t : Target) (q queue : ℕ) (n : Notices) (l : ℕ → Bool) (f : Bool) → (q == queue) ≡ f
    → Base (parts t) → State (parts t) queue n l → Goes t (Poll q) queue n l
unfolding changed events_polled
poll_on t q queue n l true f h s =
    subst (λ (m : ℕ). Goes t (Poll m) queue n l) (sym (eqb-true q queue f))
    (poll_own t queue n l h (binding_at t queue) s)
poll_on t q queue n l false f h s =
    by_mark (parts (target_after t (Poll q))) queue n l Passes
    (mark_at t queue (entry_of t (Poll q)))
    (passes_by t queue (entry_of t (Poll q)) (binding_at t queue)
    (λ port b. off_passes (q == queue) _ f))
    (queue_beside t polled q queue n l h
    (λ same. both_ways (q == queue) f (ap (λ (m : ℕ). m == queue) same ∙ same_number queue))
    (binding_at t q) refl s)

pub goes : (t : Target) (call : Call) (queue : ℕ) (n : Notices) (l : ℕ → Bool)
    → IsStanding t.tree → t.stamps.serial < 2 ^ 32 - 1 → Base (parts t)
    → State (parts t) queue n l → Goes t call queue n l
unfolding changed
goes t (Submit q number e) queue n l st room h s =
    submit_on t q number e queue n l (q == queue) refl h s
goes t (Execute q number payload) queue n l st room h s =
    let call : Call = Execute q number payload in
    by_mark (parts (target_after t call)) queue n l Passes (mark_at t queue (entry_of t call))
    (passes_by t queue (entry_of t call) (binding_at t queue) (λ port b. refl))
    (subst (λ (p : Parts). State p queue n l)
    (sym (execute_parts t q number payload (held_at t q number))) s)
goes t (Poll q) queue n l st room h s = poll_on t q queue n l (q == queue) refl h s
goes t (Control q number e payload) queue n l st room h s =
    let call : Call = Control q number e payload in
    by_mark (parts (target_after t call)) queue n l Passes (mark_at t queue (entry_of t call))
    (passes_by t queue (entry_of t call) (binding_at t queue) (λ port b. refl))
    (control_state t q e payload (binding_at t q) queue n l refl st room h s)
goes t (AnEdit line e) queue n l st room h s =
    subst (λ (bs : List Binding). StateIn (parts (after_edit t (outcome t.tree e)))
    (binding_in bs queue) (after_mark n (mark_at t queue (entry_of t (AnEdit line e))))
    (marked l (mark_at t queue (entry_of t (AnEdit line e)))))
    (sym (edit_bindings t e st room h (outcome t.tree e)))
    (edit_state t e st room h queue line n l (binding_at t queue) s)
goes t (DrainEnd line sub nsid) queue n l st room h s =
    let call : Call = DrainEnd line sub nsid in
    by_mark (parts (target_after t call)) queue n l Passes (mark_at t queue (entry_of t call))
    (passes_by t queue (entry_of t call) (binding_at t queue) (λ port b. refl))
    (drain_state t sub nsid queue n l s)

pub base_goes : (t : Target) (call : Call) → IsStanding t.tree → t.stamps.serial < 2 ^ 32 - 1
    → Base (parts t) → Base (parts (target_after t call))
unfolding changed events_submitted events_polled
base_goes t (Submit q number e) st room h =
    subst (λ (p : Parts). Base p)
    (sym (submit_parts t q number e.cid (admission t q e) (events_submitted t q e)))
    (queue_base t (λ v k. events_after v k e) q (binding_at t q) h)
base_goes t (Execute q number payload) st room h = subst (λ (p : Parts). Base p)
    (sym (execute_parts t q number payload (held_at t q number))) h
base_goes t (Poll q) st room h = queue_base t polled q (binding_at t q) h
base_goes t (Control q number e payload) st room h =
    control_base t q e payload (binding_at t q) refl st room h
base_goes t (AnEdit line e) st room h = edit_base t e st room h (outcome t.tree e) refl
base_goes t (DrainEnd line sub nsid) st room h = drain_base t sub nsid h

same_low : (n : ℕ) → n ≤ n + 1
same_low n = omega arith

pub serial_goes : (t : Target) (call : Call) (st : IsStanding t.tree)
    (room : t.stamps.serial < 2 ^ 32 - 1) (h : Base (parts t))
    → (target_after t call).stamps.serial ≤ t.stamps.serial + 1
unfolding changed
serial_goes t (Submit q number e) st room h = subst (λ (p : Parts). p.stamps.serial
    ≤ t.stamps.serial + 1)
    (sym (submit_parts t q number e.cid (admission t q e) (events_submitted t q e)))
    (same_low t.stamps.serial)
serial_goes t (Execute q number payload) st room h = subst (λ (p : Parts). p.stamps.serial
    ≤ t.stamps.serial + 1) (sym (execute_parts t q number payload (held_at t q number)))
    (same_low t.stamps.serial)
serial_goes t (Poll q) st room h = same_low t.stamps.serial
serial_goes t (Control q number e payload) st room h =
    control_serial t q e payload (binding_at t q)
serial_goes t (AnEdit line e) st room h = edit_serial t e st room h (outcome t.tree e)
serial_goes t (DrainEnd line sub nsid) st room h = same_low t.stamps.serial
