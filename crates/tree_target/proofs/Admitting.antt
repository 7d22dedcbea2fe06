-- What a queue sees by positions is what it sees by names, and what it submits gets.
use Rattle.std.proofs.Common.{◌≡◌, ℕ, zero, suc, ◌≤◌, ◌==◌, ◌&&◌, is_some, IsTrue, Bool, true, false, cond, List, [], ◌∷◌, ◌++◌, length, Option, Some, None, refl, sym, ap, subst, ◌∙◌, slice_get, arith}
use Rattle.std.specs.List.{find}
use Rattle.std.proofs.lemmas.Bool.{both_ways}
use Rattle.mem_bdev.specs.Blocks.{Blocks}
use Rattle.mem_bdev.specs.declared.limits.TheConstants.{MAX_TRANSFER}
use Rattle.sqe_cqe.specs.declared.sqe.Sqe.{Sqe}
use Rattle.sqe_cqe.specs.declared.rows.Seen.TheVariants.{Off}
use Rattle.sqe_cqe.specs.declared.controllers.Bound.{Bound as CodeBound}
use Rattle.sqe_cqe.specs.declared.controllers.Binding.{Binding as CodeBinding}
use Rattle.sqe_cqe.specs.declared.controllers.ControllerRow.{ControllerRow}
use Rattle.sqe_cqe.specs.Answers.{View, view_of}
use Rattle.sqe_cqe.specs.Sqe.{payload_len, host_len}
use Rattle.io_commands.specs.declared.jobs.Job.{Job}
use Rattle.io_commands.specs.declared.jobs.Job.TheVariants.{Read, Write, Zero, Flush}
use Rattle.io_commands.specs.declared.jobs.Admit.{Admit}
use Rattle.io_commands.specs.declared.jobs.Admit.TheVariants.{Refused, Run}
use Rattle.io_commands.specs.Jobs.{disk_of, taken_len, HasData}
use Rattle.io_commands.specs.Admission.{io_admission, FitsSeen, IsJobOf}
use Rattle.configfs_rows.specs.declared.namespaces.NamespaceRow.{NamespaceRow}
use Rattle.configfs_rows.specs.declared.subsystems.SubsystemRow.{SubsystemRow}
use Rattle.configfs_rows.specs.declared.ports.PortRow.{PortRow}
use Rattle.configfs_tree.specs.declared.configuration.Configuration.{Configuration}
use Rattle.configfs_tree.specs.Links.{subsystem_row, port_row, subsystem_place, port_place, SubsystemPositions, PortPositions}
use Rattle.configfs_tree.specs.Standing.{IsStanding}
use Rattle.configfs_tree.specs.Stays.{SubsystemAt, PortAt}
use Rattle.async_events.specs.declared.events.Events.{Events}
use Rattle.tree_target.specs.declared.calls.Command.{Command}
use Rattle.tree_target.specs.declared.calls.Reply.TheVariants as replies
use Rattle.tree_target.specs.Model.{Submit, Bound, Binding, Target, binding_in, bound_of, bound_at, qid_of, is_command}
use Rattle.tree_target.specs.Views.{space_in, row_of, on_blocks, on_disk, seen_of, seen_from, subsystem_named, port_named, view_at}
use Rattle.std.specs.Option.{unwrap_or}
use Rattle.change_stamps.specs.Stamps.{Stamps}
use Rattle.admin_commands.specs.Admin.{events_after, polled}
use Rattle.tree_target.specs.Controls.{subsystem_placed, port_placed, placed_bound}
use Rattle.tree_target.specs.Looked.{tree_answers}
use Rattle.tree_target.specs.Admission.{Admission, Holds, refused, of_admit, of_qid, of_bound, of_binding, admission, events_by_qid, events_by_bound, events_by_binding, events_submitted, events_polled, event_by_qid, event_by_bound, event_by_binding, event_at}
use Rattle.tree_target.specs.Steps.{reply_of, bytes_of, changed, submitted, bytes_submitted, after_submit, command_of}
use Rattle.tree_target.specs.Kept.{Kept, HasQueue, IsKept, IsNumbered, IsIdle, IsHolding, LeavesOthers, Fits, FitsOn, HasDataOn, HasDataOf, given_on, given_of, AdmitsOn, AdmitFits, bound_from, bound_in, qid_from, seen_by, by_bound, admission_by, answered, is_of, is_admin_bound, is_admin_in}
use Rattle.tree_target.specs.Stands.{IsBound, IsBoundAs, AreBound, StandsFor, Simulates}
use Rattle.tree_target.proofs.HeldList.{own_command, last_found, snoc_other, idle_command, all_snoc, single_snoc, room_for, eqb_apart}
use Rattle.tree_target.proofs.Simulating.{stands_after}

no_row : (n : NamespaceRow) → None ≡ Some n → ⊥
no_row n e = cc

-- ---- rows by positions
row_of_sub : (t : Configuration) (sub : List ℕ) (at : ℕ) → SubsystemPositions t
    → SubsystemAt t sub at → subsystem_row t at ≡ subsystem_named t sub
row_of_sub t sub at h x = subst (λ (n : ℕ). subsystem_row t n ≡ subsystem_named t sub) x.at_is
    (h.of_name sub x.row x.found ∙ sym x.found)

row_of_port : (t : Configuration) (id at : ℕ) → PortPositions t → PortAt t id at
    → port_row t at ≡ port_named t id
row_of_port t id at h x = subst (λ (n : ℕ). port_row t n ≡ port_named t id) x.at_is
    (h.of_id id x.row x.found ∙ sym x.found)

grouped_row : (t : Configuration) (at n : ℕ) (row : NamespaceRow) (s : Option SubsystemRow)
    → IsStanding t → SubsystemPositions t → subsystem_row t at ≡ s → space_in n s ≡ Some row
    → row.group ≤ 128
grouped_row t at n row None h p e f = absurd (no_row row f)
grouped_row t at n row (Some s) h p e f =
    ((h.sound.subsystems s.nqn s (p.of_position at s e)).namespaces n row f).group_high

pub grouped_at : (t : Configuration) (at n : ℕ) (row : NamespaceRow) → IsStanding t
    → SubsystemPositions t → space_in n (subsystem_row t at) ≡ Some row → row.group ≤ 128
grouped_at t at n row h p e = grouped_row t at n row (subsystem_row t at) h p refl e

-- ---- the positions of the model's names are those that the program keeps
pub bound_placed : (t : Configuration) (port : ℕ) (c : CodeBound) (m : Bound) → IsBound t port c m
    → placed_bound t port m ≡ c
bound_placed t port c m b = λ i. record {
  ctrl = b.ctrl i;
  qid = b.qid i;
  sub = (ap (λ (o : Option SubsystemRow). unwrap_or (subsystem_place o) 0) b.sub.found
      ∙ b.sub.at_is) i;
  port = (ap (λ (o : Option PortRow). unwrap_or (port_place o) 0) b.at_port.found
      ∙ b.at_port.at_is) i;
}

-- ---- the view
seen_along : (t u : Configuration) (cs ds : List ControllerRow) (bs es : List Blocks)
    (x y : Stamps) (c d : ℕ) (s r : Option SubsystemRow) (p q : Option PortRow) (n m k l : ℕ)
    → t ≡ u → cs ≡ ds → bs ≡ es → x ≡ y → c ≡ d → s ≡ r → p ≡ q → n ≡ m → k ≡ l
    → seen_from t cs bs x c s p n k ≡ seen_from u ds es y d r q m l
seen_along t u cs ds bs es x y c d s r p q n m k l e1 e2 e3 e4 e5 e6 e7 e8 e9 =
    rw (e1, e2, e3, e4, e5, e6, e7, e8, e9) refl

pub same_view : (k : Kept) (t : Target) (port : ℕ) (c : CodeBound) (m : Bound)
    → SubsystemPositions k.tree → PortPositions k.tree → StandsFor k t → IsBound k.tree port c m
    → view_at t port m ≡ view_of (tree_answers k.tree k.controllers k.blocks k.stamps) c
same_view k t port c m hs hp st b =
    let place : placed_bound t.tree port m ≡ c =
    ap (λ (x : Configuration). placed_bound x port m) st.tree ∙ bound_placed k.tree port c m b in
    seen_along t.tree k.tree t.controllers k.controllers t.blocks k.blocks t.stamps k.stamps
    m.controller c.ctrl (subsystem_named t.tree m.subsystem) (subsystem_row k.tree c.sub)
    (port_named t.tree port) (port_row k.tree c.port) (subsystem_placed t.tree m.subsystem) c.sub
    (port_placed t.tree port) c.port st.tree st.controllers st.blocks st.stamps b.ctrl
    (ap (λ (x : Configuration). subsystem_named x m.subsystem) st.tree
    ∙ sym (row_of_sub k.tree m.subsystem c.sub hs b.sub))
    (ap (λ (x : Configuration). port_named x port) st.tree
    ∙ sym (row_of_port k.tree port c.port hp b.at_port))
    (ap (λ (x : CodeBound). x.sub) place) (ap (λ (x : CodeBound). x.port) place)

-- ---- the binding of a queue
abbrev pub Both : Configuration → Option CodeBinding → Option Binding → Type 0
Both t None None = Unit {0}
Both t None (Some m) = ⊥
Both t (Some c) None = ⊥
Both t (Some c) (Some m) = (m.port ≡ c.port) × IsBoundAs t m.port c.bound m.bound

pub both_at : (t : Configuration) (cs : List CodeBinding) (ms : List Binding) (i : ℕ)
    → AreBound t cs ms → Both t (slice_get cs i) (slice_get ms i)
both_at t [] [] i b = tt
both_at t [] (m ∷ ms) i b = absurd b
both_at t (c ∷ cs) [] i b = absurd b
both_at t (c ∷ cs) (m ∷ ms) zero b = (b.0, b.1)
both_at t (c ∷ cs) (m ∷ ms) (suc i) b = both_at t cs ms i b.2

qids_same : (t : Configuration) (c : Option CodeBinding) (m : Option Binding) → Both t c m
    → qid_of (bound_of m) ≡ qid_from (bound_from c)
qids_same t None None b = refl
qids_same t None (Some m) b = absurd b
qids_same t (Some c) None b = absurd b
qids_same t (Some c) (Some m) b = of_bounds c.bound m.bound b.1 where
  of_bounds : (c : Option CodeBound) (n : Option Bound) → IsBoundAs t m.port c n
      → qid_of n ≡ qid_from c
  of_bounds None None x = refl
  of_bounds None (Some n) x = absurd x
  of_bounds (Some c) None x = absurd x
  of_bounds (Some c) (Some n) x = x.qid

qid_in : (t : Configuration) (cs : List CodeBinding) (ms : List Binding) (queue : ℕ)
    → AreBound t cs ms → qid_of (bound_of (binding_in ms queue)) ≡ qid_from (bound_in cs queue)
qid_in t cs ms zero b = refl
qid_in t cs ms (suc q) b = qids_same t (slice_get cs q) (slice_get ms q) (both_at t cs ms q b)

pub qid_is : (k : Kept) (t : Target) (queue : ℕ) → StandsFor k t
    → qid_of (bound_at t queue) ≡ qid_from (bound_in k.bindings queue)
qid_is k t queue st = qid_in k.tree k.bindings t.bindings queue st.bindings

-- ---- admission
module _ (k : Kept) (t : Target) (e : Sqe) (hs : SubsystemPositions k.tree)
    (hp : PortPositions k.tree) (st : StandsFor k t) where
  by_qids : (port : ℕ) (c : CodeBound) (m : Bound) (q : ℕ) → (q == 0) ≡ false
      → IsBound k.tree port c m → of_qid t e port m q ≡ of_admit (io_admission (seen_by k c) e)
  by_qids port c m zero io b = absurd (both_ways true io refl)
  by_qids port c m (suc q) io b =
      ap (λ (v : View). of_admit (io_admission v e)) (same_view k t port c m hs hp st b)

  by_bounds : (port : ℕ) (c : Option CodeBound) (m : Option Bound) → is_admin_bound c ≡ false
      → IsBoundAs k.tree port c m → of_bound t e port m ≡ of_admit (by_bound k e c)
  by_bounds port None None io b = refl
  by_bounds port None (Some m) io b = absurd b
  by_bounds port (Some c) None io b = absurd b
  by_bounds port (Some c) (Some m) io b =
      ap (of_qid t e port m) b.qid ∙ by_qids port c m c.qid io b

  by_bindings : (c : Option CodeBinding) (m : Option Binding)
      → is_admin_bound (bound_from c) ≡ false → Both k.tree c m
      → of_binding t e m ≡ of_admit (by_bound k e (bound_from c))
  by_bindings None None io b = refl
  by_bindings None (Some m) io b = absurd b
  by_bindings (Some c) None io b = absurd b
  by_bindings (Some c) (Some m) io b = by_bounds m.port c.bound m.bound io b.1

  by_queue : (queue : ℕ) → is_admin_in k queue ≡ false → of_binding t e
      (binding_in t.bindings queue) ≡ of_admit (by_bound k e (bound_in k.bindings queue))
  by_queue zero io = refl
  by_queue (suc q) io = by_bindings (slice_get k.bindings q) (slice_get t.bindings q) io
      (both_at k.tree k.bindings t.bindings q st.bindings)

  pub admission_is : (queue : ℕ) → is_admin_in k queue ≡ false
      → admission t queue e ≡ of_admit (admission_by k queue e)
  unfolding admission admission_by
  admission_is queue io = by_queue queue io

-- ---- a call of another queue leaves the events of controllers
module _ (k : Kept) (t : Target) (st : StandsFor k t) where
  left_by_qid : (f : View → Events → Events) (port : ℕ) (m : Bound) (q : ℕ) → (q == 0) ≡ false
      → events_by_qid t f port m q ≡ t.events
  left_by_qid f port m zero io = absurd (both_ways true io refl)
  left_by_qid f port m (suc q) io = refl

  left_by_bound : (f : View → Events → Events) (port : ℕ) (c : Option CodeBound)
      (m : Option Bound) → is_admin_bound c ≡ false → IsBoundAs k.tree port c m
      → events_by_bound t f port m ≡ t.events
  left_by_bound f port None None io b = refl
  left_by_bound f port None (Some m) io b = absurd b
  left_by_bound f port (Some c) None io b = absurd b
  left_by_bound f port (Some c) (Some m) io b =
      ap (events_by_qid t f port m) b.qid ∙ left_by_qid f port m c.qid io

  left_by_binding : (f : View → Events → Events) (c : Option CodeBinding) (m : Option Binding)
      → is_admin_bound (bound_from c) ≡ false → Both k.tree c m
      → events_by_binding t f m ≡ t.events
  left_by_binding f None None io b = refl
  left_by_binding f None (Some m) io b = absurd b
  left_by_binding f (Some c) None io b = absurd b
  left_by_binding f (Some c) (Some m) io b = left_by_bound f m.port c.bound m.bound io b.1

  left_by_queue : (f : View → Events → Events) (queue : ℕ) → is_admin_in k queue ≡ false
      → events_by_binding t f (binding_in t.bindings queue) ≡ t.events
  left_by_queue f zero io = refl
  left_by_queue f (suc q) io = left_by_binding f (slice_get k.bindings q) (slice_get t.bindings q)
      io (both_at k.tree k.bindings t.bindings q st.bindings)

  pub events_left : (queue : ℕ) (e : Sqe) → is_admin_in k queue ≡ false
      → events_submitted t queue e ≡ t.events
  unfolding events_submitted
  events_left queue e io = left_by_queue (λ v o. events_after v o e) queue io

  -- ---- and a poll of it gets no event
  none_by_qid : (port : ℕ) (m : Bound) (q : ℕ) → (q == 0) ≡ false
      → event_by_qid t port m q ≡ None
  none_by_qid port m zero io = absurd (both_ways true io refl)
  none_by_qid port m (suc q) io = refl

  none_by_bound : (port : ℕ) (c : Option CodeBound) (m : Option Bound) → is_admin_bound c ≡ false
      → IsBoundAs k.tree port c m → event_by_bound t port m ≡ None
  none_by_bound port None None io b = refl
  none_by_bound port None (Some m) io b = absurd b
  none_by_bound port (Some c) None io b = absurd b
  none_by_bound port (Some c) (Some m) io b =
      ap (event_by_qid t port m) b.qid ∙ none_by_qid port m c.qid io

  none_by_binding : (c : Option CodeBinding) (m : Option Binding)
      → is_admin_bound (bound_from c) ≡ false → Both k.tree c m → event_by_binding t m ≡ None
  none_by_binding None None io b = refl
  none_by_binding None (Some m) io b = absurd b
  none_by_binding (Some c) None io b = absurd b
  none_by_binding (Some c) (Some m) io b = none_by_bound m.port c.bound m.bound io b.1

  none_by_queue : (queue : ℕ) → is_admin_in k queue ≡ false
      → event_by_binding t (binding_in t.bindings queue) ≡ None
  none_by_queue zero io = refl
  none_by_queue (suc q) io = none_by_binding (slice_get k.bindings q) (slice_get t.bindings q) io
      (both_at k.tree k.bindings t.bindings q st.bindings)

  pub none_polled : (queue : ℕ) → is_admin_in k queue ≡ false
      → (event_at t queue ≡ None) × (events_polled t queue ≡ t.events)
  unfolding event_at events_polled
  none_polled queue io = (none_by_queue queue io, left_by_queue polled queue io)

-- ---- what is admitted lies on its disk
taken_data : (job : Job) (shift len : ℕ) → taken_len job shift ≡ len → HasData job shift len
taken_data (Read disk lba count) shift len e = tt
taken_data (Write disk lba count) shift len e = sym e
taken_data (Zero disk lba count) shift len e = tt
taken_data (Flush disk) shift len e = tt

admits_on : (e : Sqe) (blocks : List Blocks) (job : Job) (i : ℕ) (n : NamespaceRow) (d : Blocks)
    → slice_get blocks i ≡ Some d → IsJobOf e (row_of i d n) job → AdmitsOn blocks e job
admits_on e blocks job i n d at j =
    let here : slice_get blocks (disk_of job) ≡ Some d = ap (slice_get blocks) j.disk ∙ at in
    record {
      fits = subst (FitsOn job) (sym here) j.fits;
      taken = subst (λ (o : Option Blocks). HasDataOn job o (payload_len e)) (sym here)
          (taken_data job d.shift (payload_len e) j.taken);
      given = ap (given_on job) here ∙ j.given;
      short = subst (λ (x : ℕ). x ≤ MAX_TRANSFER) j.given j.fits.given;
    }

module _ (e : Sqe) (blocks : List Blocks) (job : Job) where
  fits_blocks : (i : ℕ) (n : NamespaceRow) (d : Option Blocks) → slice_get blocks i ≡ d
      → FitsSeen e (on_blocks i n d) (Run job) → AdmitsOn blocks e job
  fits_blocks i n None at f = absurd f
  fits_blocks i n (Some d) at f = admits_on e blocks job i n d at f

  fits_number : (n : NamespaceRow) (number : Option ℕ)
      → FitsSeen e (on_disk blocks n number) (Run job) → AdmitsOn blocks e job
  fits_number n None f = absurd f
  fits_number n (Some i) f = fits_blocks i n (slice_get blocks i) refl f

  fits_row : (n : NamespaceRow) (number : Option ℕ) (on : Bool)
      → FitsSeen e (cond on (on_disk blocks n number) Off) (Run job) → AdmitsOn blocks e job
  fits_row n number true f = fits_number n number f
  fits_row n number false f = absurd f

  fits_space : (n : Option NamespaceRow) → FitsSeen e (seen_of blocks n) (Run job)
      → AdmitsOn blocks e job
  fits_space None f = absurd f
  fits_space (Some n) f = fits_row n n.disk n.enabled f

pub fits_admit : (e : Sqe) (blocks : List Blocks) (n : Option NamespaceRow) (a : Admit)
    → FitsSeen e (seen_of blocks n) a → AdmitFits blocks e a
fits_admit e blocks n (Refused status) f = tt
fits_admit e blocks n (Run job) f = fits_space e blocks job n f

-- ---- submits
refused_like : (k : Kept) (t : Target) (queue number : ℕ) (e : Sqe) (status : ℕ)
    (a : Admission) (events : List Events) → a ≡ refused status → events ≡ t.events → StandsFor k t
    → StandsFor k (record (after_submit t queue number e.cid a) { events = events })
refused_like k t queue number e status a events x y st = rw (x, y) (record {
  tree = st.tree;
  controllers = st.controllers;
  blocks = st.blocks;
  bindings = st.bindings;
  held = st.held;
  events = st.events;
  stamps = st.stamps;
})

pub refused_does : (k : Kept) (queue number : ℕ) (e : Sqe) (status : ℕ)
    → SubsystemPositions k.tree → PortPositions k.tree → is_admin_in k queue ≡ false
    → admission_by k queue e ≡ Refused status
    → Simulates k (Submit queue number e)
    (answered (qid_from (bound_in k.bindings queue)) e.cid status) [] k
unfolding reply_of bytes_of changed
refused_does k queue number e status hs hp io is t st =
    let a : admission t queue e ≡ refused status = admission_is k t e hs hp st queue io
    ∙ ap of_admit is in
    record {
      lawful = refl;
      reply_is = ap (submitted t queue e.cid) a
          ∙ ap (λ (q : ℕ). answered q e.cid status) (qid_is k t queue st);
      bytes_are = ap bytes_submitted a;
      stands = stands_after k t (changed t (Submit queue number e)) (Submit queue number e) refl
          (refused_like k t queue number e status (admission t queue e)
          (events_submitted t queue e) a (events_left k t st queue e io) st);
    }

abbrev pub with_held : Kept → Command → Kept
with_held k h = record k { held = k.held ++ h ∷ [] }

held_like : (k : Kept) (t : Target) (queue number : ℕ) (e : Sqe) (job : Job) (a : Admission)
    (events : List Events) → a ≡ Holds job → events ≡ t.events → StandsFor k t
    → StandsFor (with_held k (command_of queue number e.cid job))
    (record (after_submit t queue number e.cid a) { events = events })
held_like k t queue number e job a events x y st = rw (x, y) (record {
  tree = st.tree;
  controllers = st.controllers;
  blocks = st.blocks;
  bindings = st.bindings;
  held = ap (λ (hs : List Command). hs ++ command_of queue number e.cid job ∷ []) st.held;
  events = st.events;
  stamps = st.stamps;
})

pub held_does : (k : Kept) (queue number : ℕ) (e : Sqe) (job : Job) → SubsystemPositions k.tree
    → PortPositions k.tree → is_admin_in k queue ≡ false → admission_by k queue e ≡ Run job
    → Simulates k (Submit queue number e) replies.Held []
    (with_held k (command_of queue number e.cid job))
unfolding reply_of bytes_of changed
held_does k queue number e job hs hp io is t st =
    let a : admission t queue e ≡ Holds job =
    admission_is k t e hs hp st queue io ∙ ap of_admit is in
    record {
      lawful = refl;
      reply_is = ap (submitted t queue e.cid) a;
      bytes_are = ap bytes_submitted a;
      stands = stands_after (with_held k (command_of queue number e.cid job)) t
          (changed t (Submit queue number e)) (Submit queue number e) refl
          (held_like k t queue number e job (admission t queue e) (events_submitted t queue e) a
          (events_left k t st queue e io) st);
    }

numbered : (k : Kept) (queue number cid : ℕ) (job : Job) → HasQueue k queue
    → IsNumbered (length k.bindings) (command_of queue number cid job)
numbered k queue number cid job h = record { low = h.low; high = h.high }

pub held_kept : (k : Kept) (room room' queue number cid : ℕ) (e : Sqe) (job : Job) → IsKept k room
    → room ≤ room' → HasQueue k queue → IsIdle k queue → AdmitsOn k.blocks e job
    → IsKept (with_held k (command_of queue number cid job)) room'
held_kept k room room' queue number cid e job s wide h idle a =
    let c : Command = command_of queue number cid job in
    let r = s.room in
    record {
      holds = record {
        fit = all_snoc (Fits k.blocks) k.held c s.holds.fit a.fits;
        numbered = all_snoc (IsNumbered (length k.bindings)) k.held c s.holds.numbered
            (numbered k queue number cid job h);
        single = single_snoc k.held c s.holds.single idle;
      };
      few_disks = s.few_disks;
      few_queues = s.few_queues;
      room = omega (arith, r, wide);
      joined = s.joined;
      states = s.states;
    }

pub held_room : (k : Kept) (room queue number cid : ℕ) (job : Job) → IsKept k room
    → HasQueue k queue → IsIdle k queue → suc (length k.held) ≤ room
held_room k room queue number cid job s h idle =
    let n = room_for (length k.bindings) k.held (command_of queue number cid job) s.holds.numbered
    s.holds.single (numbered k queue number cid job h) idle in
    let few = s.few_queues in
    let r = s.room in
    omega (arith, n, few, r)

-- the command is held after its submit
pub holds_after : (k : Kept) (queue number cid : ℕ) (e : Sqe) (job : Job) → IsIdle k queue
    → AdmitsOn k.blocks e job
    → IsHolding (with_held k (command_of queue number cid job)) queue number (payload_len e)
    (host_len e)
holds_after k queue number cid e job idle a =
    let c : Command = command_of queue number cid job in
    let found : find (is_command queue number) (k.held ++ c ∷ []) ≡ Some c =
    last_found (is_command queue number) k.held c (idle_command queue number k.held idle)
    (own_command c) in
    record {
      is_held = subst (λ (o : Option Command). IsTrue (is_some o)) (sym found) refl;
      has_data = subst (λ (o : Option Command). HasDataOf k.blocks o (payload_len e)) (sym found)
          a.taken;
      is_given = ap (given_of k.blocks) found ∙ a.given;
      short = a.short;
    }

-- and what other queues hold stays
other_miss : (queue q number cid n : ℕ) (job : Job) → (q ≡ queue → ⊥)
    → is_command q n (command_of queue number cid job) ≡ false
other_miss queue q number cid n job ne =
    ap (λ b. b && (number == n)) (eqb_apart queue q (λ is. ne (sym is)))

pub held_leaves : (k : Kept) (queue number cid : ℕ) (job : Job)
    → LeavesOthers queue k (with_held k (command_of queue number cid job))
held_leaves k queue number cid job =
    let c : Command = command_of queue number cid job in
    record {
      queues = refl;
      bindings = λ q ne. refl;
      idle = λ q ne h. snoc_other (is_of q) k.held c (eqb_apart queue q (λ is. ne (sym is))) ∙ h;
      holding = λ q n taken given ne h.
          let same : find (is_command q n) (k.held ++ c ∷ []) ≡ find (is_command q n) k.held =
          snoc_other (is_command q n) k.held c (other_miss queue q number cid n job ne) in
          record {
            is_held = subst (λ (o : Option Command). IsTrue (is_some o)) (sym same) h.is_held;
            has_data = subst (λ (o : Option Command). HasDataOf k.blocks o taken) (sym same)
                h.has_data;
            is_given = ap (given_of k.blocks) same ∙ h.is_given;
            short = h.short;
          };
    }
