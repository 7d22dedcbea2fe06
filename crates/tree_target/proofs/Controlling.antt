-- A fabrics command of the program's target does what the model does.
use Rattle.std.proofs.Common.{◌≡◌, ℕ, zero, suc, ◌<◌, true, List, [], ◌∷◌, length, Option, Some, None, slice_get, slice_set, refl, sym, ap, subst, ◌∙◌, arith}
use Rattle.std.specs.List.{AllByRecursion}
use Rattle.std.specs.Prelude.{IfSome}
use Rattle.std.proofs.lemmas.List.{length-set, length-append}
use Rattle.sqe_cqe.specs.Connect.{keep_alive_of}
use Rattle.async_events.specs.declared.events.Events.{Events}
use Rattle.async_events.specs.Stamps.{begun}
use Rattle.change_stamps.specs.Stamps.{Stamps, next_serial}
use Rattle.sqe_cqe.specs.declared.sqe.Sqe.{Sqe}
use Rattle.sqe_cqe.specs.declared.controllers.Bound.{Bound as CodeBound}
use Rattle.sqe_cqe.specs.declared.controllers.Binding.{Binding as CodeBinding}
use Rattle.sqe_cqe.specs.declared.controllers.ControllerRow.{ControllerRow}
use Rattle.configfs_tree.specs.Links.{with_attached}
use Rattle.configfs_tree.specs.Standing.{IsStanding}
use Rattle.configfs_tree.specs.Stays.{is_subsystem_attached, is_port_attached, PortAt}
use Rattle.configfs_tree.specs.declared.configuration.Configuration.{Configuration}
use Rattle.fabrics_connect.specs.declared.answer.Answer.{Answer}
use Rattle.fabrics_connect.specs.declared.answer.Answer.TheVariants.{Refused, Makes, Joins, Reads, Sets}
use Rattle.fabrics_connect.specs.Checks.{control_answer}
use Rattle.fabrics_connect.specs.After.{AttachedAreThere, FitsAnswer, HasRoom, completion_of, controllers_after, tree_after, binding_after, made_by, is_published, new_controller, with_qid}
use Rattle.fabrics_connect.specs.Registers.{after_set}
use Rattle.tree_target.specs.declared.calls.Reply.TheVariants as replies
use Rattle.tree_target.specs.Model.{Control, Bound, Binding, Target}
use Rattle.tree_target.specs.Controls.{placed_in, placed, answer_on, controlled, named, bound_after, events_made, raised_if, subsystem_in, after_answer, after_control}
use Rattle.tree_target.specs.Joined.{AreJoined}
use Rattle.tree_target.specs.Steps.{reply_of, bytes_of, changed}
use Rattle.tree_target.specs.Kept.{Kept, IsKept, states_made, IsNumbered, LeavesOthers, binding_in}
use Rattle.tree_target.specs.Stands.{IsBound, IsBoundAs, AreBound, StandsFor, Does, Simulates}
use Rattle.tree_target.proofs.Joining.{Grows, answer_grows, changed_len, bound_len, get_put_other, joined_after, new_attached, one_unconnected}
use Rattle.tree_target.proofs.Accepting.{Accepted, accepted, makes_first, has_positions, joins_attached}
use Rattle.tree_target.proofs.Admitting.{Both, both_at, bound_placed}
use Rattle.tree_target.proofs.Simulating.{stands_after}

-- ---- the positions of the model's names
placed_same : (t : Configuration) (port : ℕ) (c : Option CodeBound) (m : Option Bound)
    → IsBoundAs t port c m → placed_in t port m ≡ c
placed_same t port None None b = refl
placed_same t port None (Some m) b = absurd b
placed_same t port (Some c) None b = absurd b
placed_same t port (Some c) (Some m) b =
    ap (λ (x : CodeBound). Some x) (bound_placed t port c m b)

pub placed_is : (t : Configuration) (c : CodeBinding) (m : Binding) → m.port ≡ c.port
    → IsBoundAs t m.port c.bound m.bound → placed t m ≡ c
placed_is t c m e b = λ i. record { port = e i; bound = placed_same t m.port c.bound m.bound b i }

-- ---- bindings along a tree that grows
bound_grown : (t u : Configuration) (port : ℕ) (c : CodeBound) (m : Bound) → Grows t u
    → IsBound t port c m → IsBound u port c m
bound_grown t u port c m g b = record {
  ctrl = b.ctrl;
  qid = b.qid;
  sub = g.named m.subsystem c.sub b.sub;
  sub_attached = g.subsystems c.sub b.sub_attached;
  at_port = g.numbered port c.port b.at_port;
  port_attached = g.ports c.port b.port_attached;
}

as_grown : (t u : Configuration) (port : ℕ) (c : Option CodeBound) (m : Option Bound) → Grows t u
    → IsBoundAs t port c m → IsBoundAs u port c m
as_grown t u port None None g b = tt
as_grown t u port None (Some m) g b = b
as_grown t u port (Some c) None g b = b
as_grown t u port (Some c) (Some m) g b = bound_grown t u port c m g b

all_grown : (t u : Configuration) (cs : List CodeBinding) (ms : List Binding) → Grows t u
    → AreBound t cs ms → AreBound u cs ms
all_grown t u [] [] g b = tt
all_grown t u [] (m ∷ ms) g b = b
all_grown t u (c ∷ cs) [] g b = b
all_grown t u (c ∷ cs) (m ∷ ms) g b =
    (b.0, as_grown t u m.port c.bound m.bound g b.1, all_grown t u cs ms g b.2)

put_bound : (t : Configuration) (cs : List CodeBinding) (ms : List Binding) (i : ℕ)
    (c : CodeBinding) (m : Binding) → AreBound t cs ms → (m.port ≡ c.port)
    × IsBoundAs t m.port c.bound m.bound → AreBound t (slice_set cs i c) (slice_set ms i m)
put_bound t [] [] i c m b p = tt
put_bound t [] (n ∷ ms) i c m b p = absurd b
put_bound t (d ∷ cs) [] i c m b p = absurd b
put_bound t (d ∷ cs) (n ∷ ms) zero c m b p = (p.0, p.1, b.2)
put_bound t (d ∷ cs) (n ∷ ms) (suc i) c m b p = (b.0, b.1, put_bound t cs ms i c m b.2 p)

-- ---- the queue's own binding afterwards
module _ (t : Configuration) (cs : List ControllerRow) (bs : List CodeBinding) (c : CodeBinding)
    (e : Sqe) (payload : List ℕ) (st : IsStanding t) (j : AreJoined t cs bs) (m : Binding)
    (port : m.port ≡ c.port) where
  newly_bound : (u : Configuration) (bound : CodeBound) → Grows t u
      → Accepted t c payload bound
      → (is_subsystem_attached u bound.sub ≡ true) × (is_port_attached u bound.port ≡ true)
      → IsBound u m.port bound (named (subsystem_in payload) bound)
  newly_bound u bound g x there = record {
    ctrl = refl;
    qid = refl;
    sub = g.named (subsystem_in payload) bound.sub x.sub;
    sub_attached = there.0;
    at_port = subst (λ (id : ℕ). PortAt u id bound.port) (sym port)
        (g.numbered c.port bound.port x.port);
    port_attached = there.1;
  }

  own_bound : (a : Answer) → control_answer t cs c e payload ≡ a → FitsAnswer t cs a
      → IsBoundAs t m.port c.bound m.bound
      → ((bound_after m (subsystem_in payload) a).port ≡ (binding_after c a).port)
      × IsBoundAs (tree_after t a) (bound_after m (subsystem_in payload) a).port
      (binding_after c a).bound (bound_after m (subsystem_in payload) a).bound
  unfolding tree_after binding_after
  own_bound (Refused fault) is fits b = (port, b)
  own_bound (Makes bound host) is fits b =
      let pos = has_positions t cs c e payload (Makes bound host) st j.subsystems j.ports is in (
        port,
        newly_bound (with_attached t bound.sub bound.port) bound
            (answer_grows t (Makes bound host))
            (accepted t cs c e payload (Makes bound host) bound is refl)
            (new_attached t bound pos.0 pos.1),
      )
  own_bound (Joins bound) is fits b = (
    port,
    newly_bound t bound (answer_grows t (Joins bound))
        (accepted t cs c e payload (Joins bound) bound is refl)
        (joins_attached t cs bound j.attached fits),
  )
  own_bound (Reads value) is fits b = (port, b)
  own_bound (Sets value) is fits b = (port, b)

-- ---- what a command comes to, along equal parts
answer_along : (t u : Configuration) (cs ds : List ControllerRow) (b c : CodeBinding) (e : Sqe)
    (payload : List ℕ) → t ≡ u → cs ≡ ds → b ≡ c
    → control_answer t cs b e payload ≡ control_answer u ds c e payload
answer_along t u cs ds b c e payload x y z = rw (x, y, z) refl

rows_along : (t u : Configuration) (cs ds : List ControllerRow) (b c : CodeBinding)
    (x y : Answer) → t ≡ u → cs ≡ ds → b ≡ c → x ≡ y
    → controllers_after t cs b x ≡ controllers_after u ds c y
rows_along t u cs ds b c x y e1 e2 e3 e4 = rw (e1, e2, e3, e4) refl

tree_along : (t u : Configuration) (x y : Answer) → t ≡ u → x ≡ y
    → tree_after t x ≡ tree_after u y
tree_along t u x y e1 e2 = rw (e1, e2) refl

completion_along : (b c : CodeBinding) (e : Sqe) (x y : Answer) → b ≡ c → x ≡ y
    → completion_of b e x ≡ completion_of c e y
completion_along b c e x y e1 e2 = rw (e1, e2) refl

events_along : (x y : Stamps) (o p : List Events) (e : Sqe) (a b : Answer) → x ≡ y → o ≡ p
    → a ≡ b → events_made x o e a ≡ events_made y p e b
events_along x y o p e a b e1 e2 e3 = rw (e1, e2, e3) refl

stamps_along : (cs ds : List ControllerRow) (b c : CodeBinding) (x y : Answer) (s r : Stamps)
    → cs ≡ ds → b ≡ c → x ≡ y → s ≡ r
    → raised_if (is_published cs b x) s ≡ raised_if (is_published ds c y) r
stamps_along cs ds b c x y s r e1 e2 e3 e4 = rw (e1, e2, e3, e4) refl

-- ---- the call
abbrev pub after_command : Kept → ℕ → Sqe → CodeBinding → Answer → Kept
after_command k at e c a = record k {
  tree = tree_after k.tree a;
  controllers = controllers_after k.tree k.controllers c a;
  bindings = slice_set k.bindings at (binding_after c a);
  events = events_made k.stamps k.events e a;
  stamps = raised_if (is_published k.controllers c a) k.stamps;
}

-- a state for each controller
same_count : (t : Configuration) (cs : List ControllerRow) (s : Stamps) (os : List Events)
    (e : Sqe) (b : CodeBinding) (a : Answer) → length os ≡ length cs
    → length (events_made s os e a) ≡ length (controllers_after t cs b a)
unfolding controllers_after
same_count t cs s os e b (Refused fault) h = h
same_count t cs s os e b (Makes bound host) h =
    let x = length-append os (begun (next_serial s) (keep_alive_of e) ∷ []) in
    let y = length-append cs (new_controller t bound host ∷ []) in
    omega (arith, x, y, h)
same_count t cs s os e b (Joins bound) h =
    h ∙ sym (changed_len cs bound.ctrl (with_qid bound.qid))
same_count t cs s os e b (Reads value) h = h
same_count t cs s os e b (Sets value) h = h ∙ sym (bound_len cs b.bound (after_set value))

-- the state that the program adds is the model's, and there is room for it
pub made_same : (t : Configuration) (cs : List ControllerRow) (b : CodeBinding) (s : Stamps)
    (os : List Events) (e : Sqe) (a : Answer)
    → states_made (raised_if (is_published cs b a) s).serial os e (made_by t a)
    ≡ events_made s os e a
unfolding made_by is_published
made_same t cs b s os e (Refused fault) = refl
made_same t cs b s os e (Makes bound host) = refl
made_same t cs b s os e (Joins bound) = refl
made_same t cs b s os e (Reads value) = refl
made_same t cs b s os e (Sets value) = refl

pub made_room : (t : Configuration) (cs : List ControllerRow) (os : List Events) (a : Answer)
    → FitsAnswer t cs a → length os ≡ length cs
    → IfSome (made_by t a) (λ _. length os < 31)
unfolding made_by
made_room t cs os (Refused fault) fits h = tt
made_room t cs os (Makes bound host) fits h = let room = fits.room in omega (arith, room, h)
made_room t cs os (Joins bound) fits h = tt
made_room t cs os (Reads value) fits h = tt
made_room t cs os (Sets value) fits h = tt

module _ (k : Kept) (at number : ℕ) (e : Sqe) (payload : List ℕ) (c : CodeBinding)
    (st : IsStanding k.tree) (j : AreJoined k.tree k.controllers k.bindings)
    (fits : FitsAnswer k.tree k.controllers
    (control_answer k.tree k.controllers c e payload)) where
  abbrev a : Answer
  a = control_answer k.tree k.controllers c e payload

  does_on : (t : Target) (o : Option Binding) → slice_get t.bindings at ≡ o → StandsFor k t
      → Both k.tree (Some c) o
      → Does t (Control (suc at) number e payload) (replies.Answered (completion_of c e a)) []
      (after_command k at e c a)
  unfolding reply_of bytes_of changed
  does_on t None is s b = absurd b
  does_on t (Some m) is s b =
      let same : placed t.tree m ≡ c =
      ap (λ (x : Configuration). placed x m) s.tree ∙ placed_is k.tree c m b.0 b.1 in
      let answer : answer_on t e payload m ≡ a =
      answer_along t.tree k.tree t.controllers k.controllers (placed t.tree m) c e payload s.tree
      s.controllers same in
      let name : List ℕ = subsystem_in payload in
      record {
        lawful = refl;
        reply_is = ap (controlled t e payload) is
            ∙ ap (λ x. replies.Answered x)
            (completion_along (placed t.tree m) c e (answer_on t e payload m) a same answer);
        bytes_are = refl;
        stands = stands_after (after_command k at e c a) t
            (after_answer t (suc at) e name m (answer_on t e payload m))
            (Control (suc at) number e payload)
            (ap (after_control t (suc at) e payload) is)
            (record {
              tree = tree_along t.tree k.tree (answer_on t e payload m) a s.tree answer;
              controllers = rows_along t.tree k.tree t.controllers k.controllers
                  (placed t.tree m) c (answer_on t e payload m) a s.tree s.controllers same
                  answer;
              blocks = s.blocks;
              bindings = subst (λ (x : Answer). AreBound (tree_after k.tree a)
                  (slice_set k.bindings at (binding_after c a))
                  (slice_set t.bindings at (bound_after m name x))) (sym answer)
                  (put_bound (tree_after k.tree a) k.bindings t.bindings at (binding_after c a)
                  (bound_after m name a)
                  (all_grown k.tree (tree_after k.tree a) k.bindings t.bindings
                  (answer_grows k.tree a) s.bindings)
                  (own_bound k.tree k.controllers k.bindings c e payload st j m b.0 a refl fits
                  b.1));
              held = s.held;
              events = events_along t.stamps k.stamps t.events k.events e
                  (answer_on t e payload m) a s.stamps s.events answer;
              stamps = stamps_along t.controllers k.controllers (placed t.tree m) c
                  (answer_on t e payload m) a t.stamps k.stamps s.controllers same answer
                  s.stamps;
            });
      }

  does_at : slice_get k.bindings at ≡ Some c
      → Simulates k (Control (suc at) number e payload) (replies.Answered (completion_of c e a)) []
      (after_command k at e c a)
  does_at is t s = does_on t (slice_get t.bindings at) refl s
      (subst (λ (o : Option CodeBinding). Both k.tree o (slice_get t.bindings at)) is
      (both_at k.tree k.bindings t.bindings at s.bindings))

  pub control_does : (queue : ℕ) → queue ≡ suc at → slice_get k.bindings at ≡ Some c
      → Simulates k (Control queue number e payload) (replies.Answered (completion_of c e a)) []
      (after_command k at e c a)
  control_does queue q is = subst (λ (n : ℕ). Simulates k (Control n number e payload)
      (replies.Answered (completion_of c e a)) [] (after_command k at e c a)) (sym q) (does_at is)

  -- ---- the invariant
  pub control_kept : (room : ℕ) → slice_get k.bindings at ≡ Some c
      → AttachedAreThere (tree_after k.tree a) (controllers_after k.tree k.controllers c a)
      → IsKept k room → IsKept (after_command k at e c a) room
  control_kept room is counted h =
      let len : length (slice_set k.bindings at (binding_after c a)) ≡ length k.bindings =
      length-set k.bindings at (binding_after c a) in
      let few = h.few_queues in
      record {
        holds = record {
          fit = h.holds.fit;
          numbered = subst (λ (n : ℕ). AllByRecursion (IsNumbered n) k.held) (sym len)
              h.holds.numbered;
          single = h.holds.single;
        };
        few_disks = h.few_disks;
        few_queues = omega (arith, len, few);
        room = h.room;
        states = same_count k.tree k.controllers k.stamps k.events e c a h.states;
        joined = joined_after k.tree k.controllers k.bindings at c a is h.joined
            (has_positions k.tree k.controllers c e payload a st j.subsystems j.ports refl)
            (makes_first k.tree k.controllers c e payload a refl) counted;
      }

-- a queue that isn't connected may make a controller
pub has_room : (k : Kept) (room at : ℕ) (c : CodeBinding) (o : Option CodeBound) → c.bound ≡ o
    → slice_get k.bindings at ≡ Some c → IsKept k room → HasRoom k.controllers o
has_room k room at c (Some b) none is h = tt
has_room k room at c None none is h =
    let one = one_unconnected k.bindings at c is none in
    let few = h.joined.few in
    let queues = h.few_queues in
    omega (arith, one, few, queues)

-- ---- other queues
in_put : (bs : List CodeBinding) (at q : ℕ) (c : CodeBinding) → (q ≡ suc at → ⊥)
    → binding_in (slice_set bs at c) q ≡ binding_in bs q
in_put bs at zero c ne = refl
in_put bs at (suc q) c ne = get_put_other bs at q c (λ e. ne (ap (λ (n : ℕ). suc n) e))

pub control_leaves : (k : Kept) (queue at : ℕ) (e : Sqe) (c : CodeBinding) (a : Answer) → queue ≡ suc at
    → LeavesOthers queue k (after_command k at e c a)
control_leaves k queue at e c a is_next = record {
  queues = length-set k.bindings at (binding_after c a);
  bindings = λ q ne. in_put k.bindings at q (binding_after c a) (λ is. ne (is ∙ sym is_next));
  idle = λ q ne h. h;
  holding = λ q number taken given ne h. record {
    is_held = h.is_held;
    has_data = h.has_data;
    is_given = h.is_given;
    short = h.short;
  };
}
