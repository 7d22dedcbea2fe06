-- What a queue's next call is, where it stands.
use Rattle.std.proofs.Common.{◌≡◌, ◌≢◌, ◌⊎◌, ℕ, zero, suc, ◌+◌, ◌-◌, Bool, true, false, List, [], ◌∷◌, length, slice_get, Option, Some, None, refl, ap, ◌∙◌, inl, inr, add-one, arith, eqb}
use Rattle.sqe_cqe.specs.declared.sqe.Sqe.{Sqe}
use Rattle.sqe_cqe.specs.declared.controllers.Bound.{Bound as CodeBound}
use Rattle.sqe_cqe.specs.declared.controllers.Binding.{Binding as CodeBinding}
use Rattle.configfs_tree.specs.declared.configuration.Configuration.{Configuration}
use Rattle.plan_files.specs.Capsules.{Capsule}
use Rattle.tree_target.specs.declared.calls.Reply.{Reply}
use Rattle.tree_target.specs.declared.calls.Reply.TheVariants as replies
use Rattle.tree_target.specs.Kept as kept
use Rattle.tree_target.specs.Kept.{Kept, bound_from}
use Rattle.tree_target.specs.Model.{Bound, Binding, Target, Call, Submit, Execute, Poll, Control, binding_in, bound_of}
use Rattle.tree_target.specs.Steps.{target_after}
use Rattle.tree_target.specs.Stands.{StandsFor, Does, AreBound, IsBoundAs}
use Rattle.run_transcript.specs.Turns.{Stage, Ready, Holding, Through, Progress, after_submit, after_call, first_call, next_by, next_capsule, next_call, is_admin_at, is_admin_bound}
use Rattle.run_transcript.specs.Served.{is_final}
use Rattle.run_serving.specs.Goes.{IsSettled, IsAt, HasAll, HasEnded, EndsWithin, IsPolling, HasPolled}
use Rattle.run_serving.proofs.Making.{Calls}

-- ---- numbers
same_number : (n : ℕ) → eqb n n ≡ true
same_number n = grind arith

-- ---- admin queues, by names and by positions
bound_admin : (t : Configuration) (port : ℕ) (c : Option CodeBound) (m : Option Bound)
    → IsBoundAs t port c m → is_admin_bound m ≡ kept.is_admin_bound c
bound_admin t port None None b = refl
bound_admin t port None (Some m) b = absurd b
bound_admin t port (Some c) None b = absurd b
bound_admin t port (Some c) (Some m) b = ap (λ n. eqb n 0) b.qid

same_admin : (t : Configuration) (cs : List CodeBinding) (ms : List Binding) (i : ℕ)
    → AreBound t cs ms
    → is_admin_bound (bound_of (slice_get ms i)) ≡ kept.is_admin_bound (bound_from (slice_get cs i))
same_admin t [] [] i b = refl
same_admin t [] (m ∷ ms) i b = absurd b
same_admin t (c ∷ cs) [] i b = absurd b
same_admin t (c ∷ cs) (m ∷ ms) zero b = bound_admin t m.port c.bound m.bound b.1
same_admin t (c ∷ cs) (m ∷ ms) (suc i) b = same_admin t cs ms i b.2

admin_in : (t : Configuration) (cs : List CodeBinding) (ms : List Binding) (queue : ℕ)
    → AreBound t cs ms
    → is_admin_bound (bound_of (binding_in ms queue))
    ≡ kept.is_admin_bound (bound_from (kept.binding_in cs queue))
admin_in t cs ms zero b = refl
admin_in t cs ms (suc i) b = same_admin t cs ms i b

pub admin_is : (k : Kept) (t : Target) (queue : ℕ) (b : Bool) → StandsFor k t
    → kept.is_admin_in k queue ≡ b → is_admin_at t queue ≡ b
admin_is k t queue b st is = admin_in k.tree k.bindings t.bindings queue st.bindings ∙ is

-- the same where the bindings stayed
pub admin_stays : (k k' : Kept) (u : Target) (queue : ℕ) (b : Bool)
    → k'.bindings ≡ k.bindings → kept.is_admin_in k queue ≡ b → StandsFor k' u
    → is_admin_at u queue ≡ b
admin_stays k k' u queue b same is st =
    admin_is k' u queue b st
    (ap (λ (bs : List CodeBinding). kept.is_admin_bound (kept.bound_in bs queue)) same ∙ is)

-- ---- at a capsule's beginning
by_stage : (stage : Stage) (admin : Bool) (queue : ℕ) (file : List Capsule) (n : ℕ)
    → (stage ≡ Ready) ⊎ ((stage ≡ Through) × (admin ≡ false))
    → next_by stage admin queue file n ≡ next_capsule admin queue n (slice_get file n)
by_stage stage admin queue file n (inl e) = rw e refl
by_stage stage admin queue file n (inr e) = rw (e.0, e.1) refl

settled_next : (t : Target) (queue n : ℕ) (file : List Capsule) (p : Progress)
    → IsSettled t queue n p
    → next_call t queue file p ≡ next_capsule (is_admin_at t queue) queue n (slice_get file n)
settled_next t queue n file p s =
    ap (λ m. next_by p.stage (is_admin_at t queue) queue file m) s.taken_is
    ∙ by_stage p.stage (is_admin_at t queue) queue file n s.stage_is

next_here : (t : Target) (queue n : ℕ) (file : List Capsule) (c : Capsule) (p : Progress)
    → IsSettled t queue n p → slice_get file n ≡ Some c
    → next_call t queue file p ≡ Some (first_call queue n c)
next_here t queue n file c p s at =
    settled_next t queue n file p s
    ∙ ap (λ (o : Option Capsule). next_capsule (is_admin_at t queue) queue n o) at

-- the call of a fabrics command, and of another one
control_first : (queue n : ℕ) (e : Sqe) (payload : List ℕ) → eqb e.opcode 127 ≡ true
    → first_call queue n (record { entry = e; payload = payload }) ≡ Control queue n e payload
control_first queue n e payload op = rw op refl

submit_first : (queue n : ℕ) (e : Sqe) (payload : List ℕ) → eqb e.opcode 127 ≡ false
    → first_call queue n (record { entry = e; payload = payload }) ≡ Submit queue n e
submit_first queue n e payload op = rw op refl

pub calls_control : (t : Target) (queue n : ℕ) (file : List Capsule) (e : Sqe) (payload : List ℕ)
    (p : Progress) → e.opcode ≡ 127
    → slice_get file n ≡ Some (record { entry = e; payload = payload }) → IsSettled t queue n p
    → Calls false t queue file p (Control queue n e payload) n
calls_control t queue n file e payload p op at s =
    let is : eqb e.opcode 127 ≡ true = ap (λ m. eqb m 127) op in
    record {
      next = next_here t queue n file _ p s at
          ∙ ap (λ (x : Call). Some x) (control_first queue n e payload is);
      which = refl;
      number_is = refl;
    }

pub calls_submit : (t : Target) (queue n : ℕ) (file : List Capsule) (e : Sqe) (payload : List ℕ)
    (p : Progress) → eqb e.opcode 127 ≡ false
    → slice_get file n ≡ Some (record { entry = e; payload = payload }) → IsSettled t queue n p
    → Calls false t queue file p (Submit queue n e) n
calls_submit t queue n file e payload p op at s = record {
  next = next_here t queue n file _ p s at
      ∙ ap (λ (x : Call). Some x) (submit_first queue n e payload op);
  which = refl;
  number_is = refl;
}

holding_next : (admin : Bool) (queue n : ℕ) (file : List Capsule) (c : Capsule)
    → slice_get file n ≡ Some c
    → next_by Holding admin queue file (n + 1) ≡ Some (Execute queue n c.payload)
holding_next admin queue n file c at =
    let less : n + 1 - 1 ≡ n = omega arith in
    rw (less, at) refl

pub calls_execute : (t : Target) (queue n : ℕ) (file : List Capsule) (e : Sqe) (payload : List ℕ)
    (p : Progress) → slice_get file n ≡ Some (record { entry = e; payload = payload })
    → IsAt (n + 1) Holding t queue file p
    → Calls false t queue file p (Execute queue n payload) n
calls_execute t queue n file e payload p at is = record {
  next = ap (λ (q : Progress). next_call t queue file q) is
      ∙ holding_next (is_admin_at t queue) queue n file _ at;
  which = refl;
  number_is = refl;
}

through_next : (admin : Bool) (queue n : ℕ) (file : List Capsule) → admin ≡ true
    → next_by Through admin queue file n ≡ Some (Poll queue)
through_next admin queue n file is = rw is refl

pub calls_poll : (t : Target) (queue n : ℕ) (file : List Capsule) (p : Progress)
    → is_admin_at t queue ≡ true → IsAt n Through t queue file p
    → Calls false t queue file p (Poll queue) n
calls_poll t queue n file p admin is = record {
  next = ap (λ (q : Progress). next_call t queue file q) is
      ∙ through_next (is_admin_at t queue) queue n file admin;
  which = ap (λ (q : Progress). is_final (length file) q) is;
  number_is = ap (λ (q : Progress). q.taken) is;
}

-- ---- after a call
pub settled_ready : (u : Target) (queue n : ℕ) (p : Progress) → p ≡ record { taken = n; stage = Ready }
    → IsSettled u queue n p
settled_ready u queue n p is = record {
  taken_is = ap (λ (q : Progress). q.taken) is;
  stage_is = inl (ap (λ (q : Progress). q.stage) is);
}

pub settled_through : (u : Target) (queue n : ℕ) (p : Progress) → is_admin_at u queue ≡ false
    → p ≡ record { taken = n; stage = Through } → IsSettled u queue n p
settled_through u queue n p admin is = record {
  taken_is = ap (λ (q : Progress). q.taken) is;
  stage_is = inr (ap (λ (q : Progress). q.stage) is, admin);
}

pub control_ends : (t u : Target) (queue n : ℕ) (p : Progress) (e : Sqe) (payload : List ℕ)
    (reply : Reply) → IsSettled t queue n p
    → IsSettled u queue (n + 1) (after_call p (Control queue n e payload) reply)
control_ends t u queue n p e payload reply s = record {
  taken_is = ap (λ m. m + 1) s.taken_is;
  stage_is = inl refl;
}

pub submit_ends : (t u : Target) (queue n : ℕ) (file : List Capsule) (p : Progress) (e : Sqe)
    (reply : Reply) → IsSettled t queue n p
    → IsAt (n + 1) (after_submit reply) u queue file (after_call p (Submit queue n e) reply)
submit_ends t u queue n file p e reply s =
    ap (λ m. let q : Progress = record { taken = m + 1; stage = after_submit reply } in q) s.taken_is

pub not_held : (reply : Reply) → reply ≢ replies.Held → after_submit reply ≡ Through
not_held replies.Held h = absurd (h refl)
not_held (replies.Answered cqe) h = refl
not_held replies.Waiting h = refl
not_held replies.NoEvent h = refl
not_held replies.Accepted h = refl
not_held (replies.Errno errno) h = refl
not_held replies.Ended h = refl

-- ---- at the end
beyond : (file : List Capsule) → slice_get file (length file) ≡ None
beyond [] = refl
beyond (x ∷ file) = beyond file

-- a queue that isn't a connected admin queue has nothing left
pub nothing_left : (t : Target) (queue : ℕ) (file : List Capsule) (p : Progress)
    → is_admin_at t queue ≡ false → HasAll t queue file p → HasEnded t queue file p
nothing_left t queue file p admin s =
    settled_next t queue (length file) file p s
    ∙ ap (λ (o : Option Capsule). next_capsule (is_admin_at t queue) queue (length file) o)
    (beyond file)
    ∙ ap (λ (b : Bool). next_capsule b queue (length file) None) admin

-- an admin queue stands ready
pub admin_ready : (t : Target) (queue n : ℕ) (file : List Capsule) (p : Progress)
    → is_admin_at t queue ≡ true → IsSettled t queue n p → IsAt n Ready t queue file p
admin_ready t queue n file p admin s =
    let stage : p.stage ≡ Ready = of_stage p.stage s.stage_is in
    together p s.taken_is stage where
      of_stage : (x : Stage) → (x ≡ Ready) ⊎ ((x ≡ Through) × (is_admin_at t queue ≡ false))
          → x ≡ Ready
      of_stage x (inl e) = e
      of_stage x (inr e) = absurd (cc (e.1, admin))

      together : (q : Progress) → q.taken ≡ n → q.stage ≡ Ready
          → q ≡ record { taken = n; stage = Ready }
      together q a b = ap (λ m. let r : Progress = record { taken = m; stage = q.stage } in r) a
          ∙ ap (λ x. let r : Progress = record { taken = n; stage = x } in r) b

final_next : (admin : Bool) (queue : ℕ) (file : List Capsule) → admin ≡ true
    → next_by Ready admin queue file (length file) ≡ Some (Poll queue)
final_next admin queue file is = rw (beyond file, is) refl

pub calls_final : (t : Target) (queue : ℕ) (file : List Capsule) (p : Progress)
    → is_admin_at t queue ≡ true → IsAt (length file) Ready t queue file p
    → Calls true t queue file p (Poll queue) (length file)
calls_final t queue file p admin is = record {
  next = ap (λ (q : Progress). next_call t queue file q) is
      ∙ final_next (is_admin_at t queue) queue file admin;
  which = ap (λ (q : Progress). is_final (length file) q) is ∙ same_number (length file);
  number_is = ap (λ (q : Progress). q.taken) is;
}

-- a final poll
polling_ends : (t : Target) (queue n : ℕ) (file : List Capsule) (p : Progress) (reply : Reply)
    (bytes : List ℕ) (k : Kept) → IsPolling (n + 1) t queue file p → kept.is_poll_reply reply ≡ true
    → Does t (Poll queue) reply bytes k
    → HasPolled reply n (target_after t (Poll queue)) queue file (after_call p (Poll queue) reply)
polling_ends t queue n file p replies.NoEvent bytes k is ok done =
    ap (λ (q : Progress). next_call (target_after t (Poll queue)) queue file
    (after_call q (Poll queue) replies.NoEvent)) is.stands
polling_ends t queue n file p (replies.Answered cqe) bytes k is ok done = record {
  stands =
      ap (λ (q : Progress). after_call q (Poll queue) (replies.Answered cqe)) is.stands;
  ends = left (rw add-one at is.ends);
} where
  left : EndsWithin (suc n) t queue → EndsWithin n (target_after t (Poll queue)) queue
  left (inl none) = absurd (cc (none, done.reply_is))
  left (inr later) = later
polling_ends t queue n file p replies.Held bytes k is ok done = absurd cc
polling_ends t queue n file p replies.Waiting bytes k is ok done = absurd cc
polling_ends t queue n file p replies.Accepted bytes k is ok done = absurd cc
polling_ends t queue n file p (replies.Errno errno) bytes k is ok done = absurd cc
polling_ends t queue n file p replies.Ended bytes k is ok done = absurd cc

pub final_ends : (t : Target) (queue n : ℕ) (file : List Capsule) (p : Progress) (reply : Reply)
    (bytes : List ℕ) (k : Kept) → IsPolling (n + 1) t queue file p → kept.is_poll_reply reply ≡ true
    → Does t (Poll queue) reply bytes k
    → HasPolled reply n (target_after t (Poll queue)) queue file (after_call p (Poll queue) reply)
final_ends t queue n file p reply bytes k is ok done =
    polling_ends t queue n file p reply bytes k is ok done

-- nothing is polled for ever
pub polled_out : (t : Target) (queue : ℕ) (file : List Capsule) (p : Progress)
    → IsPolling 0 t queue file p → ⊥
polled_out t queue file p is = is.ends

-- the poll behind a command
pub polled_ends : (t u : Target) (queue n : ℕ) (file : List Capsule) (p : Progress) (reply : Reply)
    → IsAt n Through t queue file p
    → IsSettled u queue n (after_call p (Poll queue) reply)
polled_ends t u queue n file p reply is =
    settled_ready u queue n _ (ap (λ (q : Progress). after_call q (Poll queue) reply) is)

pub execute_ends : (t u : Target) (queue n m : ℕ) (file : List Capsule) (p : Progress)
    (payload : List ℕ) (reply : Reply) → IsAt n Holding t queue file p
    → IsAt n Through u queue file (after_call p (Execute queue m payload) reply)
execute_ends t u queue n m file p payload reply is =
    ap (λ (q : Progress). after_call q (Execute queue m payload) reply) is

pub no_fabrics : (opcode : ℕ) → opcode ≢ 127 → eqb opcode 127 ≡ false
no_fabrics opcode h = grind arith

pub admin_kept : (k k' : Kept) (queue : ℕ) (b : Bool) → k'.bindings ≡ k.bindings
    → kept.is_admin_in k queue ≡ b → kept.is_admin_in k' queue ≡ b
admin_kept k k' queue b same is =
    ap (λ (bs : List CodeBinding). kept.is_admin_bound (kept.bound_in bs queue)) same ∙ is
