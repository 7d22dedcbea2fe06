-- What one call of a queue makes.
use Rattle.std.proofs.Common.{◌≡◌, ℕ, ◌+◌, true, false, List, [], length, subst, eqb}
use Rattle.sqe_cqe.specs.declared.sqe.Sqe.{Sqe}
use Rattle.run_records.specs.declared.records.Kind.TheVariants as kinds
use Rattle.tree_target.specs.declared.calls.Reply.{Reply}
use Rattle.tree_target.specs.Kept.{Kept, is_admin_in, is_poll_reply}
use Rattle.tree_target.specs.Model.{Submit, Execute, Poll, Control}
use Rattle.tree_target.specs.Steps.{target_after}
use Rattle.tree_target.specs.Stands.{Simulates}
use Rattle.run_transcript.specs.Turns.{Holding, Through, after_submit}
use Rattle.run_serving.specs.declared.output.Output.{Output}
use Rattle.run_serving.specs.Prints.{Adds}
use Rattle.run_serving.specs.Goes.{IsAt, IsPolling, HasPolled, HasTaken, ServesOne, ServesSubmit, ServesThrough, ServesExecute, ServesPoll, ServesFinal}
use Rattle.run_serving.proofs.More.{counted_submit, counted_execute, counted_poll, counted_control}
use Rattle.run_serving.proofs.Making.{Calls, makes_one, makes_both, makes_by}
use Rattle.run_serving.proofs.Nexts.{admin_is, admin_stays, calls_control, calls_submit, calls_execute, calls_poll, calls_final, control_ends, submit_ends, execute_ends, polled_ends, final_ends, settled_through}

module _ (queue n : ℕ) (k k' : Kept) (o o' : Output) (place : ℕ) (reply : Reply) where
  pub makes_control : (e : Sqe) (payload : List ℕ)
      → Simulates k (Control queue n e payload) reply [] k'
      → Adds o o' place kinds.Control n reply 0 [] → e.opcode ≡ 127
      → ServesOne queue n e payload k o place k' o' (place + 1)
  makes_control e payload does adds op file at =
      makes_one false queue file (HasTaken n) (HasTaken (n + 1)) k k' o o' place
      (Control queue n e payload) reply [] kinds.Control n 0 does adds
      (counted_control queue n e payload)
      (λ t p st s. calls_control t queue n file e payload p op at s)
      (λ t p st s done. control_ends t (target_after t (Control queue n e payload)) queue n p e
      payload reply s)

  pub makes_submit : (e : Sqe) (bytes : List ℕ)
      → Simulates k (Submit queue n e) reply bytes k'
      → Adds o o' place kinds.Submit n reply 0 bytes → eqb e.opcode 127 ≡ false
      → ServesSubmit queue n e reply k o place k' o' (place + 1)
  makes_submit e bytes does adds op file payload at =
      makes_one false queue file (HasTaken n) (IsAt (n + 1) (after_submit reply)) k k' o o' place
      (Submit queue n e) reply bytes kinds.Submit n 0 does adds (counted_submit queue n e)
      (λ t p st s. calls_submit t queue n file e payload p op at s)
      (λ t p st s done. submit_ends t (target_after t (Submit queue n e)) queue n file p e reply s)

  pub makes_execute : (payload bytes : List ℕ)
      → Simulates k (Execute queue n payload) reply bytes k'
      → Adds o o' place kinds.Execute n reply (length payload) bytes
      → ServesExecute queue n payload k o place k' o' (place + 1)
  makes_execute payload bytes does adds file e at =
      makes_one false queue file (IsAt (n + 1) Holding) (IsAt (n + 1) Through) k k' o o' place
      (Execute queue n payload) reply bytes kinds.Execute n (length payload) does adds
      (counted_execute queue n payload)
      (λ t p st s. calls_execute t queue n file e payload p at s)
      (λ t p st s done. execute_ends t (target_after t (Execute queue n payload)) queue (n + 1) n
      file p payload reply s)

  pub makes_poll : Simulates k (Poll queue) reply [] k'
      → Adds o o' place kinds.Poll n reply 0 [] → is_admin_in k queue ≡ true
      → ServesPoll queue n k o place k' o' (place + 1)
  makes_poll does adds admin file =
      makes_one false queue file (IsAt n Through) (HasTaken n) k k' o o' place
      (Poll queue) reply [] kinds.Poll n 0 does adds (counted_poll queue)
      (λ t p st s. calls_poll t queue n file p (admin_is k t queue true st admin) s)
      (λ t p st s done. polled_ends t (target_after t (Poll queue)) queue n file p reply s)

  pub makes_final : Simulates k (Poll queue) reply [] k'
      → Adds o o' place kinds.Poll n reply 0 [] → is_admin_in k queue ≡ true
      → is_poll_reply reply ≡ true
      → ServesFinal queue n reply k o place k' o' (place + 1)
  makes_final does adds admin ok file m len =
      makes_one true queue file (IsPolling (m + 1)) (HasPolled reply m) k k' o o' place
      (Poll queue) reply [] kinds.Poll n 0 does adds (counted_poll queue)
      (λ t p st s. subst (λ (x : ℕ). Calls true t queue file p (Poll queue) x) len
      (calls_final t queue file p (admin_is k t queue true st admin) s.stands))
      (λ t p st s done. final_ends t queue m file p reply [] k' s ok done)

-- a command that wasn't held, on a queue that isn't a connected admin queue
pub submit_serves : (queue n : ℕ) (k k' : Kept) (o o' : Output) (place place' : ℕ) (reply : Reply)
    (e : Sqe) (payload : List ℕ) → k'.bindings ≡ k.bindings → is_admin_in k queue ≡ false
    → after_submit reply ≡ Through
    → ServesSubmit queue n e reply k o place k' o' place'
    → ServesOne queue n e payload k o place k' o' place'
submit_serves queue n k k' o o' place place' reply e payload same admin through a file at =
    makes_by false queue file (HasTaken n) (IsAt (n + 1) (after_submit reply)) (HasTaken (n + 1)) k
    k' o o' place place'
    (λ u p st is. settled_through u queue (n + 1) p (admin_stays k k' u queue false same admin st)
    (rw through at is)) (a file payload at)

-- a command that was held, and its execute
pub both_serve : (queue n : ℕ) (k k1 k2 : Kept) (o o1 o2 : Output) (n0 n1 n2 : ℕ) (reply : Reply)
    (e : Sqe) (payload : List ℕ) → k2.bindings ≡ k.bindings → is_admin_in k queue ≡ false
    → after_submit reply ≡ Holding
    → ServesSubmit queue n e reply k o n0 k1 o1 n1
    → ServesExecute queue n payload k1 o1 n1 k2 o2 n2
    → ServesOne queue n e payload k o n0 k2 o2 n2
both_serve queue n k k1 k2 o o1 o2 n0 n1 n2 reply e payload same admin held a b file at =
    makes_by false queue file (HasTaken n) (IsAt (n + 1) Through) (HasTaken (n + 1)) k
    k2 o o2 n0 n2
    (λ u p st is. settled_through u queue (n + 1) p (admin_stays k k2 u queue false same admin st)
    is)
    (makes_both false queue file (HasTaken n) (IsAt (n + 1) Holding) (IsAt (n + 1) Through) k k1 k2
    o o1 o2 n0 n1 n2 (rw held at (a file payload at)) (b file e at))

-- a command of a connected admin queue, which is never held
pub through_serves : (queue n : ℕ) (k k' : Kept) (o o' : Output) (place place' : ℕ) (reply : Reply)
    (e : Sqe) → after_submit reply ≡ Through
    → ServesSubmit queue n e reply k o place k' o' place'
    → ServesThrough queue n e k o place k' o' place'
through_serves queue n k k' o o' place place' reply e through a file payload at =
    rw through at (a file payload at)

-- such a command, and its poll
pub admin_serves : (queue n : ℕ) (k k1 k2 : Kept) (o o1 o2 : Output) (n0 n1 n2 : ℕ) (e : Sqe)
    (payload : List ℕ) → ServesThrough queue n e k o n0 k1 o1 n1
    → ServesPoll queue (n + 1) k1 o1 n1 k2 o2 n2
    → ServesOne queue n e payload k o n0 k2 o2 n2
admin_serves queue n k k1 k2 o o1 o2 n0 n1 n2 e payload a b file at =
    makes_both false queue file (HasTaken n) (IsAt (n + 1) Through) (HasTaken (n + 1)) k k1 k2
    o o1 o2 n0 n1 n2 (a file payload at) (b file)
