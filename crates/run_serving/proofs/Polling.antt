-- The final polls of a queue.
use Rattle.std.proofs.Common.{◌≡◌, ◌≤◌, ◌<◌, ℕ, ◌+◌, ◌-◌, true, false, List, length, subst, arith}
use Rattle.plan_files.specs.Capsules.{Capsule}
use Rattle.tree_target.specs.declared.calls.Reply.{Reply}
use Rattle.tree_target.specs.declared.calls.Reply.TheVariants as replies
use Rattle.tree_target.specs.Kept.{Kept, is_admin_in, is_answered}
use Rattle.tree_target.specs.Model.{Target}
use Rattle.run_transcript.specs.Turns.{Progress}
use Rattle.run_serving.specs.declared.output.Output.{Output}
use Rattle.run_serving.specs.Goes.{HasAll, HasEnded, HasPolled, IsPolling, Makes, ServesFinal}
use Rattle.run_serving.proofs.Making.{makes_none, makes_both, makes_by}
use Rattle.run_serving.proofs.Nexts.{admin_is, admin_ready, nothing_left, polled_out}
use Rattle.run_serving.proofs.Fewer.{polls_end}

module _ (queue : ℕ) (file : List Capsule) (k : Kept) (o : Output) (n : ℕ) where
  -- a queue that isn't a connected admin queue makes none
  pub no_polls : is_admin_in k queue ≡ false → Makes true queue file HasAll k o n HasEnded k o n
  no_polls admin = makes_none true queue file HasAll HasEnded k o n
      (λ t p st s. nothing_left t queue file p (admin_is k t queue false st admin) s)

  pub polls_begin : (m : ℕ) → n ≡ m → is_admin_in k queue ≡ true
      → Makes true queue file HasAll k o n (IsPolling 5) k o m
  polls_begin m is admin =
      subst (λ (x : ℕ). Makes true queue file HasAll k o n (IsPolling 5) k o x) is
      (makes_none true queue file HasAll (IsPolling 5) k o n
      (λ t p st s. record {
        stands = admin_ready t queue (length file) file p (admin_is k t queue true st admin) s;
        ends = polls_end t queue;
      }))

  module _ (k1 k2 : Kept) (o1 o2 : Output) (n1 n2 i taken : ℕ) (reply : Reply) (lt : i < 5)
      (len : length file ≡ taken)
      (a : Makes true queue file HasAll k o n (IsPolling (5 - i)) k1 o1 n1)
      (b : ServesFinal queue taken reply k1 o1 n1 k2 o2 n2) where
    one_more : Makes true queue file HasAll k o n (HasPolled reply (4 - i)) k2 o2 n2
    one_more =
        let less : 5 - i ≡ 4 - i + 1 = omega arith in
        makes_both true queue file HasAll (IsPolling (4 - i + 1)) (HasPolled reply (4 - i)) k k1 k2 o
        o1 o2 n n1 n2
        (subst (λ (x : ℕ). Makes true queue file HasAll k o n (IsPolling x) k1 o1 n1) less a)
        (b file (4 - i) len)

    pub polls_ended : reply ≡ replies.NoEvent → Makes true queue file HasAll k o n HasEnded k2 o2 n2
    polls_ended none =
        subst (λ (r : Reply). Makes true queue file HasAll k o n (HasPolled r (4 - i)) k2 o2 n2) none
        one_more

    event_left : (r : Reply) (m : ℕ) → is_answered r ≡ true → (u : Target) (p : Progress)
        → HasPolled r m u queue file p → IsPolling m u queue file p
    event_left (replies.Answered cqe) m e u p h = h
    event_left replies.NoEvent m e u p h = absurd cc
    event_left replies.Held m e u p h = absurd h
    event_left replies.Waiting m e u p h = absurd h
    event_left replies.Accepted m e u p h = absurd h
    event_left (replies.Errno errno) m e u p h = absurd h
    event_left replies.Ended m e u p h = absurd h

    pub polls_go_on : (n3 : ℕ) → n2 ≡ n3 → is_answered reply ≡ true
        → Makes true queue file HasAll k o n (IsPolling (5 - (i + 1))) k2 o2 n3
    polls_go_on n3 is event =
        let less : 4 - i ≡ 5 - (i + 1) = omega arith in
        subst (λ (x : ℕ). Makes true queue file HasAll k o n (IsPolling (5 - (i + 1))) k2 o2 x) is
        (subst (λ (x : ℕ). Makes true queue file HasAll k o n (IsPolling x) k2 o2 n2) less
        (makes_by true queue file HasAll (HasPolled reply (4 - i)) (IsPolling (4 - i)) k k2 o o2 n n2
        (λ u p st h. event_left reply (4 - i) event u p h) one_more))

  -- they have come to an end
  pub polls_out : (k1 : Kept) (o1 : Output) (n1 n2 i : ℕ) → 5 ≤ i
      → Makes true queue file HasAll k o n (IsPolling (5 - i)) k1 o1 n1
      → n1 ≡ n2 → Makes true queue file HasAll k o n HasEnded k1 o1 n2
  polls_out k1 o1 n1 n2 i le a is =
      let none : 5 - i ≡ 0 = omega arith in
      subst (λ (x : ℕ). Makes true queue file HasAll k o n HasEnded k1 o1 x) is
      (makes_by true queue file HasAll (IsPolling 0) HasEnded k k1 o o1 n n1
      (λ u p st h. absurd (polled_out u queue file p h))
      (subst (λ (x : ℕ). Makes true queue file HasAll k o n (IsPolling x) k1 o1 n1) none a))
