-- A file that is served is read capsule by capsule.
use Rattle.std.proofs.Common.{◌≡◌, ◌≤◌, ◌<◌, ℕ, zero, suc, ◌+◌, ◌-◌, ◌==◌, Bool, true, false, List, [], ◌∷◌, ◌++◌, length, drop, Option, Some, None, slice_get, refl, sym, ap, ap₂, subst, ◌∙◌, arith, append_assoc}
use Rattle.std.proofs.lemmas.List.{map-append}
use Rattle.sqe_cqe.specs.declared.codes.TheConstants.{FABRICS}
use Rattle.plan_files.specs.Capsules.{Capsule}
use Rattle.tree_target.specs.declared.calls.Reply.{Reply}
use Rattle.tree_target.specs.declared.calls.Reply.TheVariants as replies
use Rattle.tree_target.specs.Model.{Call, Submit, Execute, Poll, Control}
use Rattle.run_transcript.specs.Runs.{Placed, Run, target_at, target_after_all}
use Rattle.run_transcript.specs.Turns.{Stage, Ready, Holding, Through, Ended, Progress, nothing_done, after_submit, after_call, after_entry, after_last_poll, first_call, poll_where, next_capsule, execute_of, is_admin_at, next_call}
use Rattle.run_transcript.specs.Served.{ServesFile}
use Rattle.run_verdicts.proofs.Laying.{not-some}
use Rattle.served_runs.specs.Reading.{calls, is_held, is_no_event, execute_if, poll_if, ServesCapsule, PollsToTheEnd, EndsAs, ReadsFile}
use Rattle.served_runs.proofs.Between.{connects, admin_leaves}
use Rattle.served_runs.proofs.Callers.{some-is}
use Rattle.served_runs.proofs.Steady.{Own, here, steady}

abbrev IsAdmin : Run → ℕ → List Placed → Bool
IsAdmin run queue list = is_admin_at (here run list) queue

some-not : {A : Type 0} (a : A) → ◌≡◌ {A = Option A} (Some a) None → ⊥
some-not a h = not-some a (sym h)

-- after an entry whose call is known
entry-after : (p : Progress) (x : Placed) (call : Call) → x.entry.call ≡ call → after_entry p x.entry ≡ after_call p call x.entry.reply
entry-after p x call is = ap (λ (c : Call). after_call p c x.entry.reply) is

abbrev at : ℕ → Stage → Progress
at n s = record { taken = n; stage = s }

serves-at : (run : Run) (queue : ℕ) (file : List Capsule) (p q : Progress) (list : List Placed) → p ≡ q → ServesFile run queue file p list → ServesFile run queue file q list
serves-at run queue file p q list is s = subst (λ (r : Progress). ServesFile run queue file r list) is s

-- a queue stays an admin queue, or none, over a call that is no fabrics command
still : (run : Run) (queue : ℕ) (whole front : List Placed) (x : Placed) (rest : List Placed) → Own run (connects queue) whole
    → whole ≡ front ++ x ∷ rest → (call : Call) → x.entry.call ≡ call → connects queue call ≡ false
    → IsAdmin run queue rest ≡ is_admin_at (target_at run x.place) queue
still run queue whole front x rest own is call made other =
    steady run (connects queue) (λ t. is_admin_at t queue) whole front x rest (admin_leaves queue) own is (ap (connects queue) made ∙ other)

one-more : (whole front : List Placed) (x : Placed) (rest : List Placed) → whole ≡ front ++ x ∷ rest → whole ≡ (front ++ x ∷ []) ++ rest
one-more whole front x rest is = is ∙ sym (append_assoc front (x ∷ []) rest)

-- ---- the poll behind a command
record Polled (run : Run) (queue n : ℕ) (file : List Capsule) (admin : Bool) (rest : List Placed) : Type 0 where
  pub polls : List Placed
  pub later : List Placed
  pub whole : rest ≡ polls ++ later
  pub made : calls polls ≡ poll_if admin queue
  pub serves : ServesFile run queue file (at (n + 1) Ready) later
  pub shorter : length later ≤ length rest

-- where no poll is owed, the next capsule comes as where nothing is owed
plain : (run : Run) (queue n : ℕ) (file : List Capsule) (rest : List Placed) → IsAdmin run queue rest ≡ false
    → ServesFile run queue file (at n Through) rest → ServesFile run queue file (at n Ready) rest
plain run queue n file [] off s = rw off (plain-end s) where
  plain-end : next_call (target_after_all run) queue file (at n Through) ≡ None → next_capsule false queue n (slice_get file n) ≡ None
  plain-end s = sym (rw off refl) ∙ s
plain run queue n file (y ∷ rest) off s =
    let owed : next_capsule false queue n (slice_get file n) ≡ Some y.entry.call = sym (rw off refl) ∙ s.0 in
    (rw off owed, serves-at run queue file _ _ rest (same (slice_get file n) owed) s.1) where
      same-first : (c : Capsule) (b : Bool) → (c.entry.opcode == FABRICS) ≡ b → first_call queue n c ≡ y.entry.call
          → after_entry (at n Through) y.entry ≡ after_entry (at n Ready) y.entry
      same-first c true t is =
          let made : y.entry.call ≡ Control queue n c.entry c.payload = sym is ∙ rw t refl in
          entry-after (at n Through) y _ made ∙ sym (entry-after (at n Ready) y _ made)
      same-first c false f is =
          let made : y.entry.call ≡ Submit queue n c.entry = sym is ∙ rw f refl in
          entry-after (at n Through) y _ made ∙ sym (entry-after (at n Ready) y _ made)

      same : (o : Option Capsule) → next_capsule false queue n o ≡ Some y.entry.call → after_entry (at n Through) y.entry ≡ after_entry (at n Ready) y.entry
      same None owed = absurd (not-some y.entry.call owed)
      same (Some c) owed = same-first c (c.entry.opcode == FABRICS) refl (some-is _ _ owed)

polled : (run : Run) (queue n : ℕ) (file : List Capsule) (admin : Bool) (rest : List Placed) → IsAdmin run queue rest ≡ admin
    → ServesFile run queue file (at (n + 1) Through) rest → Polled run queue n file admin rest
polled run queue n file false rest is s = record {
  polls = [];
  later = rest;
  whole = refl;
  made = refl;
  serves = plain run queue (n + 1) file rest is s;
  shorter = omega arith;
}
polled run queue n file true [] is s =
    let owed : Some (Poll queue) ≡ None = sym (rw is refl) ∙ s in absurd (some-not _ owed)
polled run queue n file true (z ∷ later) is s =
    let owed : Some (Poll queue) ≡ Some z.entry.call = sym (rw is refl) ∙ s.0 in
    let made : z.entry.call ≡ Poll queue = sym (some-is _ _ owed) in
    record {
      polls = z ∷ [];
      later = later;
      whole = refl;
      made = ap (λ (c : Call). c ∷ []) made;
      serves = serves-at run queue file _ _ later (entry-after (at (n + 1) Through) z _ made) s.1;
      shorter = omega arith;
    }

-- ---- the execute of a held command
record Executed (run : Run) (queue n : ℕ) (file : List Capsule) (c : Capsule) (held admin : Bool) (rest : List Placed) : Type 0 where
  pub executes : List Placed
  pub later : List Placed
  pub whole : rest ≡ executes ++ later
  pub made : calls executes ≡ execute_if held queue n c
  pub serves : ServesFile run queue file (at (n + 1) Through) later
  pub stays : IsAdmin run queue later ≡ admin
  pub shorter : length later ≤ length rest

abbrev owing : Bool → Stage
owing true = Holding
owing false = Through

executed : (run : Run) (queue n : ℕ) (file : List Capsule) (c : Capsule) (held : Bool) (whole front rest : List Placed) (admin : Bool)
    → Own run (connects queue) whole → whole ≡ front ++ rest → slice_get file n ≡ Some c → IsAdmin run queue rest ≡ admin
    → ServesFile run queue file (at (n + 1) (owing held)) rest → Executed run queue n file c held admin rest
executed run queue n file c false whole front rest admin own is got here_is s = record {
  executes = [];
  later = rest;
  whole = refl;
  made = refl;
  serves = s;
  stays = here_is;
  shorter = omega arith;
}
executed run queue n file c true whole front [] admin own is got here_is s =
    let back : n + 1 - 1 ≡ n = omega arith in
    let owed : execute_of queue n (slice_get file n) ≡ None = subst (λ (k : ℕ). execute_of queue k (slice_get file k) ≡ None) back s in
    absurd (some-not _ (ap (execute_of queue n) (sym got) ∙ owed))
executed run queue n file c true whole front (y ∷ later) admin own is got here_is s =
    let back : n + 1 - 1 ≡ n = omega arith in
    let owed : execute_of queue n (slice_get file n) ≡ Some y.entry.call =
    subst (λ (k : ℕ). execute_of queue k (slice_get file k) ≡ Some y.entry.call) back s.0 in
    let made : y.entry.call ≡ Execute queue n c.payload = sym (some-is _ _ (ap (execute_of queue n) (sym got) ∙ owed)) in
    record {
      executes = y ∷ [];
      later = later;
      whole = refl;
      made = ap (λ (x : Call). x ∷ []) made;
      serves = serves-at run queue file _ _ later (entry-after (at (n + 1) Holding) y _ made) s.1;
      stays = still run queue whole front y later own is _ made refl ∙ here_is;
      shorter = omega arith;
    }

-- ---- final polls
-- by whether a poll found no event
abbrev stage-by : Bool → Stage
stage-by true = Ended
stage-by false = Ready

polls-on : (run : Run) (queue n : ℕ) (file : List Capsule) (whole front list : List Placed) → Own run (connects queue) whole
    → whole ≡ front ++ list → slice_get file n ≡ None → ServesFile run queue file (at n Ready) list
    → EndsAs (IsAdmin run queue []) queue list
polls-on run queue n file whole front [] own is none s = by-test (IsAdmin run queue []) refl where
  by-test : (b : Bool) → IsAdmin run queue [] ≡ b → EndsAs (IsAdmin run queue []) queue []
  by-test true t =
      let owed : poll_where true queue ≡ None = sym (rw (t, none) refl) ∙ s in absurd (some-not _ owed)
  by-test false f = rw f refl
polls-on run queue n file whole front (x ∷ rest) own is none s =
    by-test (is_admin_at (target_at run x.place) queue) refl
    (λ s2. polls-on run queue n file whole (front ++ x ∷ []) rest own (one-more whole front x rest is) none s2) where
      owed-by : (b : Bool) → is_admin_at (target_at run x.place) queue ≡ b → poll_where b queue ≡ Some x.entry.call
      owed-by b t = sym (rw (t, none) refl) ∙ s.0

      end : (made : x.entry.call ≡ Poll queue) → (rest2 : List Placed) → rest ≡ rest2 → IsAdmin run queue rest2 ≡ true → is_no_event x.entry.reply ≡ true
          → ServesFile run queue file (at n Ended) rest2 → EndsAs (IsAdmin run queue []) queue (x ∷ rest2)
      end made [] same admin event s2 = rw admin (made, event)
      end made (y ∷ rest2) same admin event s2 = absurd (not-some _ s2.0)

      more : (made : x.entry.call ≡ Poll queue) → (rest2 : List Placed) → is_no_event x.entry.reply ≡ false → IsAdmin run queue rest2 ≡ true
          → ServesFile run queue file (at n Ready) rest2 → EndsAs (IsAdmin run queue []) queue rest2 → EndsAs (IsAdmin run queue []) queue (x ∷ rest2)
      more made [] event admin s2 rest_ends =
          let owed : poll_where true queue ≡ None = sym (rw (admin, none) refl) ∙ s2 in absurd (some-not _ owed)
      more made (y ∷ rest2) event admin s2 rest_ends = by-end (IsAdmin run queue []) refl where
        by-end : (b : Bool) → IsAdmin run queue [] ≡ b → EndsAs (IsAdmin run queue []) queue (x ∷ y ∷ rest2)
        by-end true t =
            let polls : PollsToTheEnd queue (y ∷ rest2) = subst (λ (b : Bool). EndsAs b queue (y ∷ rest2)) t rest_ends in
            rw t (made, event, polls)
        by-end false f =
            let no : y ∷ rest2 ≡ [] = subst (λ (b : Bool). EndsAs b queue (y ∷ rest2)) f rest_ends in absurd cc

      stage-of : (r : Reply) (b : Bool) → is_no_event r ≡ b → after_last_poll r ≡ stage-by b
      stage-of replies.NoEvent true h = refl
      stage-of replies.NoEvent false h = absurd cc
      stage-of replies.Held true h = absurd cc
      stage-of replies.Held false h = refl
      stage-of (replies.Answered cqe) true h = absurd cc
      stage-of (replies.Answered cqe) false h = refl
      stage-of replies.Waiting true h = absurd cc
      stage-of replies.Waiting false h = refl
      stage-of replies.Accepted true h = absurd cc
      stage-of replies.Accepted false h = refl
      stage-of (replies.Errno errno) true h = absurd cc
      stage-of (replies.Errno errno) false h = refl
      stage-of replies.Ended true h = absurd cc
      stage-of replies.Ended false h = refl

      by-event : (made : x.entry.call ≡ Poll queue) → IsAdmin run queue rest ≡ true → (b : Bool) → is_no_event x.entry.reply ≡ b
          → (ServesFile run queue file (at n Ready) rest → EndsAs (IsAdmin run queue []) queue rest) → EndsAs (IsAdmin run queue []) queue (x ∷ rest)
      by-event made admin true t on =
          end made rest refl admin t (serves-at run queue file _ _ rest (entry-after (at n Ready) x _ made ∙ ap (at n) (stage-of x.entry.reply true t)) s.1)
      by-event made admin false f on =
          let s2 = serves-at run queue file _ _ rest (entry-after (at n Ready) x _ made ∙ ap (at n) (stage-of x.entry.reply false f)) s.1 in
          more made rest f admin s2 (on s2)

      by-test : (b : Bool) → is_admin_at (target_at run x.place) queue ≡ b
          → (ServesFile run queue file (at n Ready) rest → EndsAs (IsAdmin run queue []) queue rest) → EndsAs (IsAdmin run queue []) queue (x ∷ rest)
      by-test false f on = absurd (not-some _ (owed-by false f))
      by-test true t on =
          let made : x.entry.call ≡ Poll queue = sym (some-is _ _ (owed-by true t)) in
          by-event made (still run queue whole front x rest own is _ made refl ∙ t) (is_no_event x.entry.reply) refl on

-- ---- the capsules
got : (file : List Capsule) (n : ℕ) (c : Capsule) → slice_get file n ≡ Some c → drop n file ≡ c ∷ drop (n + 1) file
got [] n c h = absurd (not-some c h)
got (d ∷ file) zero c h = let is : d ≡ c = some-is d c h in ap (λ (x : Capsule). x ∷ file) is
got (d ∷ file) (suc n) c h = let up : suc n + 1 ≡ suc (n + 1) = omega arith in rw up (got file n c h)

got-none : (file : List Capsule) (n : ℕ) → slice_get file n ≡ None → drop n file ≡ []
got-none [] zero h = refl
got-none [] (suc n) h = refl
got-none (d ∷ file) zero h = absurd (some-not d h)
got-none (d ∷ file) (suc n) h = got-none file n h

stage-after : (r : Reply) → after_submit r ≡ owing (is_held r)
stage-after replies.Held = refl
stage-after (replies.Answered cqe) = refl
stage-after replies.Waiting = refl
stage-after replies.NoEvent = refl
stage-after replies.Accepted = refl
stage-after (replies.Errno errno) = refl
stage-after replies.Ended = refl

-- what a queue did with its next capsule, and what is left
record Took (run : Run) (queue n : ℕ) (file : List Capsule) (c : Capsule) (list : List Placed) : Type 0 where
  pub mine : List Placed
  pub later : List Placed
  pub whole : list ≡ mine ++ later
  pub served : ServesCapsule run queue n c mine
  pub serves : ServesFile run queue file (at (n + 1) Ready) later
  pub shorter : length later < length list

calls-append : (xs ys : List Placed) → calls (xs ++ ys) ≡ calls xs ++ calls ys
calls-append xs ys = map-append (λ x. x.entry.call) xs ys

took-command : (run : Run) (queue n : ℕ) (file : List Capsule) (c : Capsule) (whole front : List Placed) (x : Placed) (rest : List Placed)
    → Own run (connects queue) whole → whole ≡ front ++ x ∷ rest → slice_get file n ≡ Some c → (c.entry.opcode == FABRICS) ≡ false
    → x.entry.call ≡ Submit queue n c.entry → ServesFile run queue file (after_entry (at n Ready) x.entry) rest
    → Took run queue n file c (x ∷ rest)
took-command run queue n file c whole front x rest own is is_next plain_command made s =
    let admin : Bool = is_admin_at (target_at run x.place) queue in
    let held : Bool = is_held x.entry.reply in
    let s2 : ServesFile run queue file (at (n + 1) (owing held)) rest =
    serves-at run queue file _ _ rest (entry-after (at n Ready) x _ made ∙ ap (at (n + 1)) (stage-after x.entry.reply)) s in
    let e = executed run queue n file c held whole (front ++ x ∷ []) rest admin own (one-more whole front x rest is) is_next
    (still run queue whole front x rest own is _ made refl) s2 in
    let p = polled run queue n file admin e.later e.stays e.serves in
    record {
      mine = x ∷ e.executes ++ p.polls;
      later = p.later;
      whole = ap (λ (l : List Placed). x ∷ l) (e.whole ∙ ap (λ (l : List Placed). e.executes ++ l) p.whole ∙ sym (append_assoc e.executes p.polls p.later));
      served =
          let them : calls (e.executes ++ p.polls) ≡ execute_if held queue n c ++ poll_if admin queue =
          calls-append e.executes p.polls ∙ ap₂ (λ (a b : List Call). a ++ b) e.made p.made in
          rw plain_command (ap₂ (λ (a : Call) (b : List Call). a ∷ b) made them);
      serves = p.serves;
      shorter = omega (arith, e.shorter, p.shorter);
    }

took-fabrics : (run : Run) (queue n : ℕ) (file : List Capsule) (c : Capsule) (x : Placed) (rest : List Placed)
    → (c.entry.opcode == FABRICS) ≡ true → x.entry.call ≡ Control queue n c.entry c.payload
    → ServesFile run queue file (after_entry (at n Ready) x.entry) rest → Took run queue n file c (x ∷ rest)
took-fabrics run queue n file c x rest fabrics made s = record {
  mine = x ∷ [];
  later = rest;
  whole = refl;
  served = rw fabrics (ap (λ (a : Call). a ∷ []) made);
  serves = serves-at run queue file _ _ rest (entry-after (at n Ready) x _ made) s;
  shorter = omega arith;
}

took : (run : Run) (queue n : ℕ) (file : List Capsule) (c : Capsule) (whole front list : List Placed)
    → Own run (connects queue) whole → whole ≡ front ++ list → slice_get file n ≡ Some c → ServesFile run queue file (at n Ready) list
    → Took run queue n file c list
took run queue n file c whole front [] own is is_next s =
    let owed : Some (first_call queue n c) ≡ None = sym (rw is_next refl) ∙ s in absurd (some-not _ owed)
took run queue n file c whole front (x ∷ rest) own is is_next s = by-test (c.entry.opcode == FABRICS) refl where
  owed : Some (first_call queue n c) ≡ Some x.entry.call
  owed = sym (rw is_next refl) ∙ s.0

  by-test : (b : Bool) → (c.entry.opcode == FABRICS) ≡ b → Took run queue n file c (x ∷ rest)
  by-test true t =
      let made : x.entry.call ≡ Control queue n c.entry c.payload = sym (some-is _ _ owed) ∙ rw t refl in
      took-fabrics run queue n file c x rest t made s.1
  by-test false f =
      let made : x.entry.call ≡ Submit queue n c.entry = sym (some-is _ _ owed) ∙ rw f refl in
      took-command run queue n file c whole front x rest own is is_next f made s.1

reads : (m : ℕ) (run : Run) (queue n : ℕ) (file : List Capsule) (whole front list : List Placed) → length list ≤ m
    → Own run (connects queue) whole → whole ≡ front ++ list → ServesFile run queue file (at n Ready) list
    → (o : Option Capsule) → slice_get file n ≡ o → ReadsFile run queue n (drop n file) list
reads m run queue n file whole front list le own is s None none =
    rw (got-none file n none) (polls-on run queue n file whole front list own is none s)
reads zero run queue n file whole front list le own is s (Some c) is_next =
    let t = took run queue n file c whole front list own is is_next s in absurd (omega (arith, le, t.shorter))
reads (suc m) run queue n file whole front list le own is s (Some c) is_next =
    let t = took run queue n file c whole front list own is is_next s in
    let on : ReadsFile run queue (n + 1) (drop (n + 1) file) t.later =
    reads m run queue (n + 1) file whole (front ++ t.mine) t.later (omega (arith, le, t.shorter)) own
    (is ∙ ap (λ (l : List Placed). front ++ l) t.whole ∙ sym (append_assoc front t.mine t.later)) t.serves (slice_get file (n + 1)) refl in
    rw (got file n c is_next) (record { first = t.mine; second = t.later; whole = t.whole; is_first = t.served; is_second = on })

pub read-file : (run : Run) (queue : ℕ) (file : List Capsule) (list : List Placed) → Own run (connects queue) list
    → ServesFile run queue file nothing_done list → ReadsFile run queue 0 file list
read-file run queue file list own s = reads (length list) run queue 0 file list [] list (omega arith) own refl s (slice_get file 0) refl
