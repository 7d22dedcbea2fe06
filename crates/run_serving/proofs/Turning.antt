-- Queues one after another.
use Rattle.std.proofs.Common.{◌≡◌, ◌≢◌, ◌≤◌, ◌⊎◌, ℕ, suc, ◌+◌, ◌-◌, Bool, get_or, set, take, drop, true, false, if◌then◌else◌, eqb, List, [], ◌∷◌, ◌++◌, length, slice_get, Some, None, Option, refl, sym, ap, subst, ◌∙◌, arith}
use Rattle.std.proofs.lemmas.List.{append-nil, length-append, take_all, drop_all}
use borrow.Rule.Slice.PartMut.{put_mid}
use Rattle.run_transcript.specs.declared.capsule_files.CapsuleFile.{CapsuleFile}
use Rattle.run_serving.specs.Readiness.{capsules_of, files_of}
use Rattle.plan_files.specs.Capsules.{Capsule}
use Rattle.tree_target.specs.Kept.{Kept}
use Rattle.tree_target.specs.Model.{Call, Submit, Control, Entry, Target, Binding, caller_of, binding_at, bound_of}
use Rattle.tree_target.specs.Steps.{target_after}
use Rattle.tree_target.specs.Held.{BindingsAreOwn}
use Rattle.tree_target.specs.Legal.{after}
use Rattle.tree_target.specs.Stands.{StandsFor}
use Rattle.run_transcript.specs.Runs.{Placed, placed_from, calls_of}
use Rattle.run_transcript.specs.Turns.{Stage, Ready, Holding, Through, Ended, Progress, nothing_done, after_entry, progress_of, next_by, next_call, next_capsule, execute_of, poll_where, is_admin_at, is_admin_bound}
use Rattle.run_transcript.specs.Served.{front_len}
use Rattle.run_serving.specs.declared.output.Output.{Output}
use Rattle.run_serving.specs.Goes.{AreNext, EachStands, HasAll, HasEnded, HasFront, HasNothing, IsSettled, Makes, MakesRound, PrintEach, all_of, joined, progress_after}
use Rattle.run_serving.proofs.Placing.{after-append, progress-placed}

-- ---- a queue's next call is its own
abbrev IsOwn : ℕ → Option Call → Type 0
IsOwn queue None = Unit {0}
IsOwn queue (Some call) = caller_of call ≡ queue

own_either : (b : Bool) (queue n : ℕ) (c : Capsule)
    → caller_of (if b then Control queue n c.entry c.payload else Submit queue n c.entry) ≡ queue
own_either true queue n c = refl
own_either false queue n c = refl

own_poll : (admin : Bool) (queue : ℕ) → IsOwn queue (poll_where admin queue)
own_poll true queue = refl
own_poll false queue = tt

own_capsule : (admin : Bool) (queue n : ℕ) (o : Option Capsule)
    → IsOwn queue (next_capsule admin queue n o)
own_capsule admin queue n (Some c) = own_either (eqb c.entry.opcode 127) queue n c
own_capsule admin queue n None = own_poll admin queue

own_execute : (queue n : ℕ) (o : Option Capsule) → IsOwn queue (execute_of queue n o)
own_execute queue n (Some c) = refl
own_execute queue n None = tt

own_next : (stage : Stage) (admin : Bool) (queue : ℕ) (file : List Capsule) (n : ℕ)
    → IsOwn queue (next_by stage admin queue file n)
own_next Ready admin queue file n = own_capsule admin queue n (slice_get file n)
own_next Holding admin queue file n = own_execute queue (n - 1) (slice_get file (n - 1))
own_next Through true queue file n = refl
own_next Through false queue file n = own_capsule false queue n (slice_get file n)
own_next Ended admin queue file n = tt

pub own_call : (t : Target) (queue : ℕ) (file : List Capsule) (p : Progress) (call : Call)
    → next_call t queue file p ≡ Some call → caller_of call ≡ queue
own_call t queue file p call e = subst (λ (o : Option Call). IsOwn queue o) e
    (own_next p.stage (is_admin_at t queue) queue file p.taken)

-- so others stay bound as they are
pub others_stay : (own : BindingsAreOwn) (final : Bool) (queue : ℕ) (file : List Capsule)
    (p : Progress) (t : Target) (group : List Entry) (q : ℕ) → AreNext final queue file p t group
    → q ≢ queue → binding_at (after t (calls_of group)) q ≡ binding_at t q
others_stay own final queue file p t [] q a ne = refl
others_stay own final queue file p t (e ∷ group) q a ne =
    let is : caller_of e.call ≡ queue = own_call t queue file p e.call a.0 in
    others_stay own final queue file (after_entry p e) (target_after t e.call) group q a.2 ne
    ∙ own t e.call q (λ (x : caller_of e.call ≡ q). ne (sym x ∙ is))

-- ---- what stands while the queue's binding does
abbrev pub Stable : (Target → ℕ → List Capsule → Progress → Type 0) → Type 0
Stable P = (t u : Target) (queue : ℕ) (file : List Capsule) (p : Progress)
    → binding_at u queue ≡ binding_at t queue → P t queue file p → P u queue file p

same_bound : (t u : Target) (queue : ℕ) → binding_at u queue ≡ binding_at t queue
    → is_admin_at u queue ≡ is_admin_at t queue
same_bound t u queue same = ap (λ (b : Option Binding). is_admin_bound (bound_of b)) same

settled_stable : (t u : Target) (queue n : ℕ) (p : Progress)
    → binding_at u queue ≡ binding_at t queue → IsSettled t queue n p → IsSettled u queue n p
settled_stable t u queue n p same s = record {
  taken_is = s.taken_is;
  stage_is = subst (λ (b : Bool). (p.stage ≡ Ready) ⊎ ((p.stage ≡ Through) × (b ≡ false)))
      (sym (same_bound t u queue same)) s.stage_is;
}

pub nothing_stable : Stable HasNothing
nothing_stable t u queue file p same s = s

pub front_stable : Stable HasFront
front_stable t u queue file p same s = settled_stable t u queue (front_len file) p same s

pub all_stable : Stable HasAll
all_stable t u queue file p same s = settled_stable t u queue (length file) p same s

pub ended_stable : Stable HasEnded
ended_stable t u queue file p same s =
    ap (λ (b : Bool). next_by p.stage b queue file p.taken) (same_bound t u queue same) ∙ s

pub each_along : (P : Target → ℕ → List Capsule → Progress → Type 0) → Stable P
    → (t u : Target) (queue : ℕ) (files : List (List Capsule)) (lists : List (List Placed))
    → ((q : ℕ) → queue ≤ q → binding_at u q ≡ binding_at t q)
    → EachStands P t queue files lists → EachStands P u queue files lists
each_along P stable t u queue [] [] same a = tt
each_along P stable t u queue [] (list ∷ lists) same a = absurd a
each_along P stable t u queue (file ∷ files) [] same a = absurd a
each_along P stable t u queue (file ∷ files) (list ∷ lists) same a = (
  stable t u queue file (progress_of list) (same queue (omega arith)) a.0,
  each_along P stable t u (queue + 1) files lists (λ q le. same q (omega (arith, le))) a.1,
)

-- ---- no queue, and one more before the others
pub round_none : (Size : List Capsule → ℕ → Type 0) (final : Bool) (queue : ℕ)
    (Pre Post : Target → ℕ → List Capsule → Progress → Type 0) (k : Kept) (n : ℕ)
    → MakesRound Size final queue [] Pre k [] n Post k [] n
round_none Size final queue Pre Post k n t [] st prints pre = record {
  groups = [];
  round = tt;
  stands = st;
  prints = tt;
  count = omega arith;
  post = tt;
  keeps = λ q lt. refl;
}
round_none Size final queue Pre Post k n t (list ∷ lists) st prints pre = absurd prints

pub round_cons : (own : BindingsAreOwn) (Size : List Capsule → ℕ → Type 0) (final : Bool)
    (queue : ℕ) (file : List Capsule) (files : List (List Capsule))
    (Pre Post : Target → ℕ → List Capsule → Progress → Type 0) → Stable Pre → Stable Post
    → (k k1 k2 : Kept) (o o1 : Output) (os os2 : List Output) (n n1 n2 : ℕ)
    → ((m : ℕ) → n1 ≡ n + m → Size file m)
    → Makes final queue file Pre k o n Post k1 o1 n1
    → MakesRound Size final (queue + 1) files Pre k1 os n1 Post k2 os2 n2
    → MakesRound Size final queue (file ∷ files) Pre k (o ∷ os) n Post k2 (o1 ∷ os2) n2
round_cons own Size final queue file files Pre Post before_stays after_stays k k1 k2 o o1 os os2 n
    n1 n2 size a b t [] st prints pre = absurd prints
round_cons own Size final queue file files Pre Post before_stays after_stays k k1 k2 o o1 os os2 n
    n1 n2 size a b t (list ∷ lists) st prints pre =
    let x = a t list st prints.0 pre.0 in
    let u : Target = after t (calls_of x.group) in
    let stays : (q : ℕ) → q ≢ queue → binding_at u q ≡ binding_at t q =
    λ q ne. others_stay own final queue file (progress_of list) t x.group q x.turns ne in
    let y = b u lists x.stands prints.1 (each_along Pre before_stays t u (queue + 1) files lists
    (λ q le. stays q (λ (e : q ≡ queue). absurd (omega (arith, le, e)))) pre.1) in
    let v : Target = after u (calls_of (all_of y.groups)) in
    let same : after t (calls_of (x.group ++ all_of y.groups)) ≡ v =
    after-append t x.group (all_of y.groups) in
    let longer : progress_of (list ++ placed_from n x.group) ≡ progress_after (progress_of list)
    x.group = progress-placed nothing_done list n x.group in
    record {
      groups = x.group ∷ y.groups;
      round = (x.legal, x.turns, size (length x.group) x.count, y.round);
      stands = subst (λ (r : Target). StandsFor k2 r) (sym same) y.stands;
      prints = (
        x.prints,
        subst (λ (m : ℕ). PrintEach os2 (joined m lists y.groups)) x.count
            y.prints,
      );
      count = omega (arith, y.count, x.count, length-append x.group (all_of y.groups));
      post = subst (λ (r : Target). EachStands Post r queue (file ∷ files)
          ((list ++ placed_from n x.group) ∷ joined (n + length x.group) lists y.groups)) (sym same) (
            subst (λ (p : Progress). Post v queue file p) (sym longer)
                (after_stays u v queue file (progress_after (progress_of list) x.group)
                (y.keeps queue (omega arith)) x.post),
            subst (λ (m : ℕ). EachStands Post v (queue + 1) files (joined m lists y.groups)) x.count
                y.post,
          );
      keeps = λ q lt. subst (λ (r : Target). binding_at r q ≡ binding_at t q) (sym same)
          (y.keeps q (omega (arith, lt))
          ∙ stays q (λ (e : q ≡ queue). absurd (omega (arith, lt, e))));
    }

-- ---- over slices
tail_is : {A : Type 0} (x : A) (xs : List A) → take (length (x ∷ xs) - 1) (drop 1 (x ∷ xs)) ≡ xs
tail_is x xs =
    let e : suc (length xs) - 1 ≡ length xs = omega arith in
    rw e (take_all (length xs) xs (omega arith))

put_is : {A : Type 0} (x : A) (xs ys : List A)
    → put_mid 1 (length (x ∷ xs) - 1) (x ∷ xs) ys ≡ x ∷ ys
put_is x xs ys =
    let e : suc (length xs) - 1 ≡ length xs = omega arith in
    rw e (ap (λ (r : List _). x ∷ r) (ap (λ (r : List _). ys ++ r) (drop_all (length xs) xs (omega arith))
    ∙ append-nil ys))

-- the first file and its output, and then the others
pub round_here : (own : BindingsAreOwn) (Size : List Capsule → ℕ → Type 0) (final : Bool)
    (queue : ℕ) (files : List CapsuleFile)
    (Pre Post : Target → ℕ → List Capsule → Progress → Type 0) → Stable Pre → Stable Post
    → (file : CapsuleFile) (k k1 k2 : Kept) (d o1 : Output) (os os2 : List Output) (n n1 n2 : ℕ)
    → file ≡ get_or files 0 file → 1 ≤ length files
    → length os ≡ length files
    → ((m : ℕ) → n1 ≡ n + m → Size (capsules_of file) m)
    → Makes final queue (capsules_of file) Pre k (get_or os 0 d) n Post k1 o1 n1
    → MakesRound Size final (queue + 1) (files_of (take (length files - 1) (drop 1 files))) Pre k1
    (take (length (set os 0 o1) - 1) (drop 1 (set os 0 o1))) n1 Post k2 os2 n2
    → MakesRound Size final queue (files_of files) Pre k os n Post k2
    (put_mid 1 (length (set os 0 o1) - 1) (set os 0 o1) os2) n2
round_here own Size final queue [] Pre Post before_stays after_stays file k k1 k2 d o1 os os2 n n1
    n2 is some same size a b = absurd (omega arith)
round_here own Size final queue (f ∷ fs) Pre Post before_stays after_stays file k k1 k2 d o1 [] os2
    n n1 n2 is some same size a b = absurd (omega arith)
round_here own Size final queue (f ∷ fs) Pre Post before_stays after_stays file k k1 k2 d o1
    (p ∷ os) os2 n n1 n2 is some same size a b =
    let rest : MakesRound Size final (queue + 1) (files_of fs) Pre k1 os n1 Post k2 os2 n2 =
    subst (λ (x : List CapsuleFile). MakesRound Size final (queue + 1) (files_of x) Pre k1 os n1
    Post k2 os2 n2) (tail_is f fs)
    (subst (λ (x : List Output). MakesRound Size final (queue + 1)
    (files_of (take (length (f ∷ fs) - 1) (drop 1 (f ∷ fs)))) Pre k1 x n1 Post k2 os2 n2)
    (tail_is o1 os) b) in
    let here : Makes final queue (capsules_of f) Pre k p n Post k1 o1 n1 =
    subst (λ (x : CapsuleFile). Makes final queue (capsules_of x) Pre k p n Post k1 o1 n1) is
    a in
    subst (λ (x : List Output). MakesRound Size final queue (files_of (f ∷ fs)) Pre k (p ∷ os) n
    Post k2 x n2) (sym (put_is o1 os os2))
    (round_cons own Size final queue (capsules_of f) (files_of fs) Pre Post before_stays after_stays
    k k1 k2 p o1 os os2 n n1 n2
    (λ m e. subst (λ (x : CapsuleFile). Size (capsules_of x) m) is (size m e)) here rest)
