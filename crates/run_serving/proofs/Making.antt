-- What serving makes of one queue, put together.
use Rattle.std.proofs.Common.{◌≡◌, ℕ, ◌+◌, Bool, List, [], ◌∷◌, ◌++◌, length, Some, refl, sym, ap, subst, ◌∙◌, append_assoc, arith}
use Rattle.std.proofs.lemmas.List.{append-nil, length-append}
use Rattle.plan_files.specs.Capsules.{Capsule}
use Rattle.run_records.specs.declared.records.Kind.{Kind}
use Rattle.tree_target.specs.declared.calls.Reply.{Reply}
use Rattle.tree_target.specs.Kept.{Kept}
use Rattle.tree_target.specs.Model.{Call, Entry, Target}
use Rattle.tree_target.specs.Steps.{entry_of, target_after}
use Rattle.tree_target.specs.Legal.{after}
use Rattle.tree_target.specs.Stands.{StandsFor, Does, Simulates}
use Rattle.run_transcript.specs.Runs.{Placed, placed_from, calls_of}
use Rattle.run_transcript.specs.Turns.{Progress, after_call, nothing_done, progress_of, next_call}
use Rattle.run_transcript.specs.Printing.{number_of}
use Rattle.run_transcript.specs.Served.{is_final_poll}
use Rattle.run_serving.specs.declared.output.Output.{Output}
use Rattle.run_serving.specs.Prints.{Prints, Adds}
use Rattle.run_serving.specs.Goes.{AreNext, Makes, progress_after}
use Rattle.run_serving.proofs.More.{Counted, prints_more}
use Rattle.run_serving.proofs.Placing.{after-append, IsLegal-append, placed_from-append, progress-placed, progress-append, AreNext-append}

-- a call is its queue's next where this is said, and is numbered so
pub record Calls (final : Bool) (t : Target) (queue : ℕ) (file : List Capsule) (p : Progress)
    (call : Call) (number : ℕ) : Type 0 where
  pub next : next_call t queue file p ≡ Some call
  pub which : is_final_poll (length file) p call ≡ final
  pub number_is : number_of p.taken call ≡ number

-- one call
pub makes_one : (final : Bool) (queue : ℕ) (file : List Capsule)
    (Pre Post : Target → ℕ → List Capsule → Progress → Type 0) (k k' : Kept) (o o' : Output)
    (place : ℕ) (call : Call) (reply : Reply) (bytes : List ℕ) (kind : Kind) (number payload : ℕ)
    → Simulates k call reply bytes k' → Adds o o' place kind number reply payload bytes
    → Counted call kind payload
    → ((t : Target) (p : Progress) → StandsFor k t → Pre t queue file p
    → Calls final t queue file p call number)
    → ((t : Target) (p : Progress) → StandsFor k t → Pre t queue file p
    → Does t call reply bytes k' → Post (target_after t call) queue file (after_call p call reply))
    → Makes final queue file Pre k o place Post k' o' (place + 1)
makes_one final queue file Pre Post k k' o o' place call reply bytes kind number payload does adds
    counted calls ends t list st prints pre =
    let done = does t st in
    let p : Progress = progress_of list in
    let e : Entry = record { call = call; reply = reply; bytes = bytes } in
    let placed : Placed = record { place = place; entry = e } in
    let is : e ≡ entry_of t call = rw (done.reply_is, done.bytes_are) refl in
    let here = calls t p st pre in
    record {
      group = e ∷ [];
      legal = (done.lawful, is, tt);
      turns = (here.next, here.which, tt);
      stands = done.stands;
      prints = prints_more o o' kind number payload list placed adds counted here.number_is prints;
      count = refl;
      post = ends t p st pre done;
    }

-- nothing
pub makes_none : (final : Bool) (queue : ℕ) (file : List Capsule)
    (Pre Post : Target → ℕ → List Capsule → Progress → Type 0) (k : Kept) (o : Output)
    (place : ℕ) → ((t : Target) (p : Progress) → StandsFor k t → Pre t queue file p
    → Post t queue file p) → Makes final queue file Pre k o place Post k o place
makes_none final queue file Pre Post k o place weaker t list st prints pre = record {
  group = [];
  legal = tt;
  turns = tt;
  stands = st;
  prints = subst (λ (r : List Placed). Prints o r) (sym (append-nil list)) prints;
  count = omega arith;
  post = weaker t (progress_of list) st pre;
}

-- one after another
pub makes_both : (final : Bool) (queue : ℕ) (file : List Capsule)
    (Pre Mid Post : Target → ℕ → List Capsule → Progress → Type 0) (k k1 k2 : Kept)
    (o o1 o2 : Output) (n n1 n2 : ℕ) → Makes final queue file Pre k o n Mid k1 o1 n1
    → Makes final queue file Mid k1 o1 n1 Post k2 o2 n2
    → Makes final queue file Pre k o n Post k2 o2 n2
makes_both final queue file Pre Mid Post k k1 k2 o o1 o2 n n1 n2 a b t list st prints pre =
    let x = a t list st prints pre in
    let u : Target = after t (calls_of x.group) in
    let p : Progress = progress_of list in
    let longer : List Placed = list ++ placed_from n x.group in
    let same : progress_of longer ≡ progress_after p x.group =
    progress-placed nothing_done list n x.group in
    let y = b u longer x.stands x.prints (subst (λ (q : Progress). Mid u queue file q) (sym same)
    x.post) in
    let places : longer ++ placed_from n1 y.group ≡ list ++ placed_from n (x.group ++ y.group) =
    append_assoc list (placed_from n x.group) (placed_from n1 y.group)
    ∙ ap (λ (r : List Placed). list ++ r) (ap (λ (m : ℕ). placed_from n x.group ++ placed_from m
    y.group) x.count ∙ sym (placed_from-append n x.group y.group)) in
    record {
      group = x.group ++ y.group;
      legal = IsLegal-append t x.group y.group x.legal y.legal;
      turns = AreNext-append final queue file p t x.group y.group x.turns (subst (λ (r : Progress). AreNext final queue file r u y.group) same y.turns);
      stands = rw after-append y.stands;
      prints = subst (λ (r : List Placed). Prints o2 r) places y.prints;
      count = omega (arith, y.count, x.count, length-append x.group y.group);
      post = rw (after-append, progress-append)
          (subst (λ (r : Progress). Post (after u (calls_of y.group)) queue file
          (progress_after r y.group)) same y.post);
    }

-- the same calls, of whose end something else is said
pub makes_by : (final : Bool) (queue : ℕ) (file : List Capsule)
    (Pre Post Other : Target → ℕ → List Capsule → Progress → Type 0) (k k1 : Kept)
    (o o1 : Output) (n n1 : ℕ)
    → ((u : Target) (p : Progress) → StandsFor k1 u → Post u queue file p → Other u queue file p)
    → Makes final queue file Pre k o n Post k1 o1 n1 → Makes final queue file Pre k o n Other k1 o1 n1
makes_by final queue file Pre Post Other k k1 o o1 n n1 f a t list st prints pre =
    let x = a t list st prints pre in
    record {
      group = x.group;
      legal = x.legal;
      turns = x.turns;
      stands = x.stands;
      prints = x.prints;
      count = x.count;
      post = f (after t (calls_of x.group)) (progress_after (progress_of list) x.group) x.stands
          x.post;
    }

-- from something else that holds before
pub makes_from : (final : Bool) (queue : ℕ) (file : List Capsule)
    (Other Pre Post : Target → ℕ → List Capsule → Progress → Type 0) (k k1 : Kept)
    (o o1 : Output) (n n1 : ℕ)
    → ((t : Target) (p : Progress) → StandsFor k t → Other t queue file p → Pre t queue file p)
    → Makes final queue file Pre k o n Post k1 o1 n1 → Makes final queue file Other k o n Post k1 o1 n1
makes_from final queue file Other Pre Post k k1 o o1 n n1 f a t list st prints pre =
    a t list st prints (f t (progress_of list) st pre)
