-- One record of a queue, made again.
use Rattle.std.proofs.Common.{◌≡◌, ◌≢◌, ◌≤◌, ◌<◌, ℕ, Bool, true, false, IsTrue, List, length, get_or, take, drop, Option, Some, None, refl, sym, ap, ap₂, subst, ◌∙◌, arith, eqb, eqb-true, eq-eqb, length-drop}
use Rattle.std.proofs.lemmas.List.{length-take-le}
use Rattle.sqe_cqe.specs.declared.sqe.Sqe.{Sqe}
use Rattle.sqe_cqe.specs.Sqe.{direction_of, payload_by, payload_len}
use Rattle.sqe_cqe.specs.declared.way.Direction.{Direction}
use Rattle.sqe_cqe.specs.declared.way.Direction.TheVariants.{ToController}
use Rattle.plan_files.specs.Capsules.{Capsule, IsWholeIn}
use Rattle.plan_files.specs.declared.capsules.Capsule as program
use Rattle.run_records.specs.declared.records.Kind.{Kind}
use Rattle.run_records.specs.declared.records.Kind.TheVariants as kinds
use Rattle.tree_target.specs.declared.calls.Reply.{Reply}
use Rattle.tree_target.specs.declared.calls.Reply.TheVariants as replies
use Rattle.tree_target.specs.Kept.{Kept, IsHolding, IsIdle}
use Rattle.tree_target.specs.Model.{Target, Call, Submit, Execute, Poll, Control, Entry}
use Rattle.tree_target.specs.Steps.{is_lawful, entry_of, reply_of, bytes_of, target_after}
use Rattle.tree_target.specs.Stands.{StandsFor, Does, Simulates}
use Rattle.run_transcript.specs.declared.capsule_files.CapsuleFile.{CapsuleFile}
use Rattle.run_verdicts.specs.declared.verdict.Field.{Field}
use Rattle.run_verdicts.specs.declared.verdict.Field.TheVariants as field
use Rattle.run_verdicts.specs.Faults.{Differs}
use Rattle.check_records.specs.Told.{capsule_at, call_told, poll_told}
use Rattle.check_records.specs.Cursors.{capsules_of, HoldsBy}
use Rattle.check_records.specs.Steps.{Steps, Departs, Compares}
use Rattle.check_records.proofs.Nexts.{capsule_is}

-- ---- the call that was made is the step's
pub made_as : (old new : Kept) (call step : Call) (reply : Reply) (bytes : List ℕ) → step ≡ call → Simulates old call reply bytes new
    → Simulates old step reply bytes new
made_as old new call step reply bytes is does t st = subst (λ (x : Call). Does t x reply bytes new) (sym is) (does t st)

pub submit_is : (queue taken : ℕ) (f : CapsuleFile) (kind : Kind) (n : ℕ) (x : program.Capsule) → kind ≡ kinds.Submit
    → n < length f.capsules.items → x ≡ get_or f.capsules.items n x → call_told queue (capsules_of f) taken kind n ≡ Submit queue n x.sqe
submit_is queue taken f kind n x is lt at =
    ap (λ (k : Kind). call_told queue (capsules_of f) taken k n) is ∙ ap (λ (c : Capsule). Submit queue n c.entry) (capsule_is f n x lt at)

pub payload_is : (f : CapsuleFile) (n : ℕ) (x : program.Capsule) (bytes payload : List ℕ) → n < length f.capsules.items → x ≡ get_or f.capsules.items n x
    → bytes ≡ f.bytes.items → payload ≡ take x.data_len (drop x.data_at bytes) → payload ≡ (capsule_at (capsules_of f) n).payload
payload_is f n x bytes payload lt at file is =
    is ∙ ap (λ (b : List ℕ). take x.data_len (drop x.data_at b)) file ∙ sym (ap (λ (c : Capsule). c.payload) (capsule_is f n x lt at))

pub execute_is : (queue taken : ℕ) (f : CapsuleFile) (kind : Kind) (n : ℕ) (payload : List ℕ) → kind ≡ kinds.Execute
    → payload ≡ (capsule_at (capsules_of f) n).payload → call_told queue (capsules_of f) taken kind n ≡ Execute queue n payload
execute_is queue taken f kind n payload is p =
    ap (λ (k : Kind). call_told queue (capsules_of f) taken k n) is ∙ ap (λ (b : List ℕ). Execute queue n b) (sym p)

pub control_is : (queue taken : ℕ) (f : CapsuleFile) (kind : Kind) (n : ℕ) (x : program.Capsule) (payload : List ℕ) → kind ≡ kinds.Control
    → n < length f.capsules.items → x ≡ get_or f.capsules.items n x → payload ≡ (capsule_at (capsules_of f) n).payload
    → call_told queue (capsules_of f) taken kind n ≡ Control queue n x.sqe payload
control_is queue taken f kind n x payload is lt at p =
    ap (λ (k : Kind). call_told queue (capsules_of f) taken k n) is
    ∙ ap₂ (λ (e : Sqe) (b : List ℕ). Control queue n e b) (ap (λ (c : Capsule). c.entry) (capsule_is f n x lt at)) (sym p)

pub control_len : (e : Sqe) (n : ℕ) → n ≡ payload_len e → direction_of e ≡ ToController → n ≡ e.sgl_len
unfolding payload_len
control_len e n is to = is ∙ ap (λ (d : Direction). payload_by d e.sgl_len) to

-- ---- what is held behind a submit
pub length_payload : (f : CapsuleFile) (n : ℕ) (x : program.Capsule) → n < length f.capsules.items → x ≡ get_or f.capsules.items n x
    → IsWholeIn f.bytes.items x → length (capsule_at (capsules_of f) n).payload ≡ payload_len x.sqe
length_payload f n x lt at whole =
    ap (λ (c : Capsule). length c.payload) (capsule_is f n x lt at)
    ∙ length-take-le x.data_len (drop x.data_at f.bytes.items) (omega (arith, whole.within, length-drop x.data_at f.bytes.items))
    ∙ whole.len

pub holds_by : (reply : Reply) (k : Kept) (queue n : ℕ) (c : Capsule) (taken given : ℕ) → (reply ≡ replies.Held → IsHolding k queue n taken given)
    → (reply ≢ replies.Held → IsIdle k queue) → length c.payload ≡ taken → HoldsBy reply k queue n c
holds_by replies.Held k queue n c taken given held idle len = (given, subst (λ (m : ℕ). IsHolding k queue n m given) (sym len) (held refl))
holds_by (replies.Answered cqe) k queue n c taken given held idle len = idle (λ is. absurd cc)
holds_by replies.Waiting k queue n c taken given held idle len = idle (λ is. absurd cc)
holds_by replies.NoEvent k queue n c taken given held idle len = idle (λ is. absurd cc)
holds_by replies.Accepted k queue n c taken given held idle len = idle (λ is. absurd cc)
holds_by (replies.Errno errno) k queue n c taken given held idle len = idle (λ is. absurd cc)
holds_by replies.Ended k queue n c taken given held idle len = idle (λ is. absurd cc)

-- ---- what is told of the call that was made
same_entry : (t : Target) (call told : Call) (reply told_reply : Reply) (bytes told_bytes : List ℕ) → told ≡ call → told_reply ≡ reply → told_bytes ≡ bytes
    → reply_of t call ≡ reply → bytes_of t call ≡ bytes
    → ◌≡◌ {A = Entry} (record { call = told; reply = told_reply; bytes = told_bytes }) (entry_of t told)
same_entry t call told reply told_reply bytes told_bytes k r b r' b' =
    let f : Reply → List ℕ → Entry = λ x y. record { call = told; reply = x; bytes = y } in
    ap₂ f (r ∙ sym r' ∙ ap (reply_of t) (sym k)) (b ∙ sym b' ∙ ap (bytes_of t) (sym k))

departs : (next : Option Call) (t : Target) (e : Entry) (call : Call) (reply : Reply) (bytes : List ℕ) (new : Kept) (f : Field)
    → next ≡ Some call → e.call ≡ call → Does t call reply bytes new → Compares e.reply e.bytes reply bytes (Some f) → Departs next t e f
departs next t e call reply bytes new f is k does c =
    let made : ◌≡◌ {A = Entry} (record { call = e.call; reply = reply; bytes = bytes }) (entry_of t e.call) = same_entry t call e.call reply reply bytes bytes k refl refl does.reply_is does.bytes_are in
    record {
      owed = is ∙ ap (λ (x : Call). Some x) (sym k);
      lawful = subst (λ (x : Call). IsTrue (is_lawful t x)) (sym k) does.lawful;
      differs = subst (λ (x : Entry). Differs e x f) made (c e.call);
    }

pub steps : (next : Option Call) (t : Target) (e : Entry) (call : Call) (reply : Reply) (bytes : List ℕ) (new : Kept) (result : Option Field)
    → next ≡ Some call → e.call ≡ call → Does t call reply bytes new → Compares e.reply e.bytes reply bytes result → Steps next t e result new
steps next t e call reply bytes new None is k does c = record {
  owed = is ∙ ap (λ (x : Call). Some x) (sym k);
  lawful = subst (λ (x : Call). IsTrue (is_lawful t x)) (sym k) does.lawful;
  is = same_entry t call e.call reply e.reply bytes e.bytes k c.0 c.1 does.reply_is does.bytes_are;
  stands = subst (λ (x : Call). StandsFor new (target_after t x)) (sym k) does.stands;
}
steps next t e call reply bytes new (Some field.Place) is k does c = c call
steps next t e call reply bytes new (Some field.Order) is k does c = absurd (c call)
steps next t e call reply bytes new (Some field.Answer) is k does c = departs next t e call reply bytes new field.Answer is k does c
steps next t e call reply bytes new (Some field.Completion) is k does c = departs next t e call reply bytes new field.Completion is k does c
steps next t e call reply bytes new (Some field.Bytes) is k does c = departs next t e call reply bytes new field.Bytes is k does c
steps next t e call reply bytes new (Some field.Errno) is k does c = departs next t e call reply bytes new field.Errno is k does c
steps next t e call reply bytes new (Some field.Drain) is k does c = absurd (c call)

pub told_as : (queue taken : ℕ) (file : List Capsule) (k s : Kind) (n m : ℕ) → k ≡ s → n ≡ m → call_told queue file taken k n ≡ call_told queue file taken s m
told_as queue taken file k s n m a b = ap₂ (λ (x : Kind) (y : ℕ). call_told queue file taken x y) a b

-- ---- a record that names another call tells another
pub record IsNamed (k s : Kind) (n m : ℕ) : Type 0 where
  pub kinds : k ≡ s
  pub numbers : n ≡ m

not-poll : (b : Bool) (queue : ℕ) (call : Call) → ((q : ℕ) → Poll q ≡ call → ⊥) → poll_told b queue ≡ call → ⊥
not-poll true queue call other h = other queue h
not-poll false queue call other h = other 0 h

poll-same : (b d : Bool) (queue : ℕ) → 1 ≤ queue → d ≡ true → poll_told b queue ≡ poll_told d queue → b ≡ true
poll-same true d queue some is h = refl
poll-same false true queue some is h = let z : 0 ≡ queue = cc in absurd (omega (arith, z, some))
poll-same false false queue some is h = is

submit-number : (q n m : ℕ) (e f : Sqe) → Submit q n e ≡ Submit q m f → n ≡ m
submit-number q n m e f h = cc

execute-number : (q n m : ℕ) (e f : List ℕ) → Execute q n e ≡ Execute q m f → n ≡ m
execute-number q n m e f h = cc

control-number : (q n m : ℕ) (e f : Sqe) (x y : List ℕ) → Control q n e x ≡ Control q m f y → n ≡ m
control-number q n m e f x y h = cc

pub named : (queue taken : ℕ) (file : List Capsule) (k s : Kind) (n m : ℕ) → 1 ≤ queue → (s ≡ kinds.Poll → m ≡ taken)
    → call_told queue file taken k n ≡ call_told queue file taken s m → IsNamed k s n m
named queue taken file kinds.Submit kinds.Submit n m some poll h = record { kinds = refl; numbers = submit-number queue n m _ _ h }
named queue taken file kinds.Submit kinds.Execute n m some poll h = absurd cc
named queue taken file kinds.Submit kinds.Control n m some poll h = absurd cc
named queue taken file kinds.Submit kinds.Poll n m some poll h = absurd (not-poll (eqb m taken) queue _ (λ q is. absurd cc) (sym h))
named queue taken file kinds.Execute kinds.Submit n m some poll h = absurd cc
named queue taken file kinds.Execute kinds.Execute n m some poll h = record { kinds = refl; numbers = execute-number queue n m _ _ h }
named queue taken file kinds.Execute kinds.Control n m some poll h = absurd cc
named queue taken file kinds.Execute kinds.Poll n m some poll h = absurd (not-poll (eqb m taken) queue _ (λ q is. absurd cc) (sym h))
named queue taken file kinds.Control kinds.Submit n m some poll h = absurd cc
named queue taken file kinds.Control kinds.Execute n m some poll h = absurd cc
named queue taken file kinds.Control kinds.Control n m some poll h = record { kinds = refl; numbers = control-number queue n m _ _ _ _ h }
named queue taken file kinds.Control kinds.Poll n m some poll h = absurd (not-poll (eqb m taken) queue _ (λ q is. absurd cc) (sym h))
named queue taken file kinds.Poll kinds.Submit n m some poll h = absurd (not-poll (eqb n taken) queue _ (λ q is. absurd cc) h)
named queue taken file kinds.Poll kinds.Execute n m some poll h = absurd (not-poll (eqb n taken) queue _ (λ q is. absurd cc) h)
named queue taken file kinds.Poll kinds.Control n m some poll h = absurd (not-poll (eqb n taken) queue _ (λ q is. absurd cc) h)
named queue taken file kinds.Poll kinds.Poll n m some poll h =
    let right : eqb m taken ≡ true = eq-eqb m taken (poll refl) in
    let here : n ≡ taken = eqb-true n taken (poll-same (eqb n taken) (eqb m taken) queue some right h) in
    record { kinds = refl; numbers = here ∙ sym (poll refl) }
