-- What a queue's next call is, where its cursor stands.
use Rattle.std.proofs.Common.{◌≡◌, ◌≢◌, ◌≤◌, ◌<◌, ℕ, zero, suc, ◌-◌, Bool, true, false, List, [], ◌∷◌, length, get_or, slice_get, Option, Some, None, option_map, refl, sym, ap, ◌∙◌, arith, eqb, eq-eqb}
use Rattle.std.proofs.lemmas.List.{length-map}
use Rattle.std.proofs.lemmas.Option.{slice_get-map, slice_get-get_or, slice_get_past}
use Rattle.sqe_cqe.specs.declared.controllers.Bound.{Bound as CodeBound}
use Rattle.sqe_cqe.specs.declared.controllers.Binding.{Binding as CodeBinding}
use Rattle.configfs_tree.specs.declared.configuration.Configuration.{Configuration}
use Rattle.plan_files.specs.Capsules.{Capsule, capsule_in}
use Rattle.plan_files.specs.declared.capsules.Capsule as program
use Rattle.tree_target.specs.Kept as kept
use Rattle.tree_target.specs.Kept.{Kept, bound_from}
use Rattle.tree_target.specs.Model.{Bound, Binding, Target, Call, Submit, Execute, Poll, Control, binding_in, bound_of}
use Rattle.tree_target.specs.Stands.{StandsFor, AreBound, IsBoundAs}
use Rattle.run_transcript.specs.declared.capsule_files.CapsuleFile.{CapsuleFile}
use Rattle.run_transcript.specs.Turns.{next_capsule, execute_of, poll_where, is_admin_at, is_admin_bound}
use Rattle.check_records.specs.Told.{capsule_at, poll_told}
use Rattle.check_records.specs.declared.cursor.Step.{Step}
use Rattle.check_records.specs.Cursors.{capsules_of, step_call, polled}

-- ---- admin queues, by names and by positions
bound_admin : (t : Configuration) (port : ℕ) (c : Option CodeBound) (m : Option Bound)
    → IsBoundAs t port c m → is_admin_bound m ≡ kept.is_admin_bound c
bound_admin t port None None b = refl
bound_admin t port None (Some m) b = absurd b
bound_admin t port (Some c) None b = absurd b
bound_admin t port (Some c) (Some m) b = ap (λ n. eqb n 0) b.qid

same_admin : (t : Configuration) (cs : List CodeBinding) (ms : List Binding) (i : ℕ) → AreBound t cs ms
    → is_admin_bound (bound_of (slice_get ms i)) ≡ kept.is_admin_bound (bound_from (slice_get cs i))
same_admin t [] [] i b = refl
same_admin t [] (m ∷ ms) i b = absurd b
same_admin t (c ∷ cs) [] i b = absurd b
same_admin t (c ∷ cs) (m ∷ ms) zero b = bound_admin t m.port c.bound m.bound b.1
same_admin t (c ∷ cs) (m ∷ ms) (suc i) b = same_admin t cs ms i b.2

admin_in : (t : Configuration) (cs : List CodeBinding) (ms : List Binding) (queue : ℕ) → AreBound t cs ms
    → is_admin_bound (bound_of (binding_in ms queue)) ≡ kept.is_admin_bound (bound_from (kept.binding_in cs queue))
admin_in t cs ms zero b = refl
admin_in t cs ms (suc i) b = same_admin t cs ms i b

pub admin_is : (k : Kept) (t : Target) (queue : ℕ) → StandsFor k t → is_admin_at t queue ≡ kept.is_admin_in k queue
admin_is k t queue st = admin_in k.tree k.bindings t.bindings queue st.bindings

-- ---- capsules
pub capsule_there : (f : CapsuleFile) (n : ℕ) (x : program.Capsule) → n < length f.capsules.items → x ≡ get_or f.capsules.items n x
    → slice_get (capsules_of f) n ≡ Some (capsule_in f.bytes.items x)
capsule_there f n x lt is =
    slice_get-map (capsule_in f.bytes.items) f.capsules.items n
    ∙ ap (λ (o : Option program.Capsule). option_map (capsule_in f.bytes.items) o) (slice_get-get_or f.capsules.items n x lt)
    ∙ ap (λ (y : program.Capsule). Some (capsule_in f.bytes.items y)) (sym is)

pub capsule_is : (f : CapsuleFile) (n : ℕ) (x : program.Capsule) → n < length f.capsules.items → x ≡ get_or f.capsules.items n x
    → capsule_at (capsules_of f) n ≡ capsule_in f.bytes.items x
capsule_is f n x lt is = rw (capsule_there f n x lt is) refl

pub none_there : (f : CapsuleFile) (n : ℕ) → length f.capsules.items ≤ n → slice_get (capsules_of f) n ≡ None
none_there f n le = slice_get_past (capsules_of f) n (omega (arith, length-map f.capsules.items (capsule_in f.bytes.items)))

there : (file : List Capsule) (n : ℕ) → n < length file → slice_get file n ≡ Some (capsule_at file n)
there [] n lt = absurd (omega (arith, lt))
there (c ∷ file) zero lt = refl
there (c ∷ file) (suc n) lt = there file n (omega (arith, lt))

-- ---- polls
pub poll_next : (admin : Bool) (queue taken : ℕ) (file : List Capsule) → poll_where admin queue ≡ option_map (step_call queue file taken) (polled admin taken)
poll_next true queue taken file =
    let same : eqb taken taken ≡ true = eq-eqb taken taken refl in
    let told : poll_told (eqb taken taken) queue ≡ Poll queue = ap (λ (b : Bool). poll_told b queue) same in
    ap (λ (x : Call). Some x) (sym told)
poll_next false queue taken file = refl

pub first_poll : (k : Kept) (t : Target) (queue taken : ℕ) (f : CapsuleFile) (o : Option Step) → StandsFor k t → length f.capsules.items ≤ taken
    → o ≡ polled (kept.is_admin_in k queue) taken
    → next_capsule (is_admin_at t queue) queue taken (slice_get (capsules_of f) taken) ≡ option_map (step_call queue (capsules_of f) taken) o
first_poll k t queue taken f o st le is =
    ap (λ (c : Option Capsule). next_capsule (is_admin_at t queue) queue taken c) (none_there f taken le)
    ∙ ap (λ (b : Bool). poll_where b queue) (admin_is k t queue st)
    ∙ poll_next (kept.is_admin_in k queue) queue taken (capsules_of f)
    ∙ ap (λ (x : Option Step). option_map (step_call queue (capsules_of f) taken) x) (sym is)

pub through_poll : (k : Kept) (t : Target) (queue taken : ℕ) (f : CapsuleFile) (o : Option Step) → StandsFor k t → true ≡ kept.is_admin_in k queue
    → o ≡ polled (kept.is_admin_in k queue) taken
    → (if_admin : Bool) → is_admin_at t queue ≡ if_admin → if_admin ≡ true × (Some (Poll queue) ≡ option_map (step_call queue (capsules_of f) taken) o)
through_poll k t queue taken f o st admin is b same = (
  sym same ∙ admin_is k t queue st ∙ sym admin,
  ap (λ (x : Bool). poll_where x queue) admin ∙ poll_next (kept.is_admin_in k queue) queue taken (capsules_of f)
      ∙ ap (λ (x : Option Step). option_map (step_call queue (capsules_of f) taken) x) (sym is),
)

-- ---- first calls
pub first_control : (admin : Bool) (queue taken : ℕ) (f : CapsuleFile) (x : program.Capsule) → taken < length f.capsules.items
    → x ≡ get_or f.capsules.items taken x → x.sqe.opcode ≡ 127
    → next_capsule admin queue taken (slice_get (capsules_of f) taken)
    ≡ Some (Control queue taken (capsule_at (capsules_of f) taken).entry (capsule_at (capsules_of f) taken).payload)
first_control admin queue taken f x lt is op =
    let at = capsule_there f taken x lt is in
    let t : eqb x.sqe.opcode 127 ≡ true = eq-eqb x.sqe.opcode 127 op in
    rw (at, t) refl

pub first_submit : (admin : Bool) (queue taken : ℕ) (f : CapsuleFile) (x : program.Capsule) → taken < length f.capsules.items
    → x ≡ get_or f.capsules.items taken x → x.sqe.opcode ≢ 127
    → next_capsule admin queue taken (slice_get (capsules_of f) taken) ≡ Some (Submit queue taken (capsule_at (capsules_of f) taken).entry)
first_submit admin queue taken f x lt is op =
    let at = capsule_there f taken x lt is in
    let t : eqb x.sqe.opcode 127 ≡ false = grind (arith, op) in
    rw (at, t) refl

pub holding_next : (queue taken : ℕ) (f : CapsuleFile) → 0 < taken → taken ≤ length (capsules_of f)
    → execute_of queue (taken - 1) (slice_get (capsules_of f) (taken - 1)) ≡ Some (Execute queue (taken - 1) (capsule_at (capsules_of f) (taken - 1)).payload)
holding_next queue taken f some inside =
    ap (execute_of queue (taken - 1)) (there (capsules_of f) (taken - 1) (omega (arith, some, inside)))
