-- What stays between two calls of one caller: what a queue is connected to, and the phases of
-- namespaces.
use Rattle.std.proofs.Common.{◌≡◌, ◌≤◌, ◌<◌, ℕ, zero, suc, Bool, true, false, eqb, ltb, List, [], ◌∷◌, length, take, Option, Some, None, slice_get, refl, sym, ap, ◌∙◌, arith, true≢false, eq-eqb, eqb-true, ltb-true, ltb-false}
use Rattle.configfs_tree.specs.declared.configuration.Configuration.{Configuration}
use Rattle.configfs_tree.specs.Phases.{phase_at}
use Rattle.sqe_cqe.specs.declared.sqe.Sqe.{Sqe}
use Rattle.fabrics_connect.specs.declared.answer.Answer.{Answer}
use Rattle.fabrics_connect.specs.declared.answer.Answer.TheVariants.{Refused, Makes, Joins, Reads, Sets}
use Rattle.fabrics_connect.specs.After.{tree_after}
use Rattle.tree_target.specs.Admission.{Admission, Completes, Waits, Holds, admission}
use Rattle.tree_target.specs.declared.calls.Command.{Command}
use Rattle.tree_target.specs.Model.{Call, Submit, Execute, Poll, Control, AnEdit, DrainEnd, Entry, Target, Binding, caller_of, held_at, binding_at, binding_in, bound_of}
use Rattle.tree_target.specs.Controls.{after_control, answer_on}
use Rattle.tree_target.specs.Steps.{target_after, after_submit, after_execute, changed}
use Rattle.tree_target.specs.Legal.{after}
use Rattle.tree_target.proofs.Changes.{bindings_own}
use Rattle.run_transcript.specs.Runs.{Run, calls_of, target_at, target_after_all}
use Rattle.run_transcript.specs.Turns.{is_admin_at, is_admin_bound}

-- ---- the targets of a run
-- the next place finds the target after the entry, or the same target behind the last entry
data Step (t u : Target) (h : List Entry) (k : ℕ) : Type 0 where
  By : (e : Entry) → slice_get h k ≡ Some e → u ≡ target_after t e.call → Step t u h k
  Behind : u ≡ t → Step t u h k

step-from : (t : Target) (h : List Entry) (k : ℕ) → Step (after t (calls_of (take k h))) (after t (calls_of (take (suc k) h))) h k
step-from t [] k = Behind (none k) where
  none : (k : ℕ) → after t (calls_of (take (suc k) [])) ≡ after t (calls_of (take k []))
  none zero = refl
  none (suc k) = refl
step-from t (x ∷ h) zero = By x refl (first h) where
  first : (h : List Entry) → after t (calls_of (take 1 (x ∷ h))) ≡ target_after t x.call
  first [] = refl
  first (y ∷ h) = refl
step-from t (x ∷ h) (suc k) = up (step-from (target_after t x.call) h k) where
  up : Step (after (target_after t x.call) (calls_of (take k h))) (after (target_after t x.call) (calls_of (take (suc k) h))) h k
      → Step (after t (calls_of (take (suc k) (x ∷ h)))) (after t (calls_of (take (suc (suc k)) (x ∷ h)))) (x ∷ h) (suc k)
  up (By e at is) = By e at is
  up (Behind is) = Behind is

take-none : (n : ℕ) → take {A = Entry} n [] ≡ []
take-none zero = refl
take-none (suc n) = refl

take-all : (n : ℕ) (h : List Entry) → length h ≤ n → take n h ≡ h
take-all n [] le = take-none n
take-all zero (x ∷ h) le = absurd (omega (arith, le))
take-all (suc n) (x ∷ h) le = ap (λ (l : List Entry). x ∷ l) (take-all n h (omega (arith, le)))

pub last-target : (run : Run) (n : ℕ) → length run.history ≤ n → target_at run n ≡ target_after_all run
last-target run n le = ap (λ (l : List Entry). after run.start (calls_of l)) (take-all n run.history le)

-- ---- what stays
-- no entry from one place to below another is of the kind
abbrev pub NoneOf : Run → (Call → Bool) → ℕ → ℕ → Type 0
NoneOf run kind low high = (k : ℕ) (e : Entry) → low ≤ k → k < high → slice_get run.history k ≡ Some e → kind e.call ≡ false

-- what all calls of another kind leave
abbrev pub Leaves : {X : Type 0} → (Call → Bool) → (Target → X) → Type 0
Leaves kind part = (t : Target) (call : Call) → kind call ≡ false → part (target_after t call) ≡ part t

pub stays : {X : Type 0} (run : Run) (kind : Call → Bool) (part : Target → X) (low high : ℕ) → low ≤ high → Leaves kind part
    → NoneOf run kind low high → part (target_at run high) ≡ part (target_at run low)
stays run kind part low zero le leaves none =
    let z : zero ≡ low = omega (arith, le) in ap (λ (k : ℕ). part (target_at run k)) z
stays {X = X} run kind part low (suc high) le leaves none =
    by-test (ltb high low) refl (λ le. stays run kind part low high le leaves (λ k e a b at. none k e a (omega (arith, b)) at)) where
      by-step : low ≤ high → Step (target_at run high) (target_at run (suc high)) run.history high
          → part (target_at run (suc high)) ≡ part (target_at run high)
      by-step le (By e at is) = ap part is ∙ leaves (target_at run high) e.call (none high e le (omega arith) at)
      by-step le (Behind is) = ap part is

      by-test : (b : Bool) → ltb high low ≡ b → (low ≤ high → part (target_at run high) ≡ part (target_at run low))
          → part (target_at run (suc high)) ≡ part (target_at run low)
      by-test true t more =
          let same : suc high ≡ low = omega (arith, ltb-true high low t, le) in ap (λ (k : ℕ). part (target_at run k)) same
      by-test false f more =
          let low_enough : low ≤ high = ltb-false high low f in
          by-step low_enough (step-from run.start run.history high) ∙ more low_enough

-- ---- what a queue is connected to: its fabrics commands alone change it
abbrev pub connects : ℕ → Call → Bool
connects queue (Submit q n e) = false
connects queue (Execute q n payload) = false
connects queue (Poll q) = false
connects queue (Control q n e payload) = eqb q queue
connects queue (AnEdit line e) = false
connects queue (DrainEnd line sub nsid) = false

pub connects-own : (queue : ℕ) (call : Call) → connects queue call ≡ true → caller_of call ≡ queue
connects-own queue (Submit q n e) h = absurd cc
connects-own queue (Execute q n payload) h = absurd cc
connects-own queue (Poll q) h = absurd cc
connects-own queue (Control q n e payload) h = eqb-true q queue h
connects-own queue (AnEdit line e) h = absurd cc
connects-own queue (DrainEnd line sub nsid) h = absurd cc

submit_bound : (t : Target) (queue other number cid : ℕ) (a : Admission)
    → binding_in (after_submit t queue number cid a).bindings other ≡ binding_in t.bindings other
submit_bound t queue other number cid (Completes status result bytes) = refl
submit_bound t queue other number cid Waits = refl
submit_bound t queue other number cid (Holds job) = refl

execute_bound : (t : Target) (queue other number : ℕ) (payload : List ℕ) (h : Option Command)
    → binding_in (after_execute t queue number payload h).bindings other ≡ binding_in t.bindings other
execute_bound t queue other number payload None = refl
execute_bound t queue other number payload (Some h) = refl

binding_leaves : (queue : ℕ) → Leaves (connects queue) (λ t. binding_at t queue)
unfolding changed
binding_leaves queue t (Submit q n e) h = submit_bound t q queue n e.cid (admission t q e)
binding_leaves queue t (Execute q n payload) h = execute_bound t q queue n payload (held_at t q n)
binding_leaves queue t (Poll q) h = refl
binding_leaves queue t (Control q n e payload) h =
    bindings_own t (Control q n e payload) queue (λ is. true≢false (sym (eq-eqb q queue is) ∙ h))
binding_leaves queue t (AnEdit line e) h = other-than-editor queue where
  other-than-editor : (queue : ℕ) → binding_at (target_after t (AnEdit line e)) queue ≡ binding_at t queue
  other-than-editor zero = refl
  other-than-editor (suc q) = bindings_own t (AnEdit line e) (suc q) (λ is. absurd (omega (arith, is)))
binding_leaves queue t (DrainEnd line sub nsid) h = refl

-- it is an admin queue or not
pub admin_leaves : (queue : ℕ) → Leaves (connects queue) (λ t. is_admin_at t queue)
admin_leaves queue t call h = ap (λ (b : Option Binding). is_admin_bound (bound_of b)) (binding_leaves queue t call h)

-- ---- the phase of a namespace: the editor alone changes it
abbrev pub is_edit : Call → Bool
is_edit (Submit q n e) = false
is_edit (Execute q n payload) = false
is_edit (Poll q) = false
is_edit (Control q n e payload) = false
is_edit (AnEdit line e) = true
is_edit (DrainEnd line sub nsid) = true

pub edits-own : (call : Call) → is_edit call ≡ true → caller_of call ≡ 0
edits-own (Submit q n e) h = absurd cc
edits-own (Execute q n payload) h = absurd cc
edits-own (Poll q) h = absurd cc
edits-own (Control q n e payload) h = absurd cc
edits-own (AnEdit line e) h = refl
edits-own (DrainEnd line sub nsid) h = refl

submit_tree : (t : Target) (queue number cid : ℕ) (a : Admission) → (after_submit t queue number cid a).tree ≡ t.tree
submit_tree t queue number cid (Completes status result bytes) = refl
submit_tree t queue number cid Waits = refl
submit_tree t queue number cid (Holds job) = refl

execute_tree : (t : Target) (queue number : ℕ) (payload : List ℕ) (h : Option Command) → (after_execute t queue number payload h).tree ≡ t.tree
execute_tree t queue number payload None = refl
execute_tree t queue number payload (Some h) = refl

answer_phase : (t : Configuration) (sub : List ℕ) (nsid : ℕ) (a : Answer) → phase_at (tree_after t a) sub nsid ≡ phase_at t sub nsid
unfolding tree_after
answer_phase t sub nsid (Refused fault) = refl
answer_phase t sub nsid (Makes bound host) = refl
answer_phase t sub nsid (Joins bound) = refl
answer_phase t sub nsid (Reads value) = refl
answer_phase t sub nsid (Sets value) = refl

control_phase : (t : Target) (queue : ℕ) (e : Sqe) (payload sub : List ℕ) (nsid : ℕ) (b : Option Binding)
    → phase_at (after_control t queue e payload b).tree sub nsid ≡ phase_at t.tree sub nsid
control_phase t queue e payload sub nsid None = refl
control_phase t queue e payload sub nsid (Some b) = answer_phase t.tree sub nsid (answer_on t e payload b)

pub phase_leaves : (sub : List ℕ) (nsid : ℕ) → Leaves is_edit (λ t. phase_at t.tree sub nsid)
unfolding changed
phase_leaves sub nsid t (Submit q n e) h = ap (λ (u : Configuration). phase_at u sub nsid) (submit_tree t q n e.cid (admission t q e))
phase_leaves sub nsid t (Execute q n payload) h = ap (λ (u : Configuration). phase_at u sub nsid) (execute_tree t q n payload (held_at t q n))
phase_leaves sub nsid t (Poll q) h = refl
phase_leaves sub nsid t (Control q n e payload) h = control_phase t q e payload sub nsid (binding_at t q)
phase_leaves sub nsid t (AnEdit line e) h = absurd cc
phase_leaves sub nsid t (DrainEnd line sub2 nsid2) h = absurd cc
