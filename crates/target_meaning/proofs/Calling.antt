-- The conditions of the table's calls.
use Rattle.std.proofs.Common.{◌≡◌, ◌≢◌, ◌⊎◌, ℕ, zero, suc, ◌+◌, ◌==◌, ◌&&◌, ◌||◌, not, Bool, true, false, List, [], ◌∷◌, map, Option, Some, None, is_some, refl, sym, ap, subst, ◌∙◌, arith}
use mathlib.Core.Logic.{⊎_elim}
use Rattle.std.specs.List.{list_any}
use Rattle.ref_state.specs.State.{total, one_if}
use Rattle.table_rule.specs.Meant.{target, of_pair, on}
use Rattle.io_commands.specs.Jobs.{disk_of}
use Rattle.configfs_tree.specs.Phases.{phase_at}
use Rattle.configfs_tree.specs.Standing.{IsStanding}
use Rattle.tree_target.specs.declared.calls.Command.{Command}
use Rattle.tree_target.specs.Edits.{disables}
use Rattle.tree_target.specs.Model.{Call, Control, DrainEnd, Binding, Target, binding_in, binding_at}
use Rattle.tree_target.specs.Admission.{Admission, Completes, Waits, Holds, admission}
use Rattle.tree_target.specs.Steps.{reply_of, submitted, is_draining_phase, disk_at, is_on, none_on}
use Rattle.tree_target.specs.Held.{held_by, held_disk}
use Rattle.tree_target.proofs.Changes.{bindings_own}
use Rattle.target_states.specs.declared.parts.Desk.{Desk}
use Rattle.target_states.specs.Inputs.{Inputs, call_by, call_of, end_of}
use Rattle.target_states.specs.States.{state, stepped, may_take, answer_to, held_on, fixed_at, waiting}
use Rattle.target_states.proofs.Deciding.{editors_same, NoControl, bindings_left}
use Rattle.target_states.proofs.Tags as states
use Rattle.target_words.specs.Words.{words_at}
use Rattle.target_words.proofs.Following.{words_computed, unpublished_leave_all, ends_leave}
use Rattle.target_words.proofs.Tags as words
use Rattle.target_meaning.specs.TreeMeans.{tree_means}
use Rattle.target_meaning.specs.Histories.{state_after}
use Rattle.target_meaning.specs.Callers.{QueuesArePlain, EditorsArePlain, PublishedAsComputed, end_tag, EndsMayCome, is_held, HeldIsReplied, BindingsAreOwn}

-- ---- places
pub queues_plain : QueuesArePlain
queues_plain r number known tag near = λ t steady. record {
  words = words.queues_words r.begun r.start t tag near;
  fixed = states.queues_fixed r.begun r.start t tag near;
}

pub editors_plain : EditorsArePlain
editors_plain r known tag call is own standing off = λ t steady.
    let s = steady refl in
    let a : Target = state_after r known in
    let u : Target = state r.begun t in
    let leaves = unpublished_leave_all u call
    (subst (λ (d : Desk). IsStanding d.tree) (sym s.desk) standing) own
    ((editors_same a u call own s.desk).published ∙ off) in
    record {
      words = ap (λ (c : Option Call). words_at (stepped u c)) is ∙ leaves.words;
      fixed = ap (λ (c : Option Call). fixed_at (stepped u c)) is ∙ leaves.fixed;
    }

pub published_as : PublishedAsComputed
published_as r known tag call t is own steady =
    let a : Target = state_after r known in
    let u : Target = state r.begun t in
    ap (λ (c : Option Call). words_at (stepped u c)) is
    ∙ (words_computed a u call own steady.desk
    (states.same_sizes r.begun r.start t (target (tree_means r) known))
    ∙ sym (ap (λ (c : Option Call). words_at (stepped a c)) is))

-- ---- drains
free_on : (h : Bool) (rest : Bool) (n : ℕ) → one_if h + n ≡ 0 → (n ≡ 0 → rest ≡ false)
    → (h || rest) ≡ false
free_on true rest n e later = absurd (omega (arith, e))
free_on false rest n e later = later (omega (arith, e))

free_of : (disk : ℕ) (held : List Command) → total (of_pair (on disk)) (map waiting held) ≡ 0
    → list_any (is_on disk) held ≡ false
free_of disk [] e = refl
free_of disk (h ∷ held) e =
    free_on (disk_of h.job == disk) (list_any (is_on disk) held)
    (total (of_pair (on disk)) (map waiting held)) e (λ z. free_of disk held z)

both : (a b : Bool) → a ≡ true → b ≡ true → (a && b) ≡ true
both a b e f = rw (e, f) refl

pub ends_come : EndsMayCome
ends_come r known line disk t d steady none =
    let u : Target = state r.begun t in
    let sub = d.space.sub in
    let nsid = d.space.nsid in
    let is : call_of r.begun.inputs (end_tag line) ≡ Some (DrainEnd line sub nsid) =
    ap (end_of line) d.disabled in
    let draining : is_draining_phase (phase_at u.tree sub nsid) ≡ true =
    ap (λ (k : Desk). is_draining_phase (phase_at k.tree sub nsid)) steady.desk ∙ d.draining in
    let there : disk_at u.tree sub nsid ≡ Some disk =
    ap (λ (k : Desk). disk_at k.tree sub nsid) steady.desk ∙ d.on_disk in
    let free : none_on u.held (disk_at u.tree sub nsid) ≡ true =
    ap (none_on u.held) there ∙ ap not (free_of disk u.held none) in (
      ap (may_take u 7) is
          ∙ both (is_draining_phase (phase_at u.tree sub nsid))
          (none_on u.held (disk_at u.tree sub nsid)) draining free,
      ap (λ (c : Option Call). words_at (stepped u c)) is ∙ (ends_leave u line sub nsid).words,
    )

-- ---- queues
held_one : (t : Target) (queue cid : ℕ) (a : Admission)
    → is_some (held_by a) ≡ is_held (submitted t queue cid a)
held_one t queue cid (Completes status result bytes) = refl
held_one t queue cid Waits = refl
held_one t queue cid (Holds job) = refl

submit_one : (i : Inputs) (t : Target) (queue number : ℕ)
    → is_some (held_on t (call_by i 1 queue number))
    ≡ is_held (answer_to t (call_by i 1 queue number)).reply
unfolding held_disk reply_of
submit_one i t queue number =
    held_one t queue (i.entry queue number).cid (admission t queue (i.entry queue number))

pub held_replied : HeldIsReplied
held_replied r t tag one =
    let i = r.begun.inputs in
    let u = state r.begun t in
    let P : ℕ → Type 0 = λ k. is_some (held_on u (call_by i k tag.caller tag.number))
    ≡ is_held (answer_to u (call_by i k tag.caller tag.number)).reply in
    subst P (sym one) (submit_one i u tag.caller tag.number)

end_no_control : (line : ℕ) (o : _) → NoControl (end_of line o)
end_no_control line None = tt
end_no_control line (Some s) = tt

own_by : (i : Inputs) (t : Target) (kind caller number queue : ℕ)
    → (kind ≢ 4) ⊎ (caller ≢ queue)
    → binding_at (stepped t (call_by i kind caller number)) queue ≡ binding_at t queue
own_by i t zero caller number queue h = refl
own_by i t (suc zero) caller number queue h =
    ap (λ (bs : List Binding). binding_in bs queue)
    (bindings_left t (call_by i 1 caller number) tt)
own_by i t (suc (suc zero)) caller number queue h =
    ap (λ (bs : List Binding). binding_in bs queue)
    (bindings_left t (call_by i 2 caller number) tt)
own_by i t (suc (suc (suc zero))) caller number queue h =
    ap (λ (bs : List Binding). binding_in bs queue)
    (bindings_left t (call_by i 3 caller number) tt)
own_by i t (suc (suc (suc (suc zero)))) caller number queue h =
    ⊎_elim (λ other. absurd (other refl))
    (λ ne. bindings_own t (Control caller number (i.entry caller number)
    (i.payload caller number)) queue ne) h
own_by i t (suc (suc (suc (suc (suc zero))))) caller number queue h = refl
own_by i t (suc (suc (suc (suc (suc (suc zero)))))) caller number queue h =
    ap (λ (bs : List Binding). binding_in bs queue)
    (bindings_left t (call_by i 6 caller number) tt)
own_by i t (suc (suc (suc (suc (suc (suc (suc zero))))))) caller number queue h =
    ap (λ (bs : List Binding). binding_in bs queue)
    (bindings_left t (call_by i 7 caller number)
    (end_no_control number (disables (i.edit number))))
own_by i t (suc (suc (suc (suc (suc (suc (suc (suc kind)))))))) caller number queue h = refl

pub bindings_are_own : BindingsAreOwn
bindings_are_own r t tag queue h =
    own_by r.begun.inputs (state r.begun t) tag.kind tag.caller tag.number queue h
