-- What an accepted Connect makes: an admin queue the next controller, an I/O queue no admin queue.
use Rattle.std.proofs.Common.{◌≡◌, ◌==◌, ◌+◌, ℕ, Bool, true, false, cond, List, [], ◌∷◌, length, Option, Some, None, refl, sym, ap, subst, ◌∙◌}
use Rattle.std.proofs.lemmas.Bool.{both_ways}
use Rattle.sqe_cqe.specs.declared.sqe.Sqe.{Sqe}
use Rattle.sqe_cqe.specs.Connect.{connect_of, qid_of}
use Rattle.sqe_cqe.specs.declared.connect.ConnectData.{ConnectData}
use Rattle.sqe_cqe.specs.declared.controllers.Binding.{Binding}
use Rattle.sqe_cqe.specs.declared.controllers.Bound.{Bound}
use Rattle.sqe_cqe.specs.declared.controllers.ControllerRow.{ControllerRow}
use Rattle.configfs_tree.specs.declared.configuration.Configuration.{Configuration}
use Rattle.fabrics_connect.specs.declared.answer.Answer.{Answer}
use Rattle.fabrics_connect.specs.declared.answer.Answer.TheVariants.{Refused, Makes, Joins, Reads, Sets}
use Rattle.fabrics_connect.specs.Names.{kept_name}
use Rattle.fabrics_connect.specs.Checks.{Check, refused, decided, is_admin, connect_checks, bound_to, connected, connect_answer, control_checks, own_answer, control_answer}
use Rattle.tree_target.proofs.Accepting.{accepted}
use Rattle.history_notices.proofs.Bindings.{none_some}

-- of this many controllers
abbrev pub IsNext : ℕ → Answer → Type 0
IsNext count (Refused fault) = Unit {0}
IsNext count (Makes bound host) = (bound.ctrl ≡ count + 1) × (bound.qid ≡ 0)
IsNext count (Joins bound) = bound.qid ≡ 0 → ⊥
IsNext count (Reads value) = Unit {0}
IsNext count (Sets value) = Unit {0}

next_or : (count : ℕ) (b : Bool) (status result : ℕ) (a : Answer) → IsNext count a
    → IsNext count (cond b (refused status result) a)
next_or count true status result a h = tt
next_or count false status result a h = h

next_decided : (count : ℕ) (cs : List Check) (a : Answer) → IsNext count a
    → IsNext count (decided cs a)
next_decided count [] a h = h
next_decided count (c ∷ cs) a h =
    next_or count c.fails c.status c.result (decided cs a) (next_decided count cs a h)

not_zero : (n : ℕ) → (n == 0) ≡ false → n ≡ 0 → ⊥
not_zero n off e = both_ways (n == 0) off (ap (λ (m : ℕ). m == 0) e)

next_connected : (t : Configuration) (cs : List ControllerRow) (id : ℕ) (e : Sqe) (d : ConnectData)
    (admin : Bool) → is_admin e ≡ admin
    → IsNext (length cs) (cond admin (Makes (bound_to t id (length cs + 1) d 0)
    (kept_name d.hostnqn)) (Joins (bound_to t id d.cntlid d (qid_of e))))
next_connected t cs id e d true is = (refl, refl)
next_connected t cs id e d false is = not_zero (qid_of e) is

next_connect : (t : Configuration) (cs : List ControllerRow) (id : ℕ) (e : Sqe) (d : ConnectData)
    → IsNext (length cs) (connect_answer t cs id e d)
unfolding connect_answer
next_connect t cs id e d = next_decided (length cs) (connect_checks t cs id e d)
    (connected t cs id e d) (next_connected t cs id e d (is_admin e) refl)

-- a connected queue makes and joins nothing
bound_next : (t : Configuration) (cs : List ControllerRow) (b : Binding) (e : Sqe)
    (payload : List ℕ) (x : Bound) (a : Answer) → control_answer t cs b e payload ≡ a
    → b.bound ≡ Some x → IsNext (length cs) a
bound_next t cs b e payload x (Refused fault) is there = tt
bound_next t cs b e payload x (Makes bound host) is there = absurd (none_some x
    (sym (accepted t cs b e payload (Makes bound host) bound is refl).unbound ∙ there))
bound_next t cs b e payload x (Joins bound) is there = absurd (none_some x
    (sym (accepted t cs b e payload (Joins bound) bound is refl).unbound ∙ there))
bound_next t cs b e payload x (Reads value) is there = tt
bound_next t cs b e payload x (Sets value) is there = tt

own_next : (t : Configuration) (cs : List ControllerRow) (b : Binding) (e : Sqe)
    (payload : List ℕ) (o : Option Bound) → b.bound ≡ o
    → IsNext (length cs) (control_answer t cs b e payload)
unfolding control_answer
own_next t cs b e payload None is = next_decided (length cs) (control_checks b e)
    (own_answer t cs b.port b.bound e payload)
    (subst (λ (o : Option Bound). IsNext (length cs) (own_answer t cs b.port o e payload)) (sym is)
    (next_connect t cs b.port e (connect_of payload)))
own_next t cs b e payload (Some x) is =
    bound_next t cs b e payload x (control_answer t cs b e payload) refl is

pub answer_next : (t : Configuration) (cs : List ControllerRow) (b : Binding) (e : Sqe)
    (payload : List ℕ) (a : Answer) → control_answer t cs b e payload ≡ a
    → IsNext (length cs) a
answer_next t cs b e payload a is = subst (λ (x : Answer). IsNext (length cs) x) is
    (own_next t cs b e payload b.bound refl)
