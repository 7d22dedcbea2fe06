-- What a fabrics command makes of its queue's binding is told by its reply.
use Rattle.std.proofs.Common.{◌≡◌, ℕ, zero, suc, ◌==◌, ◌||◌, not, Bool, true, false, cond, List, [], ◌∷◌, Option, Some, None, slice_set, refl, sym, ap, subst, ◌∙◌}
use Rattle.std.specs.List.{AllByRecursion, slice_get}
use Rattle.sqe_cqe.specs.Connect.{connect_of, is_long_property_of, property_offset_of}
use Rattle.sqe_cqe.specs.Sqe.{fctype_of}
use Rattle.sqe_cqe.specs.declared.codes.TheConstants.{SUCCESS, DATA_SGL_LENGTH_INVALID, PROPERTY_GET}
use Rattle.sqe_cqe.specs.declared.connect.ConnectData.{ConnectData}
use Rattle.sqe_cqe.specs.declared.controllers.Binding.{Binding as PlacedBinding}
use Rattle.sqe_cqe.specs.declared.controllers.Bound.{Bound as PlacedBound}
use Rattle.sqe_cqe.specs.declared.controllers.ControllerRow.{ControllerRow}
use Rattle.sqe_cqe.specs.declared.sqe.Sqe.{Sqe}
use Rattle.configfs_tree.specs.declared.configuration.Configuration.{Configuration}
use Rattle.fabrics_connect.specs.declared.answer.Answer.{Answer}
use Rattle.fabrics_connect.specs.declared.answer.Answer.TheVariants.{Refused, Makes, Joins, Reads, Sets}
use Rattle.fabrics_connect.specs.declared.registers.TheConstants.{OFFSET_CC}
use Rattle.fabrics_connect.specs.After.{completion_of, binding_after}
use Rattle.fabrics_connect.specs.Checks.{Check, check, refused, decided, is_admin, connect_checks, connected, connect_answer, read_answer, accessed, property_answer, property_answer_at, control_checks, own_answer, control_answer, numbered}
use Rattle.fabrics_connect.specs.Registers.{property_at}
use Rattle.tree_target.specs.declared.calls.Reply.{Reply}
use Rattle.tree_target.specs.declared.calls.Reply.TheVariants as replies
use Rattle.tree_target.specs.Controls.{placed, placed_bound, answer_on, bound_after, put_binding, subsystem_in, controlled, after_control}
use Rattle.tree_target.specs.Model.{Bound, Binding, Target, binding_in, binding_at}
use Rattle.tree_target.specs.Steps.{reply_of, changed}
use Rattle.target_states.specs.Bindings.{replied_to, bound_by, BindingsAreOfEntries}

-- ---- answers
module _ (P : Answer → Type 0) where
  decided_on : (c : Check) (rest : Answer) (b : Bool) → P (refused c.status c.result) → P rest
      → P (cond b (refused c.status c.result) rest)
  decided_on c rest true off fine = off
  decided_on c rest false off fine = fine

  decided_has : (checks : List Check) (accepted : Answer)
      → AllByRecursion (λ (c : Check). P (refused c.status c.result)) checks → P accepted
      → P (decided checks accepted)
  decided_has [] accepted all fine = fine
  decided_has (c ∷ checks) accepted all fine =
      decided_on c (decided checks accepted) c.fails all.0
      (decided_has checks accepted all.1 fine)

-- what a queue gets that isn't connected
abbrev Connects : Answer → Type 0
Connects (Refused fault) = (fault.status == SUCCESS) ≡ false
Connects (Makes bound host) = Unit {0}
Connects (Joins bound) = Unit {0}
Connects (Reads value) = ⊥
Connects (Sets value) = ⊥

connected_on : (b : Bool) (x y : Answer) → Connects x → Connects y → Connects (cond b x y)
connected_on true x y p q = p
connected_on false x y p q = q

connected_connects : (t : Configuration) (cs : List ControllerRow) (id : ℕ) (e : Sqe)
    (d : ConnectData) → Connects (connected t cs id e d)
connected_connects t cs id e d = connected_on (is_admin e) _ _ tt tt

connect_connects : (t : Configuration) (cs : List ControllerRow) (id : ℕ) (e : Sqe)
    (d : ConnectData) → Connects (connect_answer t cs id e d)
unfolding connect_answer
connect_connects t cs id e d =
    decided_has Connects (connect_checks t cs id e d) (connected t cs id e d)
    (refl, (refl, (refl, (refl, (refl, (refl, (refl, (refl, (refl, tt)))))))))
    (connected_connects t cs id e d)

unbound_connects : (t : Configuration) (cs : List ControllerRow) (b : PlacedBinding) (e : Sqe)
    (payload : List ℕ) → b.bound ≡ None → Connects (control_answer t cs b e payload)
unfolding control_answer
unbound_connects t cs b e payload none =
    decided_has Connects (control_checks b e) (own_answer t cs b.port b.bound e payload)
    (refl, (refl, tt))
    (subst (λ (o : Option PlacedBound). Connects (own_answer t cs b.port o e payload)) (sym none)
    (connect_connects t cs b.port e (connect_of payload)))

-- .. and one that is
abbrev Stays : Answer → Type 0
Stays (Refused fault) = Unit {0}
Stays (Makes bound host) = ⊥
Stays (Joins bound) = ⊥
Stays (Reads value) = Unit {0}
Stays (Sets value) = Unit {0}

stays_on : (b : Bool) (x y : Answer) → Stays x → Stays y → Stays (cond b x y)
stays_on true x y p q = p
stays_on false x y p q = q

read_stays : (o : Option ℕ) → Stays (read_answer o)
read_stays None = tt
read_stays (Some value) = tt

accessed_stays : (c : ControllerRow) (e : Sqe) → Stays (accessed c e)
accessed_stays c e =
    stays_on (fctype_of e == PROPERTY_GET) _ _
    (read_stays (property_at c (is_long_property_of e) (property_offset_of e)))
    (stays_on (is_long_property_of e || not (property_offset_of e == OFFSET_CC)) _ _ tt tt)

property_stays : (c : ControllerRow) (e : Sqe) → Stays (property_answer c e)
unfolding property_answer
property_stays c e =
    decided_has Stays (check (not (e.sgl_len == 0)) DATA_SGL_LENGTH_INVALID 0 ∷ []) (accessed c e)
    (tt, tt) (accessed_stays c e)

property_stays_at : (o : Option ControllerRow) (e : Sqe) → Stays (property_answer_at o e)
property_stays_at None e = tt
property_stays_at (Some c) e = property_stays c e

bound_stays : (t : Configuration) (cs : List ControllerRow) (b : PlacedBinding) (e : Sqe)
    (payload : List ℕ) (bound : PlacedBound) → b.bound ≡ Some bound
    → Stays (control_answer t cs b e payload)
unfolding control_answer
bound_stays t cs b e payload bound some =
    decided_has Stays (control_checks b e) (own_answer t cs b.port b.bound e payload)
    (tt, (tt, tt))
    (subst (λ (o : Option PlacedBound). Stays (own_answer t cs b.port o e payload)) (sym some)
    (property_stays_at (numbered cs bound.ctrl) e))

-- ---- what the reply tells of them
abbrev cqe_on : Configuration → Sqe → Binding → Answer → Reply
cqe_on t e b a = replies.Answered (completion_of (placed t b) e a)

told_unbound : (t : Configuration) (e : Sqe) (payload : List ℕ) (port : ℕ) (a : Answer)
    → Connects a
    → bound_after (record { port = port; bound = None }) (subsystem_in payload) a
    ≡ replied_to payload (record { port = port; bound = None })
    (cqe_on t e (record { port = port; bound = None }) a)
unfolding completion_of binding_after
told_unbound t e payload port (Refused fault) off =
    sym (ap (λ (b : Bool). unbound_or b) off)
  where
    unbound_or : Bool → Binding
    unbound_or b = record {
      port = port;
      bound = cond b (Some (record {
        controller = fault.result;
        qid = 0;
        subsystem = subsystem_in payload;
      })) None;
    }
told_unbound t e payload port (Makes bound host) off = refl
told_unbound t e payload port (Joins bound) off = refl
told_unbound t e payload port (Reads value) off = absurd off
told_unbound t e payload port (Sets value) off = absurd off

told_bound : (t : Configuration) (e : Sqe) (payload : List ℕ) (port : ℕ) (bound : Bound)
    (a : Answer) → Stays a
    → bound_after (record { port = port; bound = Some bound }) (subsystem_in payload) a
    ≡ replied_to payload (record { port = port; bound = Some bound })
    (cqe_on t e (record { port = port; bound = Some bound }) a)
told_bound t e payload port bound (Refused fault) fine = refl
told_bound t e payload port bound (Makes b host) fine = absurd fine
told_bound t e payload port bound (Joins b) fine = absurd fine
told_bound t e payload port bound (Reads value) fine = refl
told_bound t e payload port bound (Sets value) fine = refl

told : (t : Target) (e : Sqe) (payload : List ℕ) (port : ℕ) (o : Option Bound)
    → bound_after (record { port = port; bound = o }) (subsystem_in payload)
    (answer_on t e payload (record { port = port; bound = o }))
    ≡ replied_to payload (record { port = port; bound = o })
    (cqe_on t.tree e (record { port = port; bound = o })
    (answer_on t e payload (record { port = port; bound = o })))
told t e payload port None =
    let b : Binding = record { port = port; bound = None } in
    told_unbound t.tree e payload port (answer_on t e payload b)
    (unbound_connects t.tree t.controllers (placed t.tree b) e payload refl)
told t e payload port (Some bound) =
    let b : Binding = record { port = port; bound = Some bound } in
    told_bound t.tree e payload port bound (answer_on t e payload b)
    (bound_stays t.tree t.controllers (placed t.tree b) e payload
    (placed_bound t.tree port bound) refl)

-- ---- the list of bindings
no_binding : (b : Binding) → None ≡ Some b → ⊥
no_binding b e = cc

set_at : (bs : List Binding) (i : ℕ) (x y : Binding) → slice_get bs i ≡ Some x
    → slice_get (slice_set bs i y) i ≡ Some y
set_at [] i x y e = absurd (no_binding x e)
set_at (b ∷ bs) zero x y e = refl
set_at (b ∷ bs) (suc i) x y e = set_at bs i x y e

put_at : (bs : List Binding) (queue : ℕ) (x y : Binding) → binding_in bs queue ≡ Some x
    → binding_in (put_binding bs queue y) queue ≡ Some y
put_at bs zero x y e = absurd (no_binding x e)
put_at bs (suc q) x y e = set_at bs q x y e

after_told : (t : Target) (queue : ℕ) (e : Sqe) (payload : List ℕ) (o : Option Binding)
    → binding_at t queue ≡ o
    → binding_in (after_control t queue e payload o).bindings queue
    ≡ bound_by payload (controlled t e payload o) o
after_told t queue e payload None is = is
after_told t queue e payload (Some b) is =
    put_at t.bindings queue b (bound_after b (subsystem_in payload) (answer_on t e payload b)) is
    ∙ ap (λ (x : Binding). Some x) (told t e payload b.port b.bound)

pub of_entries : BindingsAreOfEntries
unfolding reply_of changed
of_entries t queue number e payload = after_told t queue e payload (binding_at t queue) refl
