-- How the list of held commands changes, as the running table counts it.
use Rattle.std.proofs.Common.{◌≡◌, ◌≢◌, ℕ, zero, suc, ◌+◌, Bool, true, false, cond, List, [], ◌∷◌, ◌++◌, map, Option, Some, None, is_some, refl, sym, ap, ◌∙◌, arith}
use Rattle.std.specs.List.{find}
use Rattle.std.proofs.lemmas.List.{map-append}
use Rattle.ref_state.specs.declared.kinds.Tag.{Tag}
use Rattle.ref_state.specs.State.{total}
use Rattle.ref_state.specs.Steps.{first}
use Rattle.ref_state.proofs.Lists.{total_append}
use Rattle.table_rule.specs.Meant.{of_pair, is_on, is_named}
use Rattle.tree_target.specs.declared.calls.Command.{Command}
use Rattle.tree_target.specs.Edits.{disables}
use Rattle.tree_target.specs.Model.{Execute, Poll, Control, AnEdit, DrainEnd, Target, is_command, held_at}
use Rattle.tree_target.specs.Admission.{Admission, Completes, Waits, Holds, admission}
use Rattle.tree_target.specs.Steps.{changed, target_after, without, after_submit, after_execute}
use Rattle.tree_target.specs.Held.{held_by, held_disk}
use Rattle.tree_target.proofs.Holding.{held_change}
use Rattle.target_states.specs.Inputs.{Inputs, call_by, end_of}
use Rattle.target_states.specs.States.{stepped, held_on, waiting, commands_at}

abbrev tag_of : ℕ → ℕ → ℕ → Tag
tag_of kind caller number = record { kind = kind; caller = caller; number = number }

abbrev weight : (Tag → ℕ → ℕ) → Target → ℕ
weight f t = total (of_pair f) (commands_at t)

-- ---- a call that is no Execute
one_more : (f : Tag → ℕ → ℕ) (held : List Command) (h : Command)
    → total (of_pair f) (map waiting (held ++ h ∷ [])) ≡ total (of_pair f) (map waiting held)
    + of_pair f (waiting h)
one_more f held h =
    let parts : map waiting (held ++ h ∷ []) ≡ map waiting held ++ waiting h ∷ [] =
    map-append waiting held (h ∷ []) in
    let sum = total_append (of_pair f) (map waiting held) (waiting h ∷ []) in
    ap (total (of_pair f)) parts ∙ (sum ∙ omega arith)

submit_adds : (t : Target) (f : Tag → ℕ → ℕ) (queue number cid : ℕ) (a : Admission)
    → weight f (after_submit t queue number cid a) ≡ weight f t
    + is_on f (tag_of 1 queue number) (held_by a)
submit_adds t f queue number cid (Completes status result bytes) = omega arith
submit_adds t f queue number cid Waits = omega arith
submit_adds t f queue number cid (Holds job) = one_more f t.held _

nothing_adds : (t u : Target) (f : Tag → ℕ → ℕ) → u.held ≡ t.held → weight f u ≡ weight f t + 0
nothing_adds t u f e =
    let same : weight f u ≡ weight f t = ap (λ (l : List Command). total (of_pair f) (map waiting l)) e in
    omega (arith, same)

end_adds : (t : Target) (f : Tag → ℕ → ℕ) (tag : Tag) (line : ℕ) (o : _)
    → weight f (stepped t (end_of line o)) ≡ weight f t + is_on f tag (held_on t (end_of line o))
unfolding held_disk
end_adds t f tag line None = nothing_adds t t f refl
end_adds t f tag line (Some s) =
    nothing_adds t (target_after t (DrainEnd line s.sub s.nsid)) f
    (held_change t (DrainEnd line s.sub s.nsid))

pub adds_by : (i : Inputs) (t : Target) (f : Tag → ℕ → ℕ) (kind caller number : ℕ) → kind ≢ 2
    → weight f (stepped t (call_by i kind caller number)) ≡ weight f t
    + is_on f (tag_of kind caller number) (held_on t (call_by i kind caller number))
unfolding changed held_disk
adds_by i t f zero caller number ne = nothing_adds t t f refl
adds_by i t f (suc zero) caller number ne =
    submit_adds t f caller number (i.entry caller number).cid
    (admission t caller (i.entry caller number))
adds_by i t f (suc (suc zero)) caller number ne = absurd (ne refl)
adds_by i t f (suc (suc (suc zero))) caller number ne =
    nothing_adds t (target_after t (Poll caller)) f (held_change t (Poll caller))
adds_by i t f (suc (suc (suc (suc zero)))) caller number ne =
    let call = Control caller number (i.entry caller number) (i.payload caller number) in
    nothing_adds t (target_after t call) f (held_change t call)
adds_by i t f (suc (suc (suc (suc (suc zero))))) caller number ne = nothing_adds t t f refl
adds_by i t f (suc (suc (suc (suc (suc (suc zero)))))) caller number ne =
    let call = AnEdit number (i.edit number) in
    nothing_adds t (target_after t call) f (held_change t call)
adds_by i t f (suc (suc (suc (suc (suc (suc (suc zero))))))) caller number ne =
    end_adds t f (tag_of 7 caller number) number (disables (i.edit number))
adds_by i t f (suc (suc (suc (suc (suc (suc (suc (suc kind)))))))) caller number ne =
    nothing_adds t t f refl

-- ---- an Execute
abbrev mapped : Option Command → Option (Tag × ℕ)
mapped None = None
mapped (Some h) = Some (waiting h)

first_on : (p : Tag × ℕ → Bool) (h : Command) (held : List Command) (b : Bool)
    → first p (map waiting held) ≡ mapped (find (λ x. p (waiting x)) held)
    → cond b (Some (waiting h)) (first p (map waiting held))
    ≡ mapped (cond b (Some h) (find (λ x. p (waiting x)) held))
first_on p h held true rest = refl
first_on p h held false rest = rest

first_waiting : (p : Tag × ℕ → Bool) (held : List Command)
    → first p (map waiting held) ≡ mapped (find (λ x. p (waiting x)) held)
first_waiting p [] = refl
first_waiting p (h ∷ held) = first_on p h held (p (waiting h)) (first_waiting p held)

-- the held command that an Execute takes
pub record Takes (t : Target) (queue number : ℕ) (x : Tag × ℕ) : Type 0 where
  pub command : Command
  pub held : held_at t queue number ≡ Some command
  pub is : x ≡ waiting command

some_same : (x y : Tag × ℕ) → Some x ≡ Some y → x ≡ y
some_same x y e = cc

none_same : (x : Tag × ℕ) → None ≡ Some x → ⊥
none_same x e = cc

takes_on : (t : Target) (queue number : ℕ) (x : Tag × ℕ) (o : Option Command)
    → held_at t queue number ≡ o → mapped o ≡ Some x → Takes t queue number x
takes_on t queue number x None is e = absurd (none_same x e)
takes_on t queue number x (Some h) is e =
    record { command = h; held = is; is = sym (some_same (waiting h) x e) }

pub takes : (t : Target) (tag : Tag) (x : Tag × ℕ)
    → first (λ (y : Tag × ℕ). is_named tag y.0) (commands_at t) ≡ Some x
    → Takes t tag.caller tag.number x
takes t tag x e = takes_on t tag.caller tag.number x (held_at t tag.caller tag.number) refl
    (sym (first_waiting (λ (y : Tag × ℕ). is_named tag y.0) t.held) ∙ e)

less_on : (f : Tag → ℕ → ℕ) (p : Command → Bool) (k h : Command) (held : List Command) (b : Bool)
    → cond b (Some k) (find p held) ≡ Some h
    → (find p held ≡ Some h → total (of_pair f) (map waiting (without p held))
    + of_pair f (waiting h) ≡ total (of_pair f) (map waiting held))
    → total (of_pair f) (map waiting (cond b held (k ∷ without p held))) + of_pair f (waiting h)
    ≡ of_pair f (waiting k) + total (of_pair f) (map waiting held)
less_on f p k h held true e rest =
    let same : of_pair f (waiting k) ≡ of_pair f (waiting h) =
    ap (λ (c : Command). of_pair f (waiting c)) (some_command k h e) in
    omega (arith, same)
  where
    some_command : (k h : Command) → Some k ≡ Some h → k ≡ h
    some_command k h e = cc
less_on f p k h held false e rest = let r = rest e in omega (arith, r)

less : (f : Tag → ℕ → ℕ) (p : Command → Bool) (held : List Command) (h : Command)
    → find p held ≡ Some h → total (of_pair f) (map waiting (without p held))
    + of_pair f (waiting h) ≡ total (of_pair f) (map waiting held)
less f p [] h e = absurd (no_command h e) where
  no_command : (h : Command) → None ≡ Some h → ⊥
  no_command h e = cc
less f p (k ∷ held) h e = less_on f p k h held (p k) e (less f p held h)

execute_less : (t : Target) (f : Tag → ℕ → ℕ) (queue number : ℕ) (payload : List ℕ)
    (o : Option Command) (h : Command) → held_at t queue number ≡ o → o ≡ Some h
    → weight f (after_execute t queue number payload o) + of_pair f (waiting h) ≡ weight f t
execute_less t f queue number payload None h is e = absurd (no_command h e) where
  no_command : (h : Command) → None ≡ Some h → ⊥
  no_command h e = cc
execute_less t f queue number payload (Some k) h is e =
    less f (is_command queue number) t.held h (is ∙ e)

pub execute_takes : (t : Target) (f : Tag → ℕ → ℕ) (queue number : ℕ) (payload : List ℕ)
    (x : Tag × ℕ) → Takes t queue number x
    → weight f (target_after t (Execute queue number payload)) + of_pair f x ≡ weight f t
unfolding changed
execute_takes t f queue number payload x k =
    let sum = execute_less t f queue number payload (held_at t queue number) k.command refl k.held
    in let same : of_pair f x ≡ of_pair f (waiting k.command) = ap (of_pair f) k.is in
    omega (arith, sum, same)

pub execute_lawful : (t : Target) (queue number : ℕ) (payload : List ℕ) (x : Tag × ℕ)
    → Takes t queue number x → is_some (held_at t queue number) ≡ true
execute_lawful t queue number payload x k = ap is_some k.held
