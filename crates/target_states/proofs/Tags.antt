-- The laws that a meaning of the running table has, call by call.
use Rattle.std.proofs.Common.{◌≡◌, ◌≢◌, ℕ, zero, suc, ◌+◌, ◌<◌, ◌≤◌, ◌/◌, ◌%◌, ◌==◌, ◌&&◌, not, true, false, List, [], ◌∷◌, length, map, Option, Some, None, refl, sym, ap, subst, ◌∙◌, arith}
use Rattle.std.specs.List.{slice_get}
use Rattle.std.proofs.lemmas.Option.{slice_get_within}
use Rattle.mem_bdev.specs.Blocks.{Blocks}
use Rattle.ref_state.specs.declared.kinds.Tag.{Tag}
use Rattle.ref_state.specs.State.{total}
use Rattle.ref_state.specs.Steps.{first}
use Rattle.table_rule.specs.Meant.{of_pair, is_on, is_named}
use Rattle.io_commands.specs.declared.jobs.Job.{Job}
use Rattle.io_commands.specs.Jobs.{disk_of}
use Rattle.disk_extents.specs.Extents.{Part}
use Rattle.tree_target.specs.declared.calls.Command.{Command}
use Rattle.tree_target.specs.Edits.{disables}
use Rattle.tree_target.specs.Model.{Call, Execute, Target, held_at}
use Rattle.tree_target.specs.Admission.{Admission, Completes, Waits, Holds, admission}
use Rattle.tree_target.specs.Steps.{changed, target_after, worked, after_execute}
use Rattle.tree_target.specs.Held.{held_by, held_disk}
use Rattle.target_states.specs.Inputs.{Inputs, call_by, call_of, end_of}
use Rattle.target_states.specs.States.{Begun, stepped, state, may_take, held_on, fixed_at, desk_at, waiting, commands_at}
use Rattle.target_states.specs.Sizes.{asked_of, size_of, size_at, IsStart}
use Rattle.target_states.specs.Extents.{slot_in, StandsAt, is_touched, touches_of}
use Rattle.target_states.proofs.Changes.{blocks_left, fixed_by_desk, desk_left, no_execute, is_queues, executes_as}
use Rattle.target_states.proofs.Keeping.{has_size, taken_on, states_kept}
use Rattle.target_states.proofs.Commands.{adds_by, Takes, takes, execute_takes, execute_lawful}
use Rattle.target_states.proofs.Slots.{worked_left}

-- ---- what is held
-- a held submit's job
pub record HoldsOn (t : Target) (a : Admission) (disk : ℕ) : Type 0 where
  pub job : Job
  pub is : a ≡ Holds job
  pub on : disk_of job ≡ disk

no_number : (a : ℕ) → None ≡ Some a → ⊥
no_number a e = cc

some_number : (a b : ℕ) → Some a ≡ Some b → a ≡ b
some_number a b e = cc

pub holds_on : (t : Target) (a : Admission) (disk : ℕ) → held_by a ≡ Some disk
    → HoldsOn t a disk
holds_on t (Completes status result bytes) disk e = absurd (no_number disk e)
holds_on t Waits disk e = absurd (no_number disk e)
holds_on t (Holds job) disk e =
    record { job = job; is = refl; on = some_number (disk_of job) disk e }

end_holds : (t : Target) (line : ℕ) (o : _) (disk : ℕ) → held_on t (end_of line o) ≡ Some disk
    → ⊥
unfolding held_disk
end_holds t line None disk e = no_number disk e
end_holds t line (Some s) disk e = no_number disk e

-- the number of a disk of these is below 64
abbrev pub FewDisks : List Blocks → Type 0
FewDisks blocks = (i : ℕ) (d : Blocks) → slice_get blocks i ≡ Some d → i < 64

pub few_by : (blocks : List Blocks) → length blocks ≤ 64 → FewDisks blocks
few_by blocks few i d there =
    let low = slice_get_within blocks i d there in
    omega (arith, low, few)

module _ (g : Begun) (start : IsStart g) where
  -- a disk of a state is one of the start's
  pub few_in : (tags : List Tag) → FewDisks (state g tags).blocks
  few_in tags disk d there =
      let k = states_kept g start tags in
      let size : size_at g.target.blocks disk ≡ Some (d.shift, length d.blocks) =
      sym (k.sizes disk) ∙ ap size_of there in
      let h = has_size (slice_get g.target.blocks disk) d.shift (length d.blocks) size in
      few_by g.target.blocks start.few_disks disk h.disk h.is

  -- ---- the sizes of all states are those of the start
  pub same_sizes : (a b : List Tag) (disk : ℕ)
      → size_at (state g a).blocks disk ≡ size_at (state g b).blocks disk
  same_sizes a b disk =
      (states_kept g start a).sizes disk ∙ sym ((states_kept g start b).sizes disk)

  -- ---- the laws
  -- what is held is a submit's
  pub held_by_kind : (t : Target) (kind caller number disk : ℕ)
      → held_on t (call_by g.inputs kind caller number) ≡ Some disk
      → (kind ≡ 1) × (held_by (admission t caller (g.inputs.entry caller number)) ≡ Some disk)
  unfolding held_disk
  held_by_kind t zero caller number disk e = absurd (no_number disk e)
  held_by_kind t (suc zero) caller number disk e = (refl, e)
  held_by_kind t (suc (suc zero)) caller number disk e = absurd (no_number disk e)
  held_by_kind t (suc (suc (suc zero))) caller number disk e = absurd (no_number disk e)
  held_by_kind t (suc (suc (suc (suc zero)))) caller number disk e =
      absurd (no_number disk e)
  held_by_kind t (suc (suc (suc (suc (suc zero))))) caller number disk e =
      absurd (no_number disk e)
  held_by_kind t (suc (suc (suc (suc (suc (suc zero)))))) caller number disk e =
      absurd (no_number disk e)
  held_by_kind t (suc (suc (suc (suc (suc (suc (suc zero))))))) caller number disk e =
      absurd (end_holds t number (disables (g.inputs.edit number)) disk e)
  held_by_kind t (suc (suc (suc (suc (suc (suc (suc (suc kind)))))))) caller number disk e =
      absurd (no_number disk e)

  pub adds : (tags : List Tag) (tag : Tag) (f : Tag → ℕ → ℕ) → tag.kind ≢ 2
      → total (of_pair f) (commands_at (state g (tag ∷ tags)))
      ≡ total (of_pair f) (commands_at (state g tags))
      + is_on f tag (held_on (state g tags) (call_of g.inputs tag))
  adds tags tag f ne =
      adds_by g.inputs (state g tags) f tag.kind tag.caller tag.number ne

  pub leaves : (tags : List Tag) (tag : Tag) (n : ℕ) (x : Part) → tag.kind ≢ 2
      → StandsAt x n (state g tags) → StandsAt x n (state g (tag ∷ tags))
  leaves tags tag n x ne h =
      ap (λ (bs : List Blocks). slot_in bs n) (blocks_left (state g tags) (call_of g.inputs tag)
      (no_execute g.inputs tag.kind tag.caller tag.number ne)) ∙ h

  -- the disks after an Execute
  pub execute_blocks : (t : Target) (queue number : ℕ) (payload : List ℕ) (h : Command)
      → held_at t queue number ≡ Some h
      → (target_after t (Execute queue number payload)).blocks ≡ worked h.job payload t.blocks
  unfolding changed
  execute_blocks t queue number payload h is =
      ap (λ (o : Option Command). (after_execute t queue number payload o).blocks) is

  touched_at : (queue number disk n shift count : ℕ) (job : Job)
      → size_at g.target.blocks disk ≡ Some (shift, count)
      → job ≡ asked_of (g.inputs.entry queue number) disk
      → touches_of g (record { kind = 1; caller = queue; number = number }) disk n ≡ false
      → ((n / 8 == disk) && is_touched job (n % 8) (Some (shift, count))) ≡ false
  touched_at queue number disk n shift count job size is off =
      (λ i. (n / 8 == disk) && is_touched (is i) (n % 8) ((sym size) i)) ∙ off

  untouched : (tags : List Tag) (queue number n : ℕ) (x : Tag × ℕ)
      → (k : Takes (state g tags) queue number x) → touches_of g x.0 x.1 n ≡ false
      → slot_in (target_after (state g tags) (Execute queue number
      (g.inputs.payload queue number))).blocks n ≡ slot_in (state g tags).blocks n
  untouched tags queue number n x k off =
      let t = state g tags in
      let payload = g.inputs.payload queue number in
      let h = k.command in
      let o = taken_on g start t queue number h (states_kept g start tags) k.held in
      let here : touches_of g (waiting h).0 (waiting h).1 n ≡ false =
      subst (λ (y : Tag × ℕ). touches_of g y.0 y.1 n ≡ false) k.is off in
      ap (λ (bs : List Blocks). slot_in bs n) (execute_blocks t queue number payload h k.held)
      ∙ worked_left t.blocks h.job payload n o.shift o.count o.size o.fits o.has_data
      (touched_at h.queue h.number (disk_of h.job) n o.shift o.count h.job o.began o.job_is here)

  pub removes : (tags : List Tag) (tag : Tag) (x : Tag × ℕ) → tag.kind ≡ 2
      → first (λ (y : Tag × ℕ). is_named tag y.0) (commands_at (state g tags)) ≡ Some x
      → (may_take (state g tags) tag.kind (call_of g.inputs tag) ≡ true)
      × ((f : Tag → ℕ → ℕ) → total (of_pair f) (commands_at (state g (tag ∷ tags)))
      + of_pair f x ≡ total (of_pair f) (commands_at (state g tags)))
      × ((n : ℕ) (y : Part) → touches_of g x.0 x.1 n ≡ false → StandsAt y n (state g tags)
      → StandsAt y n (state g (tag ∷ tags)))
  removes tags tag x two e =
      let t = state g tags in
      let payload = g.inputs.payload tag.caller tag.number in
      let is = executes_as g.inputs tag.kind tag.caller tag.number two in
      let k = takes t tag x e in (
        ap (may_take t tag.kind) is ∙ execute_lawful t tag.caller tag.number payload x k,
        (λ f. ap (λ (c : Option Call). total (of_pair f) (commands_at (stepped t c)) + of_pair f x)
            is ∙ execute_takes t f tag.caller tag.number payload x k),
        λ n y off h. ap (λ (c : Option Call). slot_in (stepped t c).blocks n) is
            ∙ (untouched tags tag.caller tag.number n x k off ∙ h),
      )

  pub stays : (tags : List Tag) (tag : Tag) → tag.kind < 4
      → desk_at (state g (tag ∷ tags)) ≡ desk_at (state g tags)
  stays tags tag near =
      desk_left (state g tags) (call_of g.inputs tag)
      (is_queues g.inputs tag.kind tag.caller tag.number near)

  pub queues_fixed : (tags : List Tag) (tag : Tag) → tag.kind < 4
      → fixed_at (state g (tag ∷ tags)) ≡ fixed_at (state g tags)
  queues_fixed tags tag near =
      fixed_by_desk (state g tags) (state g (tag ∷ tags)) (stays tags tag near)

  pub free : commands_at g.target ≡ []
  free = ap (λ (held : List Command). map waiting held) start.idle

not_done : (k : ℕ) → not (suc (suc (suc (suc (suc (suc (suc (suc k))))))) == 7) ≡ true
not_done k = grind arith

pub always : (i : Inputs) (t : Target) (kind caller number : ℕ) → kind ≢ 2 → kind ≢ 7
    → may_take t kind (call_by i kind caller number) ≡ true
always i t zero caller number two seven = refl
always i t (suc zero) caller number two seven = refl
always i t (suc (suc zero)) caller number two seven = absurd (two refl)
always i t (suc (suc (suc zero))) caller number two seven = refl
always i t (suc (suc (suc (suc zero)))) caller number two seven = refl
always i t (suc (suc (suc (suc (suc zero))))) caller number two seven = refl
always i t (suc (suc (suc (suc (suc (suc zero)))))) caller number two seven = refl
always i t (suc (suc (suc (suc (suc (suc (suc zero))))))) caller number two seven =
    absurd (seven refl)
always i t (suc (suc (suc (suc (suc (suc (suc (suc kind)))))))) caller number two seven =
    not_done kind
