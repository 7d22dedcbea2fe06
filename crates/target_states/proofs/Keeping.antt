-- What holds of every state: disks keep their sizes, and what is held is what its capsule asks.
use Rattle.std.proofs.Common.{◌≡◌, ℕ, zero, suc, List, [], ◌∷◌, length, Option, Some, None, refl, sym, ap, subst, ◌∙◌}
use Rattle.std.specs.List.{AllByRecursion, slice_get}
use Rattle.mem_bdev.specs.Blocks.{Blocks}
use Rattle.io_commands.specs.declared.jobs.Job.{Job}
use Rattle.io_commands.specs.declared.jobs.Job.TheVariants.{Read, Write, Zero, Flush}
use Rattle.io_commands.specs.Jobs.{disk_of, taken_len, FitsDisk, HasData}
use Rattle.ref_state.specs.declared.kinds.Tag.{Tag}
use Rattle.tree_target.specs.declared.calls.Command.{Command}
use Rattle.tree_target.specs.Edits.{disables}
use Rattle.tree_target.specs.Model.{Call, Submit, Execute, Poll, Control, AnEdit, DrainEnd, Target, is_command, held_at}
use Rattle.tree_target.specs.Admission.{Admission, Completes, Waits, Holds, admission}
use Rattle.tree_target.specs.Steps.{changed, target_after, worked, after_submit, after_execute, command_of}
use Rattle.tree_target.specs.Kept.{FitsOn, HasDataOn}
use Rattle.tree_target.proofs.HeldList.{all_snoc, all_without, found_has, passes, both_true, eqb_is}
use Rattle.tree_target.proofs.Holding.{held_change}
use Rattle.tree_target.proofs.Shapes.{Shape, shape_of, worked_shape}
use Rattle.target_states.specs.Inputs.{call_by, end_of}
use Rattle.target_states.specs.States.{Begun, stepped, state}
use Rattle.target_states.specs.Sizes.{asked_of, size_of, size_at, IsStart, IsAsked, IsKept}
use Rattle.target_states.proofs.Admitting.{admitted}
use Rattle.target_states.proofs.Changes.{NoExecute, blocks_left, sizes_of}

-- ---- sizes
abbrev size_by : Option Shape → Option (ℕ × ℕ)
size_by None = None
size_by (Some s) = Some (s.shift, s.count)

size_is : (o : Option Blocks) → size_of o ≡ size_by (shape_of o)
size_is None = refl
size_is (Some d) = refl

some_pair : (a b : ℕ × ℕ) → Some a ≡ Some b → a ≡ b
some_pair a b e = cc

no_pair : (a : ℕ × ℕ) → None ≡ Some a → ⊥
no_pair a e = cc

-- a disk of this size
pub record HasSize (o : Option Blocks) (shift count : ℕ) : Type 0 where
  pub disk : Blocks
  pub is : o ≡ Some disk
  pub shift_is : disk.shift ≡ shift
  pub count_is : length disk.blocks ≡ count

pub has_size : (o : Option Blocks) (shift count : ℕ) → size_of o ≡ Some (shift, count)
    → HasSize o shift count
has_size None shift count e = absurd (no_pair (shift, count) e)
has_size (Some d) shift count e =
    let a : ℕ × ℕ = (d.shift, length d.blocks) in
    let b : ℕ × ℕ = (shift, count) in
    let same : a ≡ b = some_pair a b e in
    record {
      disk = d;
      is = refl;
      shift_is = ap (λ (p : ℕ × ℕ). p.0) same;
      count_is = ap (λ (p : ℕ × ℕ). p.1) same;
    }

fits_on : (job : Job) (o : Option Blocks) (shift count : ℕ) → HasSize o shift count
    → FitsDisk job shift count → FitsOn job o
fits_on job o shift count h fits =
    subst (FitsOn job) (sym h.is)
    (subst (λ (n : ℕ). FitsDisk job n (length h.disk.blocks)) (sym h.shift_is)
    (subst (λ (n : ℕ). FitsDisk job shift n) (sym h.count_is) fits))

data_on : (job : Job) (o : Option Blocks) (len shift count : ℕ) → HasSize o shift count
    → HasData job shift len → HasDataOn job o len
data_on job o len shift count h asked =
    subst (λ (x : Option Blocks). HasDataOn job x len) (sym h.is)
    (subst (λ (n : ℕ). HasData job n len) (sym h.shift_is) asked)

data_taken : (job : Job) (shift len : ℕ) → len ≡ taken_len job shift → HasData job shift len
data_taken (Read disk lba count) shift len e = tt
data_taken (Write disk lba count) shift len e = e
data_taken (Zero disk lba count) shift len e = tt
data_taken (Flush disk) shift len e = tt

-- ---- one call
module _ (g : Begun) (start : IsStart g) where
  abbrev Asked : Command → Type 0
  Asked h = IsAsked g.inputs g.target.blocks h

  one_asked : (t : Target) (queue number : ℕ) (job : Job) → IsKept g t
      → admission t queue (g.inputs.entry queue number) ≡ Holds job
      → Asked (command_of queue number (g.inputs.entry queue number).cid job)
  one_asked t queue number job k is =
      let e = g.inputs.entry queue number in
      let a = admitted t queue e job is in
      let there : size_at t.blocks a.row.disk ≡ Some (a.disk.shift, length a.disk.blocks) =
      ap size_of a.there in
      record {
        shift = a.row.shift;
        count = a.row.blocks;
        there = ap (size_at g.target.blocks) a.is_job.disk
            ∙ (sym (k.sizes a.row.disk)
            ∙ (there ∙ (λ i. Some ((sym a.shift) i, (sym a.count) i))));
        job_is = a.asked ∙ ap (asked_of e) (sym a.is_job.disk);
        cid_is = refl;
        fits = a.is_job.fits;
        has_data = data_taken job a.row.shift (length (g.inputs.payload queue number))
            (start.whole queue number ∙ sym a.is_job.taken);
      }

  submit_asked : (t : Target) (queue number : ℕ) (a : Admission) → IsKept g t
      → admission t queue (g.inputs.entry queue number) ≡ a
      → AllByRecursion Asked
      (after_submit t queue number (g.inputs.entry queue number).cid a).held
  submit_asked t queue number (Completes status result bytes) k is = k.asked
  submit_asked t queue number Waits k is = k.asked
  submit_asked t queue number (Holds job) k is =
      all_snoc Asked t.held (command_of queue number (g.inputs.entry queue number).cid job) k.asked
      (one_asked t queue number job k is)

  submit_kept : (t : Target) (queue number : ℕ) → IsKept g t
      → IsKept g (target_after t (Submit queue number (g.inputs.entry queue number)))
  unfolding changed
  submit_kept t queue number k =
      let e = g.inputs.entry queue number in
      record {
        sizes = λ disk. sizes_of _ _ (blocks_left t (Some (Submit queue number e)) tt) disk
            ∙ k.sizes disk;
        asked = submit_asked t queue number (admission t queue e) k refl;
      }

  -- the command that an Execute takes
  pub taken_asked : (t : Target) (queue number : ℕ) (h : Command) → IsKept g t
      → held_at t queue number ≡ Some h → Asked h × (h.queue ≡ queue) × (h.number ≡ number)
  taken_asked t queue number h k is =
      let b = both_true _ _ (passes (is_command queue number) t.held h is) in (
        found_has Asked (is_command queue number) t.held h k.asked is,
        eqb_is h.queue queue b.0,
        eqb_is h.number number b.1,
      )

  -- .. has the data of its capsule
  own_data : (h : Command) (queue number shift : ℕ) → h.queue ≡ queue → h.number ≡ number
      → HasData h.job shift (length (g.inputs.payload h.queue h.number))
      → HasData h.job shift (length (g.inputs.payload queue number))
  own_data h queue number shift q n asked =
      subst (λ (x : ℕ). HasData h.job shift (length (g.inputs.payload queue x))) n
      (subst (λ (x : ℕ). HasData h.job shift (length (g.inputs.payload x h.number))) q asked)

  -- a disk on which a command is held
  pub record OnDisk (t : Target) (h : Command) (len : ℕ) : Type 0 where
    pub shift : ℕ
    pub count : ℕ
    pub began : size_at g.target.blocks (disk_of h.job) ≡ Some (shift, count)
    pub size : HasSize (slice_get t.blocks (disk_of h.job)) shift count
    pub job_is : h.job ≡ asked_of (g.inputs.entry h.queue h.number) (disk_of h.job)
    pub cid_is : h.cid ≡ (g.inputs.entry h.queue h.number).cid
    pub fits : FitsDisk h.job shift count
    pub has_data : HasData h.job shift len

  pub taken_on : (t : Target) (queue number : ℕ) (h : Command) → IsKept g t
      → held_at t queue number ≡ Some h → OnDisk t h (length (g.inputs.payload queue number))
  taken_on t queue number h k is =
      let a = taken_asked t queue number h k is in
      record {
        shift = a.0.shift;
        count = a.0.count;
        began = a.0.there;
        job_is = a.0.job_is;
        cid_is = a.0.cid_is;
        size = has_size (slice_get t.blocks (disk_of h.job)) a.0.shift a.0.count
            (k.sizes (disk_of h.job) ∙ a.0.there);
        fits = a.0.fits;
        has_data = own_data h queue number a.0.shift a.1 a.2 a.0.has_data;
      }

  worked_sizes : (t : Target) (queue number : ℕ) (h : Command) → IsKept g t
      → held_at t queue number ≡ Some h → (disk : ℕ)
      → size_at (worked h.job (g.inputs.payload queue number) t.blocks) disk
      ≡ size_at t.blocks disk
  worked_sizes t queue number h k is disk =
      let o = taken_on t queue number h k is in
      let payload = g.inputs.payload queue number in
      let there = slice_get t.blocks (disk_of h.job) in
      size_is (slice_get (worked h.job payload t.blocks) disk)
      ∙ (ap size_by (worked_shape h.job payload t.blocks disk
      (fits_on h.job there o.shift o.count o.size o.fits)
      (data_on h.job there (length payload) o.shift o.count o.size o.has_data))
      ∙ sym (size_is (slice_get t.blocks disk)))

  execute_on : (t : Target) (queue number : ℕ) (h : Option Command) → IsKept g t
      → held_at t queue number ≡ h
      → IsKept g (after_execute t queue number (g.inputs.payload queue number) h)
  execute_on t queue number None k is = k
  execute_on t queue number (Some h) k is = record {
    sizes = λ disk. worked_sizes t queue number h k is disk ∙ k.sizes disk;
    asked = all_without Asked (is_command queue number) t.held k.asked;
  }

  along : (t u : Target) → u.blocks ≡ t.blocks → u.held ≡ t.held → IsKept g t → IsKept g u
  along t u blocks held k = record {
    sizes = λ disk. sizes_of _ _ blocks disk ∙ k.sizes disk;
    asked = subst (AllByRecursion Asked) (sym held) k.asked;
  }

  execute_kept : (t : Target) (queue number : ℕ) → IsKept g t
      → IsKept g (target_after t (Execute queue number (g.inputs.payload queue number)))
  unfolding changed
  execute_kept t queue number k =
      let h = held_at t queue number in
      let payload = g.inputs.payload queue number in
      along (after_execute t queue number payload h)
      (target_after t (Execute queue number payload)) refl refl
      (execute_on t queue number h k refl)

  -- a call that is neither
  other_kept : (t : Target) (call : Call) → NoExecute (Some call)
      → (target_after t call).held ≡ t.held → IsKept g t → IsKept g (target_after t call)
  other_kept t call own held k =
      along t (target_after t call) (blocks_left t (Some call) own) held k

  end_kept : (t : Target) (line : ℕ) (o : _) → IsKept g t → IsKept g (stepped t (end_of line o))
  end_kept t line None k = k
  end_kept t line (Some s) k = other_kept t (DrainEnd line s.sub s.nsid) tt
      (held_change t (DrainEnd line s.sub s.nsid)) k

  kept_by : (t : Target) (kind caller number : ℕ) → IsKept g t
      → IsKept g (stepped t (call_by g.inputs kind caller number))
  kept_by t zero caller number k = k
  kept_by t (suc zero) caller number k = submit_kept t caller number k
  kept_by t (suc (suc zero)) caller number k = execute_kept t caller number k
  kept_by t (suc (suc (suc zero))) caller number k =
      other_kept t (Poll caller) tt (held_change t (Poll caller)) k
  kept_by t (suc (suc (suc (suc zero)))) caller number k =
      let call = Control caller number (g.inputs.entry caller number)
      (g.inputs.payload caller number) in
      other_kept t call tt (held_change t call) k
  kept_by t (suc (suc (suc (suc (suc zero))))) caller number k = k
  kept_by t (suc (suc (suc (suc (suc (suc zero)))))) caller number k =
      let call = AnEdit number (g.inputs.edit number) in
      other_kept t call tt (held_change t call) k
  kept_by t (suc (suc (suc (suc (suc (suc (suc zero))))))) caller number k =
      end_kept t number (disables (g.inputs.edit number)) k
  kept_by t (suc (suc (suc (suc (suc (suc (suc (suc kind)))))))) caller number k = k

  pub started : IsKept g g.target
  started = record {
    sizes = λ disk. refl;
    asked = subst (AllByRecursion Asked) (sym start.idle) tt;
  }

  pub states_kept : (tags : List Tag) → IsKept g (state g tags)
  states_kept [] = started
  states_kept (tag ∷ tags) = kept_by (state g tags) tag.kind tag.caller tag.number
      (states_kept tags)
