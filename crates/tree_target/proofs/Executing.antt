-- The execute of a held command.
use Rattle.std.proofs.Common.{◌≡◌, ℕ, ◌<◌, ◌≤◌, IsTrue, List, length, Option, Some, None, is_some, refl, sym, ap, subst, ◌∙◌, slice_get, arith}
use Rattle.std.specs.List.{find}
use Rattle.std.proofs.lemmas.Option.{slice_get_within}
use Rattle.mem_bdev.specs.Blocks.{Blocks}
use Rattle.mem_bdev.specs.declared.limits.TheConstants.{MAX_TRANSFER}
use Rattle.sqe_cqe.specs.declared.codes.TheConstants.{SUCCESS}
use Rattle.io_commands.specs.declared.jobs.Job.{Job}
use Rattle.io_commands.specs.Jobs.{disk_of}
use Rattle.tree_target.specs.declared.calls.Command.{Command}
use Rattle.tree_target.specs.Model.{Execute, Target, held_at, is_command}
use Rattle.tree_target.specs.Steps.{reply_of, bytes_of, changed, executed, bytes_executed, read_of, without, worked, after_execute}
use Rattle.tree_target.specs.Kept.{Kept, IsKept, IsIdle, IsNumbered, LeavesOthers, Fits, FitsOn, HasDataOn, HasDataOf, HasHeldData, given_on, given_of, bound_in, qid_from, answered, held_reply, held_bytes, held_len, command_at, reply_to}
use Rattle.tree_target.specs.Stands.{StandsFor, Does, Simulates}
use Rattle.tree_target.proofs.HeldList.{all_without, all_along, single_without, found_has, idle_taken, others_found, others_idle}
use Rattle.tree_target.proofs.Shapes.{shape_of, worked_shape, worked_len, fits_along, data_along, given_along}
use Rattle.tree_target.proofs.Simulating.{stands_after}
use Rattle.tree_target.proofs.Admitting.{qid_is}

-- ---- the disk of a job
there : (blocks : List Blocks) (i : ℕ) (job : Job) (d : Option Blocks) → slice_get blocks i ≡ d
    → FitsOn job d → i < length blocks
there blocks i job None e f = absurd f
there blocks i job (Some d) e f = slice_get_within blocks i d e

pub within : (blocks : List Blocks) (job : Job) → FitsOn job (slice_get blocks (disk_of job))
    → disk_of job < length blocks
within blocks job f = there blocks (disk_of job) job (slice_get blocks (disk_of job)) refl f

given_short : (job : Job) (o : Option Blocks) → FitsOn job o → given_on job o ≤ MAX_TRANSFER
given_short job None f = absurd f
given_short job (Some d) f = f.given

pub held_fits : (k : Kept) (room queue number : ℕ) (h : Command) → IsKept k room
    → find (is_command queue number) k.held ≡ Some h → Fits k.blocks h
held_fits k room queue number h s e =
    found_has (Fits k.blocks) (is_command queue number) k.held h s.holds.fit e

-- ---- the call
abbrev pub executed_kept : Kept → ℕ → ℕ → List ℕ → Command → Kept
executed_kept k queue number payload h = record k {
  held = without (is_command queue number) k.held;
  blocks = worked h.job payload k.blocks;
}

executed_on : (k : Kept) (t : Target) (queue number : ℕ) (payload : List ℕ) (h : Command)
    → held_at t queue number ≡ Some h → StandsFor k t
    → Does t (Execute queue number payload)
    (answered (qid_from (bound_in k.bindings queue)) h.cid SUCCESS)
    (read_of h.job (slice_get k.blocks (disk_of h.job)))
    (executed_kept k queue number payload h)
unfolding reply_of bytes_of changed
executed_on k t queue number payload h is st = record {
  lawful = ap is_some is;
  reply_is = ap (executed t queue) is
      ∙ ap (λ (q : ℕ). answered q h.cid SUCCESS) (qid_is k t queue st);
  bytes_are = ap (bytes_executed t.blocks) is
      ∙ ap (λ (b : List Blocks). read_of h.job (slice_get b (disk_of h.job))) st.blocks;
  stands = stands_after (executed_kept k queue number payload h) t
      (record t {
        held = without (is_command queue number) t.held;
        blocks = worked h.job payload t.blocks;
      })
      (Execute queue number payload)
      (ap (after_execute t queue number payload) is)
      (record {
        tree = st.tree;
        controllers = st.controllers;
        blocks = ap (worked h.job payload) st.blocks;
        bindings = st.bindings;
        held = ap (without (is_command queue number)) st.held;
        events = st.events;
        stamps = st.stamps;
      });
}

pub executes : (k : Kept) (queue number : ℕ) (payload : List ℕ) (h : Command)
    → find (is_command queue number) k.held ≡ Some h
    → Simulates k (Execute queue number payload)
    (answered (qid_from (bound_in k.bindings queue)) h.cid SUCCESS) (held_bytes k queue number)
    (executed_kept k queue number payload h)
executes k queue number payload h e t st =
    subst (λ (bs : List ℕ). Does t (Execute queue number payload)
    (answered (qid_from (bound_in k.bindings queue)) h.cid SUCCESS) bs
    (executed_kept k queue number payload h)) (sym (ap (bytes_executed k.blocks) e))
    (executed_on k t queue number payload h (ap (find (is_command queue number)) st.held ∙ e) st)

pub reply_is : (k : Kept) (queue number : ℕ) (h : Command)
    → find (is_command queue number) k.held ≡ Some h
    → answered (qid_from (bound_in k.bindings queue)) h.cid SUCCESS ≡ held_reply k queue number
reply_is k queue number h e =
    sym (ap (reply_to (qid_from (bound_in k.bindings queue))) e)

pub bytes_are : (k : Kept) (queue number : ℕ) (h : Command)
    → find (is_command queue number) k.held ≡ Some h
    → read_of h.job (slice_get k.blocks (disk_of h.job)) ≡ held_bytes k queue number
bytes_are k queue number h e = sym (ap (bytes_executed k.blocks) e)

pub len_is : (k : Kept) (queue number : ℕ) (h : Command)
    → find (is_command queue number) k.held ≡ Some h
    → given_on h.job (slice_get k.blocks (disk_of h.job)) ≡ held_len k queue number
len_is k queue number h e = sym (ap (given_of k.blocks) e)

pub data_is : (k : Kept) (queue number len : ℕ) (h : Command)
    → find (is_command queue number) k.held ≡ Some h → HasHeldData k queue number len
    → HasDataOn h.job (slice_get k.blocks (disk_of h.job)) len
data_is k queue number len h e f = subst (λ (o : Option Command). HasDataOf k.blocks o len) e f

pub idle_after : (k : Kept) (room queue number : ℕ) (payload : List ℕ) (h : Command)
    → IsKept k room → find (is_command queue number) k.held ≡ Some h
    → IsIdle (executed_kept k queue number payload h) queue
idle_after k room queue number payload h s e = idle_taken queue number k.held h s.holds.single e

pub executed_is_kept : (k : Kept) (room queue number : ℕ) (payload : List ℕ) (h : Command)
    → IsKept k room → find (is_command queue number) k.held ≡ Some h
    → HasHeldData k queue number (length payload)
    → IsKept (executed_kept k queue number payload h) room
executed_is_kept k room queue number payload h s e asked =
    let fits = held_fits k room queue number h s e in
    let on = data_is k queue number (length payload) h e asked in
    let few = s.few_disks in
    let len = worked_len h.job payload k.blocks in
    record {
      holds = record {
        fit = all_along (Fits k.blocks) (Fits (worked h.job payload k.blocks))
            (without (is_command queue number) k.held)
            (λ (c : Command) f. fits_along c.job (slice_get k.blocks (disk_of c.job))
            (slice_get (worked h.job payload k.blocks) (disk_of c.job))
            (worked_shape h.job payload k.blocks (disk_of c.job) fits on) f)
            (all_without (Fits k.blocks) (is_command queue number) k.held s.holds.fit);
        numbered = all_without (IsNumbered (length k.bindings)) (is_command queue number) k.held
            s.holds.numbered;
        single = single_without (is_command queue number) k.held s.holds.single;
      };
      few_disks = omega (arith, len, few);
      few_queues = s.few_queues;
      room = s.room;
      joined = s.joined;
      states = s.states;
    }

-- ---- what it leaves to other queues
module _ (blocks after : List Blocks)
    (same : (i : ℕ) → shape_of (slice_get after i) ≡ shape_of (slice_get blocks i)) where
  data_moves : (o : Option Command) (len : ℕ) → HasDataOf blocks o len → HasDataOf after o len
  data_moves None len f = tt
  data_moves (Some c) len f = data_along c.job len (slice_get blocks (disk_of c.job))
      (slice_get after (disk_of c.job)) (same (disk_of c.job)) f

  given_moves : (o : Option Command) → given_of after o ≡ given_of blocks o
  given_moves None = refl
  given_moves (Some c) = given_along c.job (slice_get blocks (disk_of c.job))
      (slice_get after (disk_of c.job)) (same (disk_of c.job))

pub executed_leaves : (k : Kept) (room queue number : ℕ) (payload : List ℕ) (h : Command)
    → IsKept k room → find (is_command queue number) k.held ≡ Some h
    → HasHeldData k queue number (length payload)
    → LeavesOthers queue k (executed_kept k queue number payload h)
executed_leaves k room queue number payload h s e asked =
    let fits = held_fits k room queue number h s e in
    let on = data_is k queue number (length payload) h e asked in
    let after = worked h.job payload k.blocks in
    let shapes = λ (i : ℕ). worked_shape h.job payload k.blocks i fits on in
    record {
      queues = refl;
      bindings = λ q ne. refl;
      idle = λ q ne f. others_idle queue number q k.held ne ∙ f;
      holding = λ q n taken given ne f.
          let found = others_found queue number q n k.held ne in
          record {
            is_held = subst (λ (o : Option Command). IsTrue (is_some o)) (sym found) f.is_held;
            has_data = subst (λ (o : Option Command). HasDataOf after o taken) (sym found)
                (data_moves k.blocks after shapes (command_at k q n) taken f.has_data);
            is_given = ap (given_of after) found
                ∙ (given_moves k.blocks after shapes (command_at k q n) ∙ f.is_given);
            short = f.short;
          };
    }

-- ---- how many bytes are given
pub given_at : (k : Kept) (room queue number : ℕ) (h : Command) → IsKept k room
    → find (is_command queue number) k.held ≡ Some h
    → given_on h.job (slice_get k.blocks (disk_of h.job)) ≤ MAX_TRANSFER
given_at k room queue number h s e = given_short h.job (slice_get k.blocks (disk_of h.job))
    (held_fits k room queue number h s e)

-- the same of parts that are equal to these
pub kept_as : (k : Kept) (room room' queue number : ℕ) (payload : List ℕ) (h : Command)
    (blocks : List Blocks) (held : List Command) → room' ≡ room
    → blocks ≡ worked h.job payload k.blocks → held ≡ without (is_command queue number) k.held
    → IsKept k room → find (is_command queue number) k.held ≡ Some h
    → HasHeldData k queue number (length payload)
    → IsKept (record k { held = held; blocks = blocks }) room'
kept_as k room room' queue number payload h blocks held same on rest s e asked =
    rw (same, on, rest) (executed_is_kept k room queue number payload h s e asked)
