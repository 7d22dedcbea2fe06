-- Each caller's list holds its own calls.
use Rattle.std.proofs.Common.{◌≡◌, ℕ, ◌+◌, ◌-◌, Bool, true, false, ◌==◌, List, [], ◌∷◌, Option, Some, None, slice_get, refl, sym, ap, ◌∙◌}
use Rattle.sqe_cqe.specs.declared.codes.TheConstants.{FABRICS}
use Rattle.plan_files.specs.Capsules.{Capsule}
use Rattle.configfs_tree.specs.Phases.{phase_at}
use Rattle.tree_target.specs.Model.{Call, Execute, Poll, AnEdit, DrainEnd, Target, caller_of}
use Rattle.tree_target.specs.Steps.{is_draining_phase}
use Rattle.run_transcript.specs.declared.scripts.ScriptEdit.{ScriptEdit}
use Rattle.run_transcript.specs.Runs.{Placed, Run, callers, target_at}
use Rattle.run_transcript.specs.Turns.{Stage, Ready, Holding, Through, Ended, Progress, after_entry, first_call, next_capsule, execute_of, next_by, is_admin_at, Editing, Disabled, nothing_edited, editing_after, edit_on, edit_after}
use Rattle.run_transcript.specs.Served.{ServesFile, ServesQueues, ServesScript, IsServed}
use Rattle.run_verdicts.proofs.Laying.{not-some}
use Rattle.served_runs.proofs.Own.{AreOf, AreCallers}

pub some-is : {A : Type 0} (a b : A) → ◌≡◌ {A = Option A} (Some a) (Some b) → a ≡ b
some-is a b h = cc

-- what is made of an option is this caller's
abbrev MakesOf : ℕ → Option Call → Type 0
MakesOf caller o = (call : Call) → o ≡ Some call → caller_of call ≡ caller

made-none : (caller : ℕ) → MakesOf caller None
made-none caller call h = absurd (not-some call h)

made-some : (caller : ℕ) (made : Call) → caller_of made ≡ caller → MakesOf caller (Some made)
made-some caller made own call h = ap caller_of (sym (some-is made call h)) ∙ own

first-of : (queue number : ℕ) (c : Capsule) → caller_of (first_call queue number c) ≡ queue
first-of queue number c = by-test (c.entry.opcode == FABRICS) refl where
  by-test : (b : Bool) → (c.entry.opcode == FABRICS) ≡ b → caller_of (first_call queue number c) ≡ queue
  by-test true t = rw t refl
  by-test false f = rw f refl

capsule-of : (admin : Bool) (queue number : ℕ) (o : Option Capsule) → MakesOf queue (next_capsule admin queue number o)
capsule-of admin queue number (Some c) = made-some queue (first_call queue number c) (first-of queue number c)
capsule-of true queue number None = made-some queue (Poll queue) refl
capsule-of false queue number None = made-none queue

execute-of : (queue number : ℕ) (o : Option Capsule) → MakesOf queue (execute_of queue number o)
execute-of queue number None = made-none queue
execute-of queue number (Some c) = made-some queue (Execute queue number c.payload) refl

next-by : (stage : Stage) (admin : Bool) (queue : ℕ) (file : List Capsule) (taken : ℕ) → MakesOf queue (next_by stage admin queue file taken)
next-by Ready admin queue file taken = capsule-of admin queue taken (slice_get file taken)
next-by Holding admin queue file taken = execute-of queue (taken - 1) (slice_get file (taken - 1))
next-by Through true queue file taken = made-some queue (Poll queue) refl
next-by Through false queue file taken = capsule-of false queue taken (slice_get file taken)
next-by Ended admin queue file taken = made-none queue

pub file-own : (run : Run) (queue : ℕ) (file : List Capsule) (p : Progress) (list : List Placed) → ServesFile run queue file p list → AreOf queue list
file-own run queue file p [] s = tt
file-own run queue file p (x ∷ list) s = (
  next-by p.stage (is_admin_at (target_at run x.place) queue) queue file p.taken x.entry.call s.0,
  file-own run queue file (after_entry p x.entry) list s.1,
)

files-own : (run : Run) (queue : ℕ) (files : List (List Capsule)) (lists : List (List Placed)) → ServesQueues run queue files lists → AreCallers queue lists
files-own run queue [] [] s = tt
files-own run queue [] (list ∷ lists) s = absurd s
files-own run queue (file ∷ files) [] s = absurd s
files-own run queue (file ∷ files) (list ∷ lists) s =
    (file-own run queue file _ list s.0, files-own run (queue + 1) files lists s.1)

-- ---- the editor
edit-of : (o : Option ScriptEdit) → MakesOf 0 (edit_on o)
edit-of None = made-none 0
edit-of (Some s) = made-some 0 (AnEdit s.line s.edit) refl

after-of : (t : Target) (d : Option Disabled) (next : Option Call) → MakesOf 0 next → MakesOf 0 (edit_after t d next)
after-of t None next own = own
after-of t (Some d) next own = by-test (is_draining_phase (phase_at t.tree d.space.sub d.space.nsid)) refl where
  by-test : (b : Bool) → is_draining_phase (phase_at t.tree d.space.sub d.space.nsid) ≡ b → MakesOf 0 (edit_after t (Some d) next)
  by-test true g = rw g (made-some 0 (DrainEnd d.line d.space.sub d.space.nsid) refl)
  by-test false g = rw g own

script-own : (run : Run) (p : Editing) (list : List Placed) → ServesScript run p list → AreOf 0 list
script-own run p [] s = tt
script-own run p (x ∷ list) s = (
  after-of (target_at run x.place) p.disabled (edit_on (slice_get run.script p.made)) (edit-of (slice_get run.script p.made)) x.entry.call s.0,
  script-own run (editing_after p x.entry) list s.1,
)

pub callers-own : (run : Run) → IsServed run → AreCallers 0 (callers run)
callers-own run s = (script-own run nothing_edited run.editor s.script, files-own run 1 run.files run.queues s.queues)
