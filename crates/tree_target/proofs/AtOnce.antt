-- A command that is executed as soon as it is submitted.
use Rattle.std.proofs.Common.{◌≡◌, ℕ, false, List, ◌++◌, length, Some, None, sym, ap, subst, arith}
use Rattle.std.specs.List.{find}
use Rattle.mem_bdev.specs.Blocks.{Blocks}
use Rattle.sqe_cqe.specs.declared.sqe.Sqe.{Sqe}
use Rattle.sqe_cqe.specs.declared.codes.TheConstants.{SUCCESS}
use Rattle.sqe_cqe.specs.Sqe.{payload_len}
use Rattle.io_commands.specs.declared.jobs.Job.{Job}
use Rattle.io_commands.specs.declared.jobs.Admit.TheVariants.{Run}
use Rattle.configfs_tree.specs.Links.{SubsystemPositions, PortPositions}
use Rattle.tree_target.specs.declared.calls.Command.{Command}
use Rattle.tree_target.specs.Model.{Execute, is_command}
use Rattle.tree_target.specs.Steps.{command_of, worked}
use Rattle.tree_target.specs.Kept.{Kept, IsKept, IsIdle, HasQueue, HasHeldData, LeavesOthers, AdmitsOn, admission_by, answered, bound_in, is_admin_in, job_bytes, qid_from}
use Rattle.tree_target.specs.Stands.{RunsAtOnce, Simulates}
use Rattle.tree_target.proofs.HeldList.{idle_command, last_found, last_taken, own_command}
use Rattle.tree_target.proofs.Admitting.{with_held, held_does, held_kept, held_leaves, holds_after}
use Rattle.tree_target.proofs.Executing.{bytes_are, executed_is_kept, executed_kept, executed_leaves, executes}

-- what is kept after a job
abbrev pub ran : Kept → Job → List ℕ → Kept
ran k job payload = record k { blocks = worked job payload k.blocks }

module _ (k : Kept) (queue number : ℕ) (e : Sqe) (job : Job) (payload : List ℕ)
    (idle : IsIdle k queue) where
  abbrev command : Command
  command = command_of queue number e.cid job

  -- what would be kept while it is held
  abbrev between : Kept
  between = with_held k command

  missed : find (is_command queue number) k.held ≡ None
  missed = idle_command queue number k.held idle

  found : find (is_command queue number) between.held ≡ Some command
  found = last_found (is_command queue number) k.held command missed (own_command command)

  left : executed_kept between queue number payload command ≡ ran k job payload
  left = ap (λ (hs : List Command). record k { held = hs; blocks = worked job payload k.blocks })
      (last_taken (is_command queue number) k.held command missed (own_command command))

  pub runs : SubsystemPositions k.tree → PortPositions k.tree → is_admin_in k queue ≡ false
      → admission_by k queue e ≡ Run job
      → RunsAtOnce k queue number e payload
      (answered (qid_from (bound_in k.bindings queue)) e.cid SUCCESS) (job_bytes k.blocks job)
      (ran k job payload)
  runs hs hp io is =
      let reply = answered (qid_from (bound_in k.bindings queue)) e.cid SUCCESS in
      record {
        between = between;
        submits = held_does k queue number e job hs hp io is;
        executes = subst (λ (x : Kept). Simulates between (Execute queue number payload) reply
            (job_bytes k.blocks job) x) left
            (subst (λ (bs : List ℕ). Simulates between (Execute queue number payload) reply bs
            (executed_kept between queue number payload command))
            (sym (bytes_are between queue number command found))
            (executes between queue number payload command found));
      }

  module _ (room : ℕ) (s : IsKept k room) (h : HasQueue k queue) (a : AdmitsOn k.blocks e job)
      (len : length payload ≡ payload_len e) where
    between_kept : IsKept between room
    between_kept = held_kept k room room queue number e.cid e job s (omega arith) h idle a

    asked : HasHeldData between queue number (length payload)
    asked = subst (λ (n : ℕ). HasHeldData between queue number n) (sym len)
        (holds_after k queue number e.cid e job idle a).has_data

    pub ran_is_kept : (room' : ℕ) (blocks : List Blocks) → room' ≡ room
        → blocks ≡ worked job payload k.blocks → IsKept (record k { blocks = blocks }) room'
    ran_is_kept room' blocks same on = rw (same, on) (subst (λ (x : Kept). IsKept x room) left
        (executed_is_kept between room queue number payload command between_kept found asked))

    pub ran_leaves : LeavesOthers queue k (ran k job payload)
    ran_leaves =
        let held = held_leaves k queue number e.cid job in
        let done = subst (λ (x : Kept). LeavesOthers queue between x) left
        (executed_leaves between room queue number payload command between_kept found asked) in
        record {
          queues = done.queues;
          bindings = λ q ne. done.bindings q ne;
          idle = λ q ne f. done.idle q ne (held.idle q ne f);
          holding = λ q n taken given ne f.
              done.holding q n taken given ne (held.holding q n taken given ne f);
        }
