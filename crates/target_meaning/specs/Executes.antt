-- An Execute of a held command, extent by extent.
use Rattle.std.specs.Prelude.{◌≡◌, ℕ, ◌/◌, List, length, Some}
use Rattle.std.specs.List.{slice_get}
use Rattle.mem_bdev.specs.Blocks.{Blocks}
use Rattle.sqe_cqe.specs.declared.codes.TheConstants.{SUCCESS}
use Rattle.ref_state.specs.declared.kinds.Tag.{Tag}
use Rattle.ref_state.specs.Steps.{first}
use Rattle.table_rule.specs.Meant.{is_named}
use Rattle.io_commands.specs.declared.jobs.Job.{Job}
use Rattle.io_commands.specs.Jobs.{FitsDisk, HasData, bytes_read}
use Rattle.disk_extents.specs.Extents.{Part}
use Rattle.disk_extents.specs.Parts.{part_after}
use Rattle.tree_target.specs.Steps.{completion}
use Rattle.target_states.specs.States.{state}
use Rattle.target_states.specs.Sizes.{asked_of}
use Rattle.target_meaning.specs.TreeMeans.{Run, tree_means}

-- the job of a submit on this disk, and the data of its capsule
abbrev pub job_for : Run → Tag → ℕ → Job
job_for r call disk = asked_of (r.begun.inputs.entry call.caller call.number) disk

abbrev pub payload_for : Run → Tag → List ℕ
payload_for r tag = r.begun.inputs.payload tag.caller tag.number

pub record IsExecuted (r : Run) (t : List Tag) (tag call : Tag) (disk : ℕ) : Type 0 where
  -- the disk before
  pub blocks : Blocks
  pub there : slice_get (state r.begun t).blocks disk ≡ Some blocks
  -- the job lies on it and has its data
  pub fits : FitsDisk (job_for r call disk) blocks.shift (length blocks.blocks)
  pub has_data : HasData (job_for r call disk) blocks.shift (length (payload_for r tag))
  -- the completion is a success, and the host gets what the job reads
  pub reply : ((tree_means r).reply t tag).reply ≡ completion (state r.begun t) tag.caller
      (r.begun.inputs.entry tag.caller tag.number).cid SUCCESS 0
  pub bytes : ((tree_means r).reply t tag).bytes ≡ bytes_read blocks (job_for r call disk)
  -- what stands in a slot of the disk stands there again once its part of the job is done on it
  pub parts : (n : ℕ) (x : Part) → n / 8 ≡ disk → (tree_means r).stands x n t
      → (tree_means r).stands (part_after x (job_for r call disk) (payload_for r tag)) n
      ((tree_means r).next t tag)

-- where a submit's command is the held one of an Execute's name
abbrev pub ExecutesByParts : Type 0
ExecutesByParts = (r : Run) (t : List Tag) (tag call : Tag) (disk : ℕ) → tag.kind ≡ 2
    → first (λ (y : Tag × ℕ). is_named tag y.0) ((tree_means r).commands t) ≡ Some (call, disk)
    → IsExecuted r t tag call disk
