-- The starts of runs.
use Rattle.std.specs.Prelude.{◌≤◌, ℕ, List, [], ◌∷◌, length}
use Rattle.mem_bdev.specs.declared.disk.DiskLine.{DiskLine}
use Rattle.sqe_cqe.specs.declared.sqe.Sqe.{Sqe}
use Rattle.configfs_tree.specs.Start.{empty_tree}
use Rattle.configfs_tree.specs.declared.configuration.Configuration.{Configuration}
use Rattle.configfs_tree.specs.declared.edits.Folder.TheVariants as folder
use Rattle.configfs_tree.specs.declared.edits.FolderEdit.TheVariants as make
use Rattle.link_rules.specs.declared.edits.Edit.TheVariants as edit
use Rattle.tree_target.specs.Loads.{loaded_target}
use Rattle.tree_target.specs.Start.{simple_start}
use Rattle.target_states.specs.Inputs.{Inputs}
use Rattle.target_states.specs.States.{Begun}
use Rattle.target_states.specs.Sizes.{AreWhole, IsStart}

-- a configuration that was loaded over the disks of a plan, with queues that come through ports
abbrev pub loaded_begun : Configuration → List DiskLine → List ℕ → Inputs → Begun
loaded_begun t lines ports i = record { target = loaded_target t lines ports; inputs = i }

abbrev pub simple_begun : DiskLine → Inputs → Begun
simple_begun d i = record { target = simple_start d; inputs = i }

-- the start that a plan stands for is one of these
abbrev pub LoadedStarts : Type 0
LoadedStarts = (t : Configuration) (lines : List DiskLine) (ports : List ℕ) (i : Inputs)
    → length lines ≤ 64 → AreWhole i → IsStart (loaded_begun t lines ports i)

abbrev pub SimpleStarts : Type 0
SimpleStarts = (d : DiskLine) (i : Inputs) → AreWhole i → IsStart (simple_begun d i)

-- ---- a run of nothing
abbrev pub no_entry : Sqe
no_entry = record {
  opcode = 0;
  flags = 0;
  cid = 0;
  nsid = 0;
  cdw2 = 0;
  cdw3 = 0;
  mptr = 0;
  sgl_addr = 0;
  sgl_len = 0;
  sgl_rest = 0 ∷ 0 ∷ 0 ∷ 0 ∷ [];
  cdw10 = 0;
  cdw11 = 0;
  cdw12 = 0;
  cdw13 = 0;
  cdw14 = 0;
  cdw15 = 0;
}

abbrev pub no_inputs : Inputs
no_inputs = record {
  entry = λ queue number. no_entry;
  payload = λ queue number. [];
  edit = λ line. edit.Folder (make.Mkdir (folder.Port 1));
}

abbrev pub empty_begun : Begun
empty_begun = loaded_begun (empty_tree []) [] [] no_inputs
