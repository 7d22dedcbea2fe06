-- The start that a plan stands for whose configuration was loaded.
use Rattle.std.specs.Prelude.{◌≡◌, ℕ, ◌+◌, List, [], ◌∷◌, map, None, Result, Ok, Err}
use Rattle.tree_target.specs.declared.start.LoadError.{LoadError}
use Rattle.tree_target.specs.declared.start.LoadError.TheVariants as errors
use Rattle.mem_bdev.specs.Blocks.{Blocks, blank}
use Rattle.mem_bdev.specs.declared.disk.DiskLine.{DiskLine}
use Rattle.sqe_cqe.specs.declared.controllers.Binding.{Binding as CodeBinding}
use Rattle.change_stamps.specs.Stamps.{no_stamps}
use Rattle.configfs_tree.specs.declared.configuration.Configuration.{Configuration}
use Rattle.configfs_tree.specs.declared.edits.Errno.{Errno}
use Rattle.configfs_tree.specs.Outcome.{Outcome, Refuses, Accepts}
use Rattle.configfs_tree.specs.Links.{with_no_changes}
use Rattle.configfs_tree.specs.Start.{empty_settings, empty_tree}
use Rattle.tree_target.specs.Edits.{Edit, outcome}
use Rattle.tree_target.specs.Model.{Binding, Target}
use Rattle.tree_target.specs.Kept.{Kept}
use Rattle.tree_target.specs.Stands.{StandsFor}

abbrev pub blank_of : DiskLine → Blocks
blank_of d = blank d.shift d.blocks

abbrev pub unconnected : ℕ → Binding
unconnected port = record { port = port; bound = None }

-- no controller is attached
abbrev pub IsFresh : Configuration → Type 0
IsFresh t = t.settings.attached ≡ empty_settings.attached

-- no controller yet: disks of zeros, each queue with its port, and no command held
abbrev pub start_of : Configuration → List DiskLine → List ℕ → Target
start_of t lines ports = record {
  tree = t;
  controllers = [];
  blocks = map blank_of lines;
  bindings = map unconnected ports;
  held = [];
  events = [];
  stamps = no_stamps;
  history = [];
}

-- the first refused edit by its number, from 1, or the tree after all
pub data Loaded : Type 0 where
  RefusedEdit : ℕ → Errno → Loaded
  LoadedTree : Configuration → Loaded

abbrev pub load_on : ℕ → Outcome → (Configuration → Loaded) → Loaded
load_on n (Refuses errno) rest = RefusedEdit n errno
load_on n (Accepts u change) rest = rest u

abbrev pub load_from : ℕ → Configuration → List Edit → Loaded
load_from n t [] = LoadedTree t
load_from n t (e ∷ edits) = load_on n (outcome t e) (λ u. load_from (n + 1) u edits)

-- what edits make of the empty tree
abbrev pub loaded : List DiskLine → List Edit → Loaded
loaded lines edits = load_from 1 (empty_tree lines) edits

-- the target after loading: the counts of changes begin at 0, and the history is empty
abbrev pub loaded_target : Configuration → List DiskLine → List ℕ → Target
loaded_target t lines ports = start_of (with_no_changes t) lines ports

-- what the program keeps of such a start
abbrev pub code_unconnected : ℕ → CodeBinding
code_unconnected port = record { port = port; bound = None }

abbrev pub kept_start : Configuration → List DiskLine → List ℕ → Kept
kept_start t lines ports = record {
  tree = t;
  controllers = [];
  blocks = map blank_of lines;
  bindings = map code_unconnected ports;
  held = [];
  events = [];
  stamps = no_stamps;
}

-- what loading a tree answers
abbrev pub LoadsTree : Loaded → Result Configuration LoadError → Type 0
LoadsTree l (Ok t) = l ≡ LoadedTree t
LoadsTree l (Err (errors.Refused n errno)) = l ≡ RefusedEdit n errno
LoadsTree l (Err errors.Memory) = Unit {0}

-- the target stands for what loading makes
pub record LoadsWell (l : Loaded) (lines : List DiskLine) (ports : List ℕ) (k : Kept)
    : Type 0 where
  pub tree : Configuration
  pub loaded : l ≡ LoadedTree tree
  pub stands : StandsFor k (loaded_target tree lines ports)

-- what loading a target answers
abbrev pub LoadsTarget : Loaded → List DiskLine → List ℕ → Result Kept LoadError → Type 0
LoadsTarget l lines ports (Ok k) = LoadsWell l lines ports k
LoadsTarget l lines ports (Err (errors.Refused n errno)) = l ≡ RefusedEdit n errno
LoadsTarget l lines ports (Err errors.Memory) = Unit {0}
