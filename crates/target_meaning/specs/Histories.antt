-- The history of a table is one of the sequential target.
use Rattle.std.specs.Prelude.{◌≡◌, ℕ, List, length}
use mathlib.Core.Option.{some}
use lib.ListN.{get_elem?}
use Rattle.ref_state.specs.declared.kinds.Tag.{Tag}
use Rattle.table_rule.specs.Meant.{target, Legal}
use Rattle.change_stamps.specs.Stamps.{no_stamps}
use Rattle.disk_extents.specs.Extents.{Part}
use Rattle.tree_target.specs.Model.{Target}
use Rattle.tree_target.specs.Legal.{IsLegal, after, entries_of}
use Rattle.ns_table.specs.declared.layout.TheConstants.{WORDS}
use Rattle.ns_table.specs.Slots.{slots_of}
use Rattle.ns_table.specs.Words.{words_of, opened_shape}
use Rattle.target_states.specs.Inputs.{call_of}
use Rattle.target_states.specs.States.{state, calls_of, answer_to}
use Rattle.target_meaning.specs.TreeMeans.{Run, tree_means}

-- the target after these calls, the oldest first
abbrev pub state_after : Run → List Tag → Target
state_after r log = state r.begun (target (tree_means r) log)

abbrev pub made_of : Run → List Tag → Target
made_of r log = after r.begun.target (calls_of r.begun.inputs log)

-- it is the one that the sequential target makes of them
abbrev pub StatesAreTheTargets : Type 0
StatesAreTheTargets = (r : Run) (log : List Tag) → state_after r log ≡ made_of r log

-- a call replies what the sequential target replies after the calls before it
abbrev pub RepliesAreTheTargets : Type 0
RepliesAreTheTargets = (r : Run) (log : List Tag) (tag : Tag)
    → (tree_means r).reply (target (tree_means r) log) tag
    ≡ answer_to (made_of r log) (call_of r.begun.inputs tag)

-- a history that is legal for the table is a legal history of the sequential target
abbrev pub HistoriesAreLegal : Type 0
HistoriesAreLegal = (r : Run) (log : List Tag) → Legal (tree_means r) log
    → IsLegal r.begun.target (entries_of r.begun.target (calls_of r.begun.inputs log))

-- ---- what a table is opened with
-- the words and the extents of the start, where nothing was published yet
pub record IsOpening (r : Run) : Type 0 where
  pub rows : words_of (opened_shape r.begun.target.tree r.begun.target.controllers
      r.begun.target.blocks) ≡ (tree_means r).words (tree_means r).start
  pub long : length ((tree_means r).words (tree_means r).start) ≡ WORDS
  pub extents : (n : ℕ) (x : Part) → get_elem? (slots_of r.begun.target.blocks) n ≡ some x
      → (tree_means r).stands x n (tree_means r).start

abbrev pub OpensAsAsked : Type 0
OpensAsAsked = (r : Run) → r.begun.target.stamps ≡ no_stamps → IsOpening r
