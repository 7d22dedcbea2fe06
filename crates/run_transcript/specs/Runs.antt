-- A run as one record of data: what was read, where it started, what each caller did, and the
-- history.
use Rattle.std.specs.Prelude.{ℕ, ◌+◌, List, [], ◌∷◌, map, take}
use Rattle.std.specs.List.{flat_map, AllByRecursion}
use Rattle.std.specs.List.Sorted.{IsPermutation, IsStrictlyIncreasing}
use Rattle.plan_files.specs.declared.items.Plan.{Plan}
use Rattle.plan_files.specs.Capsules.{Capsule}
use Rattle.tree_target.specs.Model.{Call, Target, Entry}
use Rattle.tree_target.specs.Legal.{IsLegal, after}
use Rattle.run_transcript.specs.declared.scripts.ScriptEdit.{ScriptEdit}

-- an entry with its place in the order of all calls
pub record Placed : Type 0 where
  pub place : ℕ
  pub entry : Entry

pub record Run : Type 0 where
  pub plan : Plan
  pub start : Target
  -- how many members the configuration has that say nothing here
  pub passed_over : ℕ
  -- the edits of the script, in its order
  pub script : List ScriptEdit
  -- the capsules of queues 1, 2, ..
  pub files : List (List Capsule)
  -- what the editor did
  pub editor : List Placed
  -- what queues 1, 2, .. did
  pub queues : List (List Placed)
  -- all entries in the order of their places
  pub history : List Entry

-- for each caller its entries
abbrev pub callers : Run → List (List Placed)
callers run = run.editor ∷ run.queues

-- the entries of a history with their places, from the place n on
abbrev pub placed_from : ℕ → List Entry → List Placed
placed_from n [] = []
placed_from n (e ∷ entries) = (record { place = n; entry = e }) ∷ placed_from (n + 1) entries

abbrev pub IsRising : List Placed → Type 0
IsRising list = IsStrictlyIncreasing (map (λ p. p.place) list)

-- the places rise in each caller's list, and all lists together are the history, each entry once
-- and at its place
pub record IsOrdered (run : Run) : Type 0 where
  pub rising : AllByRecursion IsRising (callers run)
  pub merged : IsPermutation (flat_map (λ list. list) (callers run)) (placed_from 0 run.history)

-- the history is one of the sequential target, from the start on
abbrev pub IsLegalRun : Run → Type 0
IsLegalRun run = IsLegal run.start run.history

abbrev pub calls_of : List Entry → List Call
calls_of entries = map (λ e. e.call) entries

-- the target that the entry with this place finds
abbrev pub target_at : Run → ℕ → Target
target_at run place = after run.start (calls_of (take place run.history))

-- the target that the last entry leaves
abbrev pub target_after_all : Run → Target
target_after_all run = after run.start (calls_of run.history)
