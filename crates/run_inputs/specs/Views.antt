-- Views of files, one after another.
use Rattle.std.specs.Prelude.{◌≡◌, ◌≤◌, ℕ, Bool, List, Option}
use Rattle.run_outside.specs.Outside.{LastCall}
use Rattle.run_outcomes.specs.Outsides.{FilesView, told_by, files_view}

-- files by what they tell of themselves
abbrev pub seen : Bool → (List ℕ → Option (List ℕ)) → ℕ → Option LastCall → FilesView
seen tells holds faults last = files_view (told_by tells holds) faults last

-- an earlier view of the same files: each name held then what it holds now, and the count of faults
-- did not fall since
pub record IsEarlier (before now : FilesView) : Type 0 where
  pub told : before.told ≡ now.told
  pub faults : before.faults ≤ now.faults
