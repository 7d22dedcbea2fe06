-- What was shown of a plan.
use Rattle.std.specs.Prelude.{◌≡◌, ◌⊎◌, ℕ, List, [], ◌∷◌, ◌++◌, Option, Result, Ok, Err}
use Rattle.nvmetcli_json.specs.Saving.{saved}
use Rattle.run_outside.specs.Outside.{Rose}
use Rattle.run_outcomes.specs.declared.faults.Fault.{Fault}
use Rattle.run_outcomes.specs.declared.faults.Fault.TheVariants as fault
use Rattle.run_outcomes.specs.Outsides.{Told, Kept, Took, Outside}
use Rattle.run_inputs.specs.Known.{Known}
use Rattle.run_show.specs.Starts.{StartWasRead, StartTells}

-- the saved text of the tree that a run starts with, and a line end
abbrev pub shown : Known → List ℕ
shown s = saved s.start.tree ++ 10 ∷ []

-- The plan of this name and its configuration were read, no name holds anything else than before,
-- and the sink took the text of the start and nothing else.
pub record Shown (told_before told_after : Told) (taken_before taken_after : Option (List ℕ))
    (name : List ℕ) : Type 0 where
  pub known : Known
  pub was_read : StartWasRead told_before name known
  pub kept : Kept told_before told_after
  pub put : Took taken_before taken_after (shown known)

-- ---- what told files settle

-- the answer is this fault, or want of memory
abbrev pub IsFault : Fault → Result (Unit {0}) Fault → Type 0
IsFault f (Ok u) = ⊥
IsFault f (Err e) = (e ≡ f) ⊎ (e ≡ fault.Memory)

-- all was shown, or memory ran out
abbrev pub IsWhole : Result (Unit {0}) Fault → Type 0
IsWhole (Ok u) = Unit {0}
IsWhole (Err e) = e ≡ fault.Memory

-- where told files have this first fault, and no call on files fails, the answer is this fault
abbrev pub IsShowExact : Outside → Outside → List ℕ → Result (Unit {0}) Fault → Type 0
IsShowExact before after name result = (f : Fault) → StartTells before.files.told name (Err f)
    → (Rose before.files.faults after.files.faults → ⊥) → IsFault f result

-- where told files have none, and no call fails, all is shown
abbrev pub IsShowComplete : Outside → Outside → List ℕ → Result (Unit {0}) Fault → Type 0
IsShowComplete before after name result = (s : Known) → StartTells before.files.told name (Ok s)
    → (Rose before.files.faults after.files.faults → ⊥)
    → (Rose before.sink.faults after.sink.faults → ⊥) → IsWhole result
