-- What the callers of a run do next: caller 0 is the editor, each other one a queue by its number.
use Rattle.std.specs.Prelude.{◌<◌, ℕ, zero, suc, ◌+◌, ◌==◌, nat_lt, Bool, false, List, [], ◌∷◌, ◌++◌, length, map, filter, Option, Some, None, slice_get}
use Rattle.std.specs.List.{flat_map, AllByRecursion}
use Rattle.plan_files.specs.Capsules.{Capsule}
use Rattle.tree_target.specs.Model.{Call, Entry, Target}
use Rattle.run_transcript.specs.Runs.{Placed, Run, callers}
use Rattle.run_transcript.specs.Turns.{progress_of, next_call, Editing, nothing_edited, editing_after, next_edit}
use Rattle.run_transcript.specs.Served.{front_len, is_final, bodies}

-- what all callers tell
abbrev pub told : Run → List Placed
told run = flat_map (λ list. list) (callers run)

abbrev pub places_of : List Placed → List ℕ
places_of list = map (λ e. e.place) list

-- what was done below a place
abbrev pub below : ℕ → List Placed → List Placed
below p list = filter (λ e. nat_lt e.place p) list

-- the entries with the places below n, in the order of places
abbrev pub in_places : ℕ → List Placed → List Entry
in_places zero list = []
in_places (suc n) list = in_places n list ++ map (λ e. e.entry) (filter (λ e. e.place == n) list)

-- ---- next
abbrev pub editing_from : Editing → List Placed → Editing
editing_from p [] = p
editing_from p (x ∷ list) = editing_from (editing_after p x.entry) list

abbrev pub editing_of : List Placed → Editing
editing_of list = editing_from nothing_edited list

abbrev pub next_of_file : Target → ℕ → Option (List Capsule) → List Placed → Option Call
next_of_file t queue None done = None
next_of_file t queue (Some file) done = next_call t queue file (progress_of done)

-- what a caller does next after what it did, at a target
abbrev pub next_of : Run → Target → ℕ → List Placed → Option Call
next_of run t zero done = next_edit t run.script (editing_of done)
next_of run t (suc q) done = next_of_file t (suc q) (slice_get run.files q) done

-- ---- the turns of fronts
abbrev pub front_in : Option (List Capsule) → ℕ
front_in None = 0
front_in (Some file) = front_len file

-- how many calls a caller's front has: the fabrics commands that its file begins with
abbrev pub front_of : Run → ℕ → ℕ
front_of run zero = 0
front_of run (suc q) = front_in (slice_get run.files q)

abbrev pub fronts_before : ℕ → List (List Capsule) → ℕ
fronts_before zero files = 0
fronts_before (suc q) [] = 0
fronts_before (suc q) (file ∷ files) = front_len file + fronts_before q files

-- how many calls the fronts of the queues before it have
abbrev pub earlier : Run → ℕ → ℕ
earlier run zero = 0
earlier run (suc q) = fronts_before q run.files

-- ---- final polls
abbrev pub is_final_in : Option (List Capsule) → List Placed → Bool
is_final_in None done = false
is_final_in (Some file) done = is_final (length file) (progress_of done)

-- what a caller does next is a final poll
abbrev pub is_final_of : Run → ℕ → List Placed → Bool
is_final_of run zero done = false
is_final_of run (suc q) done = is_final_in (slice_get run.files q) done

-- all that isn't a final poll stands below a place
abbrev pub AreAllBelow : Run → ℕ → Type 0
AreAllBelow run p = AllByRecursion (λ x. x.place < p) (run.editor ++ bodies run.files run.queues)
