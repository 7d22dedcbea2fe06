use Rattle.std.proofs.Common.{◌≡◌, ◌==◌, ◌-◌, ℕ, Bool}
use Rattle.std.specs.List.{list_any}
use Rattle.std.specs.Map.{values_of}
use Rattle.configfs_rows.specs.Places.{lowest_free}
use Rattle.configfs_rows.proofs.linked_rows.lowest_place.Given as goal

abbrev pub invariant-loop-at : goal.invariant-loop-at
invariant-loop-at g l =
    let taken : ℕ → Bool = λ at. list_any (λ x. g.X.LinkedRow.place x == at) (values_of l.rows) in
    lowest_free l.most 0 taken ≡ lowest_free (l.most - l.at) l.at taken
