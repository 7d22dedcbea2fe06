use Rattle.std.proofs.Common.{◌≡◌, ◌==◌, None, take}
use Rattle.std.specs.List.{find}
use Rattle.std.specs.Map.{values_of}
use Rattle.configfs_rows.proofs.linked_rows.row_at.Given as goal

abbrev pub invariant-loop-row : goal.invariant-loop-row
invariant-loop-row g l = find (λ x. g.X.LinkedRow.place x == l.at)
    (values_of (take l.row-index l.rows)) ≡ None
