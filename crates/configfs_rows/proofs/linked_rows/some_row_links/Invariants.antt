use Rattle.std.proofs.Common.{◌≡◌, None, take}
use Rattle.std.specs.List.{find}
use Rattle.std.specs.Map.{values_of}
use Rattle.std.specs.FinMap as map
use Rattle.configfs_rows.proofs.linked_rows.some_row_links.Given as goal

abbrev pub invariant-loop-row : goal.invariant-loop-row
invariant-loop-row g l = find (λ x. map.contains_key (g.X.LinkedRow.linked x) l.name)
    (values_of (take l.row-index l.rows)) ≡ None
