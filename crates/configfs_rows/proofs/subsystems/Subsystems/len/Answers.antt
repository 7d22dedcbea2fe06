use Rattle.std.proofs.Common.{List, ℕ, length, sym, ap, ◌∙◌}
use Rattle.std.specs.FinMap as map
use Rattle.configfs_rows.specs.declared.subsystems.SubsystemRow.{SubsystemRow}
use Rattle.configfs_rows.proofs.subsystems.Subsystems.len.Goals as goal

pub returns : goal.returns
returns c = ap (λ (es : List (List ℕ × SubsystemRow)). length es) c.entries.ensures
    ∙ sym (map.len-entries _)
