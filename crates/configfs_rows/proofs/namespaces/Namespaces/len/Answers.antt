use Rattle.std.proofs.Common.{List, ℕ, length, sym, ap, ◌∙◌}
use Rattle.std.specs.FinMap as map
use Rattle.configfs_rows.specs.declared.namespaces.NamespaceRow.{NamespaceRow}
use Rattle.configfs_rows.proofs.namespaces.Namespaces.len.Goals as goal

pub returns : goal.returns
returns c = ap (λ (es : List (ℕ × NamespaceRow)). length es) c.entries.ensures
    ∙ sym (map.len-entries _)
