use Rattle.std.proofs.Common.{sym, ◌∙◌}
use Rattle.std.specs.Cmp.Lexicographic.{nat_list_cmp_total}
use Rattle.configfs_rows.proofs.SortedRows.{entries_seen}
use Rattle.configfs_rows.proofs.subsystems.Subsystems.entries.Goals as goal

pub returns : goal.returns
returns c = rw (← c.self.view_is) (c.deref.ensures.value ∙ sym (entries_seen nat_list_cmp_total
    c.self.inside.rows.items c.self.invariant))
