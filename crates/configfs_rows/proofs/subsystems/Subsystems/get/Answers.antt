use Rattle.std.proofs.Common.{◌≡◌, IsTrue, option_copied, subst, sym, ◌∙◌}
use Rattle.std.specs.Cmp.Lexicographic.{nat_list_cmp_total}
use Rattle.configfs_rows.specs.Nqns.{name_order}
use Rattle.std.specs.FinMap.{find, is_sorted}
use Rattle.configfs_rows.proofs.SortedRows.{get_seen}
use Rattle.configfs_rows.proofs.subsystems.Subsystems.get.Goals as goal

pub returns : goal.returns
returns c = rw (← c.self.view_is) (subst (λ l. IsTrue (is_sorted name_order l)
    → option_copied c.row_of.result ≡ find name_order c.args.name.now l) c.deref.ensures.value
    c.row_of.ensures c.self.invariant ∙ sym (get_seen nat_list_cmp_total c.self.inside.rows.items
    c.self.invariant c.args.name.now))
