use Rattle.std.proofs.Common.{◌≡◌, IsTrue, option_copied, subst, sym, ◌∙◌}
use Rattle.std.specs.Cmp.{nat_cmp_total}
use Rattle.std.specs.Ordering.{nat_cmp}
use Rattle.std.specs.FinMap.{find, is_sorted}
use Rattle.configfs_rows.proofs.SortedRows.{get_seen}
use Rattle.configfs_rows.proofs.ports.Ports.get.Goals as goal

pub returns : goal.returns
returns c = rw (← c.self.view_is) (subst (λ l. IsTrue (is_sorted nat_cmp l)
    → option_copied c.row_of.result ≡ find nat_cmp c.args.id l) c.deref.ensures.value
    c.row_of.ensures c.self.invariant ∙ sym (get_seen nat_cmp_total c.self.inside.rows.items
    c.self.invariant c.args.id))
