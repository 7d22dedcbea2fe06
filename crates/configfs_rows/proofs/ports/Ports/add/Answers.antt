use Rattle.std.proofs.Common.{ap, ◌∙◌}
use Rattle.std.specs.Ordering.{nat_cmp}
use Rattle.std.specs.FinMap.{is_sorted}
use Rattle.std.specs.Cmp.{nat_cmp_total}
use Rattle.configfs_rows.proofs.SortedRows.{put_rises, put_seen}
use Rattle.configfs_rows.proofs.ports.Ports.add.Goals as goal

pub invariant_of-self-2 : goal.invariant_of-self-2
invariant_of-self-2 c = put_rises nat_cmp_total c.self.inside.rows.items c.self.invariant c.args.id
    c.args.row _ (c.in_ok-put_row.ensures.ok c.self.invariant)

pub invariant_of-self : goal.invariant_of-self
invariant_of-self c = ap (is_sorted nat_cmp) c.in_err-put_row.ensures.err ∙ c.self.invariant

pub returns-clause-ok : goal.returns-clause-ok
returns-clause-ok c = rw (← c.self.view_is) (put_seen nat_cmp_total c.self.inside.rows.items
    c.self.invariant c.args.id c.args.row _ (c.in_ok-put_row.ensures.ok c.self.invariant))
