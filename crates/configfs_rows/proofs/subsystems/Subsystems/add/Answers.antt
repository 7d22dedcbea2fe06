use Rattle.std.proofs.Common.{ap, ◌∙◌}
use Rattle.configfs_rows.specs.Nqns.{name_order}
use Rattle.std.specs.FinMap.{is_sorted}
use Rattle.std.specs.Cmp.Lexicographic.{nat_list_cmp_total}
use Rattle.configfs_rows.proofs.SortedRows.{put_rises, put_seen}
use Rattle.configfs_rows.proofs.subsystems.Subsystems.add.Goals as goal

pub invariant_of-self-2 : goal.invariant_of-self-2
invariant_of-self-2 c = put_rises nat_list_cmp_total c.self.inside.rows.items c.self.invariant c.args.name
    c.args.row _ (c.in_ok-put_row.ensures.ok c.self.invariant)

pub invariant_of-self : goal.invariant_of-self
invariant_of-self c = ap (is_sorted name_order) c.in_err-put_row.ensures.err ∙ c.self.invariant

pub returns-clause-ok : goal.returns-clause-ok
returns-clause-ok c = rw (← c.self.view_is) (put_seen nat_list_cmp_total c.self.inside.rows.items
    c.self.invariant c.args.name c.args.row _ (c.in_ok-put_row.ensures.ok c.self.invariant))
