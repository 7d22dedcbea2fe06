use Rattle.std.proofs.Common.{sym, ap, ◌∙◌, ◌==◌}
use Rattle.std.specs.List.{find}
use Rattle.std.specs.FinMap as map
use Rattle.std.specs.FinMap.{FinMap}
use Rattle.configfs_rows.specs.Nqns.{name_order}
use Rattle.configfs_rows.specs.declared.subsystems.SubsystemRow.{SubsystemRow}
use Rattle.tree_target.specs.Views.{space_in}
use Rattle.tree_target.proofs.Admitting.{grouped_at}
use Rattle.tree_target.proofs.look.seen.Goals as goal

pub seen_at-requires : goal.seen_at-requires
seen_at-requires c = grouped_at c.args.tree.now c.args.sub c.args.nsid
    c.in-Some-get.namespace.now c.certify.ensures c.subsystem_positions.ensures
    (ap (λ (m : FinMap name_order SubsystemRow). space_in c.args.nsid
    (find (λ (s : SubsystemRow). s.at == c.args.sub) (map.values m))) (sym c.subsystems.ensures)
    ∙ (ap (space_in c.args.nsid) (sym c.in-Some.ensures) ∙ sym c.in-Some-get.ensures))
