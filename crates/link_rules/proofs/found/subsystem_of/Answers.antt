use Rattle.std.proofs.Common.{ap, ◌∙◌}
use Rattle.std.specs.FinMap as map
use Rattle.std.specs.FinMap.{FinMap}
use Rattle.configfs_rows.specs.Nqns.{name_order}
use Rattle.configfs_rows.specs.declared.subsystems.SubsystemRow.{SubsystemRow}
use Rattle.link_rules.proofs.Finding.{subsystem_of}
use Rattle.link_rules.proofs.found.subsystem_of.Goals as goal

pub returns : goal.returns
returns c = subsystem_of c.args.t.now c.args.sub.now c.get.result
    (c.get.ensures ∙ ap (λ (m : FinMap name_order SubsystemRow). map.get m c.args.sub.now)
    c.subsystems.ensures)
    c.certify.ensures c.subsystem_positions.ensures
