use Rattle.std.proofs.Common.{◌==◌, ◌∙◌}
use Rattle.std.specs.FinMap as map
use Rattle.configfs_rows.specs.declared.ports.PortRow.{PortRow}
use Rattle.configfs_rows.proofs.Scans.{lent_passes}
use Rattle.configfs_rows.proofs.ports.Ports.has_place.Goals as goal

pub returns : goal.returns
returns c = c.is_some.ensures ∙ lent_passes (λ (row : PortRow). row.at == c.args.at)
    (map.values c.args.self.now) c.at.result c.at.ensures
