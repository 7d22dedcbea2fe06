use Rattle.std.proofs.Common.{ap, ◌∙◌}
use Rattle.std.specs.Ordering.{nat_cmp}
use Rattle.std.specs.FinMap as map
use Rattle.std.specs.FinMap.{FinMap}
use Rattle.configfs_rows.specs.declared.ports.PortRow.{PortRow}
use Rattle.link_rules.proofs.Finding.{port_of}
use Rattle.link_rules.proofs.found.port_of.Goals as goal

pub returns : goal.returns
returns c = port_of c.args.t.now c.args.id c.get.result
    (c.get.ensures ∙ ap (λ (m : FinMap nat_cmp PortRow). map.get m c.args.id) c.ports.ensures)
    c.certify.ensures c.port_positions.ensures
