use Rattle.fabrics_connect.proofs.Laws.{served_forth, served_back}
use Rattle.fabrics_connect.proofs.law.served_by_name.Goals as goal

pub returns : goal.returns
returns c =
    let t = c.args._t.now in
    let subs = c.subsystem_positions.ensures in
    let ports = c.port_positions.ensures in
    let stands = c.certify.ensures in (
      served_forth t c.args._id c.args._d.now subs ports stands,
      served_back t c.args._id c.args._d.now subs ports stands,
    )
