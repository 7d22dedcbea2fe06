use Rattle.fabrics_connect.specs.Checks.{numbered}
use Rattle.fabrics_connect.proofs.Kept.{fits_property}
use Rattle.fabrics_connect.proofs.actions.check.Goals as goal

pub returns-in-Some-clause-fits : goal.returns-in-Some-clause-fits
returns-in-Some-clause-fits c =
    rw (c.check_property.ensures)
    (fits_property c.args.t.now c.args.controllers.now
    (numbered c.args.controllers.now c.in-Some.bound.ctrl) c.args.e.now)
