use Rattle.std.proofs.Common.{List, ◌∙◌, ap}
use Rattle.ref_state.specs.declared.state.Hold.{Hold}
use Rattle.ref_state.specs.Steps.{may_put, without_least}
use Rattle.ref_rule.proofs.references.holds_put.Goals as goal

pub returns : goal.returns
returns c = c.remove_hold.ensures ∙ ap (λ (hs : List Hold). without_least (may_put c.args.disk) hs)
    (let e = c.in_ok-holds.ensures in cc)
