use Rattle.std.proofs.Common.{◌↔◌, IsTrue, subst}
use Rattle.ref_state.specs.Steps.{IsAllowed}
use Rattle.ref_rule.proofs.concurrency.allowed.Goals as goal

pub returns : goal.returns
returns c = subst (λ s. IsTrue c.may_take_step.result ↔
    IsAllowed s c.args.seat c.args.k.now) c.state.ensures.same c.may_take_step.ensures
