use Rattle.std.proofs.Common.{sym, subst}
use Rattle.ref_state.specs.Steps.{IsAllowed}
use Rattle.ref_state.proofs.Law.{sound_step}
use Rattle.ref_rule.proofs.concurrency.step.Goals as goal

pub take_step-requires-clause-allowed : goal.take_step-requires-clause-allowed
take_step-requires-clause-allowed c = subst (λ s. IsAllowed s c.args.seat c.args.k.now)
    (sym c.c.view_is) c.requires

pub invariant_of-c-2 : goal.invariant_of-c-2
invariant_of-c-2 c = sound_step c.c.inside.state c.take_step.new.s c.args.seat c.args.k.now
    (record {
      allowed = subst (λ s. IsAllowed s c.args.seat c.args.k.now) (sym c.c.view_is)
          c.requires;
      after = c.in_ok-answer.ensures.done;
    }) c.c.invariant
