use Rattle.std.proofs.Common.{◌≡◌}
use Rattle.ref_state.specs.Steps.{at_drain}
use Rattle.ref_rule.proofs.Mapped.{mapped}
use Rattle.ref_rule.proofs.sections.look_drains.Given as goal

abbrev pub invariant-loop-i : goal.invariant-loop-i
invariant-loop-i l = l.drains ≡ mapped (at_drain l.other l.word) l.initial.drains l.i
