use Rattle.std.proofs.Common.{arith}
use Rattle.run_check.proofs.bounds.behind.Goals as goal

pub returns-then-bound-next : goal.returns-then-bound-next
returns-then-bound-next c = λ p. (λ h. (omega (arith, h), omega (arith, h)), λ h. omega (arith, h.1))

pub returns-else-bound-next : goal.returns-else-bound-next
returns-else-bound-next c = λ p. (λ h. (omega (arith, h), omega (arith, h)), λ h. omega (arith, h.0))
