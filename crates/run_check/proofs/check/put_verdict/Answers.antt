use Rattle.std.proofs.Common.{refl}
use Rattle.run_check.proofs.check.put_verdict.Goals as goal

pub returns-in-NotLegal : goal.returns-in-NotLegal
returns-in-NotLegal g c = rw c.in-NotLegal.is (
  refl,
  refl,
  record {
    answer = c.put_not_legal.result;
    content = c.put_not_legal.ensures.content;
    cause = c.put_not_legal.ensures.cause;
  },
)
