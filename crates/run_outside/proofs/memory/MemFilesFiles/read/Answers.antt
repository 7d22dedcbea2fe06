use Rattle.std.proofs.Common.{inr}
use Rattle.run_outside.proofs.memory.MemFilesFiles.read.Goals as goal

pub returns-clause-missing : goal.returns-clause-missing
returns-clause-missing c =
    λ gone. (rw c.fails_now-is_failing.ensures.counted at c.append-result.ensures.failed).1
    (inr gone)

pub returns-clause-failed : goal.returns-clause-failed
returns-clause-failed c = rw (
  c.fails_now-is_failing.ensures.failing,
  c.fails_now-is_failing.ensures.counted,
) at c.append-result.ensures.failed
