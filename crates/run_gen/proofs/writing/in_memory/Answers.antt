use Rattle.run_gen.proofs.Files.{holds_just}
use Rattle.run_gen.proofs.writing.in_memory.Goals as goal

pub returns-in-Ok-clause-just : goal.returns-in-Ok-clause-just
returns-in-Ok-clause-just c = holds_just _ _ _ c.new-files.ensures.tells c.in-Ok.ensures.tells
    c.new-files.ensures.empty c.in-Ok.ensures.writes
