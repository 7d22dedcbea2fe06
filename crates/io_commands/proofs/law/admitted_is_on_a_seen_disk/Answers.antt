use Rattle.io_commands.proofs.Admitted.{io_admits}
use Rattle.io_commands.proofs.law.admitted_is_on_a_seen_disk.Goals as goal

pub returns : goal.returns
returns c = io_admits
