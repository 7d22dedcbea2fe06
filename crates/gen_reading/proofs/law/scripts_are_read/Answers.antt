use Rattle.gen_reading.proofs.Scripts.{script_read}
use Rattle.gen_reading.proofs.law.scripts_are_read.Goals as goal

pub returns : goal.returns
returns c = script_read
