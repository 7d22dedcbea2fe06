use Rattle.gen_reading.proofs.Files.{admin_read, io_read}
use Rattle.gen_reading.proofs.law.queue_files_are_read.Goals as goal

pub returns : goal.returns
returns c = record { admin = admin_read; io = io_read }
