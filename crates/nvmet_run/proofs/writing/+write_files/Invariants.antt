use Rattle.std.proofs.Common.{length, ℕ}
use Rattle.nvmet_run.proofs.writing.+write_files.Given as goal

abbrev pub decreases-write_files : goal.decreases-write_files
decreases-write_files g l = length l.lines.now
