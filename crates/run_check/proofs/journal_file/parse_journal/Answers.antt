use Rattle.std.proofs.Common.{arith}
use Rattle.run_check.proofs.Parsed.{told_line_small}
use Rattle.run_check.proofs.journal_file.parse_journal.Goals as goal

pub overflow_cast-line : goal.overflow_cast-line
overflow_cast-line c = omega (
  arith,
  told_line_small c.args.bytes.now c.in-Err-BadLine.line _ c.in-Err-BadLine.field-0-is c.in-Err-BadLine.ensures.fault c.requires,
)
