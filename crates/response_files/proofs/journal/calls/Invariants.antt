use Rattle.std.proofs.Common.{◌≡◌, ◌≤◌, ◌+◌, length}
use Rattle.text_lines.specs.Lines.{lines_of}
use Rattle.response_files.specs.JournalReading.{calls_from}
use Rattle.response_files.proofs.Calling.{after_those}
use Rattle.response_files.proofs.journal.calls.Given as goal

abbrev pub invariant-loop-rest : goal.invariant-loop-rest
invariant-loop-rest l = record {
  few : l.number + length l.rest ≤ length l.bytes + 2;
  so_far : after_those l.lines (calls_from (l.number + 1) (lines_of l.rest))
      ≡ calls_from 3 (lines_of l.bytes);
}

abbrev pub decreases-loop-rest : goal.decreases-loop-rest
decreases-loop-rest l = length l.rest
