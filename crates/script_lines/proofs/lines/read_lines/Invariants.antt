use Rattle.std.proofs.Common.{◌≡◌, ◌≤◌, ◌+◌, ◌-◌, length}
use Rattle.text_lines.specs.Lines.{lines_of}
use Rattle.script_lines.specs.Reading.{lines_in}
use Rattle.script_lines.proofs.Whole.{lines_left}
use Rattle.script_lines.proofs.lines.read_lines.Given as goal

abbrev pub invariant-loop-rest : goal.invariant-loop-rest
invariant-loop-rest l = record {
  few : l.number ≤ 65536;
  so_far : lines_left (65536 - l.number) (l.number + 1) l.lines.items (lines_of l.rest)
      ≡ lines_in l.bytes;
}

abbrev pub decreases-loop-rest : goal.decreases-loop-rest
decreases-loop-rest l = length l.rest
