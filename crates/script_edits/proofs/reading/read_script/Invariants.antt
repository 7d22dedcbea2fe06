use Rattle.std.proofs.Common.{◌≡◌, ◌≤◌, ◌+◌, ◌-◌, length, All}
use Rattle.std.specs.Prelude.{IsTrue}
use Rattle.link_rules.specs.Table.{is_fitting}
use Rattle.text_lines.specs.Lines.{lines_of}
use Rattle.script_edits.specs.Script.{script_in}
use Rattle.script_edits.proofs.Whole.{lines_left}
use Rattle.script_edits.proofs.reading.read_script.Given as goal

abbrev pub invariant-loop-rest : goal.invariant-loop-rest
invariant-loop-rest l = record {
  few : l.number ≤ 65536;
  count : length l.edits.items ≤ l.number;
  so_far : lines_left (65536 - l.number) (l.number + 1) l.edits.items (lines_of l.rest)
      ≡ script_in l.bytes;
  fitting : All (λ s. IsTrue (is_fitting s.edit)) l.edits.items;
}

abbrev pub decreases-loop-rest : goal.decreases-loop-rest
decreases-loop-rest l = length l.rest
