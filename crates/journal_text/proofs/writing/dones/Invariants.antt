use Rattle.std.proofs.Common.{◌≡◌, ◌≤◌, take}
use Rattle.std.specs.List.{sum_by}
use Rattle.journal_text.specs.Rooms.{done_count}
use Rattle.journal_text.proofs.writing.dones.Given as goal

abbrev pub invariant-loop-line : goal.invariant-loop-line
invariant-loop-line l = record {
  counted : l.count ≡ sum_by done_count (take l.line-index l.lines);
  few : l.count ≤ l.line-index;
}
