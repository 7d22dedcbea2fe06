use Rattle.std.proofs.Common.{◌≡◌, ◌++◌, drop, length}
use Rattle.std.specs.List.{flat_map}
use Rattle.mem_bdev.specs.Texts.{HasRoom}
use Rattle.journal_text.specs.Rooms.{lines_room}
use Rattle.journal_text.specs.Text.{line_text}
use Rattle.journal_text.proofs.writing.put_lines.Given as goal

abbrev pub invariant-loop-line : goal.invariant-loop-line
invariant-loop-line l = record {
  told : l.to.bytes ++ flat_map line_text (drop l.line-index l.lines) ≡ l.fn.to.bytes ++ flat_map
      line_text l.lines;
  room : HasRoom l.to (lines_room (drop l.line-index l.lines));
  same_room : l.to.room ≡ l.fn.to.room;
}
