-- How many bytes a journal has at most.
use Rattle.std.specs.Prelude.{ℕ, ◌+◌, ◌*◌, ◌&&◌, nat_le, Bool, List}
use Rattle.std.specs.List.{sum_by}
use Rattle.journal_text.specs.declared.lines.JournalLine.{JournalLine}
use Rattle.journal_text.specs.declared.lines.JournalLine.TheVariants.{Edit, Done}
use Rattle.journal_text.specs.declared.writing.TheConstants.{DONE_BYTES, EDIT_BYTES, HEAD_BYTES}

-- ---- lines of edits, and of drains that ended
abbrev pub edit_count : JournalLine → ℕ
edit_count (Edit place line answer) = 1
edit_count (Done place line) = 0

abbrev pub done_count : JournalLine → ℕ
done_count (Edit place line answer) = 0
done_count (Done place line) = 1

abbrev pub edits_in : List JournalLine → ℕ
edits_in lines = sum_by edit_count lines

abbrev pub dones_in : List JournalLine → ℕ
dones_in lines = sum_by done_count lines

-- at most so many edits, and the ends of at most so many drains
abbrev pub is_within : List JournalLine → ℕ → Bool
is_within lines most = nat_le (edits_in lines) most && nat_le (dones_in lines) most

-- ---- the room that a line needs, and a journal
abbrev pub line_room : JournalLine → ℕ
line_room (Edit place line answer) = EDIT_BYTES
line_room (Done place line) = DONE_BYTES

abbrev pub lines_room : List JournalLine → ℕ
lines_room lines = sum_by line_room lines

abbrev pub journal_room : List JournalLine → ℕ
journal_room lines = HEAD_BYTES + lines_room lines

-- the room of a journal of so many edits, each with the end of a drain
abbrev pub room_of : ℕ → ℕ
room_of edits = HEAD_BYTES + edits * (EDIT_BYTES + DONE_BYTES)
