-- The text of a journal.
use Rattle.std.specs.Prelude.{ℕ, List, [], ◌∷◌, ◌++◌, codes}
use Rattle.std.specs.Fmt.{decimal}
use Rattle.std.specs.List.{flat_map}
use Rattle.configfs_tree.specs.Errnos.{name_of}
use Rattle.journal_text.specs.declared.lines.Answer.{Answer}
use Rattle.journal_text.specs.declared.lines.Answer.TheVariants.{Accepted, Refused}
use Rattle.journal_text.specs.declared.lines.JournalLine.{JournalLine}
use Rattle.journal_text.specs.declared.lines.JournalLine.TheVariants.{Edit, Done}

abbrev pub answer_word : Answer → List ℕ
answer_word Accepted = codes "ok"
answer_word (Refused errno) = name_of errno

-- a word, a space, the place, a space, and the number of the line
abbrev pub call_text : List ℕ → ℕ → ℕ → List ℕ
call_text word place line = word ++ ((32 ∷ decimal place) ++ (32 ∷ decimal line))

abbrev pub edit_text : ℕ → ℕ → Answer → List ℕ
edit_text place line answer = call_text (codes "edit") place line ++ (32 ∷ answer_word answer)
    ++ 10 ∷ []

abbrev pub done_text : ℕ → ℕ → List ℕ
done_text place line = call_text (codes "done") place line ++ 10 ∷ []

-- a line with its end, byte 0Ah
abbrev pub line_text : JournalLine → List ℕ
line_text (Edit place line answer) = edit_text place line answer
line_text (Done place line) = done_text place line

abbrev pub head_text : ℕ → List ℕ
head_text places = codes "nvmet-journal 1\nplaces" ++ (32 ∷ decimal places) ++ 10 ∷ []

-- the journal of a run with so many places
abbrev pub journal_text : ℕ → List JournalLine → List ℕ
journal_text places lines = head_text places ++ flat_map line_text lines
