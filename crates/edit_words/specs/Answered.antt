-- The words that an edit is published with, by its answer.
use Rattle.std.specs.Prelude.{ℕ, if◌then◌else◌, List, [], Result, Ok, Err}
use Rattle.configfs_tree.specs.declared.edits.Change.{Change}
use Rattle.configfs_tree.specs.declared.edits.Refused.{Refused}
use Rattle.edit_words.specs.Differing.{differing}
use Rattle.ns_table.specs.Patches.{FitsChange, told_places, words_at}
use Rattle.ns_table.specs.Words.{Shape}

-- of a published change those of its patch that the words before it don't have
abbrev pub change_words : List ℕ → Shape → Change → List (ℕ × ℕ)
change_words before x c =
    if c.published then differing before (words_at x (told_places x.tree c)) else []

-- a refused edit has none
abbrev pub answer_words : List ℕ → Shape → Result Change Refused → List (ℕ × ℕ)
answer_words before x (Ok c) = change_words before x c
answer_words before x (Err r) = []

-- what an accepted edit names is in the table
abbrev pub FitsAnswer : Result Change Refused → Type 0
FitsAnswer (Ok c) = FitsChange c
FitsAnswer (Err r) = Unit {0}
