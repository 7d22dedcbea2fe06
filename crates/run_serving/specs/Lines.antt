-- What the editor's output holds of its list.
use Rattle.std.specs.Prelude.{◌≡◌, ◌≤◌, ℕ, ◌+◌, List, ◌++◌}
use Rattle.journal_text.specs.declared.lines.JournalLine.{JournalLine}
use Rattle.run_transcript.specs.Runs.{Placed}
use Rattle.run_transcript.specs.Printing.{journal_lines}
use Rattle.run_transcript.specs.Sums.{accepted_in, refused_edits_in, drains_in}
use Rattle.run_serving.specs.declared.editing.Edited.{Edited}

-- its lines are the list's, and its counts the list's
pub record Journals (o : Edited) (list : List Placed) : Type 0 where
  pub lines : o.lines.items ≡ journal_lines list
  pub accepted : o.accepted ≡ accepted_in list
  pub refused : o.refused ≡ refused_edits_in list
  pub drains : o.drains ≡ drains_in list

-- these lines stand behind the others, and so many more edits and drains are counted
pub record AddsLines (old new : Edited) (more : List JournalLine) (accepted refused drains : ℕ)
    : Type 0 where
  pub lines : new.lines.items ≡ old.lines.items ++ more
  pub accepts : new.accepted ≡ old.accepted + accepted
  pub refuses : new.refused ≡ old.refused + refused
  pub ends : new.drains ≡ old.drains + drains

-- at most so many edits of each kind and drains are counted
pub record AreFew (o : Edited) (n : ℕ) : Type 0 where
  pub accepted : o.accepted ≤ n
  pub refused : o.refused ≤ n
  pub drains : o.drains ≤ n
