-- A finished run as its files tell it: what it had read, and the records that it left.
use Rattle.std.specs.Prelude.{ℕ, List, [], length, Option, Some, None}
use Rattle.std.specs.List.{flat_map}
use Rattle.response_files.specs.Responses.{Response}
use Rattle.response_files.specs.declared.journal.Journal.{Journal}
use Rattle.journal_text.specs.declared.lines.JournalLine.{JournalLine}
use Rattle.run_inputs.specs.Known.{Known}

-- what the run had read, the records of queues 1, 2, .. as far as they were read, and its journal
pub record Finished : Type 0 where
  pub known : Known
  pub responses : List (List Response)
  pub journal : Option Journal

-- before any of its records is read
abbrev pub unread : Known → Finished
unread s = record { known = s; responses = []; journal = None }

abbrev pub lines_of : Option Journal → List JournalLine
lines_of None = []
lines_of (Some j) = j.lines

abbrev pub number_by : Option Journal → List (List Response) → ℕ
number_by None responses = length (flat_map (λ rs. rs) responses)
number_by (Some j) responses = j.places

-- how many places it has: as many as its journal says; without a journal as many as it has records
abbrev pub number_of : Finished → ℕ
number_of f = number_by f.journal f.responses
