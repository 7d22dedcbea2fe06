-- The first fault of a run, against the sequential target.
use Rattle.std.specs.Prelude.{◌≡◌, ◌≢◌, ◌<◌, ◌⊎◌, ℕ, ◌+◌, Bool, true, false, IsTrue, List, ◌∷◌, ◌++◌, length, Some, None, slice_get}
use Rattle.tree_target.specs.Model.{Call, Submit, Execute, Poll, Control, AnEdit, DrainEnd, Entry}
use Rattle.tree_target.specs.Steps.{is_lawful, entry_of}
use Rattle.run_transcript.specs.Runs.{Placed, Run, callers, target_at, target_after_all}
use Rattle.run_transcript.specs.Printing.{answer_of, completion_of}
use Rattle.run_verdicts.specs.declared.verdict.Field.{Field}
use Rattle.run_verdicts.specs.declared.verdict.Field.TheVariants as field
use Rattle.run_verdicts.specs.declared.verdict.Verdict.{Verdict}
use Rattle.run_verdicts.specs.declared.verdict.Verdict.TheVariants as verdict
use Rattle.run_verdicts.specs.Places.{IsBadPlace, ArePlaces, IsLowest}
use Rattle.run_verdicts.specs.Nexts.{told, places_of, below, next_of, front_of, earlier, is_final_of, AreAllBelow}

-- e stands at the place p, and right after what its caller did below p
pub record ComesNext (list : List Placed) (p : ℕ) (e : Placed) : Type 0 where
  pub rest : List Placed
  pub follows : list ≡ below p list ++ e ∷ rest
  pub place : e.place ≡ p

abbrev pub is_drain_end : Call → Bool
is_drain_end (Submit queue number e) = false
is_drain_end (Execute queue number payload) = false
is_drain_end (Poll queue) = false
is_drain_end (Control queue number e payload) = false
is_drain_end (AnEdit line e) = false
is_drain_end (DrainEnd line sub nsid) = true

-- whether the call of an entry is lawful at its place
abbrev pub is_lawful_at : Run → ℕ → Placed → Bool
is_lawful_at run p e = is_lawful (target_at run p) e.entry.call

-- What stands at the place p is what its caller does next: a call of a front has its turn, a final
-- poll comes after all that is none, and the call is lawful, but for the end of a drain.
pub record InOrder (run : Run) (p : ℕ) (e : Placed) : Type 0 where
  pub caller : ℕ
  pub list : List Placed
  pub is_list : slice_get (callers run) caller ≡ Some list
  pub comes : ComesNext list p e
  pub owed : next_of run (target_at run p) caller (below p list) ≡ Some e.entry.call
  pub turn : length (below p list) < front_of run caller
      → p ≡ earlier run caller + length (below p list)
  pub last : is_final_of run caller (below p list) ≡ true → AreAllBelow run p
  pub lawful : is_drain_end e.entry.call ≡ false → IsTrue (is_lawful_at run p e)

-- the first field in which what is told differs from what the target makes
abbrev pub Differs : Entry → Entry → Field → Type 0
Differs e made field.Place = ⊥
Differs e made field.Order = ⊥
Differs e made field.Answer = answer_of e.reply ≢ answer_of made.reply
Differs e made field.Completion = (answer_of e.reply ≡ answer_of made.reply)
    × (completion_of e.reply ≢ completion_of made.reply)
Differs e made field.Bytes = (answer_of e.reply ≡ answer_of made.reply)
    × (completion_of e.reply ≡ completion_of made.reply) × (e.bytes ≢ made.bytes)
Differs e made field.Errno = (answer_of e.reply ≡ answer_of made.reply)
    × (completion_of e.reply ≡ completion_of made.reply) × (e.bytes ≡ made.bytes)
    × (e.reply ≢ made.reply)
Differs e made field.Drain = ⊥

-- what the target makes of the call that stands at a place
abbrev pub made_at : Run → ℕ → Placed → Entry
made_at run p e = entry_of (target_at run p) e.entry.call

-- the place agrees: what stands there is in order, lawful, and what the target makes
pub record Agrees (run : Run) (p : ℕ) : Type 0 where
  pub entry : Placed
  pub in_order : InOrder run p entry
  pub lawful : IsTrue (is_lawful_at run p entry)
  pub is : entry.entry ≡ made_at run p entry

-- in order and lawful, and told otherwise than made, in this field first
pub record IsOtherwise (run : Run) (p : ℕ) (f : Field) : Type 0 where
  pub entry : Placed
  pub in_order : InOrder run p entry
  pub lawful : IsTrue (is_lawful_at run p entry)
  pub differs : Differs entry.entry (made_at run p entry) f

-- in order, but not lawful: the end of a drain
pub record IsUnlawful (run : Run) (p : ℕ) : Type 0 where
  pub entry : Placed
  pub in_order : InOrder run p entry
  pub unlawful : is_lawful_at run p entry ≡ false

-- the place differs, in this field first
abbrev pub DiffersAt : Run → ℕ → Field → Type 0
DiffersAt run p field.Place = ⊥
DiffersAt run p field.Order = (e : Placed) → InOrder run p e → ⊥
DiffersAt run p field.Answer = IsOtherwise run p field.Answer
DiffersAt run p field.Completion = IsOtherwise run p field.Completion
DiffersAt run p field.Bytes = IsOtherwise run p field.Bytes
DiffersAt run p field.Errno = IsOtherwise run p field.Errno
DiffersAt run p field.Drain = IsUnlawful run p

-- each caller did all that it does
abbrev pub AreDone : Run → Type 0
AreDone run = (caller : ℕ) (list : List Placed) → slice_get (callers run) caller ≡ Some list
    → next_of run (target_after_all run) caller list ≡ None

-- the places are right, and those below p agree
pub record AgreesBelow (n : ℕ) (run : Run) (p : ℕ) : Type 0 where
  pub places : ArePlaces n (places_of (told run))
  pub below : (k : ℕ) → k < p → Agrees run k

-- places 0 to n - 1, each once and agreeing, and all callers to their end
pub record IsRight (n : ℕ) (run : Run) : Type 0 where
  pub agrees : AgreesBelow n run n
  pub done : AreDone run

-- The first fault: the lowest bad place; else the lowest place that differs, in its first field;
-- else, at place n, a caller whose list ends too early.
abbrev pub IsFault : ℕ → Run → ℕ → Field → Type 0
IsFault n run p field.Place = IsLowest (IsBadPlace n (places_of (told run))) p
IsFault n run p field.Order = AgreesBelow n run p
    × (((p < n) × DiffersAt run p field.Order) ⊎ ((p ≡ n) × (AreDone run → ⊥)))
IsFault n run p field.Answer = AgreesBelow n run p × (p < n) × DiffersAt run p field.Answer
IsFault n run p field.Completion = AgreesBelow n run p × (p < n)
    × DiffersAt run p field.Completion
IsFault n run p field.Bytes = AgreesBelow n run p × (p < n) × DiffersAt run p field.Bytes
IsFault n run p field.Errno = AgreesBelow n run p × (p < n) × DiffersAt run p field.Errno
IsFault n run p field.Drain = AgreesBelow n run p × (p < n) × DiffersAt run p field.Drain

-- a verdict says which
abbrev pub Judges : ℕ → Run → Verdict → Type 0
Judges n run (verdict.Legal places) = (places ≡ n) × IsRight n run
Judges n run (verdict.NotLegal place f) = IsFault n run place f
