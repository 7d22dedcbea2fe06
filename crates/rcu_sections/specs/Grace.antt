-- Read-side critical sections, and the grace period that the editor waits for before it may write
-- the spare side: RCU over two sides of words.
use Rattle.std.specs.Prelude.{◌≡◌, ◌≢◌, ℕ, zero, suc, ◌%◌, ◌<◌, true, List, [], ◌∷◌, length, map, slice_index}
use Rattle.ref_state.specs.declared.state.Drain.{Drain}
use Rattle.ref_state.specs.declared.state.Editor.{Editor}
use Rattle.ref_state.specs.declared.state.Mark.{Mark}
use Rattle.ref_state.specs.declared.state.Mark.TheVariants.{Unseen, Passed}
use Rattle.ref_state.specs.State.{AllPassed, mark, looked, is_odd, drain, total, word_of, word_end}
use Rattle.ref_state.specs.Steps.{at_mark, at_drain}
use Rattle.table_rule.specs.declared.rule.Told.{Told}
use Rattle.table_rule.specs.Words.{at, SectionOf}

-- ## What looks at section words tell the editor

-- a look at the section word of a seat, which found this word
abbrev pub Look : Type 0
Look = ℕ × ℕ

-- Looks are listed with the newest first. After them the grace period of the last publish has seen
-- what they found ..
abbrev pub marks_after : List Look → List Mark → List Mark
marks_after [] ms = ms
marks_after (l ∷ ls) ms = at_mark l.0 l.1 (marks_after ls ms)

-- .. and so has that of each killed disk
abbrev pub drains_after : List Look → List Drain → List Drain
drains_after [] ds = ds
drains_after (l ∷ ls) ds = map (at_drain l.0 l.1) (drains_after ls ds)

abbrev pub notes_after : List Look → Editor → Editor
notes_after ls k = record k {
  marks = marks_after ls k.marks;
  drains = drains_after ls k.drains;
}

-- each look is a load, and its seat keeps the word and what was found there
abbrev pub found_after : List Look → List (ℕ × ℕ) → List (ℕ × ℕ)
found_after [] fs = fs
found_after (l ∷ ls) fs = (at (SectionOf l.0), l.1) ∷ found_after ls fs

-- what the editor's seat knows after these looks. They change nothing else
abbrev pub after_looks : List Look → Told → Told
after_looks ls v = record v {
  notes = notes_after ls v.notes;
  found = found_after ls v.found;
}

-- one look at each of n seats, in the order of their numbers, found these words
abbrev pub round : ℕ → List ℕ → List Look
round zero ws = []
round (suc n) ws = (n, slice_index ws n) ∷ round n ws

-- ## Grace periods

-- A grace period noted the section words of n seats right after its publish or kill. It still waits
-- for those alone whose word was odd then, and as long as no other word was found there
abbrev pub Noted : ℕ → List ℕ → List Mark → Type 0
Noted n ws ms = (j : ℕ) → j < n → mark ms j ≢ Passed → mark ms j ≡ looked Unseen (slice_index ws j)

-- this call loaded the section word of the seat and found it odd, and as it was noted: its section
-- may be the one that the grace period waits for
pub record StillReads (noted : List ℕ) (seat count : ℕ) (v w : Told) : Type 0 where
  pub looks : List Look
  pub told : w ≡ after_looks ((seat, count) ∷ looks) v
  pub as_noted : slice_index noted seat ≡ count
  pub odd : is_odd count ≡ true

-- the spare side of this serial is in hand: every section that could read it was left since the
-- publish, and none was published since
pub record IsSpare (serial : ℕ) (v : Told) : Type 0 where
  pub serial_is : serial ≡ length v.notes.published
  pub over : AllPassed v.seats v.notes.marks

-- looks give nothing back: a spare side in hand stays so until the next publish
abbrev pub SpareStays : Type 0
SpareStays = (serial : ℕ) (ls : List Look) (v : Told) → IsSpare serial v
    → IsSpare serial (after_looks ls v)

-- the counters of a disk's reference stood there at the last fold, added up modulo 2^64
abbrev pub base_word : Editor → ℕ → ℕ
base_word k d = total word_of (drain k d).bases % word_end
