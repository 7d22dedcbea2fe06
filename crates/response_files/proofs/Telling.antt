-- What a journal that was read says, and its first bad line.
use Rattle.std.proofs.Common.{◌≡◌, ◌≢◌, ◌<◌, ◌+◌, ◌^◌, ℕ, zero, suc, Bool, true, false, cond, List, [], ◌∷◌, ◌++◌, length, map, Option, Some, None, Result, Ok, Err, refl, sym, ap, ap₂, subst, ◌∙◌, append_assoc, arith, inl, inr, lit<, lit≤}
use Rattle.std.specs.Prelude.{codes, IfOk, IfErr}
use Rattle.std.specs.Fmt.{decimal}
use Rattle.std.specs.List.{flat_map, slice_get, AllByRecursion}
use Rattle.std.specs.Str.{bytes_eq}
use Rattle.std.proofs.lemmas.Bool.{cases_order}
use Rattle.std.proofs.lemmas.List.{append_cancel_right}
use Rattle.std.proofs.lemmas.Slice.Eq.{bytes_eq-Decides}
use Rattle.text_lines.specs.Lines.{lines_of}
use Rattle.journal_text.specs.Text.{answer_word, head_text, journal_text, line_text}
use Rattle.journal_text.specs.declared.lines.JournalLine.{JournalLine}
use Rattle.journal_text.specs.declared.lines.JournalLine.TheVariants.{Edit, Done}
use Rattle.response_files.specs.declared.journal.Journal.{Journal}
use Rattle.response_files.specs.declared.journal.JournalError.{JournalError}
use Rattle.response_files.specs.declared.journal.JournalError.TheVariants as errors
use Rattle.response_files.specs.Journals.{IsNumbered, IsText, IsJournal, IsWell, IsFirstBad}
use Rattle.response_files.specs.JournalReading.{◌>>=◌, Gives, or_bad, call_in, places_in, calls_from, journal_after_head, journal_by, journal_in}
use Rattle.response_files.proofs.Saying.{AllAbove, above_joined, above_less, above_decimal, above_answer, call_row, row_ended, call_was, call_again, places_row, places_was, places_again}
use Rattle.response_files.proofs.Rows.{ended, IsLine, lines_joined, rows_cut}
use Rattle.response_files.proofs.Choosing.{none_some}

-- ---- the rows of a journal

abbrev head_row : List ℕ
head_row = codes "nvmet-journal 1"

abbrev journal_rows : ℕ → List JournalLine → List (List ℕ)
journal_rows places calls = head_row ∷ places_row places ∷ map call_row calls

above_row : (call : JournalLine) → IsNumbered call → AllAbove 10 (call_row call)
above_row (Edit place line answer) is =
    above_joined (codes "edit") (decimal place ∷ decimal line ∷ answer_word answer ∷ []) refl
    (above_decimal place is.0, (above_decimal line is.1, (above_answer answer, tt)))
above_row (Done place line) is =
    above_joined (codes "done") (decimal place ∷ decimal line ∷ []) refl
    (above_decimal place is.0, (above_decimal line is.1, tt))

long_row : (call : JournalLine) → 0 < length (call_row call)
long_row (Edit place line answer) = omega arith
long_row (Done place line) = omega arith

calls_are_lines : (calls : List JournalLine) → AllByRecursion IsNumbered calls
    → AllByRecursion IsLine (map call_row calls)
calls_are_lines [] all = tt
calls_are_lines (call ∷ calls) all =
    (record { some = long_row call; above = above_row call all.0 }, calls_are_lines calls all.1)

rows_are_lines : (places : ℕ) (calls : List JournalLine) → places < 2 ^ 32
    → AllByRecursion IsNumbered calls → AllByRecursion IsLine (journal_rows places calls)
rows_are_lines places calls small all = (
  record { some = lit< tt; above = refl },
  (
    record {
      some = omega arith;
      above = above_less 32 10 (decimal places) (lit≤ tt) (above_decimal places small);
    },
    calls_are_lines calls all,
  ),
)

calls_text : (calls : List JournalLine)
    → flat_map line_text calls ≡ ended (map call_row calls)
calls_text [] = refl
calls_text (call ∷ calls) = rw (row_ended call, calls_text calls) refl

text_rows : (places : ℕ) (calls : List JournalLine)
    → journal_text places calls ≡ ended (journal_rows places calls)
text_rows places calls =
    ap (λ (l : List ℕ). head_text places ++ l) (calls_text calls)
    ∙ simp append_assoc refl

-- ---- what reading tells of the calls

-- a call's line may stand from the third on
shifted : (k : ℕ) (o : Option (List ℕ)) → IsWell (suc (suc (suc k))) o → IsWell (suc (suc k)) o
shifted k None w = omega arith
shifted k (Some line) w = w

shifted_up : (k : ℕ) (o : Option (List ℕ)) → IsWell (suc (suc k)) o → IsWell (suc (suc (suc k))) o
shifted_up k None w = omega arith
shifted_up k (Some line) w = w

-- the first of the calls' lines that is bad, where the first of them has the number n
pub record IsBadCall (n : ℕ) (lines : List (List ℕ)) (number : ℕ) : Type 0 where
  at : ℕ
  number_is : number ≡ n + at
  before : (k : ℕ) → k < at → IsWell (suc (suc k)) (slice_get lines k)
  bad : IsWell (suc (suc at)) (slice_get lines at) → ⊥

pub record AreCalls (lines : List (List ℕ)) (calls : List JournalLine) : Type 0 where
  rows : lines ≡ map call_row calls
  numbered : AllByRecursion IsNumbered calls

pub TellsCalls : ℕ → List (List ℕ) → Result (List JournalLine) JournalError → Type 0
TellsCalls n lines (Ok calls) = AreCalls lines calls
TellsCalls n lines (Err errors.Memory) = ⊥
TellsCalls n lines (Err (errors.BadLine number)) = IsBadCall n lines number

well_row : (line : List ℕ) (call : JournalLine) → call_in line ≡ Some call
    → (l : JournalLine) × IsNumbered l × (line ++ 10 ∷ [] ≡ line_text l)
well_row line call e =
    let was = call_was line call e in
    (call, was.1, ap (λ (l : List ℕ). l ++ 10 ∷ []) was.0 ∙ sym (row_ended call))

bad_before : (at : ℕ) (line : List ℕ) (lines : List (List ℕ)) (call : JournalLine)
    → call_in line ≡ Some call
    → ((k : ℕ) → k < at → IsWell (suc (suc k)) (slice_get lines k))
    → (k : ℕ) → k < suc at → IsWell (suc (suc k)) (slice_get (line ∷ lines) k)
bad_before at line lines call e before zero lt = well_row line call e
bad_before at line lines call e before (suc k) lt =
    shifted_up k (slice_get lines k) (before k (omega arith))

bad_later : (n : ℕ) (line : List ℕ) (lines : List (List ℕ)) (call : JournalLine) (number : ℕ)
    → call_in line ≡ Some call → IsBadCall (n + 1) lines number
    → IsBadCall n (line ∷ lines) number
bad_later n line lines call number e b = record {
  at = suc b.at;
  number_is = omega (arith, b.number_is);
  before = bad_before b.at line lines call e b.before;
  bad = λ w. b.bad (shifted b.at (slice_get lines b.at) w);
}

calls_later : (n : ℕ) (line : List ℕ) (lines : List (List ℕ)) (call : JournalLine)
    (read : Result (List JournalLine) JournalError) → call_in line ≡ Some call
    → TellsCalls (n + 1) lines read
    → TellsCalls n (line ∷ lines) (read >>= λ calls. Ok (call ∷ calls))
unfolding TellsCalls
calls_later n line lines call (Ok calls) e t =
    let was = call_was line call e in
    record {
      rows = ap₂ (λ (l : List ℕ) (ls : List (List ℕ)). l ∷ ls) was.0 t.rows;
      numbered = (was.1, t.numbered);
    }
calls_later n line lines call (Err errors.Memory) e t = t
calls_later n line lines call (Err (errors.BadLine number)) e t =
    bad_later n line lines call number e t

-- a line that says no call is no call's line
no_row : (line : List ℕ) → call_in line ≡ None
    → ((l : JournalLine) × IsNumbered l × (line ++ 10 ∷ [] ≡ line_text l)) → ⊥
no_row line none row =
    let same : line ≡ call_row row.0 = append_cancel_right line (call_row row.0) (10 ∷ [])
    (row.2 ∙ row_ended row.0) in
    let some : call_in line ≡ Some row.0 = ap call_in same ∙ call_again row.0 row.1 in
    none_some row.0 (sym none ∙ some)

bad_here : (n : ℕ) (line : List ℕ) (lines : List (List ℕ)) → call_in line ≡ None
    → IsBadCall n (line ∷ lines) n
bad_here n line lines none = record {
  at = zero;
  number_is = omega arith;
  before = λ k lt. absurd (omega arith);
  bad = λ row. no_row line none row;
}

pub tells_calls : (n : ℕ) (lines : List (List ℕ)) → TellsCalls n lines (calls_from n lines)
unfolding TellsCalls calls_from
tells_calls n [] = record { rows = refl; numbered = tt }
tells_calls n (line ∷ lines) = by_call (call_in line) refl (tells_calls (n + 1) lines) where
  by_call : (o : Option JournalLine) → call_in line ≡ o
      → TellsCalls (n + 1) lines (calls_from (n + 1) lines)
      → TellsCalls n (line ∷ lines) (or_bad n o >>= λ call. calls_from (n + 1) lines >>=
      λ calls. Ok (call ∷ calls))
  by_call None e t = bad_here n line lines e
  by_call (Some call) e t = calls_later n line lines call (calls_from (n + 1) lines) e t

-- ---- what reading tells of a journal

record SaysJournal (rows : List (List ℕ)) (j : Journal) : Type 0 where
  rows_are : rows ≡ journal_rows j.places j.lines
  places : j.places < 2 ^ 32
  lines : AllByRecursion IsNumbered j.lines

-- the row of this number, from 1, is the first that isn't well
record IsBadRow (rows : List (List ℕ)) (number : ℕ) : Type 0 where
  at : ℕ
  number_is : number ≡ at + 1
  before : (k : ℕ) → k < at → IsWell k (slice_get rows k)
  bad : IsWell at (slice_get rows at) → ⊥

Tells : List (List ℕ) → Result Journal JournalError → Type 0
Tells rows (Ok j) = SaysJournal rows j
Tells rows (Err errors.Memory) = ⊥
Tells rows (Err (errors.BadLine number)) = IsBadRow rows number

-- a bad first row
bad_first : (rows : List (List ℕ)) → (IsWell zero (slice_get rows zero) → ⊥) → IsBadRow rows 1
bad_first rows bad = record {
  at = zero;
  number_is = omega arith;
  before = λ k lt. absurd (omega arith);
  bad = bad;
}

-- a bad second row
bad_second : (head : List ℕ) (rows : List (List ℕ)) → head ≡ head_row
    → (IsWell (suc zero) (slice_get rows zero) → ⊥) → IsBadRow (head ∷ rows) 2
bad_second head rows is bad = record {
  at = suc zero;
  number_is = omega arith;
  before = before;
  bad = bad;
} where
  before : (k : ℕ) → k < suc zero → IsWell k (slice_get (head ∷ rows) k)
  before zero lt = is
  before (suc k) lt = absurd (omega arith)

bad_further : (head second : List ℕ) (lines : List (List ℕ)) (n number : ℕ) → head ≡ head_row
    → (second ≡ places_row n) × (n < 2 ^ 32) → IsBadCall 3 lines number
    → IsBadRow (head ∷ second ∷ lines) number
bad_further head second lines n number is places b = record {
  at = suc (suc b.at);
  number_is = omega (arith, b.number_is);
  before = before;
  bad = b.bad;
} where
  before : (k : ℕ) → k < suc (suc b.at) → IsWell k (slice_get (head ∷ second ∷ lines) k)
  before zero lt = is
  before (suc zero) lt = (n, places.1, places.0)
  before (suc (suc k)) lt = b.before k (omega arith)

with_calls : (head second : List ℕ) (lines : List (List ℕ)) (n : ℕ)
    (read : Result (List JournalLine) JournalError) → head ≡ head_row
    → (second ≡ places_row n) × (n < 2 ^ 32) → TellsCalls 3 lines read
    → Tells (head ∷ second ∷ lines) (read >>= λ calls. Ok (record { places = n; lines = calls }))
unfolding TellsCalls Tells
with_calls head second lines n (Ok calls) is places t = record {
  rows_are = ap₂ (λ (l : List ℕ) (ls : List (List ℕ)). l ∷ ls) is
      (ap₂ (λ (l : List ℕ) (ls : List (List ℕ)). l ∷ ls) places.0 t.rows);
  places = places.1;
  lines = t.numbered;
}
with_calls head second lines n (Err errors.Memory) is places t = t
with_calls head second lines n (Err (errors.BadLine number)) is places t =
    bad_further head second lines n number is places t

-- a row that says no number of places
no_places : (second : List ℕ) → places_in second ≡ None
    → ((n : ℕ) × (n < 2 ^ 32) × (second ≡ places_row n)) → ⊥
no_places second none row =
    none_some row.0 (sym none ∙ ap places_in row.2 ∙ places_again row.0 row.1)

with_places : (head second : List ℕ) (lines : List (List ℕ)) (o : Option ℕ) → head ≡ head_row
    → places_in second ≡ o
    → Tells (head ∷ second ∷ lines) (or_bad 2 o >>= λ places. calls_from 3 lines >>=
    λ calls. Ok (record { places = places; lines = calls }))
unfolding Tells
with_places head second lines None is e =
    bad_second head (second ∷ lines) is (no_places second e)
with_places head second lines (Some n) is e =
    with_calls head second lines n (calls_from 3 lines) is (places_was second n e)
    (tells_calls 3 lines)

after_head : (head : List ℕ) (rows : List (List ℕ)) → head ≡ head_row
    → Tells (head ∷ rows) (journal_after_head rows)
unfolding Tells
after_head head [] is = bad_second head [] is (λ w. absurd (omega (arith, w)))
after_head head (second ∷ lines) is =
    with_places head second lines (places_in second) is refl

tells : (rows : List (List ℕ)) → Tells rows (journal_by rows)
unfolding Tells
tells [] = bad_first [] (λ w. absurd (omega (arith, w)))
tells (head ∷ rows) = by_head (bytes_eq head head_row) refl where
  by_head : (t : Bool) → bytes_eq head head_row ≡ t
      → Tells (head ∷ rows) (cond t (journal_after_head rows) (Err (errors.BadLine 1)))
  by_head true e = after_head head rows ((bytes_eq-Decides head head_row).0 e)
  by_head false e = bad_first (head ∷ rows) (λ is.
      let yes : bytes_eq head head_row ≡ true = (bytes_eq-Decides head head_row).1 is in
      let other : true ≡ false = sym yes ∙ e in
      absurd cc)

-- ---- the laws of what a call gave

was_journal : (bytes : List ℕ) (j : Journal) → journal_in bytes ≡ Ok j → IsJournal bytes j
unfolding journal_in Tells
was_journal bytes j e =
    let s : SaysJournal (lines_of bytes) j = subst (Tells (lines_of bytes)) e
    (tells (lines_of bytes)) in
    let rows : ended (lines_of bytes) ≡ journal_text j.places j.lines =
    ap ended s.rows_are ∙ sym (text_rows j.places j.lines) in
    record {
      spelled = subst (IsText bytes) rows (lines_joined bytes);
      places = s.places;
      lines = s.lines;
    }

calls_read : (n : ℕ) (calls : List JournalLine) → AllByRecursion IsNumbered calls
    → calls_from n (map call_row calls) ≡ Ok calls
unfolding calls_from
calls_read n [] all = refl
calls_read n (call ∷ calls) all =
    rw (call_again call all.0, calls_read (n + 1) calls all.1) refl

rows_of : (bytes : List ℕ) (j : Journal) → IsJournal bytes j
    → lines_of bytes ≡ journal_rows j.places j.lines
rows_of bytes j is =
    rows_cut bytes (journal_rows j.places j.lines)
    (rows_are_lines j.places j.lines is.places is.lines)
    (subst (IsText bytes) (text_rows j.places j.lines) is.spelled)

rows_read : (j : Journal) → j.places < 2 ^ 32 → AllByRecursion IsNumbered j.lines
    → journal_by (journal_rows j.places j.lines) ≡ Ok j
rows_read j small all =
    rw (places_again j.places small, calls_read 3 j.lines all) refl

pub are_read : (bytes : List ℕ) (j : Journal) → IsJournal bytes j → journal_in bytes ≡ Ok j
unfolding journal_in
are_read bytes j is = ap journal_by (rows_of bytes j is) ∙ rows_read j is.places is.lines

-- each row of a journal is well
calls_well : (calls : List JournalLine) → AllByRecursion IsNumbered calls
    → (k : ℕ) → IsWell (suc (suc k)) (slice_get (map call_row calls) k)
calls_well [] all k = omega arith
calls_well (call ∷ calls) all zero = (call, all.0, sym (row_ended call))
calls_well (call ∷ calls) all (suc k) =
    shifted_up k (slice_get (map call_row calls) k) (calls_well calls all.1 k)

rows_well : (j : Journal) → j.places < 2 ^ 32 → AllByRecursion IsNumbered j.lines
    → (k : ℕ) → IsWell k (slice_get (journal_rows j.places j.lines) k)
rows_well j small all zero = refl
rows_well j small all (suc zero) = (j.places, small, refl)
rows_well j small all (suc (suc k)) = calls_well j.lines all k

first_of : (bytes : List ℕ) (number : ℕ) → IsBadRow (lines_of bytes) number
    → IsFirstBad bytes number
first_of bytes number b = record {
  at = b.at;
  number_is = b.number_is;
  before = b.before;
  bad = b.bad;
}

-- there is one first bad line
one_first : (bytes : List ℕ) (m n : ℕ) → IsFirstBad bytes m → IsFirstBad bytes n → m ≡ n
one_first bytes m n a b =
    elim (cases_order a.at b.at) [
      | inl same ↦ omega (arith, same, a.number_is, b.number_is)
      | inr (inl less) ↦ absurd (a.bad (b.before a.at less))
      | inr (inr more) ↦ absurd (b.bad (a.before b.at more))
    ]

pub is_refused : (bytes : List ℕ) (number : ℕ) → IsFirstBad bytes number
    → journal_in bytes ≡ Err (errors.BadLine number)
unfolding journal_in Tells
is_refused bytes number b = by_read (journal_by (lines_of bytes)) refl (tells (lines_of bytes)) where
  by_read : (read : Result Journal JournalError) → journal_by (lines_of bytes) ≡ read
      → Tells (lines_of bytes) read → journal_by (lines_of bytes) ≡ Err (errors.BadLine number)
  by_read (Ok j) e s =
      let well : IsWell b.at (slice_get (lines_of bytes) b.at) =
      subst (λ (rows : List (List ℕ)). IsWell b.at (slice_get rows b.at)) (sym s.rows_are)
      (rows_well j s.places s.lines b.at) in
      absurd (b.bad well)
  by_read (Err errors.Memory) e t = absurd t
  by_read (Err (errors.BadLine m)) e t =
      e ∙ ap (λ (n : ℕ). Err (errors.BadLine n))
      (one_first bytes m number (first_of bytes m t) b)

pub is_spelled : (bytes : List ℕ) (result : Result Journal JournalError)
    → Gives result (journal_in bytes) → IfOk result (λ j. IsJournal bytes j)
is_spelled bytes (Ok j) h = was_journal bytes j h
is_spelled bytes (Err e) h = tt

pub is_first : (bytes : List ℕ) (result : Result Journal JournalError)
    → Gives result (journal_in bytes)
    → IfErr result (λ e. e ≢ errors.Memory
    → (line : ℕ) × (e ≡ errors.BadLine line) × IsFirstBad bytes line)
unfolding journal_in Tells
is_first bytes (Ok j) h = tt
is_first bytes (Err errors.Memory) h = λ other. absurd (other refl)
is_first bytes (Err (errors.BadLine line)) h =
    let t : IsBadRow (lines_of bytes) line = subst (Tells (lines_of bytes)) h
    (tells (lines_of bytes)) in
    λ other. (line, refl, first_of bytes line t)
