-- Reading a journal: what it says, or the number of its first bad line.
use Rattle.std.specs.Prelude.{ℕ, ◌+◌, ◌^◌, nat_lt, Bool, true, false, ◌&&◌, if◌then◌else◌, List, [], ◌∷◌, codes, Option, Some, None, Result, Ok, Err}
use Rattle.std.specs.Fmt.{decimal}
use Rattle.std.specs.List.{find}
use Rattle.std.specs.Option.{option_and_then}
use Rattle.std.specs.Str.{bytes_eq}
use Rattle.std.specs.Str.Parse.{digits_value}
use Rattle.text_lines.specs.Answers as answers
use Rattle.text_lines.specs.Lines.{lines_of, words_of}
use Rattle.configfs_tree.specs.declared.edits.Errno.TheVariants.{EPERM, ENOENT, EACCES, EBUSY, EEXIST, EINVAL, ENOTEMPTY, ENOSPC}
use Rattle.journal_text.specs.Text.{answer_word}
use Rattle.journal_text.specs.declared.lines.Answer.{Answer}
use Rattle.journal_text.specs.declared.lines.Answer.TheVariants.{Accepted, Refused}
use Rattle.journal_text.specs.declared.lines.JournalLine.{JournalLine}
use Rattle.journal_text.specs.declared.lines.JournalLine.TheVariants.{Edit, Done}
use Rattle.response_files.specs.declared.journal.Journal.{Journal}
use Rattle.response_files.specs.declared.journal.JournalError.{JournalError}
use Rattle.response_files.specs.declared.journal.JournalError.TheVariants as errors

-- whether an error is want of memory
abbrev pub is_memory : JournalError → Bool
is_memory errors.Memory = true
is_memory (errors.BadLine line) = false

-- an error is what reading gives, unless memory ran out
abbrev pub Fails : {Y : Type 0} → JournalError → Result Y JournalError → Type 0
Fails e read = answers.Fails is_memory e read

-- what a call answered is what reading gives, unless memory ran out
abbrev pub Gives : {X : Type 0} → Result X JournalError → Result X JournalError → Type 0
Gives result read = answers.Gives Fails (λ x. x) result read

infixl 10 ◌>>=◌
abbrev pub ◌>>=◌ : {A B : Type 0} → Result A JournalError → (A → Result B JournalError)
    → Result B JournalError
(Ok x) >>= f = f x
(Err e) >>= f = Err e

-- ---- words

-- the number below 2 ^ 32 of which a word is the decimal text
unfoldable pub number_in : List ℕ → Option ℕ
number_in word =
    if bytes_eq word (decimal (digits_value 10 word)) && nat_lt (digits_value 10 word) (2 ^ 32)
    then Some (digits_value 10 word) else None

abbrev pub all_answers : List Answer
all_answers = Accepted ∷ Refused EPERM ∷ Refused ENOENT ∷ Refused EACCES ∷ Refused EBUSY
    ∷ Refused EEXIST ∷ Refused EINVAL ∷ Refused ENOTEMPTY ∷ Refused ENOSPC ∷ []

-- of these answers the one that a word stands for
abbrev pub answer_among : List ℕ → List Answer → Option Answer
answer_among word answers = find (λ a. bytes_eq word (answer_word a)) answers

abbrev pub answer_in : List ℕ → Option Answer
answer_in word = answer_among word all_answers

-- ---- lines

-- the call that three words say
unfoldable pub done_said : List ℕ → List ℕ → List ℕ → Option JournalLine
done_said kind place line =
    if bytes_eq kind (codes "done")
    then option_and_then (λ p. option_and_then (λ l. Some (Done p l)) (number_in line))
    (number_in place)
    else None

-- the call that four words say
unfoldable pub edit_said : List ℕ → List ℕ → List ℕ → List ℕ → Option JournalLine
edit_said kind place line answer =
    if bytes_eq kind (codes "edit")
    then option_and_then (λ p. option_and_then (λ l. option_and_then (λ a. Some (Edit p l a))
    (answer_in answer)) (number_in line)) (number_in place)
    else None

-- the call that these words say
abbrev pub call_said : List (List ℕ) → Option JournalLine
call_said [] = None
call_said (kind ∷ []) = None
call_said (kind ∷ place ∷ []) = None
call_said (kind ∷ place ∷ line ∷ []) = done_said kind place line
call_said (kind ∷ place ∷ line ∷ answer ∷ []) = edit_said kind place line answer
call_said (kind ∷ place ∷ line ∷ answer ∷ more ∷ rest) = None

-- the call that a line says
abbrev pub call_in : List ℕ → Option JournalLine
call_in line = call_said (words_of line)

-- the number of places that these words say
abbrev pub places_said : List (List ℕ) → Option ℕ
places_said [] = None
places_said (kind ∷ []) = None
places_said (kind ∷ number ∷ []) = if bytes_eq kind (codes "places") then number_in number else None
places_said (kind ∷ number ∷ more ∷ rest) = None

-- the number of places that a line says
abbrev pub places_in : List ℕ → Option ℕ
places_in line = places_said (words_of line)

-- ---- the whole text

-- a value, or the bad line that has none
abbrev pub or_bad : {A : Type 0} → ℕ → Option A → Result A JournalError
or_bad n None = Err (errors.BadLine n)
or_bad n (Some x) = Ok x

-- the calls of these lines, the first of which has the number n
unfoldable pub calls_from : ℕ → List (List ℕ) → Result (List JournalLine) JournalError
calls_from n [] = Ok []
calls_from n (line ∷ lines) =
    or_bad n (call_in line) >>= λ call. calls_from (n + 1) lines >>= λ calls. Ok (call ∷ calls)

-- what the lines after the head say
abbrev pub journal_after_head : List (List ℕ) → Result Journal JournalError
journal_after_head [] = Err (errors.BadLine 2)
journal_after_head (line ∷ lines) =
    or_bad 2 (places_in line) >>= λ places.
    calls_from 3 lines >>= λ calls. Ok (record { places = places; lines = calls })

abbrev pub journal_by : List (List ℕ) → Result Journal JournalError
journal_by [] = Err (errors.BadLine 1)
journal_by (head ∷ lines) =
    if bytes_eq head (codes "nvmet-journal 1") then journal_after_head lines else
    Err (errors.BadLine 1)

-- what a journal says, or its first bad line
unfoldable pub journal_in : List ℕ → Result Journal JournalError
journal_in bytes = journal_by (lines_of bytes)
