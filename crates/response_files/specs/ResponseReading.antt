-- Reading a response file from its first byte on: its records, or the offset of the first that is
-- malformed.
use Rattle.std.specs.Prelude.{ℕ, zero, suc, ◌+◌, ◌==◌, nat_lt, Bool, true, false, ◌&&◌, ◌||◌, if◌then◌else◌, List, [], ◌∷◌, length, take, drop, Option, Some, None, Result, Ok, Err}
use Rattle.std.specs.Option.{option_and_then}
use Rattle.text_lines.specs.Answers as answers
use Rattle.sqe_cqe.specs.Fields.{field}
use Rattle.sqe_cqe.specs.Cqe.{cqe_of}
use Rattle.run_records.specs.declared.records.Kind.{Kind}
use Rattle.run_records.specs.declared.records.Kind.TheVariants.{Submit, Execute, Poll, Control}
use Rattle.run_records.specs.declared.records.Answer.{Answer}
use Rattle.run_records.specs.declared.records.Answer.TheVariants.{Held, Answered, Waiting, NoEvent}
use Rattle.run_records.specs.declared.records.Head.{Head}
use Rattle.response_files.specs.Responses.{Response, may_answer, is_answered, is_blank}
use Rattle.response_files.specs.declared.responses.RecordError.{RecordError}
use Rattle.response_files.specs.declared.responses.RecordError.TheVariants as errors

-- whether an error is want of memory
abbrev pub is_memory : RecordError → Bool
is_memory errors.Memory = true
is_memory (errors.Malformed offset) = false

-- an error is what reading gives, unless memory ran out
abbrev pub Fails : {Y : Type 0} → RecordError → Result Y RecordError → Type 0
Fails e read = answers.Fails is_memory e read

-- what a call answered, seen by `view`, is what reading gives, unless memory ran out
abbrev pub Gives : {X Y : Type 0} → (X → Y) → Result X RecordError → Result Y RecordError → Type 0
Gives view result read = answers.Gives Fails view result read

infixl 10 ◌>>=◌
abbrev pub ◌>>=◌ : {A B : Type 0} → Result A RecordError → (A → Result B RecordError)
    → Result B RecordError
(Ok x) >>= f = f x
(Err e) >>= f = Err e

-- ---- a head

-- the kind of call that a code stands for
abbrev pub kind_coded : ℕ → Option Kind
kind_coded code =
    if code == 1 then Some Submit else
    (if code == 2 then Some Execute else
    (if code == 3 then Some Poll else (if code == 4 then Some Control else None)))

-- the answer that a code stands for
abbrev pub answer_coded : ℕ → Option Answer
answer_coded code =
    if code == 0 then Some Held else
    (if code == 1 then Some Answered else
    (if code == 2 then Some Waiting else (if code == 3 then Some NoEvent else None)))

-- the head that 32 bytes say, for a call of this kind with this answer
abbrev pub head_with : List ℕ → Kind → Answer → Head
head_with bytes kind answer = record {
  place = field 0 4 bytes;
  kind = kind;
  answer = answer;
  number = field 8 4 bytes;
  len = field 12 4 bytes;
  cqe = cqe_of (take 16 (drop 16 bytes));
}

-- whether the zeros, the answer and the completion are what they must be
unfoldable pub is_well : List ℕ → Head → Bool
is_well bytes h = field 6 2 bytes == 0 && may_answer h.kind h.answer
    && (is_answered h.answer || is_blank h.cqe)

unfoldable pub head_if_well : List ℕ → Head → Option Head
head_if_well bytes h = if is_well bytes h then Some h else None

-- the head in the first 32 bytes
unfoldable pub head_in : List ℕ → Option Head
head_in bytes =
    option_and_then (λ kind. option_and_then (λ answer. head_if_well bytes
    (head_with bytes kind answer)) (answer_coded (field 5 1 bytes))) (kind_coded (field 4 1 bytes))

-- ---- records

-- a head, and its data behind it, of which all must be there
unfoldable pub with_data : ℕ → List ℕ → Option Head → Result Response RecordError
with_data at bytes None = Err (errors.Malformed at)
with_data at bytes (Some h) =
    if nat_lt (length bytes) (32 + h.len) then Err (errors.Malformed at) else
    Ok (record { head = h; payload = take h.len (drop 32 bytes) })

-- the record at the front of what is left from the offset `at` on
unfoldable pub next_response : ℕ → List ℕ → Result Response RecordError
next_response at bytes =
    if nat_lt (length bytes) 32 then Err (errors.Malformed at) else
    with_data at bytes (head_in bytes)

-- how many bytes a record takes in its file
abbrev pub width : Response → ℕ
width r = 32 + r.head.len

-- the records from the offset `at` on; each takes a byte of `left` at least
unfoldable pub responses_from : ℕ → ℕ → List ℕ → Result (List Response) RecordError
responses_from left at [] = Ok []
responses_from zero at (b ∷ bytes) = Err (errors.Malformed at)
responses_from (suc left) at (b ∷ bytes) =
    next_response at (b ∷ bytes) >>= λ r.
    responses_from left (at + width r) (drop (width r) (b ∷ bytes)) >>= λ rs. Ok (r ∷ rs)

-- the records of a file, or its first malformed one
abbrev pub responses_of : List ℕ → Result (List Response) RecordError
responses_of bytes = responses_from (length bytes) 0 bytes
