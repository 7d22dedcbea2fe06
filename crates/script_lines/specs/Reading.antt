-- Reading a script: its lines, or the first bad one, or the limit on lines.
use Rattle.std.specs.Prelude.{ℕ, ◌+◌, Bool, true, false, nat_lt, if◌then◌else◌, List, [], ◌∷◌, ◌++◌, length, take, Option, Some, None, Result, Ok, Err, position}
use Rattle.text_lines.specs.Answers as answers
use Rattle.text_lines.specs.Lines.{is_passed_over, lines_of}
use Rattle.plan_files.specs.declared.limits.What.TheVariants.{Lines}
use Rattle.script_lines.specs.Script.{script_words, is_text, is_bad}
use Rattle.script_lines.specs.declared.lines.Line.{Line}
use Rattle.script_lines.specs.declared.lines.LineError.{LineError}
use Rattle.script_lines.specs.declared.lines.LineError.TheVariants as errors

-- whether an error is want of memory
abbrev pub is_memory : LineError → Bool
is_memory errors.Memory = true
is_memory (errors.BadLine line) = false
is_memory (errors.TooLong what count) = false

-- an error is what reading gives, unless memory ran out
abbrev pub Fails : {Y : Type 0} → LineError → Result Y LineError → Type 0
Fails e read = answers.Fails is_memory e read

-- what a call answered, seen by `view`, is what reading gives, unless memory ran out
abbrev pub Gives : {X Y : Type 0} → (X → Y) → Result X LineError → Result Y LineError → Type 0
Gives view result read = answers.Gives Fails view result read

-- `lines` is what the call left where it answers `Ok`
abbrev pub Leaves : {X : Type 0} → List Line → Result X LineError → Result (List Line) LineError
    → Type 0
Leaves lines result read = Gives (λ x. lines) result read

-- the lines with line n after them, unless it is passed over
unfoldable pub line_taken : ℕ → List Line → List ℕ → Result (List Line) LineError
line_taken n lines line =
    if is_passed_over line then Ok lines else
    (if is_text line then Ok (lines ++ (record { number = n; words = script_words line }) ∷ []) else
    Err (errors.BadLine n))

-- the lines that are not passed over, with their numbers, where the first of all has the number n
abbrev pub numbered : ℕ → List (List ℕ) → List Line
numbered n [] = []
numbered n (line ∷ lines) =
    if is_passed_over line then numbered (n + 1) lines else (record {
      number = n;
      words = script_words line;
    }) ∷ numbered (n + 1) lines

-- by where the first bad line stands, from 0, among as many lines as a script may have
abbrev pub lines_by : ℕ → Option ℕ → List (List ℕ) → Result (List Line) LineError
lines_by most (Some k) lines = Err (errors.BadLine (k + 1))
lines_by most None lines = if nat_lt most (length lines) then Err (errors.TooLong Lines 65537) else
    Ok (numbered 1 lines)

-- the lines of a script, or its first fault
unfoldable pub lines_in : List ℕ → Result (List Line) LineError
lines_in bytes = lines_by 65536 (position is_bad (take 65536 (lines_of bytes))) (lines_of bytes)
