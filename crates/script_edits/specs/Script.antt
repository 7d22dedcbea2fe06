-- The edits of a script, or its first bad line, or the limit on lines.
use Rattle.std.specs.Prelude.{◌≡◌, ℕ, ◌+◌, ◌==◌, not, ◌&&◌, Bool, false, nat_lt, if◌then◌else◌, List, [], ◌∷◌, ◌++◌, length, take, Option, Some, None, is_some, Result, Ok, Err, position}
use Rattle.text_lines.specs.Lines.{is_passed_over, lines_of}
use Rattle.plan_files.specs.declared.limits.What.TheVariants.{Lines}
use Rattle.script_lines.specs.Script.{script_words, is_text}
use Rattle.script_lines.specs.Reading.{Gives}
use Rattle.script_lines.specs.declared.lines.LineError.{LineError}
use Rattle.script_lines.specs.declared.lines.LineError.TheVariants as errors
use Rattle.link_rules.specs.Reading.{edit_said}
use Rattle.link_rules.specs.declared.edits.Edit.{Edit}
use Rattle.run_transcript.specs.declared.scripts.ScriptEdit.{ScriptEdit}

-- the edit that a line of at most 1,024 printable bytes says
unfoldable pub edit_in : List ℕ → Option Edit
edit_in line = if is_text line then edit_said (script_words line) else None

-- a line that is not passed over, and is no such text or says no edit
abbrev pub is_bad : List ℕ → Bool
is_bad line = not (is_passed_over line) && not (is_some (edit_in line))

abbrev pub edit_on : ℕ → Option Edit → List ScriptEdit
edit_on n None = []
edit_on n (Some e) = (record { line = n; edit = e }) ∷ []

-- the edits of lines of which none is bad, with their numbers, where the first line has the number n
abbrev pub numbered : ℕ → List (List ℕ) → List ScriptEdit
numbered n [] = []
numbered n (line ∷ lines) =
    if is_passed_over line then numbered (n + 1) lines else edit_on n (edit_in line)
    ++ numbered (n + 1) lines

-- by where the first bad line stands, from 0, among as many lines as a script may have
abbrev pub script_by : ℕ → Option ℕ → List (List ℕ) → Result (List ScriptEdit) LineError
script_by most (Some k) lines = Err (errors.BadLine (k + 1))
script_by most None lines = if nat_lt most (length lines) then Err (errors.TooLong Lines 65537) else
    Ok (numbered 1 lines)

-- the edits of a script, or its first fault
unfoldable pub script_in : List ℕ → Result (List ScriptEdit) LineError
script_in bytes = script_by 65536 (position is_bad (take 65536 (lines_of bytes))) (lines_of bytes)

-- ---- line after line
-- no byte of it ends a line
abbrev pub IsUnbroken : List ℕ → Type 0
IsUnbroken [] = Unit {0}
IsUnbroken (b ∷ line) = ((b == 10) ≡ false) × IsUnbroken line

abbrev pub said_taken : ℕ → List ScriptEdit → Option Edit → Result (List ScriptEdit) LineError
said_taken n edits None = Err (errors.BadLine n)
said_taken n edits (Some e) = Ok (edits ++ (record { line = n; edit = e }) ∷ [])

-- the edits with that of line n after them, unless it is passed over
unfoldable pub line_taken : ℕ → List ScriptEdit → List ℕ → Result (List ScriptEdit) LineError
line_taken n edits line = if is_passed_over line then Ok edits else said_taken n edits
    (edit_in line)

-- what a line that isn't passed over says, or that it is bad
abbrev pub said_or_bad : ℕ → Option Edit → Result Edit LineError
said_or_bad n None = Err (errors.BadLine n)
said_or_bad n (Some e) = Ok e

-- `edits` is what the call left where it answers `Ok`
abbrev pub Leaves : {X : Type 0} → List ScriptEdit → Result X LineError
    → Result (List ScriptEdit) LineError → Type 0
Leaves edits result read = Gives (λ x. edits) result read
