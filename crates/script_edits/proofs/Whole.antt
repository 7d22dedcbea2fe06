-- Reading line after line gives what a script's lines say by their first bad one.
use Rattle.std.proofs.Common.{◌≡◌, ◌<◌, ◌≤◌, ◌+◌, ◌-◌, ℕ, zero, suc, Bool, true, false, ltb, if◌then◌else◌, List, [], ◌∷◌, ◌++◌, length, take, Option, Some, None, Result, Ok, Err, refl, sym, subst, ◌∙◌, append_assoc, append-nil, arith, inl, inr}
use Rattle.std.specs.Prelude.{position}
use Rattle.std.specs.List.{position_from}
use Rattle.std.proofs.lemmas.Bool.{cases_lt, lt-ltb, le-ltb}
use Rattle.std.proofs.lemmas.Iterator.Adapters.{position_from-zero}
use Rattle.text_lines.specs.Lines.{is_passed_over, lines_of}
use Rattle.plan_files.specs.declared.limits.What.TheVariants.{Lines}
use Rattle.link_rules.specs.declared.edits.Edit.{Edit}
use Rattle.run_transcript.specs.declared.scripts.ScriptEdit.{ScriptEdit}
use Rattle.script_lines.specs.Reading.{Fails}
use Rattle.script_edits.specs.Script.{edit_in, is_bad, numbered, script_by, script_in, line_taken}
use Rattle.script_lines.specs.declared.lines.LineError.{LineError}
use Rattle.script_lines.specs.declared.lines.LineError.TheVariants as errors

infixl 10 ◌>>=◌
abbrev pub ◌>>=◌ : Result (List ScriptEdit) LineError → (List ScriptEdit → Result (List ScriptEdit) LineError)
    → Result (List ScriptEdit) LineError
(Ok lines) >>= f = f lines
(Err e) >>= f = Err e

-- line after line, where so many more are allowed, line n is next, and these were taken
pub lines_left : ℕ → ℕ → List ScriptEdit → List (List ℕ) → Result (List ScriptEdit) LineError
lines_left left n taken [] = Ok taken
lines_left zero n taken (line ∷ lines) = Err (errors.TooLong Lines 65537)
lines_left (suc left) n taken (line ∷ lines) = line_taken n taken line >>= λ more. lines_left left
    (n + 1) more lines

-- by where the first bad one of these lines stands, where the first of them has the number i + 1
told : ℕ → ℕ → List ScriptEdit → Option ℕ → List (List ℕ) → Result (List ScriptEdit) LineError
told left i taken (Some k) lines = Err (errors.BadLine (k + 1))
told left i taken None lines = if ltb left (length lines) then Err (errors.TooLong Lines 65537) else
    Ok (taken ++ numbered (i + 1) lines)

abbrev line_of : ℕ → Edit → ScriptEdit
line_of n e = record { line = n; edit = e }

ltb-suc : (a b : ℕ) → ltb (suc a) (suc b) ≡ ltb a b
ltb-suc a b =
    elim (cases_lt a b) [
      | inl lt ↦ rw (lt-ltb a b lt, lt-ltb (suc a) (suc b) (omega arith)) refl
      | inr le ↦ rw (le-ltb a b le, le-ltb (suc a) (suc b) (omega arith)) refl
    ]

append_one : (xs : List ScriptEdit) (x : ScriptEdit) (ys : List ScriptEdit) → xs ++ x ∷ ys ≡ (xs ++ x ∷ []) ++ ys
append_one xs x ys = sym (append_assoc xs (x ∷ []) ys)

append_none : (xs : List ScriptEdit) → xs ++ [] ≡ xs
append_none xs = append-nil xs

-- one good line more
next : (left i : ℕ) (taken more : List ScriptEdit) (line : List ℕ) (lines : List (List ℕ)) (o : Option ℕ)
    → taken ++ numbered (i + 1) (line ∷ lines) ≡ more ++ numbered (i + 1 + 1) lines
    → told left (i + 1) more o lines ≡ told (suc left) i taken o (line ∷ lines)
unfolding told
next left i taken more line lines (Some k) e = refl
next left i taken more line lines None e = rw (e, ltb-suc left (length lines)) refl

-- a line by its two tests
step : (left i : ℕ) (taken : List ScriptEdit) (line : List ℕ) (lines : List (List ℕ))
    (passed : Bool) (said : Option Edit)
    → is_passed_over line ≡ passed → edit_in line ≡ said
    → ((more : List ScriptEdit) → lines_left left (i + 1 + 1) more lines ≡ told left (i + 1) more
    (position_from is_bad (i + 1) (take left lines)) lines)
    → (line_taken (i + 1) taken line >>= λ more. lines_left left (i + 1 + 1) more lines)
    ≡ told (suc left) i taken (position_from is_bad i (line ∷ take left lines)) (line ∷ lines)
unfolding told line_taken
step left i taken line lines true said p t rest =
    rw p (rest taken
    ∙ next left i taken taken line lines (position_from is_bad (i + 1) (take left lines))
    (rw p refl))
step left i taken line lines false (Some e) p t rest =
    let more : List ScriptEdit = taken ++ line_of (i + 1) e ∷ [] in
    rw (p, t) (rest more
    ∙ next left i taken more line lines (position_from is_bad (i + 1) (take left lines))
    (rw (p, t) (append_one taken (line_of (i + 1) e) (numbered (i + 1 + 1) lines))))
step left i taken line lines false None p t rest = rw (p, t) refl

from : (left i : ℕ) (taken : List ScriptEdit) (lines : List (List ℕ))
    → lines_left left (i + 1) taken lines ≡ told left i taken
    (position_from is_bad i (take left lines)) lines
unfolding lines_left told
from zero i taken [] = rw append_none refl
from (suc left) i taken [] = rw (append_none, le-ltb (suc left) 0 (omega arith)) refl
from zero i taken (line ∷ lines) = rw (lt-ltb 0 (suc (length lines)) (omega arith)) refl
from (suc left) i taken (line ∷ lines) = step left i taken line lines (is_passed_over line)
    (edit_in line) refl refl (λ more. from left (i + 1) more lines)

all_told : (most : ℕ) (o : Option ℕ) (lines : List (List ℕ))
    → told most 0 [] o lines ≡ script_by most o lines
unfolding told
all_told most (Some k) lines = refl
all_told most None lines = refl

whole_of : (most : ℕ) (lines : List (List ℕ)) → lines_left most 1 [] lines
    ≡ script_by most (position is_bad (take most lines)) lines
whole_of most lines =
    rw (position_from-zero is_bad (take most lines)) (from most 0 [] lines
    ∙ all_told most (position_from is_bad 0 (take most lines)) lines)

pub whole : (bytes : List ℕ) → lines_left 65536 1 [] (lines_of bytes) ≡ script_in bytes
unfolding script_in
whole bytes = whole_of 65536 (lines_of bytes)

-- ---- the loop over the lines

less_one : (number : ℕ) → number < 65536 → 65536 - number ≡ suc (65536 - (number + 1))
less_one number lt = omega arith

-- the same with other words for the number of lines left and for the lines
same : (left other n : ℕ) (taken : List ScriptEdit) (lines more : List (List ℕ))
    (all : Result (List ScriptEdit) LineError)
    → left ≡ other → lines ≡ more → lines_left left n taken lines ≡ all
    → lines_left other n taken more ≡ all
same left other n taken lines more all e f so_far =
    subst (λ (k : ℕ). lines_left k n taken more ≡ all) e
    (subst (λ (ls : List (List ℕ)). lines_left left n taken ls ≡ all) f so_far)

-- where line after line stands before a line
one_more : (number : ℕ) (taken : List ScriptEdit) (line : List ℕ) (lines rest : List (List ℕ))
    (all : Result (List ScriptEdit) LineError)
    → number < 65536 → lines ≡ line ∷ rest → lines_left (65536 - number) (number + 1) taken lines
    ≡ all
    → (line_taken (number + 1) taken line >>= λ q. lines_left (65536 - (number + 1)) (number + 1
    + 1) q rest) ≡ all
unfolding lines_left
one_more number taken line lines rest all lt e so_far =
    same (65536 - number) (suc (65536 - (number + 1))) (number + 1) taken lines (line ∷ rest) all
    (less_one number lt) e so_far

-- a line that was taken
pub goes_on : (number : ℕ) (taken more : List ScriptEdit) (line : List ℕ) (lines rest : List (List ℕ))
    (all : Result (List ScriptEdit) LineError)
    → number < 65536 → lines ≡ line ∷ rest → line_taken (number + 1) taken line ≡ Ok more
    → lines_left (65536 - number) (number + 1) taken lines ≡ all
    → lines_left (65536 - (number + 1)) (number + 1 + 1) more rest ≡ all
goes_on number taken more line lines rest all lt e read so_far =
    subst (λ r. (r >>= λ q. lines_left (65536 - (number + 1)) (number + 1 + 1) q rest) ≡ all) read
    (one_more number taken line lines rest all lt e so_far)

fails_so : (error : LineError) (read all : Result (List ScriptEdit) LineError) (f : List ScriptEdit
    → Result (List ScriptEdit) LineError) → Fails error read → (read >>= f) ≡ all → Fails error all
fails_so errors.Memory read all f fails e = tt
fails_so (errors.BadLine n) read all f fails e = sym (subst (λ r. (r >>= f) ≡ all) fails e)
fails_so (errors.TooLong what count) read all f fails e = sym (subst (λ r. (r >>= f) ≡ all) fails e)

-- a line that was refused
pub ends : (error : LineError) (number : ℕ) (taken : List ScriptEdit) (line : List ℕ)
    (lines rest : List (List ℕ)) (all : Result (List ScriptEdit) LineError)
    → number < 65536 → lines ≡ line ∷ rest → Fails error (line_taken (number + 1) taken line)
    → lines_left (65536 - number) (number + 1) taken lines ≡ all
    → Fails error all
ends error number taken line lines rest all lt e fails so_far =
    fails_so error (line_taken (number + 1) taken line) all (λ q. lines_left (65536 - (number + 1))
    (number + 1 + 1) q rest) fails (one_more number taken line lines rest all lt e so_far)

-- more lines than a script may have
pub too_many : (number : ℕ) (taken : List ScriptEdit) (line : List ℕ) (lines rest : List (List ℕ))
    (all : Result (List ScriptEdit) LineError)
    → 65536 ≤ number → lines ≡ line ∷ rest
    → lines_left (65536 - number) (number + 1) taken lines ≡ all
    → all ≡ Err (errors.TooLong Lines 65537)
unfolding lines_left
too_many number taken line lines rest all le e so_far =
    sym (same (65536 - number) zero (number + 1) taken lines (line ∷ rest) all (omega arith) e
    so_far)

-- no line more
pub is_done : (left n : ℕ) (taken : List ScriptEdit) (lines : List (List ℕ))
    (all : Result (List ScriptEdit) LineError)
    → lines ≡ [] → lines_left left n taken lines ≡ all → all ≡ Ok taken
unfolding lines_left
is_done left n taken lines all e so_far = sym (same left left n taken lines [] all refl e so_far)
