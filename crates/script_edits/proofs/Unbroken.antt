-- A line of a text, by itself.
use Rattle.std.proofs.Common.{◌≡◌, ℕ, Bool, true, false, cond, eqb, List, [], ◌∷◌, Option, Some, None, Result, Ok, Err, refl, sym, ap, subst, ◌∙◌}
use Rattle.link_rules.specs.declared.edits.Edit.{Edit}
use Rattle.std.specs.Prelude.{slice_get}
use Rattle.std.specs.List.{onto_first}
use Rattle.text_lines.specs.Lines.{is_passed_over, lines_of}
use Rattle.script_lines.specs.Script.{script_words, is_text}
use Rattle.script_lines.specs.Reading.{lines_in}
use Rattle.script_lines.specs.declared.lines.Line.{Line}
use Rattle.script_lines.specs.declared.lines.LineError.{LineError}
use Rattle.script_lines.specs.declared.lines.LineError.TheVariants as errors
use Rattle.link_rules.specs.Reading.{edit_said}
use Rattle.script_edits.specs.Script.{IsUnbroken, edit_in, said_or_bad}

abbrev FirstIs : List (List ℕ) → Type 0
FirstIs [] = Unit {0}
FirstIs (line ∷ lines) = IsUnbroken line

onto_unbroken : (b : ℕ) (lines : List (List ℕ)) → eqb b 10 ≡ false → FirstIs lines
    → FirstIs (onto_first b lines)
onto_unbroken b [] e f = (e, tt)
onto_unbroken b (line ∷ lines) e f = (e, f)

first_by : (b : ℕ) (lines : List (List ℕ)) (t : Bool) → eqb b 10 ≡ t → FirstIs lines
    → FirstIs (cond t ([] ∷ lines) (onto_first b lines))
first_by b lines true e f = tt
first_by b lines false e f = onto_unbroken b lines e f

firsts : (bytes : List ℕ) → FirstIs (lines_of bytes)
firsts [] = tt
firsts (b ∷ bytes) = first_by b (lines_of bytes) (eqb b 10) refl (firsts bytes)

-- no line of a text has a line end in it
pub unbroken : (bytes line : List ℕ) (lines : List (List ℕ)) → lines_of bytes ≡ line ∷ lines
    → IsUnbroken line
unbroken bytes line lines e = subst (λ (ls : List (List ℕ)). FirstIs ls) e (firsts bytes)

-- such a line is a text of one line
alone : (b : ℕ) (line : List ℕ) → IsUnbroken (b ∷ line) → lines_of (b ∷ line) ≡ (b ∷ line) ∷ []
alone b [] u = rw u.0 refl
alone b (c ∷ line) u = rw (u.0, alone c line u.1) refl

said_alone : (line : List ℕ) (text : Bool) → is_passed_over line ≡ false → is_text line ≡ text
    → lines_of line ≡ line ∷ []
    → lines_in line ≡ cond text (Ok ((record { number = 1; words = script_words line }) ∷ []))
    (Err (errors.BadLine 1))
unfolding lines_in
said_alone line true p t one = rw (one, p, t, p) refl
said_alone line false p t one = rw (one, p, t) refl

-- what reading it as a script gives
pub read_alone : (line : List ℕ) → IsUnbroken line → is_passed_over line ≡ false
    → lines_in line ≡ cond (is_text line)
    (Ok ((record { number = 1; words = script_words line }) ∷ [])) (Err (errors.BadLine 1))
read_alone [] u p = absurd cc
read_alone (b ∷ line) u p = said_alone (b ∷ line) (is_text (b ∷ line)) p refl (alone b line u)

abbrev AsRead : List ℕ → Bool → Result (List Line) LineError
AsRead line text = cond text (Ok ((record { number = 1; words = script_words line }) ∷ []))
    (Err (errors.BadLine 1))

none_by : (line : List ℕ) (e : LineError) (text : Bool) → is_text line ≡ text
    → AsRead line text ≡ Err e → edit_in line ≡ None
unfolding edit_in
none_by line e true t h = absurd cc
none_by line e false t h = rw t refl

-- where it can't be read it says no edit
pub says_none : (line : List ℕ) (e : LineError) → IsUnbroken line → is_passed_over line ≡ false
    → lines_in line ≡ Err e → edit_in line ≡ None
says_none line e u p h = none_by line e (is_text line) refl (sym (read_alone line u p) ∙ h)

-- a line that was read by itself
pub record IsAlone (line : List ℕ) (lines : List Line) : Type 0 where
  pub is : lines ≡ (record { number = 1; words = script_words line }) ∷ []
  pub says : edit_in line ≡ edit_said (script_words line)

alone_by : (line : List ℕ) (lines : List Line) (text : Bool) → is_text line ≡ text
    → AsRead line text ≡ Ok lines → IsAlone line lines
unfolding edit_in
alone_by line lines true t h = record { is = cc; says = rw t refl }
alone_by line lines false t h = absurd cc

pub is_alone : (line : List ℕ) (lines : List Line) → IsUnbroken line → is_passed_over line ≡ false
    → lines_in line ≡ Ok lines → IsAlone line lines
is_alone line lines u p h = alone_by line lines (is_text line) refl (sym (read_alone line u p) ∙ h)

-- its first line is there, and says its edit
pub some_line : (line : List ℕ) (lines : List Line) (o : Option Line) → IsAlone line lines
    → o ≡ None → o ≡ slice_get lines 0 → ⊥
some_line line lines o a none e =
    let f : o ≡ slice_get ((record { number = 1; words = script_words line }) ∷ []) 0 =
    rw a.is at e in
    absurd cc

pub first_says : (line : List ℕ) (lines : List Line) (first : Line) → IsAlone line lines
    → Some first ≡ slice_get lines 0 → edit_said first.words ≡ edit_in line
first_says line lines first a e =
    let f : Some first ≡ slice_get ((record { number = 1; words = script_words line }) ∷ []) 0 =
    rw a.is at e in
    let same : first.words ≡ script_words line = cc in
    rw same (sym a.says)

pub said_so : (n : ℕ) (line : List ℕ) (words : List (List ℕ)) (o : Option Edit)
    → edit_said words ≡ edit_in line → o ≡ edit_said words
    → said_or_bad n (edit_in line) ≡ said_or_bad n o
said_so n line words o e f = ap (said_or_bad n) (sym (f ∙ e))
