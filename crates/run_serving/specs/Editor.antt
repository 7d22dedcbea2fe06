-- What serving a script makes of a target and of the editor's output.
use Rattle.std.specs.Prelude.{◌≡◌, ℕ, ◌+◌, List, [], ◌∷◌, ◌++◌, length, Option, Some, slice_get}
use Rattle.tree_target.specs.Kept.{Kept}
use Rattle.tree_target.specs.Edits.{disables}
use Rattle.tree_target.specs.Model.{Call, Entry, Target}
use Rattle.tree_target.specs.Steps.{target_after}
use Rattle.tree_target.specs.Legal.{IsLegal, after}
use Rattle.tree_target.specs.Stands.{StandsFor}
use Rattle.run_transcript.specs.declared.scripts.ScriptEdit.{ScriptEdit}
use Rattle.run_transcript.specs.Runs.{Placed, placed_from, calls_of}
use Rattle.run_transcript.specs.Turns.{Editing, editing_after, edit_after, next_edit, disabled_on}
use Rattle.run_serving.specs.declared.editing.Edited.{Edited}
use Rattle.run_serving.specs.Lines.{Journals}

abbrev pub editing_after_all : Editing → List Entry → Editing
editing_after_all p [] = p
editing_after_all p (e ∷ entries) = editing_after_all (editing_after p e) entries

-- each entry is the editor's next call at its point
abbrev pub AreEdits : List ScriptEdit → Editing → Target → List Entry → Type 0
AreEdits script p t [] = Unit {0}
AreEdits script p t (e ∷ entries) = (next_edit t script p ≡ Some e.call)
    × AreEdits script (editing_after p e) (target_after t e.call) entries

-- so many edits of the script are made, and no drain is left to end
pub record HasMade (n : ℕ) (t : Target) (p : Editing) : Type 0 where
  pub made_is : p.made ≡ n
  pub no_drain : (next : Option Call) → edit_after t p.disabled next ≡ next

-- the edit after so many was made, and its drain, if it began one, is open
abbrev pub HasEdited : ScriptEdit → ℕ → Target → Editing → Type 0
HasEdited s n t p = p ≡ record { made = n + 1; disabled = disabled_on s.line (disables s.edit) }

-- A legal continuation from the target t, in which the editor makes its next calls: the new target
-- stands for what it leaves, and the new output holds it, with its places, behind the list.
pub record GoesEdits (script : List ScriptEdit) (place : ℕ) (t : Target) (p : Editing)
    (list : List Placed) (Post : Target → Editing → Type 0) (k : Kept) (o : Edited) (place' : ℕ)
    : Type 0 where
  pub group : List Entry
  pub legal : IsLegal t group
  pub turns : AreEdits script p t group
  pub stands : StandsFor k (after t (calls_of group))
  pub prints : Journals o (list ++ placed_from place group)
  pub count : place' ≡ place + length group
  pub post : Post (after t (calls_of group)) (editing_after_all p group)

abbrev pub MakesEdits : List ScriptEdit → (Target → Editing → Type 0) → Kept → Edited → ℕ
    → (Target → Editing → Type 0) → Kept → Edited → ℕ → Type 0
MakesEdits script Pre k o place Post k' o' place' = (t : Target) (p : Editing)
    (list : List Placed) → StandsFor k t → Journals o list → Pre t p
    → GoesEdits script place t p list Post k' o' place'

-- the next edit of a script is made, and its drain ended
abbrev pub ServesEdit : ScriptEdit → Kept → Edited → ℕ → Kept → Edited → ℕ → Type 0
ServesEdit s k o place k' o' place' = (script : List ScriptEdit) (n : ℕ)
    → slice_get script n ≡ Some s
    → MakesEdits script (HasMade n) k o place (HasMade (n + 1)) k' o' place'
