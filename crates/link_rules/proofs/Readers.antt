-- The three laws of reading, of what a reader answered.
use Rattle.std.proofs.Common.{◌≡◌, List, ℕ, true, Option, Some, None, Result, Ok, Err, refl, sym, ◌∙◌, IsTrue}
use Rattle.std.specs.Prelude.{IfOk, IfSome}
use Rattle.configfs_tree.specs.declared.edits.FolderEdit.TheVariants as make
use Rattle.link_rules.specs.declared.edits.Edit.{Edit}
use Rattle.link_rules.specs.declared.edits.Edit.TheVariants as edit
use Rattle.link_rules.specs.Reading.{edit_said}
use Rattle.link_rules.specs.Spelling.{edit_words, fits, fits_folder}
use Rattle.link_rules.specs.Table.{is_fitting}
use Rattle.configfs_tree.specs.Asked as folders
use Rattle.link_rules.proofs.Numbers.{and-parts}
use Rattle.link_rules.proofs.Saying.{edit_was}
use Rattle.link_rules.proofs.Again.{edit_again}

spelled_by : (words : List (List ℕ)) (o : Option Edit) → o ≡ edit_said words
    → IfSome o (λ e. IsTrue (fits e) × (words ≡ edit_words e))
spelled_by words None h = tt
spelled_by words (Some e) h = let w = edit_was words e (sym h) in (w.fits, w.spelled)

pub spelled : {E : Type 0} (words : List (List ℕ)) (r : Result (Option Edit) E)
    → IfOk r (λ o. o ≡ edit_said words)
    → IfOk r (λ o. IfSome o (λ e. IsTrue (fits e) × (words ≡ edit_words e)))
spelled words (Ok o) h = spelled_by words o h
spelled words (Err e) h = tt

pub only : {E : Type 0} (words : List (List ℕ)) (r : Result (Option Edit) E)
    → IfOk r (λ o. o ≡ edit_said words) → (e : Edit) → IsTrue (fits e) → words ≡ edit_words e
    → IfOk r (λ o. o ≡ Some e)
only words (Ok o) h e fit is = h ∙ (rw is (edit_again e fit))
only words (Err d) h e fit is = tt

is_fit : (e : Edit) → IsTrue (fits e) → IsTrue (is_fitting e)
is_fit (edit.Folder (make.Mkdir f)) h = refl
is_fit (edit.Folder (make.Rmdir f)) h = refl
is_fit (edit.Folder (make.Set f a value)) h =
    (and-parts (fits_folder f) (folders.is_fitting (make.Set f a value)) h).1
is_fit (edit.Link l) h = refl

fitting_by : (words : List (List ℕ)) (o : Option Edit) → o ≡ edit_said words
    → IfSome o (λ e. IsTrue (is_fitting e))
fitting_by words None h = tt
fitting_by words (Some e) h = is_fit e (edit_was words e (sym h)).fits

pub fitting : {E : Type 0} (words : List (List ℕ)) (r : Result (Option Edit) E)
    → IfOk r (λ o. o ≡ edit_said words) → IfOk r (λ o. IfSome o (λ e. IsTrue (is_fitting e)))
fitting words (Ok o) h = fitting_by words o h
fitting words (Err e) h = tt
