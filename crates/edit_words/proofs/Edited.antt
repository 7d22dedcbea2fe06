-- The words that an accepted edit turns.
use Rattle.std.proofs.Common.{◌≡◌, true, false, Bool, IsTrue, List, Some, None, refl, sym, subst, inl}
use mathlib.Core.Logic.{⊎_elim}
use Rattle.mem_bdev.specs.Blocks.{Blocks}
use Rattle.sqe_cqe.specs.declared.controllers.ControllerRow.{ControllerRow}
use Rattle.configfs_tree.specs.declared.configuration.Configuration.{Configuration}
use Rattle.configfs_tree.specs.declared.edits.Change.{Change}
use Rattle.configfs_tree.specs.Outcome.{nothing}
use Rattle.configfs_tree.specs.Standing.{IsStanding}
use Rattle.configfs_tree.specs.Told.{Tells}
use Rattle.change_stamps.specs.Stamps.{Stamps as Kept, next_serial, stamped, stamps_after as stamps_noted}
use Rattle.ns_table.specs.Changed.{Keeps, shape_before, stamps_after}
use Rattle.edit_words.specs.Differing.{differing}
use Rattle.ns_table.specs.Kept.{shape_of, stamps_by, HavePlaces}
use Rattle.ns_table.specs.Patches.{FitsChange, told_places, words_at}
use Rattle.ns_table.specs.Words.{Shape, Stamps, words_of}
use Rattle.ns_table.proofs.Noted.{noted_is_published}
use Rattle.ns_table.proofs.Once.{patch_once}
use Rattle.ns_table.proofs.Whole.{patch_whole}
use Rattle.edit_words.specs.Exact.{AreTurned}
use Rattle.edit_words.specs.Laws.{EditsKeep, EditsFit, EditsTurn}
use Rattle.edit_words.proofs.Links.{tells_of}
use Rattle.edit_words.proofs.Table.{edit_fits}
use Rattle.edit_words.proofs.Told.{told-in}
use Rattle.edit_words.proofs.ByPlace.{turned}

pub edits_keep : EditsKeep
edits_keep t u e c st is = (edit_fits t st u e c is).keeps

pub edits_fit : EditsFit
edits_fit t u e c st is = (edit_fits t st u e c is).fits

none-some : {X : Type 0} (x : X) → None ≡ Some x → ⊥
none-some x e = cc

-- what is turned between two shapes
abbrev pub TurnedBy : Shape → Shape → Configuration → Change → Type 0
TurnedBy x y u c = AreTurned (words_of x) (words_of y) (differing (words_of x) (words_at y (told_places u c)))

-- nothing was written
pub nothing-turns : (x : Shape) (u : Configuration) → TurnedBy x x u nothing
nothing-turns x u = record {
  whole = λ w small. inl refl;
  exact = λ i w v e. absurd (none-some (w, v) e);
  once = λ i j w v k e f. absurd (none-some (w, v) e);
}

-- a change that is published
published-turns : (t u : Configuration) (c : Change) (cs : List ControllerRow) (bs : List Blocks) (s : Kept) → IsStanding t → IsStanding u → HavePlaces s
    → Tells t u c → Keeps t u → FitsChange c → TurnedBy (shape_of t cs bs s) (shape_of u cs bs (stamped c s)) u c
published-turns t u c cs bs s st su places tells keeps fits =
    let x = shape_of t cs bs s in
    let y = shape_before u cs bs (stamps_after (next_serial s) c (stamps_by s)) in
    let by-place = turned x y (told_places u c) (told-in u c su fits) (patch_once u c tells.one)
    (λ p within. patch_whole t u c cs bs (stamps_by s) (next_serial s) st su tells keeps p within) in
    subst (λ (k : Stamps). TurnedBy x (shape_before u cs bs k) u c) (sym (noted_is_published s c places fits)) by-place

noted : (c : Change) (s : Kept) (b : Bool) → c.published ≡ b → IsTrue b → stamped c s ≡ stamps_noted c s
noted c s true e h = rw e refl
noted c s false e h = cc

pub edits_turn : EditsTurn
edits_turn t u e c cs bs s st su places is =
    let tells = tells_of t u e c st is in
    let fit = edit_fits t st u e c is in
    ⊎_elim
    (λ p. subst (λ (k : Kept). TurnedBy (shape_of t cs bs s) (shape_of u cs bs k) u c) (noted c s c.published refl p.0)
    (published-turns t u c cs bs s st su places tells fit.keeps fit.fits))
    (λ p. subst (λ (k : Change). TurnedBy (shape_of t cs bs s) (shape_of u cs bs (stamps_noted k s)) u k) (sym p.1)
    (subst (λ (v : Configuration). TurnedBy (shape_of t cs bs s) (shape_of v cs bs s) u nothing) (sym p.0) (nothing-turns (shape_of t cs bs s) u)))
    tells.published
