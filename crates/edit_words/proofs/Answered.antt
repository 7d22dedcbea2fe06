-- The words that an edit turns, by its answer.
use Rattle.std.proofs.Common.{◌≡◌, ◌⊎◌, ℕ, Bool, true, false, if◌then◌else◌, List, [], Result, Ok, Err, refl, sym, ap, subst, ◌∙◌, inl, inr}
use mathlib.Core.Logic.{⊎_elim}
use Rattle.mem_bdev.specs.Blocks.{Blocks}
use Rattle.sqe_cqe.specs.declared.controllers.ControllerRow.{ControllerRow}
use Rattle.configfs_tree.specs.declared.configuration.Configuration.{Configuration}
use Rattle.configfs_tree.specs.declared.edits.Change.{Change}
use Rattle.configfs_tree.specs.declared.edits.Refused.{Refused}
use Rattle.configfs_tree.specs.declared.edits.Refused.TheVariants as refused
use Rattle.configfs_tree.specs.Gives.{Gives}
use Rattle.configfs_tree.specs.Outcome.{nothing}
use Rattle.configfs_tree.specs.Standing.{IsStanding}
use Rattle.link_rules.specs.declared.edits.Edit.{Edit}
use Rattle.link_rules.specs.Table.{edit_outcome, may_grow}
use Rattle.change_stamps.specs.Stamps.{Stamps as Kept, stamped, stamps_after as stamps_noted}
use Rattle.tree_target.specs.Stands.{noted_by}
use Rattle.ns_table.specs.Kept.{shape_of, HavePlaces}
use Rattle.ns_table.specs.Patches.{FitsChange, told_places, words_at}
use Rattle.ns_table.specs.Words.{Shape, words_of}
use Rattle.ns_table.proofs.Noted.{places_stay}
use Rattle.edit_words.specs.Answered.{change_words, answer_words, FitsAnswer}
use Rattle.edit_words.specs.Differing.{differing}
use Rattle.edit_words.specs.Exact.{AreTurned}
use Rattle.edit_words.proofs.Edited.{edits_fit, edits_turn, nothing-turns}
use Rattle.edit_words.proofs.Links.{tells_of}

if-true : {X : Type 0} (b : Bool) (x y : X) → b ≡ true → (if b then x else y) ≡ x
if-true true x y is = refl
if-true false x y is = cc

pub published-words : (ws : List ℕ) (x : Shape) (c : Change) (told new : List (ℕ × ℕ)) → c.published ≡ true → told ≡ words_at x (told_places x.tree c) → new ≡ differing ws told → new ≡ change_words ws x c
published-words ws x c told new is e f =
    f ∙ (ap (differing ws) e ∙ sym (if-true c.published (differing ws (words_at x (told_places x.tree c))) [] is))

pub unpublished-words : (ws : List ℕ) (x : Shape) (c : Change) (new : List (ℕ × ℕ)) → c.published ≡ false → new ≡ [] → new ≡ change_words ws x c
unpublished-words ws x c new is e = e ∙ sym (if-false c.published (differing ws (words_at x (told_places x.tree c))) [] is) where
  if-false : {X : Type 0} (b : Bool) (x y : X) → b ≡ false → (if b then x else y) ≡ y
  if-false true x y is = cc
  if-false false x y is = refl

pub noted-stamps : (c : Change) (s now : Kept) → c.published ≡ true → now ≡ stamps_noted c s → now ≡ stamped c s
noted-stamps c s now is e = e ∙ if-true c.published (stamped c s) s is

-- what an edit names is in the table
pub answer-fits : (t u : Configuration) (e : Edit) (grows : Bool) (r : Result Change Refused) → IsStanding t → Gives grows (edit_outcome t e) t r u → FitsAnswer r
answer-fits t u e grows (Ok c) st is = edits_fit t u e c st is
answer-fits t u e grows (Err r) st is = tt

-- a place for each stamp, still
kept-places : (c : Change) (s : Kept) (b : Bool) → HavePlaces s → FitsChange c → HavePlaces (if b then stamped c s else s)
kept-places c s true places fits = places_stay s c places fits
kept-places c s false places fits = places

pub noted-places : (r : Result Change Refused) (s now : Kept) → HavePlaces s → FitsAnswer r → now ≡ noted_by r s → HavePlaces now
noted-places (Ok c) s now places fits is = subst HavePlaces (sym is) (kept-places c s c.published places fits)
noted-places (Err r) s now places fits is = subst HavePlaces (sym is) places

-- ---- the words
abbrev TurnedFor : Shape → Shape → Result Change Refused → Type 0
TurnedFor x y r = AreTurned (words_of x) (words_of y) (answer_words (words_of x) y r)

change-same : (ws : List ℕ) (y : Shape) (c : Change) → (c.published ≡ true) ⊎ (c ≡ nothing) → differing ws (words_at y (told_places y.tree c)) ≡ change_words ws y c
change-same ws y c (inl is) = sym (if-true c.published (differing ws (words_at y (told_places y.tree c))) [] is)
change-same ws y c (inr is) = subst (λ (k : Change). differing ws (words_at y (told_places y.tree k)) ≡ change_words ws y k) (sym is) refl

accepted-turns : (t u : Configuration) (e : Edit) (c : Change) (cs : List ControllerRow) (bs : List Blocks) (s : Kept) → IsStanding t → IsStanding u → HavePlaces s
    → Gives (may_grow e) (edit_outcome t e) t (Ok c) u → TurnedFor (shape_of t cs bs s) (shape_of u cs bs (stamps_noted c s)) (Ok c)
accepted-turns t u e c cs bs s st su places is =
    let tells = tells_of t u e c st is in
    let x = shape_of t cs bs s in
    let y = shape_of u cs bs (stamps_noted c s) in
    subst (λ (p : List (ℕ × ℕ)). AreTurned (words_of x) (words_of y) p)
    (change-same (words_of x) y c (⊎_elim (λ p. inl p.0) (λ p. inr p.1) tells.published))
    (edits_turn t u e c cs bs s st su places is)

refused-turns : (t u : Configuration) (r : Refused) (cs : List ControllerRow) (bs : List Blocks) (s : Kept) → u ≡ t → TurnedFor (shape_of t cs bs s) (shape_of u cs bs s) (Err r)
refused-turns t u r cs bs s is =
    subst (λ (v : Configuration). TurnedFor (shape_of t cs bs s) (shape_of v cs bs s) (Err r)) (sym is) (nothing-turns (shape_of t cs bs s) t)

answer-turns : (t u : Configuration) (e : Edit) (cs : List ControllerRow) (bs : List Blocks) (s : Kept) (r : Result Change Refused) → IsStanding t → IsStanding u → HavePlaces s
    → Gives (may_grow e) (edit_outcome t e) t r u → TurnedFor (shape_of t cs bs s) (shape_of u cs bs (noted_by r s)) r
answer-turns t u e cs bs s (Ok c) st su places is = accepted-turns t u e c cs bs s st su places is
answer-turns t u e cs bs s (Err (refused.Errno errno)) st su places is = refused-turns t u (refused.Errno errno) cs bs s is.1
answer-turns t u e cs bs s (Err refused.Memory) st su places is = refused-turns t u refused.Memory cs bs s is.0

-- all of an edit
pub edit-turns : (t u : Configuration) (e : Edit) (cs : List ControllerRow) (bs : List Blocks) (s now : Kept) (r : Result Change Refused) (ws : List ℕ) (new : List (ℕ × ℕ)) → IsStanding t → IsStanding u
    → HavePlaces s → Gives (may_grow e) (edit_outcome t e) t r u → now ≡ noted_by r s → ws ≡ words_of (shape_of t cs bs s) → new ≡ answer_words ws (shape_of u cs bs now) r
    → AreTurned (words_of (shape_of t cs bs s)) (words_of (shape_of u cs bs now)) new
edit-turns t u e cs bs s now r ws new st su places is noted rows put =
    let x = shape_of t cs bs s in
    let words : new ≡ answer_words (words_of x) (shape_of u cs bs (noted_by r s)) r =
    put ∙ (λ i. answer_words (rows i) (shape_of u cs bs (noted i)) r) in
    subst (λ (k : Kept). AreTurned (words_of x) (words_of (shape_of u cs bs k)) new) (sym noted)
    (subst (λ (p : List (ℕ × ℕ)). AreTurned (words_of x) (words_of (shape_of u cs bs (noted_by r s))) p) (sym words)
    (answer-turns t u e cs bs s r st su places is))
