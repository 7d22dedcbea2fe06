-- The words of a list of places are those that are turned, once what rows have is left out.
use Rattle.std.proofs.Common.{◌≡◌, ◌⊎◌, ◌<◌, ℕ, zero, suc, ◌==◌, true, List, [], ◌∷◌, ◌++◌, slice_index, Some, None, refl, sym, ap, subst, ◌∙◌, inl, inr}
use mathlib.Core.Logic.{⊎_elim}
use Rattle.std.proofs.lemmas.Bool.{cases_Bool, eqb-true, both_ways, eq-eqb}
use Rattle.std.specs.List.{slice_get, Contains}
use Rattle.ns_table.specs.declared.layout.TheConstants.{WORDS}
use Rattle.edit_words.specs.Differing.{differing, AreBelow}
use Rattle.ns_table.specs.Patches.{words_at, placed_word}
use Rattle.ns_table.specs.Positions.{Place, IsWithin, IsPlaced, at, place_at}
use Rattle.ns_table.specs.Words.{Shape, word_for, words_of}
use Rattle.ns_table.proofs.Places.{below, distinct, used}
use Rattle.ns_table.proofs.Placed.{placed}
use Rattle.edit_words.specs.Exact.{IsTurned, IsAmong, AreTurned}
use Rattle.edit_words.proofs.Lists.{got, kept, came, IsOnce, once}

none-some : {X : Type 0} (x : X) → None ≡ Some x → ⊥
none-some x e = cc

some-same : {X : Type 0} (x y : X) → Some x ≡ Some y → x ≡ y
some-same x y e = cc

-- ---- places within the table
abbrev pub AllWithin : List Place → Type 0
AllWithin [] = Unit {0}
AllWithin (p ∷ ps) = IsWithin p × AllWithin ps

pub within-at : (ps : List Place) (k : ℕ) (p : Place) → AllWithin ps → slice_get ps k ≡ Some p → IsWithin p
within-at [] k p h e = absurd (none-some p e)
within-at (q ∷ ps) zero p h e = subst IsWithin (some-same q p e) h.0
within-at (q ∷ ps) (suc k) p h e = within-at ps k p h.1 e

pub within-both : (ps qs : List Place) → AllWithin ps → AllWithin qs → AllWithin (ps ++ qs)
within-both [] qs h k = k
within-both (p ∷ ps) qs h k = (h.0, within-both ps qs h.1 k)

-- ---- the words of places
pub record IsOf (y : Shape) (ps : List Place) (k : ℕ) (x : ℕ × ℕ) : Type 0 where
  pub p : Place
  pub is : slice_get ps k ≡ Some p
  pub word : placed_word y p ≡ x

pub of-place : (y : Shape) (ps : List Place) (k : ℕ) (x : ℕ × ℕ) → slice_get (words_at y ps) k ≡ Some x → IsOf y ps k x
of-place y [] k x e = absurd (none-some x e)
of-place y (p ∷ ps) zero x e = record { p = p; is = refl; word = some-same (placed_word y p) x e }
of-place y (p ∷ ps) (suc k) x e =
    let w = of-place y ps k x e in
    record { p = w.p; is = w.is; word = w.word }

pub place-of : (y : Shape) (ps : List Place) (k : ℕ) (p : Place) → slice_get ps k ≡ Some p → slice_get (words_at y ps) k ≡ Some (placed_word y p)
place-of y [] k p e = absurd (none-some p e)
place-of y (q ∷ ps) zero p e = ap (λ (r : Place). Some (placed_word y r)) (some-same q p e)
place-of y (q ∷ ps) (suc k) p e = place-of y ps k p e

pub below-words : (y : Shape) (ps : List Place) → AllWithin ps → AreBelow (words_at y ps)
below-words y [] h = tt
below-words y (p ∷ ps) h = (below p h.0, below-words y ps h.1)

-- ---- the word at a position
word-at : (x : Shape) (w : ℕ) → IsPlaced w → slice_index (words_of x) w ≡ word_for x (place_at w)
word-at x w h = ap (slice_index (words_of x)) (sym h.there) ∙ (placed x).each (place_at w) h.within

-- each place once
abbrev pub PlacesOnce : List Place → Type 0
PlacesOnce ps = (i j : ℕ) (p : Place) → slice_get ps i ≡ Some p → slice_get ps j ≡ Some p → i ≡ j

once-words : (y : Shape) (ps : List Place) → AllWithin ps → PlacesOnce ps → IsOnce (words_at y ps)
once-words y ps h o i j a b e f same =
    let p = of-place y ps i a e in
    let q = of-place y ps j b f in
    let ats : at p.p ≡ at q.p = ap (λ (z : ℕ × ℕ). z.0) p.word ∙ (same ∙ ap (λ (z : ℕ × ℕ). z.0) (sym q.word)) in
    let is : p.p ≡ q.p = distinct p.p q.p (within-at ps i p.p h p.is) (within-at ps j q.p h q.is) ats in
    o i j q.p (p.is ∙ ap (λ (r : Place). Some r) is) q.is

-- ---- all together
module _ (x y : Shape) (ps : List Place) (h : AllWithin ps) (o : PlacesOnce ps)
    (told : (p : Place) → IsWithin p → (word_for y p ≡ word_for x p) ⊎ Contains ps p) where
  abbrev ws : List ℕ
  ws = words_of x

  abbrev patch : List (ℕ × ℕ)
  patch = differing ws (words_at y ps)

  in-it : (w k : ℕ) → IsPlaced w → slice_get ps k ≡ Some (place_at w) → (slice_index (words_of y) w ≡ slice_index ws w) ⊎ IsAmong patch w (slice_index (words_of y) w)
  in-it w k here is =
      let pair : placed_word y (place_at w) ≡ (w, slice_index (words_of y) w) = λ i. (here.there i, sym (word-at y w here) i) in
      let there : slice_get (words_at y ps) k ≡ Some (w, slice_index (words_of y) w) = place-of y ps k (place_at w) is ∙ ap (λ (z : ℕ × ℕ). Some z) pair in
      ⊎_elim
      (λ (e : (slice_index ws w == slice_index (words_of y) w) ≡ true). inl (sym (eqb-true (slice_index ws w) (slice_index (words_of y) w) e)))
      (λ e. let a = kept ws (words_at y ps) k (w, slice_index (words_of y) w) there e in inr (record { place = a.k; is = a.is }))
      (cases_Bool (slice_index ws w == slice_index (words_of y) w))

  whole-at : (w : ℕ) → w < WORDS → (slice_index (words_of y) w ≡ slice_index ws w) ⊎ IsAmong patch w (slice_index (words_of y) w)
  whole-at w small =
      let here = used w small in
      ⊎_elim
      (λ same. inl (word-at y w here ∙ (same ∙ sym (word-at x w here))))
      (λ (c : Contains ps (place_at w)). in-it w c.0 here (got ps c.0 (place_at w) c.1 c.2))
      (told (place_at w) here.within)

  exact-at : (i w v : ℕ) → slice_get patch i ≡ Some (w, v) → IsTurned ws (words_of y) w v
  exact-at i w v e =
      let c = came ws (words_at y ps) i (w, v) e in
      let p = of-place y ps c.k (w, v) c.is in
      let inside = within-at ps c.k p.p h p.is in
      let here : at p.p ≡ w = ap (λ (z : ℕ × ℕ). z.0) p.word in
      record {
        below = subst (λ (n : ℕ). n < WORDS) here (below p.p inside);
        new = sym (ap (λ (z : ℕ × ℕ). z.1) p.word) ∙ (sym ((placed y).each p.p inside) ∙ ap (slice_index (words_of y)) here);
        differs = λ same. both_ways (slice_index ws w == v) c.off (eq-eqb (slice_index ws w) v same);
      }

  pub turned : AreTurned ws (words_of y) patch
  turned = record {
    whole = whole-at;
    exact = exact-at;
    once = λ i j w v u e f. once ws (words_at y ps) (once-words y ps h o) i j (w, v) (w, u) e f refl;
  }
